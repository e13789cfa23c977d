-- What a source has left and what a sink has taken: a list of bytes where it is told, else `None`.
use Rattle.std.specs.Prelude.{ℕ, ◌≡◌, ◌≤◌, ◌<◌, ◌↔◌, Option, Some, None, List, [], ◌++◌, length}
use Rattle.std.specs.Prelude.{take, drop}

-- one read of n bytes into the front of `out`: those are the first n bytes that were left, the rest
-- is left after it, and n is 0 exactly where nothing was left
pub record GaveBytes (n : ℕ) (out bytes : List ℕ) (after : Option (List ℕ)) : Type 0 where
  pub enough : n ≤ length bytes
  pub front : take n out ≡ take n bytes
  pub rest : after ≡ Some (drop n bytes)
  pub end : (n ≡ 0) ↔ (bytes ≡ [])

-- that read, where what is left is told; what isn't told stays untold
abbrev pub ReadMoves : ℕ → List ℕ → Option (List ℕ) → Option (List ℕ) → Type 0
ReadMoves n out None after = after ≡ None
ReadMoves n out (Some bytes) after = GaveBytes n out bytes after

-- `given` was read so far: it is the front of what was left before, and the rest is left
abbrev pub GaveFront : List ℕ → Option (List ℕ) → Option (List ℕ) → Type 0
GaveFront given None after = after ≡ None
GaveFront given (Some bytes) after = (rest : List ℕ) × (bytes ≡ given ++ rest) × (after ≡ Some rest)

-- `given` is all that was left, and nothing is left
abbrev pub GaveAll : List ℕ → Option (List ℕ) → Option (List ℕ) → Type 0
GaveAll given None after = after ≡ None
GaveAll given (Some bytes) after = (given ≡ bytes) × (after ≡ Some [])

-- more than `limit` bytes were left, where that is told
abbrev pub HasMore : ℕ → Option (List ℕ) → Type 0
HasMore limit None = Unit {0}
HasMore limit (Some bytes) = limit < length bytes

-- `bytes` was appended; what isn't told stays untold
abbrev pub Appends : List ℕ → Option (List ℕ) → Option (List ℕ) → Type 0
Appends bytes None after = after ≡ None
Appends bytes (Some taken) after = after ≡ Some (taken ++ bytes)

-- a front of `bytes` that isn't the whole was appended
abbrev pub AppendsPart : List ℕ → Option (List ℕ) → Option (List ℕ) → Type 0
AppendsPart bytes before after = (n : ℕ) × (n < length bytes) × Appends (take n bytes) before after

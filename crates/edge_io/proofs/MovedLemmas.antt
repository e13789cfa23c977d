-- Pieces that were moved one after the other, as one.
use Rattle.std.proofs.Common.{ℕ, ◌≡◌, ◌≤◌, ◌+◌, ◌-◌, Option, Some, None, List, ◌++◌, length, take, drop, sym, ◌∙◌, ap, arith, append_assoc}
use Rattle.std.proofs.Math.Seq.{take-add}
use Rattle.std.proofs.lemmas.List.{drop-drop, take-append-drop}
use Rattle.edge_io.specs.Moved.{Appends, GaveFront, GaveBytes, ReadMoves}
use Rattle.edge_io.proofs.MovedLaws.{Appends-append}

-- the place at which what is left after n more bytes begins
pub later-rest : (bytes rest after : List ℕ) (n : ℕ) → length rest ≤ length bytes → length after + n ≡ length rest
    → length bytes - length after ≡ (length bytes - length rest) + n
later-rest bytes rest after n h e = omega arith

-- the front grows by the first n bytes of the rest
pub Appends-more : (bytes rest after : List ℕ) (n : ℕ) (before mid now : Option (List ℕ))
    → length rest ≤ length bytes → length after + n ≡ length rest
    → rest ≡ drop (length bytes - length rest) bytes
    → Appends (take (length bytes - length rest) bytes) before mid
    → Appends (take n rest) mid now
    → Appends (take (length bytes - length after) bytes) before now
Appends-more bytes rest after n before mid now h e r p q =
    let joined = Appends-append (take (length bytes - length rest) bytes) (take n rest) before mid now p q in
    rw (later-rest bytes rest after n h e, take-add (length bytes - length rest) n bytes, ← r) joined

-- what is left after n more bytes is the end of all bytes
pub rest-more : (bytes rest after : List ℕ) (n : ℕ)
    → length rest ≤ length bytes → length after + n ≡ length rest
    → rest ≡ drop (length bytes - length rest) bytes → after ≡ drop n rest
    → after ≡ drop (length bytes - length after) bytes
rest-more bytes rest after n h e r a =
    a ∙ ap (λ (xs : List ℕ). drop n xs) r ∙ drop-drop n (length bytes - length rest) bytes
    ∙ ap (λ (k : ℕ). drop k bytes) (sym (later-rest bytes rest after n h e))

-- one more read: what was read so far grows by the piece
pub GaveFront-more : (given piece : List ℕ) (n : ℕ) (before mid after : Option (List ℕ)) →
    GaveFront given before mid → ReadMoves n piece mid after → GaveFront (given ++ take n piece) before after
GaveFront-more given piece n None mid after p q = rw p at q
GaveFront-more given piece n (Some bytes) mid after p q =
    let read : GaveBytes n piece p.0 after = rw p.2 at q in
    let split : p.0 ≡ take n piece ++ drop n p.0 = sym (take-append-drop n p.0)
    ∙ ap (λ (xs : List ℕ). xs ++ drop n p.0) (sym read.front) in (
      drop n p.0,
      p.1 ∙ ap (λ (xs : List ℕ). given ++ xs) split ∙ sym (append_assoc given (take n piece) (drop n p.0)),
      read.rest,
    )

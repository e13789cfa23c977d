-- The four changes of a string of bytes, and a part of one. Whether they fit is said where they
-- are used.
use Rattle.std.specs.Prelude.{ℕ, ◌+◌, List, ◌++◌, length, take, drop}

-- the n bytes from `at` on
abbrev pub part : List ℕ → ℕ → ℕ → List ℕ
part x at n = take n (drop at x)

-- p put before the byte at `at`
abbrev pub inserted : List ℕ → ℕ → List ℕ → List ℕ
inserted x at p = take at x ++ p ++ drop at x

-- without the n bytes at `at`
abbrev pub deleted : List ℕ → ℕ → ℕ → List ℕ
deleted x at n = take at x ++ drop (at + n) x

-- the bytes at `at` exchanged for p
abbrev pub replaced : List ℕ → ℕ → List ℕ → List ℕ
replaced x at p = take at x ++ p ++ drop (at + length p) x

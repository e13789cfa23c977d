-- Numbers in bytes: what `byteorder` reads is the number that std names, and its bytes are those read.
use Rattle.std.proofs.Common.{◌≡◌, ℕ, zero, suc, ◌+◌, ◌^◌, ◌<◌, ◌≤◌, List, [], ◌∷◌, ◌++◌, length, take, drop}
use Rattle.std.proofs.Common.{get_or, refl, sym, ◌∙◌, zero-add, lit<, arith}
use Rattle.std.specs.Int.{w16, w32, w64, to_be_bytes, from_be_bytes}
use Rattle.std.proofs.lemmas.Nat.{be_bytes_2, be_bytes_4, be_bytes_8}
use Rattle.std.proofs.lemmas.List.{get_or-drop, length-take}
use Rattle.std.proofs.Math.Seq.{take-nil}
use Rattle.byteorder.specs.Endian.{big_from}
use Rattle.byteorder.specs.Numbers.{big_from-take, big_from-lt}

-- each item is a byte
abbrev pub AreBytes : List ℕ → Type 0
AreBytes xs = (i : ℕ) → get_or xs i 0 < 256

pub big2 : (xs : List ℕ) → big_from 0 2 xs ≡ from_be_bytes w16 xs
big2 xs = omega arith

pub big4 : (xs : List ℕ) → big_from 0 4 xs ≡ from_be_bytes w32 xs
big4 xs = omega arith

pub big8 : (xs : List ℕ) → big_from 0 8 xs ≡ from_be_bytes w64 xs
big8 xs = omega arith

-- a number of so many bytes fits them
pub fits2 : (xs : List ℕ) → AreBytes xs → from_be_bytes w16 xs < 2 ^ 16
fits2 xs h = let top = big_from-lt 0 2 xs h in let e = big2 xs in omega arith

pub fits4 : (xs : List ℕ) → AreBytes xs → from_be_bytes w32 xs < 2 ^ 32
fits4 xs h = let top = big_from-lt 0 4 xs h in let e = big4 xs in omega arith

pub fits8 : (xs : List ℕ) → AreBytes xs → from_be_bytes w64 xs < 2 ^ 64
fits8 xs h = let top = big_from-lt 0 8 xs h in let e = big8 xs in omega arith

-- the first bytes are bytes, and so are the rest
pub AreBytes-take : (n : ℕ) (xs : List ℕ) → AreBytes xs → AreBytes (take n xs)
AreBytes-take zero xs h i = lit< tt
AreBytes-take (suc n) [] h i = lit< tt
AreBytes-take (suc n) (x ∷ xs) h zero = h 0
AreBytes-take (suc n) (x ∷ xs) h (suc i) = AreBytes-take n xs (λ k. h (suc k)) i

pub AreBytes-drop : (n : ℕ) (xs : List ℕ) → AreBytes xs → AreBytes (drop n xs)
AreBytes-drop n xs h i = rw (get_or-drop n xs i 0) (h (n + i))

-- the bytes of the number in the first bytes are those bytes
pub bytes2 : (xs : List ℕ) → 2 ≤ length xs → AreBytes xs → to_be_bytes w16 (from_be_bytes w16 xs) ≡ take 2 xs
bytes2 xs long h =
    let same = sym (big2 xs) ∙ sym (big_from-take 0 2 2 xs (omega arith)) ∙ big2 (take 2 xs) in
    be_bytes_2 (take 2 xs) (from_be_bytes w16 xs) (omega (arith, length-take 2 xs)) (AreBytes-take 2 xs h) same

pub bytes4 : (xs : List ℕ) → 4 ≤ length xs → AreBytes xs → to_be_bytes w32 (from_be_bytes w32 xs) ≡ take 4 xs
bytes4 xs long h =
    let same = sym (big4 xs) ∙ sym (big_from-take 0 4 4 xs (omega arith)) ∙ big4 (take 4 xs) in
    be_bytes_4 (take 4 xs) (from_be_bytes w32 xs) (omega (arith, length-take 4 xs)) (AreBytes-take 4 xs h) same

pub bytes8 : (xs : List ℕ) → 8 ≤ length xs → AreBytes xs → to_be_bytes w64 (from_be_bytes w64 xs) ≡ take 8 xs
bytes8 xs long h =
    let same = sym (big8 xs) ∙ sym (big_from-take 0 8 8 xs (omega arith)) ∙ big8 (take 8 xs) in
    be_bytes_8 (take 8 xs) (from_be_bytes w64 xs) (omega (arith, length-take 8 xs)) (AreBytes-take 8 xs h) same

-- the first m + n items, in two parts
pub take-sum : {X : Type 0} (m n : ℕ) (xs : List X) → take (m + n) xs ≡ take m xs ++ take n (drop m xs)
take-sum zero n xs = rw (zero-add n) refl
take-sum {X = X} (suc m) n [] = let e : suc m + n ≡ suc (m + n) = omega arith in let f = take-nil {A = X} n in rw e (sym f)
take-sum (suc m) n (x ∷ xs) =
    let e : suc m + n ≡ suc (m + n) = omega arith in
    let rest = take-sum m n xs in
    rw (e, rest) refl

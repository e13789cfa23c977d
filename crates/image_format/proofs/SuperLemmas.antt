-- The checks of a superblock, one by one, and page 0 as it is written.
use Rattle.std.proofs.Common.{◌≡◌, ℕ, ◌+◌, ◌-◌, Bool, true, false, ◌&&◌, List, ◌++◌, length, take, drop, replicate}
use Rattle.std.proofs.Common.{inl, inr, refl, sym, ap, ◌∙◌, arith}
use Rattle.std.specs.Prelude.{nat_eq, slice_index}
use Rattle.std.specs.Int.{w16, w32, from_be_bytes}
use Rattle.std.specs.Str.{bytes_eq}
use Rattle.std.proofs.lemmas.Bool.{ne_eqb}
use Rattle.std.proofs.lemmas.List.{take-append-drop, replicate-append-replicate}
use Rattle.std.proofs.lemmas.Slice.Eq.{bytes_eq-Decides}
use Rattle.geometry_model.specs.Numbers.{Numbers, IsInRange, is_in_range}
use Rattle.geometry_model.proofs.NumberLaws.{IsInRange-from_test, is_in_range-true, page_size-low}
use Rattle.image_model.specs.Super.{IsSuper, has_mark, has_numbers, is_version, numbers_in, super_bytes, version_in}
use Rattle.image_laws.proofs.GoLemmas.{image-numbers, image-version}
use Rattle.image_laws.proofs.CheckLemmas.{test-cases}

abbrev rest_test : List ℕ → Bool
rest_test bytes = nat_eq (slice_index bytes 17) 0 && bytes_eq (take 232 (drop 24 bytes)) (replicate 232 0)

-- a superblock passes its three checks
pub mark-of-super : (bytes : List ℕ) (version : ℕ) (n : Numbers) → IsSuper bytes version n → has_mark bytes ≡ true
unfolding super_bytes
mark-of-super bytes version n super =
    ap has_mark (sym (take-append-drop 256 bytes) ∙ ap (λ (front : List ℕ). front ++ drop 256 bytes) super.begins)

pub version-of-super : (bytes : List ℕ) (version : ℕ) (n : Numbers) → IsSuper bytes version n → is_version (version_in bytes) ≡ true
version-of-super bytes version n super = ap is_version (image-version bytes version n super) ∙ super.known

pub numbers-of-super : (bytes : List ℕ) (version : ℕ) (n : Numbers) → IsSuper bytes version n → has_numbers bytes ≡ true
unfolding super_bytes
numbers-of-super bytes version n super =
    let split : bytes ≡ super_bytes version n ++ drop 256 bytes =
    sym (take-append-drop 256 bytes) ∙ ap (λ (front : List ℕ). front ++ drop 256 bytes) super.begins in
    let zeros : rest_test bytes ≡ true = ap rest_test split in
    let range : is_in_range (numbers_in bytes) ≡ true =
    ap is_in_range (image-numbers bytes version n super) ∙ is_in_range-true n super.in_range in
    ap (λ (b : Bool). b && rest_test bytes) range ∙ zeros

-- where the kind is 0 and zeros follow, the numbers alone count
pub numbers-alone : (bytes : List ℕ) → slice_index bytes 17 ≡ 0 → take 232 (drop 24 bytes) ≡ replicate 232 0 →
    has_numbers bytes ≡ is_in_range (numbers_in bytes)
numbers-alone bytes kind zeros =
    let blank : bytes_eq (take 232 (drop 24 bytes)) (replicate 232 0) ≡ true =
    (bytes_eq-Decides (take 232 (drop 24 bytes)) (replicate 232 0)).1 zeros in
    rw (kind, blank) (and-true (is_in_range (numbers_in bytes)))
  where
    and-true : (b : Bool) → (b && true) ≡ b
    and-true true = refl
    and-true false = refl

-- and else they are refused
and-false : (b : Bool) → (b && false) ≡ false
and-false true = refl
and-false false = refl

pub numbers-kind : (bytes : List ℕ) → (slice_index bytes 17 ≡ 0 → ⊥) → has_numbers bytes ≡ false
numbers-kind bytes other =
    let no : nat_eq (slice_index bytes 17) 0 ≡ false = ne_eqb (slice_index bytes 17) 0 other in
    rw no (and-false (is_in_range (numbers_in bytes)))

pub numbers-zeros : (bytes : List ℕ) → (take 232 (drop 24 bytes) ≡ replicate 232 0 → ⊥) → has_numbers bytes ≡ false
numbers-zeros bytes other =
    elim (test-cases (bytes_eq (take 232 (drop 24 bytes)) (replicate 232 0))) [
      | inl holds ↦ absurd (other ((bytes_eq-Decides (take 232 (drop 24 bytes)) (replicate 232 0)).0 holds))
      | inr fails ↦ refused (is_in_range (numbers_in bytes)) (nat_eq (slice_index bytes 17) 0) _ fails
    ]
  where
    refused : (a b c : Bool) → c ≡ false → (a && (b && c)) ≡ false
    refused a true c fails = rw fails (and-false a)
    refused a false c fails = and-false a

-- the numbers as they were read, one after the other
abbrev pub numbers : ℕ → ℕ → ℕ → ℕ → ℕ → Numbers
numbers page order spaces catalog threshold =
    record { page = page; order = order; spaces = spaces; catalog = catalog; threshold = threshold }

pub numbers-read : (bytes : List ℕ) (page order spaces catalog threshold : ℕ) → page ≡ from_be_bytes w32 (drop 12 bytes)
    → order ≡ slice_index bytes 16 → spaces ≡ from_be_bytes w16 (drop 18 bytes) → catalog ≡ from_be_bytes w16 (drop 20 bytes)
    → threshold ≡ from_be_bytes w16 (drop 22 bytes) → numbers page order spaces catalog threshold ≡ numbers_in bytes
unfolding numbers_in
numbers-read bytes page order spaces catalog threshold a b c d e = rw (a, b, c, d, e) refl

pub out-of-range : (n : Numbers) → (IsInRange n → ⊥) → is_in_range n ≡ false
out-of-range n other =
    elim (test-cases (is_in_range n)) [
      | inl holds ↦ absurd (other (IsInRange-from_test n holds))
      | inr fails ↦ fails
    ]

-- a version that is neither 1 nor 2
pub unknown-version : (version : ℕ) → (version ≡ 1 → ⊥) → (version ≡ 2 → ⊥) → is_version version ≡ false
unknown-version version first second = rw (ne_eqb version 1 first, ne_eqb version 2 second) refl

-- there are 24 bytes before the zeros
pub length-head : (n : Numbers) → length (take 24 (super_bytes 2 n)) ≡ 24
unfolding super_bytes
length-head n = refl

-- the page as it is written
pub super-written : (n : Numbers) (old page : List ℕ) → IsInRange n → length old ≡ n.page → take 24 old ≡ take 24 (super_bytes 2 n)
    → page ≡ take 24 old ++ replicate (length old - 24) 0 → page ≡ super_bytes 2 n ++ replicate (n.page - 256) 0
unfolding super_bytes
super-written n old page range size front whole =
    let low = page_size-low n.page range.page_size in
    let behind : length old - 24 ≡ 232 + (n.page - 256) = omega (arith, size, low) in
    whole ∙ ap (λ (k : ℕ). take 24 old ++ replicate k 0) behind
    ∙ ap (λ (xs : List ℕ). xs ++ replicate (232 + (n.page - 256)) 0) front
    ∙ ap (λ (xs : List ℕ). take 24 (super_bytes 2 n) ++ xs) (sym (replicate-append-replicate 232 (n.page - 256) 0))

-- and it begins with a superblock
pub super-begins : (n : Numbers) (page rest : List ℕ) → IsInRange n → page ≡ super_bytes 2 n ++ rest → IsSuper page 2 n
unfolding super_bytes
super-begins n page rest range whole = record { known = refl; in_range = range; begins = ap (take 256) whole }

-- The counts of a space, and a space that is entered and left as it was.
use Rattle.std.proofs.Common.{◌≡◌, ℕ, zero, suc, ◌+◌, ◌<◌, ◌≤◌, Bool, true, false, cond, List, [], ◌∷◌, length, map}
use Rattle.std.proofs.Common.{take, append-nil, Some, None, slice_get}
use Rattle.std.proofs.Common.{refl, ap, sym, ◌∙◌, arith}
use Rattle.std.specs.Prelude.{IsTrue}
use Rattle.std.specs.List.{count_by}
use Rattle.std.proofs.Math.Seq.{take-append_seam}
use Rattle.std.proofs.lemmas.List.Sums.{sum_by-cons}
use Rattle.block_model.specs.Block.{has_page, count_of}
use Rattle.moment_model.specs.Moment.{count_pages}
use Rattle.space_directory.specs.SpaceView.{SpaceView, IsSpace}
use Rattle.superdirectory.specs.Grants.{AreTold}
use Rattle.superdirectory.specs.Rest.{Rest, IsSpaceTold, entering, leaving}
use Rattle.world.proofs.Taking.{set-back}

never-both : (b c : Bool) → (IsTrue b → IsTrue c → ⊥) → cond b 1 0 + cond c 1 0 ≤ 1
never-both true true apart = absurd (apart refl refl)
never-both true false apart = omega arith
never-both false c apart = at_most c
  where
    at_most : (c : Bool) → 0 + cond c 1 0 ≤ 1
    at_most true = omega arith
    at_most false = omega arith

-- two sets of pages that share none
pub apart-within : (f l : List Bool) → length l ≡ length f → ((at : ℕ) → IsTrue (has_page f at) → IsTrue (has_page l at) → ⊥)
    → count_of f + count_of l ≤ length f
apart-within [] [] size apart = let none : 0 + 0 ≤ 0 = omega arith in none
apart-within [] (c ∷ l) size apart = absurd cc
apart-within (b ∷ f) [] size apart = absurd cc
apart-within (b ∷ f) (c ∷ l) size apart =
    let left = sum_by-cons (λ (bit : Bool). cond bit 1 0) b f in
    let right = sum_by-cons (λ (bit : Bool). cond bit 1 0) c l in
    let here = never-both b c (apart 0) in
    let more = apart-within f l (omega (arith, size)) (λ at. apart (suc at)) in
    omega (arith, left, right, here, more)

-- the free and the locked pages of a space are within all of its pages
pub counts-within : (v : SpaceView) (free locked pages : ℕ) → IsSpace v → free ≡ count_of v.free → locked ≡ count_of v.locked
    → pages ≡ length v.free → free + locked ≤ pages
counts-within v free locked pages space is_free is_locked is_pages =
    let both = apart-within v.free v.locked space.locks space.apart in
    omega (arith, both, is_free, is_locked, is_pages)

get-map : {A : Type 0} (xs : List A) (s : ℕ) (x : A) → slice_get xs s ≡ Some x → slice_get (map (λ y. Some y) xs) s ≡ Some (Some x)
get-map [] s x found = absurd cc
get-map (y ∷ xs) zero x found = ap (λ o. Some o) found
get-map (y ∷ xs) (suc s) x found = get-map xs s x found

-- a space that was entered and left as it was
pub told-back : (rest : Rest) (views : List SpaceView) (s : ℕ) (v : SpaceView) → AreTold rest views → slice_get views s ≡ Some v
    → AreTold (leaving (entering rest s) s v) views
told-back rest views s v told found =
    ap (λ spaces. (leaving (entering (record { frame = rest.frame; spaces = spaces; entered = rest.entered }) s) s v).spaces) told
    ∙ ap (λ xs. Some xs) (set-back (map (λ w. Some w) views) s (Some v) None (get-map views s v found))

-- one space more is counted
pub count-more : (sets : List (List Bool)) (s : ℕ) (x : List Bool) → slice_get sets s ≡ Some x
    → count_pages (take (suc s) sets) ≡ count_pages (take s sets) + count_of x
count-more [] s x found = absurd cc
count-more (y ∷ sets) zero x found =
    let same : y ≡ x = cc in
    let one = sum_by-cons (count_by (λ (bit : Bool). bit)) y [] in
    let is : count_of y ≡ count_of x = ap count_of same in
    omega (arith, one, is)
count-more (y ∷ sets) (suc s) x found =
    let more = count-more sets s x found in
    let left = sum_by-cons (count_by (λ (bit : Bool). bit)) y (take (suc s) sets) in
    let right = sum_by-cons (count_by (λ (bit : Bool). bit)) y (take s sets) in
    omega (arith, more, left, right)

pub take-whole : {A : Type 0} (xs : List A) (n : ℕ) → n ≡ length xs → take n xs ≡ xs
take-whole xs n is = ap (λ k. take k xs) is ∙ ap (take (length xs)) (sym (append-nil xs)) ∙ take-append_seam xs []

-- the sets of a told space
pub get-sets : {A B : Type 0} (f : A → B) (xs : List A) (s : ℕ) (x : A) → slice_get xs s ≡ Some x → slice_get (map f xs) s ≡ Some (f x)
get-sets f [] s x found = absurd cc
get-sets f (y ∷ xs) zero x found = let same : y ≡ x = cc in ap (λ z. Some (f z)) same
get-sets f (y ∷ xs) (suc s) x found = get-sets f xs s x found

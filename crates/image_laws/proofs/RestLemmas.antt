-- A moment of objects at rest: each slot has one version twice, and no spare.
use Rattle.std.proofs.Common.{◌≡◌, ℕ, zero, suc, ◌≤◌, Bool, false, true, ◌&&◌, None, List, [], ◌∷◌, map, refl, sym}
use Rattle.std.proofs.Common.{ap, subst, arith, ◌∙◌, nat_eq, nat_lt}
use Rattle.std.specs.Prelude.{slice_index_or, sum_by}
use Rattle.std.specs.List.{AllByRecursion}
use Rattle.std.proofs.lemmas.Bool.Decides.{nat_tests}
use Rattle.std.proofs.lemmas.List.Sums.{sum_by-cons}
use Rattle.geometry_model.specs.Numbers.{Numbers}
use Rattle.moment_model.specs.Version.{Version, IsGood, IsGoodVersion, version_uses, spare_uses}
use Rattle.moment_model.specs.Moment.{ObjectSlot, Moment, absent_slot, object_slot, committed_uses, working_uses}
use Rattle.moment_model.specs.Moment.{all_committed, all_working, is_free, is_locked, IsAtRest, IsKept, IsSound}
use Rattle.moment_laws.proofs.SumLemmas.{two_within}
use Rattle.change_laws.specs.Tail.{IsTail, HaveTails}
use Rattle.tree_pages.specs.Levels.{slot_at_rest}

-- the slots of objects at rest in these versions
abbrev pub at_rest : List Version → Moment
at_rest versions = map slot_at_rest versions

abbrev pub version_of : List Version → ℕ → Version
version_of versions o = slice_index_or versions o None

-- the slot of an object
pub rest-slot : (versions : List Version) (o : ℕ) → object_slot (at_rest versions) o ≡ slot_at_rest (version_of versions o)
rest-slot [] o = refl
rest-slot (v ∷ vs) zero = refl
rest-slot (v ∷ vs) (suc o) = rest-slot vs o

-- the pages that are used, by committed and by working versions
pub rest-committed : (n : Numbers) (page : ℕ) (versions : List Version) →
    all_committed n page (at_rest versions) ≡ sum_by (version_uses n page) versions
rest-committed n page [] = refl
rest-committed n page (v ∷ vs) =
    let left = sum_by-cons (committed_uses n page) (slot_at_rest v) (at_rest vs) in
    let right = sum_by-cons (version_uses n page) v vs in
    omega (arith, left, right, rest-committed n page vs)

pub rest-working : (n : Numbers) (page : ℕ) (versions : List Version) →
    all_working n page (at_rest versions) ≡ sum_by (version_uses n page) versions
rest-working n page [] = refl
rest-working n page (v ∷ vs) =
    let left = sum_by-cons (working_uses n page) (slot_at_rest v) (at_rest vs) in
    let right = sum_by-cons (version_uses n page) v vs in
    omega (arith, left, right, rest-working n page vs)

-- no page is locked
both-ways : (uses : ℕ) → (nat_lt 0 uses && nat_eq uses 0) ≡ false
both-ways uses = grind (arith, nat_tests)

pub rest-locked : (n : Numbers) (page : ℕ) (versions : List Version) → is_locked n page (at_rest versions) ≡ false
rest-locked n page versions =
    let same : all_committed n page (at_rest versions) ≡ all_working n page (at_rest versions) =
    rest-committed n page versions ∙ sym (rest-working n page versions) in
    ap (λ (k : ℕ). nat_lt 0 k && nat_eq (all_working n page (at_rest versions)) 0) same ∙ both-ways (all_working n page (at_rest versions))

-- a page is free where no version uses it
pub rest-free : (n : Numbers) (page uses : ℕ) (versions : List Version) →
    all_committed n page (at_rest versions) ≡ uses → is_free n page (at_rest versions) ≡ nat_eq uses 0
rest-free n page uses versions counted =
    let same : all_working n page (at_rest versions) ≡ uses = rest-working n page versions
    ∙ (sym (rest-committed n page versions) ∙ counted) in
    ap (λ (k : ℕ). nat_eq k 0 && nat_eq (all_working n page (at_rest versions)) 0) counted
    ∙ (ap (λ (k : ℕ). nat_eq uses 0 && nat_eq k 0) same ∙ and-self (nat_eq uses 0))
  where
    and-self : (b : Bool) → (b && b) ≡ b
    and-self true = refl
    and-self false = refl

-- all versions are good
abbrev pub AreGood : Numbers → List Version → Type 0
AreGood n versions = AllByRecursion (IsGoodVersion IsGood n) versions

pub good-version_of : (n : Numbers) (versions : List Version) (o : ℕ) → AreGood n versions → IsGoodVersion IsGood n (version_of versions o)
good-version_of n [] o good = tt
good-version_of n (v ∷ vs) zero good = good.0
good-version_of n (v ∷ vs) (suc o) good = good-version_of n vs o good.1

no-spare : (page : ℕ) (slot : ObjectSlot) (v : Version) → slot ≡ slot_at_rest v → spare_uses page slot.spare ≡ 0
no-spare page slot v same = ap (λ (x : ObjectSlot). spare_uses page x.spare) same

-- good versions that use each page at most once together are a sound moment in which nothing is held
pub rest-sound : (n : Numbers) (versions : List Version) → AreGood n versions → ((page : ℕ) → all_committed n page (at_rest versions) ≤ 1) →
    IsSound IsGood n (λ o. false) (at_rest versions)
rest-sound n versions good once = record {
  kept = λ o. kept o;
  committed_once = once;
  working_once = λ page. let same = rest-working n page versions in let all = rest-committed n page versions in
      let one = once page in omega (arith, same, all, one);
  apart = λ o other page differ used.
      let two = two_within (committed_uses n page) absent_slot refl (at_rest versions) o other differ in
      let one = once page in
      let none : committed_uses n page (object_slot (at_rest versions) other) ≡ 0 = omega (arith, two, one, used) in
      equal-uses page (object_slot (at_rest versions) other) (version_of versions other) (rest-slot versions other) ∙ none;
  spare_apart = λ o page used. let none = no-spare page (object_slot (at_rest versions) o) (version_of versions o)
      (rest-slot versions o) in absurd (omega (arith, used, none));
  rests = λ o free. rests (object_slot (at_rest versions) o) (version_of versions o) (rest-slot versions o);
}
  where
    kept : (o : ℕ) → IsKept IsGood n (object_slot (at_rest versions) o)
    kept o = subst (IsKept IsGood n) (sym (rest-slot versions o))
        (record { committed = good-version_of n versions o good; working = good-version_of n versions o good })

    equal-uses : (page : ℕ) (slot : ObjectSlot) (v : Version) → slot ≡ slot_at_rest v →
        working_uses n page slot ≡ committed_uses n page slot
    equal-uses page slot v same =
        let left = ap (working_uses n page) same in
        let right = ap (committed_uses n page) same in
        omega (arith, left, right)

    rests : (slot : ObjectSlot) (v : Version) → slot ≡ slot_at_rest v → IsAtRest slot
    rests slot v same = subst IsAtRest (sym same) (record { same = refl; no_spare = refl })

-- and there is no spare that a version would have to stand before
pub rest-tails : (n : Numbers) (versions : List Version) → HaveTails n (at_rest versions)
rest-tails n versions o = subst (λ (slot : ObjectSlot). IsTail n slot.working slot.spare)
    (sym (rest-slot versions o)) (none (version_of versions o))
  where
    none : (v : Version) → IsTail n v None
    none v = tt

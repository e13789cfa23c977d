-- The runs of a part, halved where it must be: they have its pages together, and each the threshold's.
use Rattle.std.proofs.Common.{◌≡◌, ℕ, zero, suc, ◌+◌, ◌-◌, ◌*◌, ◌/◌, ◌<◌, ◌≤◌, Bool, true, false, List, [], ◌∷◌}
use Rattle.std.proofs.Common.{◌++◌, refl, sym, ap, subst, arith, ◌∙◌, ◌⊎◌, inl, inr, Option, Some, None, length}
use Rattle.std.proofs.Common.{nat_lt}
use Rattle.std.proofs.lemmas.Bool.{ltb-false}
use Rattle.geometry_model.specs.Numbers.{Numbers}
use Rattle.geometry_model.specs.Pages.{data_page}
use Rattle.layout_model.specs.declared.extent.Extent.{Extent}
use Rattle.layout_model.specs.Grants.{Spaces, Spot, Answer, and_then, run_of, only, halved, spot_in, around, without}
use Rattle.layout_model.specs.Grants.Answer.{Got, Refused}
use Rattle.layout_laws.specs.Halving.{runs_pages, AreLong, AreHalves}

pub option_cases : {A : Type 0} (option : Option A) → (option ≡ None) ⊎ ((value : A) × (option ≡ Some value))
option_cases None = inl refl
option_cases (Some value) = inr (value, refl)

pub answer_cases : {A : Type 0} (answer : Answer A) →
    ((value : A) × (left : Spaces) × (answer ≡ Got value left)) ⊎ ((pages : ℕ) × (answer ≡ Refused pages))
answer_cases (Got value left) = inl (value, left, refl)
answer_cases (Refused pages) = inr (pages, refl)

test_cases : (b : Bool) → (b ≡ true) ⊎ (b ≡ false)
test_cases true = inl refl
test_cases false = inr refl

-- so many pages as one run are granted whole, or refused
pub alone_cases : (n : Numbers) (start pages : ℕ) (spaces : Spaces) →
    ((page : ℕ) × (left : Spaces) × (and_then (run_of n start pages spaces) only ≡ Got (record { page = page; pages = pages } ∷ []) left))
    ⊎ (and_then (run_of n start pages spaces) only ≡ Refused pages)
alone_cases n start pages spaces =
    elim (option_cases (spot_in spaces pages (around start (length spaces)))) [
      | inl none ↦ inr (rw (none, run_of))
      | inr some ↦ inl (data_page n some.0.space some.0.at, without spaces some.0 pages, rw (some.1, run_of))
    ]

pub runs_pages-append : (xs ys : List Extent) → runs_pages (xs ++ ys) ≡ runs_pages xs + runs_pages ys
runs_pages-append [] ys = omega arith
runs_pages-append (x ∷ xs) ys = omega (arith, runs_pages-append xs ys)

AreLong-append : (least : ℕ) (xs ys : List Extent) → AreLong least xs → AreLong least ys → AreLong least (xs ++ ys)
AreLong-append least [] ys long more = more
AreLong-append least (x ∷ xs) ys long more = (long.0, AreLong-append least xs ys long.1 more)

-- two halves together
halves_join : (threshold a b pages : ℕ) (first second : List Extent) → a + b ≡ pages →
    AreHalves threshold a first → AreHalves threshold b second → AreHalves threshold pages (first ++ second)
halves_join threshold a b pages first second adds left right = record {
  together = omega (arith, runs_pages-append first second, left.together, right.together, adds);
  long = AreLong-append threshold first second left.long right.long;
}

-- a refusal is no grant
pub no_grant : {A : Type 0} (pages : ℕ) (value : A) (left : Spaces) → Refused pages ≡ Got value left → ⊥
no_grant pages value left same = cc

pub got_same : {A : Type 0} (x y : A) (left rest : Spaces) → Got x left ≡ Got y rest → x ≡ y
got_same x y left rest same = cc

-- what a cut part gets is what its halves get
pub cut_got : (steps : ℕ) (n : Numbers) (start threshold pages : ℕ) (spaces left : Spaces) (runs : List Extent) →
    and_then (halved steps n start threshold ((pages + 1) / 2) spaces) (λ first rest.
    and_then (halved steps n start threshold (pages / 2) rest) (λ second more. Got (first ++ second) more)) ≡ Got runs left →
    (first : List Extent) × (second : List Extent) × (rest : Spaces) × (more : Spaces)
    × (halved steps n start threshold ((pages + 1) / 2) spaces ≡ Got first rest)
    × (halved steps n start threshold (pages / 2) rest ≡ Got second more)
    × (first ++ second ≡ runs)
cut_got steps n start threshold pages spaces left runs got =
    elim (answer_cases (halved steps n start threshold ((pages + 1) / 2) spaces)) [
      | inr refused ↦ absurd (no_grant refused.0 runs left (rw refused.1 at got))
      | inl one ↦
          let after : and_then (halved steps n start threshold (pages / 2) one.1)
          (λ second more. Got (one.0 ++ second) more) ≡ Got runs left =
          rw one.2 at got in
          elim (answer_cases (halved steps n start threshold (pages / 2) one.1)) [
            | inr refused ↦ absurd (no_grant refused.0 runs left (rw refused.1 at after))
            | inl two ↦
                let whole : Got (one.0 ++ two.0) two.1 ≡ Got runs left = rw two.2 at after in
                (one.0, two.0, one.1, two.1, one.2, two.2, got_same (one.0 ++ two.0) runs two.1 left whole)
          ]
    ]

pub halved-halves : (steps : ℕ) (n : Numbers) (start threshold pages : ℕ) (spaces left : Spaces) (runs : List Extent) →
    threshold ≤ pages → halved steps n start threshold pages spaces ≡ Got runs left → AreHalves threshold pages runs
halved-halves zero n start threshold pages spaces left runs long got = absurd (no_grant pages runs left got)
halved-halves (suc steps) n start threshold pages spaces left runs long got =
    elim (alone_cases n start pages spaces) [
      | inl whole ↦
          let one : Got (record { page = whole.0; pages = pages } ∷ []) whole.1 ≡ Got runs left = rw (whole.2, halved) at got in
          let single : AreHalves threshold pages (record { page = whole.0; pages = pages } ∷ []) =
          record { together = omega arith; long = (long, tt) } in
          subst (AreHalves threshold pages) (got_same (record { page = whole.0; pages = pages } ∷ []) runs whole.1 left one) single
      | inr refused ↦
          elim (test_cases (nat_lt pages (2 * threshold))) [
            | inl small ↦ absurd (no_grant pages runs left (rw (refused, small, halved) at got))
            | inr large ↦
                let enough = ltb-false pages (2 * threshold) large in
                let cut = cut_got steps n start threshold pages spaces left runs (rw (refused, large, halved) at got) in
                let upper = halved-halves steps n start threshold ((pages + 1) / 2) spaces cut.2 cut.0 (omega (arith, enough)) cut.4 in
                let lower = halved-halves steps n start threshold (pages / 2) cut.2 cut.3 cut.1 (omega (arith, enough)) cut.5 in
                subst (AreHalves threshold pages) cut.6
                (halves_join threshold ((pages + 1) / 2) (pages / 2) pages cut.0 cut.1 (omega arith) upper lower)
          ]
    ]

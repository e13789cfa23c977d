-- Marked pages, which stand in spans of their own: their first run, and what is marked without it.
use Rattle.std.proofs.Common.{◌≡◌, ℕ, suc, ◌+◌, ◌-◌, ◌<◌, ◌≤◌, Bool, true, false, not, ◌&&◌, ◌||◌, IsTrue, Some, refl}
use Rattle.std.proofs.Common.{sym, ap, subst, arith, ◌∙◌, inl, inr, ◌⊎◌}
use Rattle.std.proofs.lemmas.Bool.{cases_lt, false≢true}
use Rattle.geometry_model.specs.Numbers.{Numbers}
use Rattle.geometry_model.specs.Pages.{is_data_page}
use Rattle.layout_model.specs.declared.extent.Extent.{Extent}
use Rattle.page_set.specs.Members.{IsFirstRun, IsWithoutRun}
use Rattle.space_directory.proofs.PageLaws.{in_run-inside, in_run-below, in_run-above}
use Rattle.span_store.specs.Held.{Held, begins, has}
use Rattle.page_cache.specs.Kept.{is_on_run}
use Rattle.object_state.specs.Keeps.{AreOnData, IsMarked, in_spare}
use Rattle.give_back.specs.Giving.{IsWholeRun, IsLeft, or_page}
use Rattle.give_back.proofs.LeftLemmas.{left-held, left-stays}
use Rattle.give_back.proofs.LetGoLemmas.{or-none}
use Rattle.moment_laws.specs.Granting.{LiesInSpace}
use Rattle.give_back.proofs.RunLemmas.{data-place, data-run}

-- page 0 is no data page
pub some-page : (n : Numbers) (page : ℕ) → IsTrue (is_data_page n page) → 1 ≤ page
some-page n page is_data =
    let there = data-place n page is_data in omega (arith, there.2.is_page)

border-between : (held : Held) (marked : ℕ → Bool) (page : ℕ) → IsMarked held marked → 1 ≤ page → IsTrue (has held page) →
    (marked page ≡ marked (page - 1) → ⊥) → IsTrue (begins held page)
border-between held marked page is some there differ =
    let same : page ≡ suc (page - 1) = omega (arith, some) in
    subst (λ q. IsTrue (begins held q)) (sym same) (is.borders (page - 1) (subst (λ q. IsTrue (has held q)) same there)
    (λ alike. differ (ap marked same ∙ alike)))

-- the first run of marked pages is one of spans of their own
pub whole-run : (n : Numbers) (held : Held) (marked : ℕ → Bool) (first pages : ℕ) → AreOnData n held → IsMarked held marked →
    IsFirstRun marked first pages → IsWholeRun held first pages
whole-run n held marked first pages on_data is run =
    let here = run.all first (omega arith) (omega (arith, run.some)) in
    let low = some-page n first (on_data first (is.within first here)) in
    record {
      some = run.some;
      holds = λ q from to. is.within q (run.all q from to);
      from = border-between held marked first is low (is.within first here)
          (λ alike. false≢true (sym (run.lowest (first - 1) (omega (arith, low))) ∙ (sym alike ∙ here)));
      to = λ there. border-between held marked (first + pages) is (omega (arith, low)) there
          (λ alike. false≢true (sym run.ends ∙ (alike ∙ run.all (first + pages - 1) (omega (arith, run.some)) (omega (arith, run.some)))));
    }

-- a page is outside of a run, or one of it
outside : (first pages q : ℕ) → is_on_run first pages q ≡ false → (q < first) ⊎ (first + pages ≤ q)
outside first pages q out = elim (cases_lt q first) [
  | inl below ↦ inl below
  | inr from ↦ elim (cases_lt q (first + pages)) [
    | inl to ↦ absurd (false≢true (sym out ∙ in_run-inside first pages q from to))
    | inr past ↦ inr past
  ]
]

-- the marks that are left, once a run of them is taken out and its pages went
pub marked-next : (held held2 : Held) (marked marked2 : ℕ → Bool) (first pages : ℕ) → IsMarked held marked →
    IsFirstRun marked first pages → IsWithoutRun first pages marked marked2 →
    IsLeft (is_on_run first pages) held held2 → IsMarked held2 marked2
marked-next held held2 marked marked2 first pages is run without left = record {
  within = λ q there. left-stays (is_on_run first pages) held held2 q left (apart q there)
      (is.within q (sym (stays q (apart q there)) ∙ there));
  borders = λ q there differ. next-border q there differ (left-held (is_on_run first pages) held held2 (suc q) left there);
} where
  apart : (q : ℕ) → IsTrue (marked2 q) → is_on_run first pages q ≡ false
  apart q there = elim (cases_lt q first) [
    | inl below ↦ in_run-below first pages q below
    | inr from ↦ elim (cases_lt q (first + pages)) [
      | inl to ↦ absurd (false≢true (sym (without.inside q from to) ∙ there))
      | inr past ↦ in_run-above first pages q past
    ]
  ]

  stays : (q : ℕ) → is_on_run first pages q ≡ false → marked2 q ≡ marked q
  stays q out = without.beside q (outside first pages q out)

  behind : (q : ℕ) → first ≤ q → q < first + pages → is_on_run first pages (suc q) ≡ false → marked (suc q) ≡ true → ⊥
  behind q from to out there = elim (outside first pages (suc q) out) [
    | inl below ↦ absurd (omega (arith, below, from))
    | inr past ↦
        let same : suc q ≡ first + pages = omega (arith, past, to) in
        false≢true (sym (ap marked same ∙ run.ends) ∙ there)
  ]

  next-border : (q : ℕ) → IsTrue (has held2 (suc q)) → (marked2 (suc q) ≡ marked2 q → ⊥) →
      IsTrue (has held (suc q)) × (is_on_run first pages (suc q) ≡ false) → IsTrue (begins held2 (suc q))
  next-border q there differ was =
      left.begun (suc q) was.1 ∙ is.borders q was.0 (λ alike. differ (stays (suc q) was.1 ∙ (alike ∙ elim (cases_lt q first) [
        | inl below ↦ sym (stays q (in_run-below first pages q below))
        | inr from ↦ elim (cases_lt q (first + pages)) [
          | inl to ↦ absurd (behind q from to was.1 (alike ∙ run.all q from to))
          | inr past ↦ sym (stays q (in_run-above first pages q past))
        ]
      ])))

-- ---- the marks that went

-- was the page marked, and is it no more?
abbrev pub gone_from : (ℕ → Bool) → (ℕ → Bool) → ℕ → Bool
gone_from was now page = was page && not (now page)

pub gone-none : (was : ℕ → Bool) (page : ℕ) → gone_from was was page ≡ false
gone-none was page = go (was page)
  where
    go : (b : Bool) → (b && not b) ≡ false
    go true = refl
    go false = refl

pub gone-all : (was now : ℕ → Bool) → ((page : ℕ) → now page ≡ false) → (page : ℕ) → was page ≡ gone_from was now page
gone-all was now none page = sym (ap (λ b. was page && not b) (none page) ∙ go (was page))
  where
    go : (b : Bool) → (b && true) ≡ b
    go true = refl
    go false = refl

-- a run more
pub gone-more : (was now next : ℕ → Bool) (first pages : ℕ) → ((page : ℕ) → IsTrue (now page) → IsTrue (was page)) →
    IsFirstRun now first pages → IsWithoutRun first pages now next → (page : ℕ) →
    gone_from was next page ≡ or_page (gone_from was now) (is_on_run first pages) page
gone-more was now next first pages kept run without page = elim (cases_lt page first) [
  | inl below ↦ beside (without.beside page (inl below)) (in_run-below first pages page below)
  | inr from ↦ elim (cases_lt page (first + pages)) [
    | inl to ↦ inside (run.all page from to) (without.inside page from to) (in_run-inside first pages page from to)
    | inr past ↦ beside (without.beside page (inr past)) (in_run-above first pages page past)
  ]
] where
  beside : next page ≡ now page → is_on_run first pages page ≡ false →
      gone_from was next page ≡ or_page (gone_from was now) (is_on_run first pages) page
  beside same out = ap (λ b. was page && not b) same
      ∙ sym (ap (λ b. gone_from was now page || b) out ∙ or-none (gone_from was now page))

  or-some : (b : Bool) → (b || true) ≡ true
  or-some true = refl
  or-some false = refl

  inside : IsTrue (now page) → next page ≡ false → is_on_run first pages page ≡ true →
      gone_from was next page ≡ or_page (gone_from was now) (is_on_run first pages) page
  inside there out on = ap (λ b. b && not (next page)) (kept page there) ∙ (ap not out
      ∙ sym (ap (λ b. gone_from was now page || b) on ∙ or-some (gone_from was now page)))

-- what is marked and isn't gone was marked from the first
pub kept-marks : (was now next : ℕ → Bool) (first pages : ℕ) → ((page : ℕ) → IsTrue (now page) → IsTrue (was page)) →
    IsWithoutRun first pages now next → (page : ℕ) → IsTrue (next page) → IsTrue (was page)
kept-marks was now next first pages kept without page there = elim (cases_lt page first) [
  | inl below ↦ kept page (sym (without.beside page (inl below)) ∙ there)
  | inr from ↦ elim (cases_lt page (first + pages)) [
    | inl to ↦ absurd (false≢true (sym (without.inside page from to) ∙ there))
    | inr past ↦ kept page (sym (without.beside page (inr past)) ∙ there)
  ]
]

-- ---- the spare pages

pub spare-run : (run : Extent) → 1 ≤ run.pages → IsFirstRun (in_spare (Some run)) run.page run.pages
spare-run run some = record {
  some = some;
  all = λ q from to. in_run-inside run.page run.pages q from to;
  lowest = λ q below. in_run-below run.page run.pages q below;
  ends = in_run-above run.page run.pages (run.page + run.pages) (omega arith);
}

-- a run of held data pages lies in one space
pub whole-lies : (n : Numbers) (held : Held) (run : Extent) → AreOnData n held → IsWholeRun held run.page run.pages → LiesInSpace n run
whole-lies n held run on_data whole =
    let here = data-place n run.page (on_data run.page (whole.holds run.page (omega arith) (omega (arith, whole.some)))) in
    (here.0, data-run n run.page run.pages here.0 here.1 here.2 whole.some (λ q from to. on_data q (whole.holds q from to)))

-- Which pages are in runs, and how often.
use Rattle.std.proofs.Common.{◌≡◌, ℕ, ◌+◌, ◌<◌, ◌≤◌, ◌||◌, Bool, true, false, List, ◌∷◌, ◌++◌, nat_lt}
use Rattle.std.proofs.Common.{refl, sym, ap, arith, ◌∙◌, inl, inr}
use Rattle.std.specs.Prelude.{if◌then◌else◌}
use Rattle.std.proofs.lemmas.Bool.{cases_lt, lt-ltb}
use Rattle.layout_model.specs.declared.extent.Extent.{Extent}
use Rattle.moment_model.specs.Version.{covers, uses}
use Rattle.moment_laws.proofs.GrantLemmas.{covers-cases, uses-append, uses-cons}
use Rattle.page_cache.specs.Kept.{is_on_run}
use Rattle.give_back.specs.Giving.{is_in_runs}
use Rattle.base_laws.proofs.NumberLaws.{some-of}

pub covers-few : (q : ℕ) (run : Extent) → covers q run ≤ 1
covers-few q run = elim (covers-cases q run) [ inl one ↦ omega (arith, one.0) | inr none ↦ omega (arith, none.0) ]

-- a page of the run, by the test and by the count
one-test : (b : Bool) → b ≡ nat_lt 0 (if b then 1 else 0)
one-test true = refl
one-test false = refl

pub on-covers : (q : ℕ) (run : Extent) → is_on_run run.page run.pages q ≡ nat_lt 0 (covers q run)
on-covers q run = one-test (is_on_run run.page run.pages q)

pub covers-off : (q : ℕ) (run : Extent) → covers q run ≡ 0 → is_on_run run.page run.pages q ≡ false
covers-off q run none = on-covers q run ∙ ap (nat_lt 0) none

-- where a page is in none of the runs, and in one of them
pub in-none : (q : ℕ) (runs : List Extent) → uses q runs ≡ 0 → is_in_runs runs q ≡ false
in-none q runs none = ap (nat_lt 0) none

pub none-in : (q : ℕ) (runs : List Extent) → is_in_runs runs q ≡ false → uses q runs ≡ 0
none-in q runs none = elim (cases_lt 0 (uses q runs)) [
  | inl some ↦ (let there : is_in_runs runs q ≡ true = lt-ltb 0 (uses q runs) some in cc)
  | inr few ↦ omega (arith, few)
]

pub in-some : (q : ℕ) (runs : List Extent) → 0 < uses q runs → is_in_runs runs q ≡ true
in-some q runs some = lt-ltb 0 (uses q runs) some

pub in-cons : (q : ℕ) (run : Extent) (runs : List Extent) →
    is_in_runs (run ∷ runs) q ≡ (is_on_run run.page run.pages q || is_in_runs runs q)
in-cons q run runs =
    ap (nat_lt 0) (uses-cons q run runs)
    ∙ (some-of (covers q run) (uses q runs) ∙ ap (λ (b : Bool). b || is_in_runs runs q) (sym (on-covers q run)))

pub in-append : (q : ℕ) (xs ys : List Extent) → is_in_runs (xs ++ ys) q ≡ (is_in_runs xs q || is_in_runs ys q)
in-append q xs ys = ap (nat_lt 0) (uses-append q xs ys) ∙ some-of (uses q xs) (uses q ys)

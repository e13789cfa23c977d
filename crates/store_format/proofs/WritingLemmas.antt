-- Directories written one after the other, and then the front pages.
use Rattle.std.proofs.Common.{◌≡◌, ◌≢◌, ℕ, zero, suc, ◌+◌, ◌-◌, ◌*◌, ◌/◌, ◌<◌, ◌≤◌, Bool, true, false, IsTrue, List, [], length}
use Rattle.std.proofs.Common.{take, drop, refl, sym, ap, subst, ◌∙◌, arith, ◌⊎◌, inl, inr, mul-le-mul_right}
use Rattle.std.proofs.Math.Nat.{mul-div_cancel}
use Rattle.std.proofs.lemmas.Bool.{cases_eq, cases_lt}
use Rattle.geometry_model.specs.Numbers.{Numbers, pages, space_pages}
use Rattle.geometry_model.specs.Pages.{directory_page}
use Rattle.geometry_model.proofs.PageLaws.{directory_page-below}
use Rattle.tree_model.specs.Tree.{Pages}
use Rattle.image_model.specs.Super.{image_page}
use Rattle.fault_count.specs.Counts.{Meter, IsUsed}
use Rattle.page_port.specs.Pages.{IsSized}
use Rattle.store_format.specs.Rows.{KeepsShape, KeepsPagesBut}
use Rattle.store_format.specs.Writing.{front_count, IsNoDirectory, AreDirectories, IsStoreWritten, IsCutShort}

-- directories rise with their spaces, and lie behind the front pages
pub directories-rise : (n : Numbers) (s t : ℕ) → s < t → directory_page n s < directory_page n t
directories-rise n s t less =
    let rows : (s + 1) * (1 + space_pages n) ≤ t * (1 + space_pages n) = mul-le-mul_right (1 + space_pages n) (omega arith) in
    omega (arith, rows)

pub directories-differ : (n : Numbers) (s t : ℕ) → s < t → directory_page n s ≢ directory_page n t
directories-differ n s t less same = let rise = directories-rise n s t less in omega (arith, rise, same)

-- nothing is written yet
pub none-written : (n : Numbers) (directories : ℕ → List ℕ) (old : Pages) → AreDirectories n directories 0 old old
none-written n directories old = record {
  stand = λ s below. absurd (omega (arith, below));
  others = λ page none. refl;
}

-- pages but the directory of space s hold what they held
other-page : (n : Numbers) (s page : ℕ) (old now : Pages) → KeepsPagesBut (directory_page n s) 1 old now →
    page ≢ directory_page n s → now page ≡ old page
other-page n s page old now kept other =
    elim (cases_lt page (directory_page n s)) [
      | inl below ↦ kept.before page below
      | inr above ↦ kept.behind page (omega (arith, above, other))
    ]

-- one directory more
pub one-more : (n : Numbers) (directories : ℕ → List ℕ) (s : ℕ) (old between now : Pages) →
    AreDirectories n directories s old between → KeepsPagesBut (directory_page n s) 1 between now →
    now (directory_page n s) ≡ directories s → AreDirectories n directories (s + 1) old now
one-more n directories s old between now so_far kept stands = record {
  stand = λ t below. elim (cases_eq t s) [
    | inl same ↦ ap (λ (k : ℕ). now (directory_page n k)) same ∙ (stands ∙ ap directories (sym same))
    | inr other ↦
        let less : t < s = omega (arith, below, other) in
        kept.before (directory_page n t) (directories-rise n t s less) ∙ so_far.stand t less
  ];
  others = λ page none. other-page n s page between now kept (none s (omega arith))
      ∙ so_far.others page (λ t below. none t (omega (arith, below)));
}

-- the directory of space s failed to be written
pub cut-at-directory : (n : Numbers) (directories : ℕ → List ℕ) (s : ℕ) (old between now : Pages) → s < n.spaces →
    AreDirectories n directories s old between → KeepsPagesBut (directory_page n s) 1 between now →
    IsCutShort n directories old now
cut-at-directory n directories s old between now store so_far kept = record {
  done = s;
  within = omega (arith, store);
  stand = λ t below. kept.before (directory_page n t) (directories-rise n t s below) ∙ so_far.stand t below;
  others = λ page inside none front. other-page n s page between now kept (none s (omega arith))
      ∙ so_far.others page (λ t below. none t (omega (arith, below)));
}

-- the front pages failed to be written
pub cut-at-front : (n : Numbers) (directories : ℕ → List ℕ) (old between now : Pages) →
    AreDirectories n directories n.spaces old between → KeepsPagesBut 0 (front_count n) between now →
    IsCutShort n directories old now
cut-at-front n directories old between now all kept = record {
  done = n.spaces;
  within = omega arith;
  stand = λ t below. kept.behind (directory_page n t) (omega arith) ∙ all.stand t below;
  others = λ page inside none front. kept.behind page (omega (arith, front refl))
      ∙ all.others page (λ t below. none t (omega (arith, below)));
}

-- all was written
pub all-written : (n : Numbers) (directories : ℕ → List ℕ) (front : List ℕ) (old between now : Pages) →
    AreDirectories n directories n.spaces old between → KeepsPagesBut 0 (front_count n) between now →
    ((page : ℕ) → page < front_count n → now page ≡ image_page n.page front page) →
    IsStoreWritten n directories front old now
all-written n directories front old between now all kept stands = record {
  directories = λ t below. kept.behind (directory_page n t) (omega arith) ∙ all.stand t below;
  front = stands;
  others = λ page inside behind none. kept.behind page (omega (arith, behind)) ∙ all.others page none;
}

-- ---- the same of pages that are alike

pub written-alike : (n : Numbers) (directories : ℕ → List ℕ) (front : List ℕ) (old old2 now now2 : Pages) →
    ((page : ℕ) → page < pages n → old2 page ≡ old page) → ((page : ℕ) → page < pages n → now2 page ≡ now page) →
    IsStoreWritten n directories front old now → IsStoreWritten n directories front old2 now2
written-alike n directories front old old2 now now2 before after written = record {
  directories = λ s store. after (directory_page n s) (directory_page-below n s store) ∙ written.directories s store;
  front = λ page inside. after page (omega (arith, inside)) ∙ written.front page inside;
  others = λ page inside behind none. after page inside ∙ (written.others page inside behind none ∙ sym (before page inside));
}

pub cut-alike : (n : Numbers) (directories : ℕ → List ℕ) (old old2 now now2 : Pages) →
    ((page : ℕ) → page < pages n → old2 page ≡ old page) → ((page : ℕ) → page < pages n → now2 page ≡ now page) →
    IsCutShort n directories old now → IsCutShort n directories old2 now2
cut-alike n directories old old2 now now2 before after cut = record {
  done = cut.done;
  within = cut.within;
  stand = λ s below. after (directory_page n s) (directory_page-below n s (omega (arith, below, cut.within))) ∙ cut.stand s below;
  others = λ page inside none front. after page inside ∙ (cut.others page inside none front ∙ sym (before page inside));
}

-- nothing was written at all
pub cut-before : (n : Numbers) (directories : ℕ → List ℕ) (old now : Pages) →
    ((page : ℕ) → page < pages n → now page ≡ old page) → IsCutShort n directories old now
cut-before n directories old now same = record {
  done = 0;
  within = omega arith;
  stand = λ s below. absurd (omega (arith, below));
  others = λ page inside none front. same page inside;
}

-- ---- spans and ports

pub same-shape : (tells : Bool) (size page : ℕ) (old between now : List (List ℕ)) → page ≡ size → KeepsShape tells size old between →
    KeepsShape tells page between now → KeepsShape tells size old now
same-shape tells size page old between now same first second = record {
  count = second.count ∙ first.count;
  sized = subst (λ (k : ℕ). IsSized tells k now) same second.sized;
}

-- ---- the front pages in one run

pub front-rows : (n : Numbers) (bytes room : List ℕ) (size : ℕ) → size ≡ n.page → 0 < n.page → room ≡ bytes →
    length bytes ≡ front_count n * n.page → length room / size ≡ front_count n
front-rows n bytes room size unit some same long =
    ap (λ (k : ℕ). length room / k) unit ∙ (ap (λ (k : ℕ). k / n.page) (ap length same ∙ long) ∙ mul-div_cancel (front_count n) some)

pub store-written : (n : Numbers) (directories : ℕ → List ℕ) (bytes room : List ℕ) (size : ℕ) (old between now : Pages) →
    size ≡ n.page → 0 < n.page → room ≡ bytes → length bytes ≡ front_count n * n.page → AreDirectories n directories n.spaces old between →
    KeepsPagesBut 0 (length room / size) between now →
    ((page : ℕ) → page < length room / size → now (0 + page) ≡ image_page size room page) →
    IsStoreWritten n directories bytes old now
store-written n directories bytes room size old between now unit some same long all kept shown =
    let count = front-rows n bytes room size unit some same long in
    all-written n directories bytes old between now all (subst (λ (k : ℕ). KeepsPagesBut 0 k between now) count kept)
    (λ page inside.
    let start : 0 + page ≡ page = omega arith in
    ap now (sym start) ∙ (shown page (omega (arith, count, inside))
    ∙ (ap (λ (k : ℕ). image_page k room page) unit ∙ ap (λ (xs : List ℕ). image_page n.page xs page) same)))

pub store-cut : (n : Numbers) (directories : ℕ → List ℕ) (bytes room : List ℕ) (size : ℕ) (old between now : Pages) →
    size ≡ n.page → 0 < n.page → room ≡ bytes → length bytes ≡ front_count n * n.page → AreDirectories n directories n.spaces old between →
    KeepsPagesBut 0 (length room / size) between now → IsCutShort n directories old now
store-cut n directories bytes room size old between now unit some same long all kept =
    cut-at-front n directories old between now all
    (subst (λ (k : ℕ). KeepsPagesBut 0 k between now) (front-rows n bytes room size unit some same long) kept)

-- Tests of pages whose borders are borders of spans, and marks without some of them.
use Rattle.std.proofs.Common.{◌≡◌, ℕ, zero, suc, ◌+◌, ◌<◌, ◌≤◌, Bool, true, false, not, ◌&&◌, ◌||◌, IsTrue, refl, sym, ap, subst, arith}
use Rattle.std.proofs.Common.{◌∙◌, inl, inr, ◌⊎◌}
use Rattle.std.proofs.lemmas.Bool.{and_parts, cases_lt, false≢true}
use Rattle.space_directory.proofs.PageLaws.{in_run-inside, in_run-below, in_run-above}
use Rattle.span_store.specs.Held.{Held, begins, has}
use Rattle.page_cache.specs.Kept.{is_on_run}
use Rattle.object_state.specs.Keeps.{IsMarked}
use Rattle.give_back.specs.Giving.{IsWholeRun}

-- where a held page passes the test and the one before it doesn't, or the other way, a span begins
abbrev pub IsBordered : Held → (ℕ → Bool) → Type 0
IsBordered held test = (page : ℕ) → IsTrue (has held (suc page)) → (test (suc page) ≡ test page → ⊥) → IsTrue (begins held (suc page))

bool-same : (a b : Bool) → (a ≡ b) ⊎ (a ≡ b → ⊥)
bool-same true true = inl refl
bool-same true false = inr (λ same. false≢true (sym same))
bool-same false true = inr false≢true
bool-same false false = inl refl

-- a run is bordered where spans begin at its two ends, if the pages there are held
pub bordered-run : (held : Held) (first pages : ℕ) → (IsTrue (has held first) → IsTrue (begins held first)) →
    (IsTrue (has held (first + pages)) → IsTrue (begins held (first + pages))) → IsBordered held (is_on_run first pages)
bordered-run held first pages from to page there differ = elim (cases_lt (suc page) first) [
  | inl below ↦ absurd (differ (in_run-below first pages (suc page) below ∙ sym (in_run-below first pages page (omega (arith, below)))))
  | inr behind_first ↦ elim (cases_lt page first) [
    | inl before ↦
        let same : first ≡ suc page = omega (arith, behind_first, before) in
        subst (λ q. IsTrue (has held q) → IsTrue (begins held q)) same from there
    | inr in_it ↦ elim (cases_lt (suc page) (first + pages)) [
      | inl inside ↦ absurd (differ (in_run-inside first pages (suc page) behind_first inside
          ∙ sym (in_run-inside first pages page in_it (omega (arith, inside)))))
      | inr past ↦ elim (cases_lt page (first + pages)) [
        | inl last ↦
            let same : first + pages ≡ suc page = omega (arith, past, last) in
            subst (λ q. IsTrue (has held q) → IsTrue (begins held q)) same to there
        | inr behind ↦ absurd (differ (in_run-above first pages (suc page) past ∙ sym (in_run-above first pages page behind)))
      ]
    ]
  ]
]

pub run-bordered : (held : Held) (first pages : ℕ) → IsWholeRun held first pages → IsBordered held (is_on_run first pages)
run-bordered held first pages whole = bordered-run held first pages (λ there. whole.from) whole.to

-- and so is what passes one of two tests
pub bordered-or : (held : Held) (one two all : ℕ → Bool) → IsBordered held one → IsBordered held two →
    ((page : ℕ) → all page ≡ (one page || two page)) → IsBordered held all
bordered-or held one two all first second same page there differ = elim (bool-same (one (suc page)) (one page)) [
  | inr border ↦ first page there border
  | inl alike ↦ elim (bool-same (two (suc page)) (two page)) [
    | inr border ↦ second page there border
    | inl both ↦ absurd (differ (same (suc page)
        ∙ (ap (λ b. b || two (suc page)) alike ∙ (ap (λ b. one page || b) both ∙ sym (same page)))))
  ]
]

-- marks without those that pass another test
pub marked-minus : (held : Held) (marked out rest : ℕ → Bool) → IsMarked held marked → IsBordered held out →
    ((page : ℕ) → rest page ≡ (marked page && not (out page))) → IsMarked held rest
marked-minus held marked out rest is bordered same = record {
  within = λ page there. is.within page (and_parts (marked page) (not (out page)) (sym (same page) ∙ there)).0;
  borders = λ page there differ. elim (bool-same (marked (suc page)) (marked page)) [
    | inr border ↦ is.borders page there border
    | inl alike ↦ elim (bool-same (out (suc page)) (out page)) [
      | inr border ↦ bordered page there border
      | inl both ↦ absurd (differ (same (suc page)
          ∙ (ap (λ b. b && not (out (suc page))) alike ∙ (ap (λ b. marked page && not b) both ∙ sym (same page)))))
    ]
  ];
}

-- marks, and those that pass another test besides
pub marked-plus : (held : Held) (marked more all : ℕ → Bool) → IsMarked held marked → IsBordered held more →
    ((page : ℕ) → IsTrue (more page) → IsTrue (has held page)) → ((page : ℕ) → all page ≡ (marked page || more page)) →
    IsMarked held all
marked-plus held marked more all is bordered held_more same = record {
  within = λ page there. go page (marked page) refl (sym (same page) ∙ there);
  borders = bordered-or held marked more all is.borders bordered same;
} where
  go : (page : ℕ) (b : Bool) → marked page ≡ b → (marked page || more page) ≡ true → IsTrue (has held page)
  go page true here there = is.within page here
  go page false here there = held_more page (sym (ap (λ b. b || more page) here) ∙ there)

-- the pages of one span are marked alike
pub span-alike : (held : Held) (marked : ℕ → Bool) (first pages : ℕ) → IsMarked held marked →
    ((q : ℕ) → first ≤ q → q < first + pages → IsTrue (has held q)) →
    ((q : ℕ) → first < q → q < first + pages → begins held q ≡ false) → (k : ℕ) → k < pages → marked (first + k) ≡ marked first
span-alike held marked first pages is holds inner k less = go k less
  where
    go : (k : ℕ) → k < pages → marked (first + k) ≡ marked first
    go zero less = let same : first + 0 ≡ first = omega arith in ap marked same
    go (suc k) less =
        let next : first + suc k ≡ suc (first + k) = omega arith in
        let there = holds (first + suc k) (omega arith) (omega (arith, less)) in
        let none = inner (first + suc k) (omega arith) (omega (arith, less)) in
        elim (bool-same (marked (suc (first + k))) (marked (first + k))) [
          | inl alike ↦ ap marked next ∙ (alike ∙ go k (omega (arith, less)))
          | inr differ ↦
              let begun = is.borders (first + k) (subst (λ q. IsTrue (has held q)) next there) differ in
              absurd (false≢true (sym none ∙ subst (λ q. IsTrue (begins held q)) (sym next) begun))
        ]

-- Runs of which spans in order have no page.
use Rattle.std.proofs.Common.{◌≡◌, ℕ, zero, suc, ◌+◌, ◌-◌, ◌<◌, ◌≤◌, List, [], ◌∷◌, length, take, drop}
use Rattle.std.proofs.Common.{get_or, None, sym, ap, subst, ◌∙◌, inl, inr, arith, drop-cons}
use Rattle.std.proofs.Common.{take-append-drop}
use Rattle.std.specs.Prelude.{is_some}
use Rattle.std.specs.Option.{option_or}
use Rattle.std.proofs.lemmas.Bool.{cases_lt, false≢true}
use Rattle.std.proofs.lemmas.List.{drop_all, take_more}
use Rattle.span_store.specs.Held.{HeldSpan, page_in}
use Rattle.span_store.specs.Order.{InOrder, IsRank, LackRun, no_span}
use Rattle.span_store.proofs.SpanLists.{IsIn, back_of, end_of, last_end, last_end-append, page_in-append}
use Rattle.span_store.proofs.SpanLists.{page_in-below, page_in-beyond, page_in-inside, page_of-inside}
use Rattle.span_store.proofs.SpanLists.{InOrder-front, InOrder-low, option_or-none}

-- the spans from its rank on begin behind the page
pub behind_rank : (rows : List HeldSpan) (page k : ℕ) → InOrder 0 rows → IsRank rows page k → InOrder (suc page) (drop k rows)
behind_rank rows page k order rank = elim (cases_lt k (length rows)) [
  | inl within ↦
      let back = back_of rows k within order in
      let behind = rank.behind within in
      subst (InOrder (suc page)) (sym (drop-cons rows k no_span within)) (omega arith, back.1, back.2)
  | inr past ↦ subst (InOrder (suc page)) (sym (drop_all k rows past)) tt
]

-- what a page holds that is before the spans from k on
page_in-front : (rows : List HeldSpan) (k q : ℕ) → InOrder (suc q) (drop k rows) → page_in rows q ≡ page_in (take k rows) q
page_in-front rows k q behind =
    let none = page_in-below (suc q) (drop k rows) q behind (omega arith) in
    ap (λ (xs : List HeldSpan). page_in xs q) (sym (take-append-drop k rows))
    ∙ page_in-append (take k rows) (drop k rows) q
    ∙ ap (option_or (page_in (take k rows) q)) none
    ∙ option_or-none (page_in (take k rows) q)

front_in_order : (rows : List HeldSpan) (k : ℕ) → InOrder 0 rows → InOrder 0 (take k rows)
front_in_order rows k order =
    InOrder-front 0 (take k rows) (drop k rows) (subst (InOrder 0) (sym (take-append-drop k rows)) order)

-- where the spans up to the last page of a run end before the run, none of its pages is held
pub lacks_before : (rows : List HeldSpan) (first n k : ℕ) → InOrder 0 rows → 0 < n → IsRank rows (first + (n - 1)) k →
    last_end 0 (take k rows) ≤ first → LackRun rows first n
lacks_before rows first n k order some rank clear = λ q from to.
    let behind = behind_rank rows (first + (n - 1)) k order rank in
    let later = InOrder-low (suc q) (suc (first + (n - 1))) (drop k rows) (omega arith) behind in
    page_in-front rows k q later ∙ page_in-beyond 0 (take k rows) q (front_in_order rows k order) (omega arith)

-- no span begins up to the last page of the run
pub lacks_none : (rows : List HeldSpan) (first n k : ℕ) → InOrder 0 rows → 0 < n → IsRank rows (first + (n - 1)) k →
    k ≡ 0 → LackRun rows first n
lacks_none rows first n k order some rank none =
    let empty : last_end 0 (take k rows) ≡ 0 = ap (λ (i : ℕ). last_end 0 (take i rows)) none in
    lacks_before rows first n k order some rank (omega arith)

-- where the first k spans end
pub last_end-rank : (rows : List HeldSpan) (k : ℕ) → 0 < k → k ≤ length rows →
    last_end 0 (take k rows) ≡ end_of (get_or rows (k - 1) no_span)
last_end-rank rows zero some within = absurd (omega arith)
last_end-rank rows (suc j) some within =
    let next : suc j ≡ j + 1 = omega arith in
    let same : suc j - 1 ≡ j = omega arith in
    ap (λ (i : ℕ). last_end 0 (take i rows)) next
    ∙ ap (last_end 0) (take_more rows j no_span (omega arith))
    ∙ last_end-append 0 (take j rows) (get_or rows j no_span ∷ [])
    ∙ ap (λ (i : ℕ). end_of (get_or rows i no_span)) (sym same)

-- the last of them ends before the run
pub lacks_behind : (rows : List HeldSpan) (first n k : ℕ) → InOrder 0 rows → 0 < n → IsRank rows (first + (n - 1)) k →
    0 < k → end_of (get_or rows (k - 1) no_span) ≤ first → LackRun rows first n
lacks_behind rows first n k order some rank more clear =
    let end = last_end-rank rows k more rank.within in
    lacks_before rows first n k order some rank (omega arith)

-- it ends behind the first page of the run: then one of the pages is held
pub lacks_over : (rows : List HeldSpan) (first n k : ℕ) → InOrder 0 rows → 0 < n → IsRank rows (first + (n - 1)) k →
    0 < k → first < end_of (get_or rows (k - 1) no_span) → LackRun rows first n → ⊥
lacks_over rows first n k order some rank more over lacks =
    let s = get_or rows (k - 1) no_span in
    let within : k - 1 < length rows = let w = rank.within in omega arith in
    let begun : s.first ≤ first + (n - 1) = rank.before more in
    let pages = (back_of rows (k - 1) within order).1 in
    elim (cases_lt first s.first) [
      | inl later ↦ held s.first within (omega arith) (omega arith) (lacks s.first (omega arith) (omega arith))
      | inr before ↦ held first within before over (lacks first (omega arith) (omega arith))
    ]
  where
    held : (q : ℕ) → k - 1 < length rows → (get_or rows (k - 1) no_span).first ≤ q → q < end_of (get_or rows (k - 1) no_span) →
        page_in rows q ≡ None → ⊥
    held q within from to none =
        let inside : IsIn rows (k - 1) q = record { within = within; from = from; to = to } in
        let there = page_in-inside rows (k - 1) q order inside ∙ page_of-inside (get_or rows (k - 1) no_span) q from to in
        false≢true (ap is_some (sym none ∙ there))

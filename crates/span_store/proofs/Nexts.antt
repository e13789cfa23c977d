-- The first span that begins at a page or behind it.
use Rattle.std.proofs.Common.{◌≡◌, ℕ, zero, suc, ◌+◌, ◌-◌, ◌<◌, ◌≤◌, Bool, true, false, List, [], ◌∷◌, ◌++◌, length, take, drop}
use Rattle.std.proofs.Common.{get_or, refl, sym, ap, ◌∙◌}
use Rattle.std.proofs.Common.{inl, inr, arith}
use Rattle.std.specs.Prelude.{is_some, ◌||◌, ◌==◌, Option, Some, None, IsTrue}
use Rattle.std.specs.Option.{option_or}
use Rattle.std.proofs.lemmas.Bool.{cases_eq, eq-eqb, false≢true}
use Rattle.span_store.proofs.SpanLists.{page_of-before, page_of-behind, page_of-inside, where_is}
use Rattle.span_store.proofs.SpanLists.WhereIs.{Before, Behind, Inside}
use Rattle.span_store.specs.Held.{HeldSpan, Held, begins, begins_in, has, page_in, page_of}
use Rattle.span_store.specs.Order.{InOrder, IsRank, first_at, no_span}
use Rattle.span_store.specs.Pieces.{AreWithinLimit, IsCountBefore, IsFirstFrom, rank_of, spans_in}
use Rattle.span_store.specs.Calls.{IsSpanOf, IsSpanFrom}
use Rattle.span_store.proofs.Holds.{begun_at}
use Rattle.span_store.proofs.InPieces.{end_rank, filled_at}
use Rattle.span_store.proofs.Kept.{removed_in}

-- before the first page no span begins
pub none_before : (rows : List HeldSpan) (page : ℕ) → page ≡ 0 → IsCountBefore rows page 0
none_before rows page first = record {
  within = omega arith;
  before = λ some. absurd (omega (arith, some));
  behind = λ some. omega (arith, first);
}

-- those that begin at the page before it, or before that
pub before_next : (rows : List HeldSpan) (page k : ℕ) → 0 < page → IsRank rows (page - 1) k → IsCountBefore rows page k
before_next rows page k some rank = record {
  within = rank.within;
  before = λ more. let begun = rank.before more in omega (arith, begun, some);
  behind = λ more. let later = rank.behind more in omega (arith, later, some);
}

-- the first of all spans
pub start_from : (ps : List (List HeldSpan)) (page : ℕ) → AreWithinLimit ps → IsCountBefore (spans_in ps) page 0 → IsFirstFrom ps page 0 0
start_from ps page filled count = record {
  at = λ within. (filled_at ps 0 filled within).0;
  count = count;
}

-- between the page and the first span from it on none begins, and none at all where there is no such span
pub none_from : (rows : List HeldSpan) (page k q : ℕ) → InOrder 0 rows → IsCountBefore rows page k → page ≤ q →
    (k < length rows → q < first_at rows k) → begins_in rows q ≡ false
none_from rows page k q order count from before = go (begins_in rows q) refl
  where
    rank : IsRank rows q k
    rank = record {
      within = count.within;
      before = λ more. let less = count.before more in omega (arith, less, from);
      behind = before;
    }

    go : (b : Bool) → begins_in rows q ≡ b → b ≡ false
    go false is = refl
    go true is =
        let begun = begun_at rows q k order rank is in
        let less = count.before begun.some in
        let same : first_at rows (k - 1) ≡ q = begun.first in
        absurd (omega (arith, less, from, same))

-- the span at a place is held whole
pub span-whole : (rows : List HeldSpan) (w : Held) (s : HeldSpan) (k n : ℕ) → record { spans = rows; room = length rows + n } ≡ w →
    InOrder 0 rows → k < length rows → get_or rows k no_span ≡ s → IsSpanOf s w
span-whole rows w s k n view order within here =
    let gone = (removed_in rows (take k rows ++ drop (k + 1) rows) w s k n view order within here refl).1 in
    record { some = gone.some; begun = gone.begun; held = gone.held; inner = gone.inner; end = gone.end }

pub span-from : (rows : List HeldSpan) (w : Held) (s : HeldSpan) (page k n : ℕ) → record { spans = rows; room = length rows + n } ≡ w →
    InOrder 0 rows → IsCountBefore rows page k → k < length rows → get_or rows k no_span ≡ s → IsSpanFrom page s w
span-from rows w s page k n view order count within here =
    let first : first_at rows k ≡ s.first = ap (λ (t : HeldSpan). t.first) here in
    record {
      whole = span-whole rows w s k n view order within here;
      from = let behind = count.behind within in omega (arith, behind, first);
      none = λ q from before.
          sym (ap (λ (h : Held). begins h q) view)
          ∙ none_from rows page k q order count from (λ more. omega (arith, before, first));
    }

-- behind all pieces none begins
pub none-left : (ps : List (List HeldSpan)) (w : Held) (page i j n : ℕ) →
    record { spans = spans_in ps; room = length (spans_in ps) + n } ≡ w →
    InOrder 0 (spans_in ps) → IsFirstFrom ps page i j → length ps ≤ i → (q : ℕ) → page ≤ q → begins w q ≡ false
none-left ps w page i j n view order first past q from =
    let end = end_rank ps i j past in
    sym (ap (λ (h : Held). begins h q) view)
    ∙ none_from (spans_in ps) page (rank_of ps i j) q order first.count from (λ more. absurd (omega (arith, end, more)))

-- ---- pages that are held behind others

option-some : {X : Type 0} (a b : Option X) → is_some b ≡ true → is_some (option_or a b) ≡ true
option-some None b there = there
option-some (Some x) b there = refl

-- a held page at which no span begins is one behind another
pub held-before : (spans : List HeldSpan) (q : ℕ) → is_some (page_in spans (suc q)) ≡ true → begins_in spans (suc q) ≡ false →
    is_some (page_in spans q) ≡ true
held-before [] q there none = absurd (false≢true there)
held-before (s ∷ spans) q there none =
    let rest = λ (some : is_some (page_in spans (suc q)) ≡ true) (out : begins_in spans (suc q) ≡ false). held-before spans q some out in
    elim (where_is s (suc q)) [
      | Before before ↦ beside (page_of-before s (suc q) before) rest
      | Behind from behind ↦ beside (page_of-behind s (suc q) behind) rest
      | Inside from to ↦ elim (cases_eq s.first (suc q)) [
        | inl same ↦ absurd (false≢true (sym none ∙ ap (λ b. b || begins_in spans (suc q)) (eq-eqb s.first (suc q) same)))
        | inr apart ↦ ap (λ o. is_some (option_or o (page_in spans q)))
            (page_of-inside s q (omega (arith, from, apart)) (omega (arith, to)))
      ]
    ]
  where
    or-right : (a b : Bool) → (a || b) ≡ false → b ≡ false
    or-right true b out = absurd (false≢true (sym out))
    or-right false b out = out

    beside : page_of s (suc q) ≡ None →
        (is_some (page_in spans (suc q)) ≡ true → begins_in spans (suc q) ≡ false → is_some (page_in spans q) ≡ true) →
        is_some (page_in (s ∷ spans) q) ≡ true
    beside out rest = option-some (page_of s q) (page_in spans q)
        (rest (sym (ap (λ o. is_some (option_or o (page_in spans (suc q)))) out) ∙ there)
        (or-right (s.first == suc q) (begins_in spans (suc q)) none))

-- behind a page that begins a span where it is held, no page is held before the next span begins
pub gap-empty : (held : Held) (at first : ℕ) → (IsTrue (has held at) → IsTrue (begins held at)) →
    ((q : ℕ) → at ≤ q → q < first → begins held q ≡ false) → (k : ℕ) → at + k < first → has held (at + k) ≡ false
gap-empty held at first border none zero less =
    let same : at + 0 ≡ at = omega arith in
    ap (has held) same ∙ go (has held at) refl
  where
    go : (b : Bool) → has held at ≡ b → b ≡ false
    go false is = refl
    go true is = absurd (false≢true (sym (none at (omega arith) (omega (arith, less))) ∙ border is))
gap-empty held at first border none (suc k) less =
    let next : at + suc k ≡ suc (at + k) = omega arith in
    let before = gap-empty held at first border none k (omega (arith, less)) in
    let out = none (suc (at + k)) (omega arith) (omega (arith, less)) in
    ap (has held) next ∙ go (has held (suc (at + k))) refl before out
  where
    go : (b : Bool) → has held (suc (at + k)) ≡ b → has held (at + k) ≡ false → begins held (suc (at + k)) ≡ false → b ≡ false
    go false is before out = refl
    go true is before out = absurd (false≢true (sym before ∙ held-before held.spans (at + k) is out))

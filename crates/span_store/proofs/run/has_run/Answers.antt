-- Each turn looks at the one span that can have the page.
use Rattle.std.proofs.Common.{◌≡◌, ℕ, ◌+◌, ◌<◌, ◌≤◌, List, length, refl, ap, sym, subst, ◌∙◌, inl, inr, arith, get_or}
use Rattle.std.proofs.Common.{None, true, false}
use Rattle.std.specs.Prelude.{is_some}
use Rattle.std.proofs.lemmas.Bool.{cases_lt, eq-eqb, eqb-true, false≢true}
use Rattle.span_store.specs.Held.{HeldSpan, page_in}
use Rattle.span_store.specs.Order.{HaveRun, no_span}
use Rattle.span_store.specs.Pieces.{IsAt, rank_of, spans_in}
use Rattle.span_store.proofs.SpanLists.{IsIn, IsNear, end_of, lacks_page, near-next, near-page, near-past, page_in-inside, page_of-before}
use Rattle.span_store.proofs.SpanLists.{page_of-behind, page_of-inside}
use Rattle.span_store.proofs.InPieces.{at_within, end_rank}
use Rattle.span_store.proofs.Begun.{last_near, none_held}
use Rattle.span_store.proofs.run.has_run.Given.{Over}
use Rattle.span_store.proofs.run.has_run.Goals.{After-span_at-span}
use Rattle.span_store.proofs.run.has_run.Goals as goal

pub returns-in_default : goal.returns-in_default
returns-in_default g c = (
  λ zero q from to. absurd (omega (arith, from, to, eqb-true c.args.pages 0 zero)),
  λ held. elim (cases_lt 0 c.args.pages) [
    | inl some ↦ absurd (none_held (spans_in c.args.pieces.now) c.args.first c.requires.order c.in_default.ensures.none
        (held c.args.first (omega arith) (omega (arith, some))))
    | inr none ↦ eq-eqb c.args.pages 0 (omega (arith, none))
  ],
)

pub loop-page-init : goal.loop-page-init
loop-page-init g c = record {
  low = omega arith;
  end = refl;
  place = λ _. c.in-Some.ensures.found.at.inner;
  near = last_near c.args.pieces.now c.args.first c.in-Some.at.piece c.in-Some.at.index c.requires.order c.in-Some.ensures.found;
  held = λ q from to. absurd (omega (arith, from, to));
}

-- a page that isn't held
lacks : (ps : List (List HeldSpan)) (first n page : ℕ) → first ≤ page → page < first + n → page_in (spans_in ps) page ≡ None →
    (false ≡ true → HaveRun (spans_in ps) first n) × (HaveRun (spans_in ps) first n → false ≡ true)
lacks ps first n page low high none = (λ h. absurd (false≢true h), lacks_page (spans_in ps) first n page low high none)

pub returns-then-at-pieces : goal.returns-then-at-pieces
returns-then-at-pieces g c =
    lacks c.args.pieces.now c.args.first c.args.pages c.loop-page.page c.loop-page.invariant.low c.loop-page-test.true
    (near-past (spans_in c.args.pieces.now) (rank_of c.args.pieces.now c.loop-page.at.piece c.loop-page.at.index) c.loop-page.page
    c.loop-page.invariant.near (end_rank c.args.pieces.now c.loop-page.at.piece c.loop-page.at.index (omega (arith, c.if-at-pieces.true))))

-- the span of this turn
place : (g : Over) (c : After-span_at-span g) → c.loop-page.at.piece < length c.args.pieces.now →
    IsAt c.args.pieces.now c.loop-page.at.piece c.loop-page.at.index
place g c within = record { within = within; inner = c.loop-page.invariant.place within }

pub returns-then-page-first : goal.returns-then-page-first
returns-then-page-first g c =
    let at = goal.at.returns-then-page-first g c in
    let rows = spans_in c.args.pieces.now in
    let k = rank_of c.args.pieces.now c.loop-page.at.piece c.loop-page.at.index in
    let there = place g at.After-span_at-span (omega (arith, c.if-at-pieces.false)) in
    let first = ap (λ (s : HeldSpan). s.first) c.span_at-span.ensures in
    lacks c.args.pieces.now c.args.first c.args.pages c.loop-page.page c.loop-page.invariant.low c.loop-page-test.true
    (near-page rows k c.loop-page.page c.loop-page.invariant.near
    (at_within c.args.pieces.now c.loop-page.at.piece c.loop-page.at.index there)
    ∙ page_of-before (get_or rows k no_span) c.loop-page.page (omega (arith, first, c.first.ensures, c.if-page-first.true)))

pub returns-then-next-page : goal.returns-then-next-page
returns-then-next-page g c =
    let at = goal.at.returns-then-next-page g c in
    let rows = spans_in c.args.pieces.now in
    let k = rank_of c.args.pieces.now c.loop-page.at.piece c.loop-page.at.index in
    let there = place g at.After-span_at-span (omega (arith, c.if-at-pieces.false)) in
    let end = ap end_of c.span_at-span.ensures in
    lacks c.args.pieces.now c.args.first c.args.pages c.loop-page.page c.loop-page.invariant.low c.loop-page-test.true
    (near-page rows k c.loop-page.page c.loop-page.invariant.near
    (at_within c.args.pieces.now c.loop-page.at.piece c.loop-page.at.index there)
    ∙ page_of-behind (get_or rows k no_span) c.loop-page.page
    (omega (arith, end, c.first-in-loop-page.ensures, c.pages.ensures.count, c.if-next-page.true)))

pub loop-page-preserved : goal.loop-page-preserved
loop-page-preserved g c =
    let at = goal.at.loop-page-preserved g c in
    let rows = spans_in c.args.pieces.now in
    let k = rank_of c.args.pieces.now c.loop-page.at.piece c.loop-page.at.index in
    let there = place g at.After-span_at-span (omega (arith, c.if-at-pieces.false)) in
    let within = at_within c.args.pieces.now c.loop-page.at.piece c.loop-page.at.index there in
    let first = ap (λ (s : HeldSpan). s.first) c.span_at-span.ensures in
    let end = ap end_of c.span_at-span.ensures in
    let next = c.first-in-loop-page.result + c.pages.result in
    let ends : end_of (get_or rows k no_span) ≡ next = omega (arith, end, c.first-in-loop-page.ensures, c.pages.ensures.count) in
    let from : (get_or rows k no_span).first ≤ c.loop-page.page = omega (arith, first, c.if-page-first.false, c.first.ensures) in
    record {
      low = omega (arith, c.loop-page.invariant.low, c.if-next-page.false);
      end = refl;
      place = c.after-at.ensures.at;
      near = subst (λ (m : ℕ). IsNear rows m next) (sym c.after-at.ensures.rank)
          (subst (IsNear rows (k + 1)) ends (near-next rows k c.requires.order within));
      held = λ q low to. elim (cases_lt q c.loop-page.page) [
        | inl before ↦ c.loop-page.invariant.held q low before
        | inr behind ↦
            let inside : IsIn rows k q = record { within = within; from = omega (arith, from, behind); to = omega (arith, ends, to) } in
            ap is_some (page_in-inside rows k q c.requires.order inside
            ∙ page_of-inside (get_or rows k no_span) q inside.from inside.to)
      ];
    }

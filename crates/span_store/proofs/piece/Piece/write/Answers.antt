-- The span at the index is written.
use Rattle.std.proofs.Common.{◌≡◌, ℕ, ◌-◌, ◌/◌, List, length, get_or, sym, ap, subst, ◌∙◌, arith}
use Rattle.std.specs.Prelude.{IsTrue, OnOk}
use Rattle.page_port.specs.Pages.{FitsPages, IsSized, run_bytes}
use Rattle.span_store.specs.Held.{HeldSpan, span_of}
use Rattle.span_store.specs.Order.{first_at, no_span}
use Rattle.span_store.proofs.PieceSpans.{count_of, seen_at, seen_over, seen_there}
use Rattle.span_store.proofs.piece.Piece.write.Given.{Over}
use Rattle.span_store.proofs.piece.Piece.write.Goals.{After-index_mut-span, After-first}
use Rattle.span_store.proofs.piece.Piece.write.Goals as goal

here : (g : Over) (c : After-index_mut-span g) →
    span_of g.S.Span.start g.S.Span.contents c.index_mut-span.result.now ≡ get_or c.args.self.now c.args.index no_span
here g c =
    seen_at g.S.Span.start g.S.Span.contents c.self.inside.spans.items c.args.self.now c.args.index c.index_mut-span.result.now
    c.self.view_is c.requires.within c.index_mut-span.ensures.value

-- where the pages begin in it
begin : (g : Over) (c : After-first g) →
    span_of g.S.Span.start g.S.Span.contents c.index_mut-span.result.now ≡ get_or c.args.self.now c.args.index no_span →
    c.args.page - c.first.result ≡ c.args.page - first_at c.args.self.now c.args.index
begin g c same = ap (λ (k : ℕ). c.args.page - k) (c.first.ensures ∙ ap (λ (s : HeldSpan). s.first) same)

pub index_mut-span-requires : goal.index_mut-span-requires
index_mut-span-requires g c =
    let ok = c.self.inside.spans.ok.0 in
    omega (
      arith,
      ok,
      c.requires.within,
      count_of g.S.Span.start g.S.Span.contents c.self.inside.spans.items c.args.self.now c.self.view_is,
    )

pub overflow_sub-from : goal.overflow_sub-from
overflow_sub-from g c =
    let first = ap (λ (s : HeldSpan). s.first) (here g (goal.at.overflow_sub-from g c).After-index_mut-span) in
    omega (arith, first, c.requires.from, c.first.ensures)

pub write-requires : goal.write-requires
write-requires g c =
    let at = goal.at.write-requires g c in
    let size = (g.P.Port.meter c.args.port.now).page in
    let pages = ap (λ (s : HeldSpan). s.pages) (here g at.After-index_mut-span) in
    subst (λ (p : List (List ℕ)). FitsPages g.S.Span.tells size (c.args.page - c.first.result) (length c.args.bytes.now) p) (sym pages)
    (subst (λ (k : ℕ). FitsPages g.S.Span.tells size k (length c.args.bytes.now) (get_or c.args.self.now c.args.index no_span).pages)
    (sym (begin g at.After-first (here g at.After-index_mut-span))) c.requires.fits)

pub returns-clause-over : goal.returns-clause-over
returns-clause-over g c =
    let at = goal.at.returns-clause-over g c in
    seen_over g.S.Span.start g.S.Span.contents c.self.inside.spans.items c.args.self.now c.args.index c.args.page
    (c.args.page - c.first.result) (length c.args.bytes.now / (g.P.Port.meter c.args.port.now).page) c.index_mut-span.result.now
    c.write.new.s c.self.view_is c.requires.within (here g at.After-index_mut-span)
    (ap (λ (k : ℕ). c.args.page - k) c.first.ensures) c.write.ensures.place c.write.ensures.others

pub returns-clause-sized : goal.returns-clause-sized
returns-clause-sized g c =
    subst (λ (s : HeldSpan). IsSized g.S.Span.tells (g.P.Port.meter c.args.port.now).page s.pages)
    (sym (seen_there g.S.Span.start g.S.Span.contents c.self.inside.spans.items c.args.self.now c.args.index c.write.new.s
    c.self.view_is c.requires.within)) c.write.ensures.sized

pub returns-clause-bytes : goal.returns-clause-bytes
returns-clause-bytes g c =
    let at = goal.at.returns-clause-bytes g c in
    let n = length c.args.bytes.now / (g.P.Port.meter c.args.port.now).page in
    subst (λ (s : HeldSpan). OnOk c.write.result (IsTrue g.S.Span.tells →
    run_bytes (c.args.page - first_at c.args.self.now c.args.index) n s.pages ≡ c.args.bytes.now))
    (sym (seen_there g.S.Span.start g.S.Span.contents c.self.inside.spans.items c.args.self.now c.args.index c.write.new.s
    c.self.view_is c.requires.within))
    (subst (λ (k : ℕ). OnOk c.write.result (IsTrue g.S.Span.tells →
    run_bytes k n (g.S.Span.contents c.write.new.s) ≡ c.args.bytes.now)) (begin g at.After-first (here g at.After-index_mut-span))
    c.write.ensures.bytes)

-- The first span from the page on is held whole, or none is left.
use Rattle.std.proofs.Common.{◌≡◌, ◌<◌, List, length, get_or, sym, ap, subst, arith}
use Rattle.span_store.specs.Held.{HeldSpan, span_of}
use Rattle.span_store.specs.Order.{no_span}
use Rattle.span_store.specs.Pieces.{IsFirstFrom, rank_of, spans_in}
use Rattle.span_store.proofs.InPieces.{at_within}
use Rattle.span_store.proofs.Nexts.{none-left, span-from}
use Rattle.span_store.proofs.holdings.Holdings.span_from.Goals as goal

pub returns-then-at-pieces-clause-none : goal.returns-then-at-pieces-clause-none
returns-then-at-pieces-clause-none g c =
    let ps = c.self.inside.pieces.items in
    let at = c.first_from-at.result in
    let first = subst (λ (xs : List (List HeldSpan)). IsFirstFrom xs c.args.page at.piece at.index) c.as_slice-pieces.ensures.value
    c.first_from-at.ensures in
    let long = ap (λ (xs : List (List HeldSpan)). length xs) c.as_slice-pieces.ensures.value in
    none-left ps c.args.self.now c.args.page at.piece at.index c.self.inside.free c.self.view_is c.self.invariant.order first
    (omega (arith, c.if-at-pieces.true, long))

pub returns-clause-found : goal.returns-clause-found
returns-clause-found g c =
    let ps = c.self.inside.pieces.items in
    let at = c.first_from-at.result in
    let first = subst (λ (xs : List (List HeldSpan)). IsFirstFrom xs c.args.page at.piece at.index) c.as_slice-pieces.ensures.value
    c.first_from-at.ensures in
    let long = ap (λ (xs : List (List HeldSpan)). length xs) c.as_slice-pieces.ensures.value in
    let inside : at.piece < length ps = omega (arith, c.if-at-pieces.false, long) in
    let here : get_or (spans_in ps) (rank_of ps at.piece at.index) no_span ≡ span_of g.S.Span.start g.S.Span.contents c.span_at.result.now =
    sym (subst (λ (xs : List (List HeldSpan)). span_of g.S.Span.start g.S.Span.contents c.span_at.result.now
    ≡ get_or (spans_in xs) (rank_of xs at.piece at.index) no_span) c.as_slice-pieces.ensures.value c.span_at.ensures) in
    span-from (spans_in ps) c.args.self.now (span_of g.S.Span.start g.S.Span.contents c.span_at.result.now) c.args.page
    (rank_of ps at.piece at.index) c.self.inside.free c.self.view_is c.self.invariant.order first.count
    (at_within ps at.piece at.index (record { within = inside; inner = first.at inside })) here

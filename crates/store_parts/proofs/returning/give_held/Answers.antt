-- One span more came back at each step.
use Rattle.std.proofs.Common.{ℕ, refl, ◌∙◌, arith, unwrap_or}
use Rattle.span_store.specs.Held.{span_of}
use Rattle.store_parts.proofs.ReturningLemmas.{sized-still}
use Rattle.store_parts.proofs.HeldLemmas.{no-held-given, held-more, held-done, taken-on}
use Rattle.store_parts.proofs.returning.give_held.Goals as goal

pub spans-init : goal.spans-init
spans-init g c = record {
  given = no-held-given g.Y.S.Span.tells c.args.held (g.Y.Bay.device c.args.bay.now) c.requires.sized c.requires.out;
  faults = refl;
}

pub spans-preserved : goal.spans-preserved
spans-preserved g c =
    let size : ℕ = unwrap_or (g.Y.Bay.device c.args.bay.now).mounted 0 in
    record {
      given = held-more g.Y.S.Span.tells c.args.held c.spans.held c.take_any.new.self
          (span_of g.Y.S.Span.start g.Y.S.Span.contents c.in-Some.span) (g.Y.Bay.device c.args.bay.now) (g.Y.Bay.device c.spans.bay)
          (g.Y.Bay.device c.give_span.new.bay) c.spans.invariant.given c.in-Some.ensures.removed
          (c.in-Some.ensures.sized size c.spans.invariant.given.sized).1 c.give_span.ensures.back;
      faults = c.give_span.ensures.faults ∙ c.spans.invariant.faults;
    }

pub spans-smaller : goal.spans-smaller
spans-smaller g c = omega (arith, c.in-Some.ensures.removed.count)

pub give_span-requires-clause-out : goal.give_span-requires-clause-out
give_span-requires-clause-out g c = λ _ _. c.spans.invariant.given.out

pub give_span-requires-clause-on : goal.give_span-requires-clause-on
give_span-requires-clause-on g c = λ _ _ tell.
    let given = c.spans.invariant.given in
    taken-on c.args.held c.spans.held c.take_any.new.self (span_of g.Y.S.Span.start g.Y.S.Span.contents c.in-Some.span)
    (g.Y.Bay.device c.args.bay.now) (g.Y.Bay.device c.spans.bay) (given.count tell) given.kept (c.requires.on tell)
    c.in-Some.ensures.removed

pub give_span-requires-clause-sized : goal.give_span-requires-clause-sized
give_span-requires-clause-sized g c = λ _ _ tell.
    let given = c.spans.invariant.given in
    let size : ℕ = unwrap_or (g.Y.Bay.device c.args.bay.now).mounted 0 in
    sized-still (g.Y.Bay.device c.args.bay.now) (g.Y.Bay.device c.spans.bay) (g.Y.S.Span.contents c.in-Some.span) (given.mounted tell)
    ((c.in-Some.ensures.sized size given.sized).0 tell)

pub returns-clause-back : goal.returns-clause-back
returns-clause-back g c = held-done g.Y.S.Span.tells c.args.held c.spans.held (g.Y.Bay.device c.args.bay.now) (g.Y.Bay.device c.spans.bay)
    c.spans.invariant.given (c.in_default.ensures.none.0 refl)

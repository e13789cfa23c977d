-- One run of free pages more came back at each step.
use Rattle.std.proofs.Common.{◌≡◌, ℕ, ◌-◌, refl, sym, ap, subst, ◌∙◌, arith, Option, Some, length, unwrap_or}
use Rattle.page_port.specs.Pages.{AreOf}
use Rattle.store_parts.proofs.SpaceLemmas.{no-space-given, space-more, space-done, fewer-free, run-within}
use Rattle.store_parts.proofs.returning.give_space.Goals as goal

pub runs-init : goal.runs-init
runs-init g c = record {
  given = no-space-given g.Y.S.Span.tells c.args.space (g.Y.Bay.device c.args.bay.now) c.requires.space c.requires.out;
  faults = refl;
}

pub runs-preserved : goal.runs-preserved
runs-preserved g c = record {
  given = space-more g.Y.S.Span.tells c.args.space c.runs.space c.take_any.new.self (g.Y.S.Span.start c.in-Some.span)
      (g.Y.S.Span.contents c.in-Some.span) (g.Y.Bay.device c.args.bay.now) (g.Y.Bay.device c.runs.bay) (g.Y.Bay.device
      c.give_span.new.bay)
      c.take_any.ensures.space c.runs.invariant.given c.in-Some.ensures.taken c.give_span.ensures.back;
  faults = c.give_span.ensures.faults ∙ c.runs.invariant.faults;
}

pub runs-smaller : goal.runs-smaller
runs-smaller g c = fewer-free g.Y.S.Span.tells c.runs.space c.take_any.new.self (g.Y.S.Span.start c.in-Some.span)
    (g.Y.S.Span.contents c.in-Some.span) c.in-Some.ensures.taken

pub give_span-requires-clause-out : goal.give_span-requires-clause-out
give_span-requires-clause-out g c = λ _ _. c.runs.invariant.given.out

pub give_span-requires-clause-on : goal.give_span-requires-clause-on
give_span-requires-clause-on g c = λ _ _ tell.
    let taken = c.in-Some.ensures.taken in
    let given = c.runs.invariant.given in
    let on = c.requires.on tell in
    let n : ℕ = length (g.Y.S.Span.contents c.in-Some.span) in
    let fits = run-within c.runs.space.free (g.Y.S.Span.start c.in-Some.span - c.runs.space.first) n taken.some taken.free in
    record {
      some = omega (arith, on.some, given.first, taken.from);
      range = omega (arith, on.range, given.first, given.long, given.count tell, taken.from, fits);
    }

pub give_span-requires-clause-sized : goal.give_span-requires-clause-sized
give_span-requires-clause-sized g c = λ _ _ tell.
    let given = c.runs.invariant.given in
    let mounted : (g.Y.Bay.device c.runs.bay).mounted ≡ Some c.runs.space.page =
    given.mounted tell ∙ (c.requires.sized tell ∙ ap Some (sym given.page)) in
    subst (λ (k : ℕ). AreOf k (g.Y.S.Span.contents c.in-Some.span)) (sym (ap (λ (m : Option ℕ). unwrap_or m 0) mounted))
    (c.in-Some.ensures.taken.sized tell)

pub returns-clause-back : goal.returns-clause-back
returns-clause-back g c = space-done g.Y.S.Span.tells c.args.space c.runs.space (g.Y.Bay.device c.args.bay.now) (g.Y.Bay.device
    c.runs.bay)
    c.runs.invariant.given (c.in_default.ensures.none.0 refl)

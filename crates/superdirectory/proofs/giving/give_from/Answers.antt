-- The last segment is popped and given; those before it are still to come.
use Rattle.std.proofs.Common.{◌≡◌, ◌≤◌, List, [], ◌∷◌, ◌++◌, length, map, reverse, take, drop, refl, sym, ap, ◌∙◌}
use Rattle.std.proofs.Common.{subst, arith}
use Rattle.std.proofs.lemmas.List.{append-nil, append_assoc, drop-append-le, drop_at, take_at}
use Rattle.page_port.specs.Pages.{IsSized}
use Rattle.superdirectory.specs.Trace.{Part, AreAt, AreEnters, IsEntered}
use Rattle.superdirectory.specs.Rest.{Frame, count}
use Rattle.superdirectory.specs.Grants.{IsRunIn, AreRunsIn, IsGivenAll}
use Rattle.superdirectory.proofs.Traces.{part_none, part_then, enters_none, enters_more, at_more}
use Rattle.superdirectory.proofs.Spots.{runs_front, given_more}
use Rattle.superdirectory.proofs.giving.give_from.Goals as goal

pub give-requires-clause-run : goal.give-requires-clause-run
give-requires-clause-run g c =
    let kept = c.loop-segments.invariant in
    let fits : c.args.from ≤ length c.pop.new.self.items =
    omega (arith, c.loop-segments-test.true, c.len.ensures, c.in-Some.ensures.cases) in
    let front = runs_front (λ g'. g'.space) (λ g'. g.S.Span.start g'.span)
    (λ g'. g.S.Span.contents g'.span) g.S.Span.tells (g.L.Hints.rest c.args.latches.now).frame
    (drop c.args.from c.pop.new.self.items) c.in-Some.segment
    (subst (λ (items : List _). AreRunsIn (λ g'. g'.space) (λ g'. g.S.Span.start g'.span)
    (λ g'. g.S.Span.contents g'.span) g.S.Span.tells (g.L.Hints.rest c.args.latches.now).frame items)
    (ap (drop c.args.from) c.in-Some.ensures.items
    ∙ drop-append-le c.args.from c.pop.new.self.items (c.in-Some.segment ∷ []) fits) kept.runs) in
    subst (λ (f : Frame). IsRunIn f c.in-Some.segment.space (g.S.Span.start c.in-Some.segment.span)
    (length (g.S.Span.contents c.in-Some.segment.span))) (sym kept.rest.frame) front.1.0

pub give-requires-clause-sized : goal.give-requires-clause-sized
give-requires-clause-sized g c =
    let kept = c.loop-segments.invariant in
    let fits : c.args.from ≤ length c.pop.new.self.items =
    omega (arith, c.loop-segments-test.true, c.len.ensures, c.in-Some.ensures.cases) in
    let front = runs_front (λ g'. g'.space) (λ g'. g.S.Span.start g'.span)
    (λ g'. g.S.Span.contents g'.span) g.S.Span.tells (g.L.Hints.rest c.args.latches.now).frame
    (drop c.args.from c.pop.new.self.items) c.in-Some.segment
    (subst (λ (items : List _). AreRunsIn (λ g'. g'.space) (λ g'. g.S.Span.start g'.span)
    (λ g'. g.S.Span.contents g'.span) g.S.Span.tells (g.L.Hints.rest c.args.latches.now).frame items)
    (ap (drop c.args.from) c.in-Some.ensures.items
    ∙ drop-append-le c.args.from c.pop.new.self.items (c.in-Some.segment ∷ []) fits) kept.runs) in
    subst (λ (f : Frame). IsSized g.S.Span.tells f.page (g.S.Span.contents c.in-Some.segment.span)) (sym kept.rest.frame) front.1.1

pub loop-segments-init : goal.loop-segments-init
loop-segments-init g c = record {
  rest = record { frame = refl; entered = c.requires.none };
  trace = part_none AreEnters (g.L.Hints.trace c.args.latches.now) enters_none;
  within = c.requires.within;
  room = refl;
  runs = c.requires.runs;
  done = (
    [],
    sym (append-nil c.args.segments.now.items),
    λ views told same. (views, told, refl, refl),
    part_none (AreAt []) (g.L.Hints.trace c.args.latches.now) refl,
  );
}

pub loop-segments-preserved : goal.loop-segments-preserved
loop-segments-preserved g c =
    let kept = c.loop-segments.invariant in
    let fits : c.args.from ≤ length c.pop.new.self.items =
    omega (arith, c.loop-segments-test.true, c.len.ensures, c.in-Some.ensures.cases) in
    let front = runs_front (λ g'. g'.space) (λ g'. g.S.Span.start g'.span)
    (λ g'. g.S.Span.contents g'.span) g.S.Span.tells (g.L.Hints.rest c.args.latches.now).frame
    (drop c.args.from c.pop.new.self.items) c.in-Some.segment
    (subst (λ (items : List _). AreRunsIn (λ g'. g'.space) (λ g'. g.S.Span.start g'.span)
    (λ g'. g.S.Span.contents g'.span) g.S.Span.tells (g.L.Hints.rest c.args.latches.now).frame items)
    (ap (drop c.args.from) c.in-Some.ensures.items
    ∙ drop-append-le c.args.from c.pop.new.self.items (c.in-Some.segment ∷ []) fits) kept.runs) in
    record {
      rest = record { frame = c.give.ensures.rest.frame ∙ kept.rest.frame; entered = c.give.ensures.rest.entered };
      trace = part_then AreEnters (IsEntered c.in-Some.segment.space) AreEnters (g.L.Hints.trace c.args.latches.now)
          (g.L.Hints.trace c.loop-segments.latches) (g.L.Hints.trace c.give.new.latches)
          (λ p q a b. enters_more c.in-Some.segment.space p q a b) kept.trace c.give.ensures.trace;
      within = fits;
      room = c.pop.ensures.capacity ∙ kept.room;
      runs = front.0;
      done = (
        c.in-Some.segment ∷ kept.done.0,
        kept.done.1 ∙ ap (λ (items : List _). items ++ kept.done.0) c.in-Some.ensures.items
            ∙ append_assoc c.pop.new.self.items (c.in-Some.segment ∷ []) kept.done.0,
        λ views told same.
            let before = kept.done.2 views told same in
            let count' : length before.0 ≡ count (g.L.Hints.rest c.loop-segments.latches) = before.2 ∙ same
            ∙ ap (λ (f : Frame). length f.firsts) (sym kept.rest.frame) in
            let more = given_more (λ g'. g'.space) (λ g'. g.S.Span.start g'.span)
            (λ g'. g.S.Span.contents g'.span) views before.0 c.in-Some.segment kept.done.0
            (g.L.Hints.rest c.give.new.latches) before.3 (c.give.ensures.told before.0 before.1 count') in
            (more.0, more.1, more.2 ∙ before.2, more.3),
        part_then (AreAt (reverse (map (λ g'. g'.space) kept.done.0))) (IsEntered c.in-Some.segment.space)
            (AreAt (reverse (map (λ g'. g'.space) (c.in-Some.segment ∷ kept.done.0))))
            (g.L.Hints.trace c.args.latches.now) (g.L.Hints.trace c.loop-segments.latches) (g.L.Hints.trace c.give.new.latches)
            (λ p q a b. at_more c.in-Some.segment.space (map (λ g'. g'.space) kept.done.0) p q a b) kept.done.3 c.give.ensures.trace,
      );
    }

pub returns-after-loop-segments-clause-left : goal.returns-after-loop-segments-clause-left
returns-after-loop-segments-clause-left g c =
    let kept = c.loop-segments.invariant in
    let size : length c.loop-segments.segments.items ≡ c.args.from =
    omega (arith, kept.within, c.loop-segments-test.false, c.len.ensures) in
    record {
      front = sym (ap (take c.args.from) kept.done.1 ∙ take_at c.loop-segments.segments.items kept.done.0 c.args.from size);
      kept = kept.room;
    }

pub returns-after-loop-segments-clause-turn : goal.returns-after-loop-segments-clause-turn
returns-after-loop-segments-clause-turn g c =
    let kept = c.loop-segments.invariant in
    let size : length c.loop-segments.segments.items ≡ c.args.from =
    omega (arith, kept.within, c.loop-segments-test.false, c.len.ensures) in
    let whole = ap (drop c.args.from) kept.done.1 ∙ drop_at c.loop-segments.segments.items kept.done.0 c.args.from size in
    subst (λ (items : List _). Part (AreAt (reverse (map (λ g'. g'.space) items)))
    (g.L.Hints.trace c.args.latches.now) (g.L.Hints.trace c.loop-segments.latches)) (sym whole) kept.done.3

pub returns-after-loop-segments-clause-told : goal.returns-after-loop-segments-clause-told
returns-after-loop-segments-clause-told g c = λ views told same.
    let kept = c.loop-segments.invariant in
    let all = kept.done.2 views told same in
    let size : length c.loop-segments.segments.items ≡ c.args.from =
    omega (arith, kept.within, c.loop-segments-test.false, c.len.ensures) in
    let whole = ap (drop c.args.from) kept.done.1 ∙ drop_at c.loop-segments.segments.items kept.done.0 c.args.from size in (
      all.0,
      all.1,
      subst (λ (items : List _). IsGivenAll (λ g'. g'.space) (λ g'. g.S.Span.start g'.span)
          (λ g'. g.S.Span.contents g'.span) views items all.0) (sym whole) all.3,
    )

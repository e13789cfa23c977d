-- All parts, or none: what was granted before a refusal is given back.
use Rattle.std.proofs.Common.{Some, sym, subst}
use Rattle.superdirectory.specs.Trace.{AreEnters}
use Rattle.superdirectory.specs.Rest.{Frame, count}
use Rattle.superdirectory.specs.Grants.{AreRunsIn}
use Rattle.superdirectory.proofs.Traces.{part_then}
use Rattle.part_store.specs.Asking.{IsLowAt}
use Rattle.part_store.proofs.AskingLemmas.{asked_runs, asked_exact, stopped_left, low_before}
use Rattle.part_store.proofs.asking.ask_parts.Goals as goal

pub give_all-requires-clause-runs : goal.give_all-requires-clause-runs
give_all-requires-clause-runs g c =
    subst (λ (f : Frame). AreRunsIn (λ s. s.space) (λ s. g.S.Span.start s.span) (λ s. g.S.Span.contents s.span) g.S.Span.tells
    f c.ask_all.new.granted.segments.items) (sym c.in-Err.ensures.rest.frame) c.in-Err.ensures.refused.inside

pub returns-in-Ok-ask_all-clause-runs : goal.returns-in-Ok-ask_all-clause-runs
returns-in-Ok-ask_all-clause-runs g c =
    asked_runs (λ s. s.space) (λ s. g.S.Span.start s.span) (λ s. g.S.Span.contents s.span) g.S.Span.tells c.args.start
    c.args.threshold c.args.requests.now (g.L.Hints.rest c.args.latches.now) (g.L.Hints.rest c.ask_all.new.latches)
    c.ask_all.new.granted.counts.items c.ask_all.new.granted.segments.items c.in-Ok-ask_all.ensures.asked

pub returns-in-Ok-ask_all-clause-exact : goal.returns-in-Ok-ask_all-clause-exact
returns-in-Ok-ask_all-clause-exact g c = λ numbers views told same.
    asked_exact (λ s. s.space) (λ s. g.S.Span.start s.span) (λ s. g.S.Span.contents s.span) g.S.Span.tells c.args.start
    c.args.threshold c.args.requests.now (g.L.Hints.rest c.args.latches.now) (g.L.Hints.rest c.ask_all.new.latches)
    c.ask_all.new.granted.counts.items c.ask_all.new.granted.segments.items c.in-Ok-ask_all.ensures.asked numbers views told same

pub returns-in-Err-clause-left : goal.returns-in-Err-clause-left
returns-in-Err-clause-left g c =
    stopped_left (λ s. s.space) (λ s. g.S.Span.start s.span) (λ s. g.S.Span.contents s.span) g.S.Span.tells c.args.start
    c.args.threshold c.in-Err.refused.pages c.args.requests.now (g.L.Hints.rest c.args.latches.now)
    (g.L.Hints.rest c.ask_all.new.latches) (g.L.Hints.rest c.give_all.new.latches) c.ask_all.new.granted.segments.items
    c.in-Err.ensures.rest.frame c.in-Err.ensures.refused c.give_all.ensures.told

pub returns-in-Err-clause-low : goal.returns-in-Err-clause-low
returns-in-Err-clause-low g c =
    let many = count (g.L.Hints.rest c.args.latches.now) in
    let refused = Some c.in-Err.refused.pages in
    part_then (IsLowAt many refused) AreEnters (IsLowAt many refused) (g.L.Hints.trace c.args.latches.now)
    (g.L.Hints.trace c.ask_all.new.latches) (g.L.Hints.trace c.give_all.new.latches)
    (λ p q a b. low_before many refused p q a) c.in-Err.ensures.low c.give_all.ensures.trace

-- The runs of parts: granted and held, or refused.
use Rattle.std.proofs.Common.{ℕ, sym, subst}
use Rattle.std.specs.List.{AllByRecursion}
use Rattle.superdirectory.specs.Grants.{AreRunsIn}
use Rattle.superdirectory.specs.Rest.{Frame}
use Rattle.superdirectory.proofs.Traces.{part_as}
use Rattle.part_store.specs.Asking.{IsAskable}
use Rattle.held_parts.proofs.AskLemmas.{asked-held}
use Rattle.give_back.proofs.RunsLemmas.{still-ready}
use Rattle.held_parts.proofs.asking.ask_runs.Goals as goal

pub ask_parts-requires-clause-from : goal.ask_parts-requires-clause-from
ask_parts-requires-clause-from g c = record {
  there = c.requires.there;
  none = c.requires.ready.none;
  each = subst (λ (k : ℕ). AllByRecursion (IsAskable k) c.args.requests.now) (sym c.requires.ready.store.pages) c.requires.each;
}

pub hold_granted-requires-clause-ready : goal.hold_granted-requires-clause-ready
hold_granted-requires-clause-ready g c =
    still-ready c.args.geometry.now (g.L.Hints.rest c.args.latches.now) (g.L.Hints.rest c.ask_parts.new.latches) c.requires.ready
    c.ask_parts.ensures.rest

pub hold_granted-requires-clause-inside : goal.hold_granted-requires-clause-inside
hold_granted-requires-clause-inside g c =
    subst (λ (f : Frame). AreRunsIn (λ s. s.space) (λ s. g.S.Span.start s.span) (λ s. g.S.Span.contents s.span) g.S.Span.tells f
    c.in-Ok.granted.segments.items) (sym c.ask_parts.ensures.rest.frame) c.in-Ok.ensures.runs.inside

pub returns-in-Ok : goal.returns-in-Ok
returns-in-Ok g c =
    let old = g.L.Hints.rest c.args.latches.now in
    record {
      asks = asked-held g.S.Span.tells c.args.geometry.now c.args.start c.args.threshold c.args.requests.now (λ s. s.space)
          (λ s. g.S.Span.start s.span) (λ s. g.S.Span.contents s.span) c.in-Ok.granted.counts.items c.in-Ok.granted.segments.items
          c.hold_granted.result c.args.held.now c.hold_granted.new.held c.hold_granted.new.cache old
          (g.L.Hints.rest c.ask_parts.new.latches) (g.L.Hints.rest c.hold_granted.new.latches)
          (g.L.Hints.trace c.args.latches.now) (g.L.Hints.trace c.ask_parts.new.latches)
          (g.L.Hints.trace c.hold_granted.new.latches) c.requires.ready.store c.ask_parts.ensures.rest c.in-Ok.ensures.runs
          (λ views told same. c.in-Ok.ensures.exact c.args.geometry.now views told same)
          (part_as _ (λ part. Unit {0}) (g.L.Hints.trace c.args.latches.now) (g.L.Hints.trace c.ask_parts.new.latches)
          (λ part found. tt) c.ask_parts.ensures.low) c.hold_granted.ensures.holds;
    }

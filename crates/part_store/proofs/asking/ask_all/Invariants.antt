use Rattle.std.proofs.Common.{◌+◌, ◌≤◌, length, drop, None}
use Rattle.std.specs.Prelude.{vec_len, vec_capacity}
use Rattle.std.specs.List.{AllByRecursion}
use Rattle.superdirectory.specs.Trace.{Part}
use Rattle.superdirectory.specs.Rest.{count}
use Rattle.superdirectory.specs.Grants.{KeepsFrame}
use Rattle.part_store.specs.Asking.{IsAskable, AreAsked, IsLowAt, most_pieces}
use Rattle.part_store.proofs.asking.ask_all.Given as goal

-- the parts before this one were granted
abbrev pub invariant-loop-request : goal.invariant-loop-request
invariant-loop-request g l = record {
  rest : KeepsFrame (g.L.Hints.rest l.fn.latches) (g.L.Hints.rest l.latches);
  each : AllByRecursion (IsAskable (g.L.Hints.rest l.fn.latches).frame.pages) (drop l.request-index l.requests);
  asked : AreAsked (λ s. s.space) (λ s. g.S.Span.start s.span) (λ s. g.S.Span.contents s.span) g.S.Span.tells l.start
      l.threshold l.requests (drop l.request-index l.requests) (g.L.Hints.rest l.fn.latches) (g.L.Hints.rest l.latches)
      l.granted.counts.items l.granted.segments.items;
  room : vec_len l.granted.segments + most_pieces l.threshold (drop l.request-index l.requests) ≤ vec_capacity l.granted.segments;
  places : vec_len l.granted.counts + length (drop l.request-index l.requests) ≤ vec_capacity l.granted.counts;
  low : Part (IsLowAt (count (g.L.Hints.rest l.fn.latches)) None) (g.L.Hints.trace l.fn.latches) (g.L.Hints.trace l.latches);
}

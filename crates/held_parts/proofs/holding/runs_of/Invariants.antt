use Rattle.std.proofs.Common.{◌≡◌, ◌+◌, ◌≤◌, ◌++◌, length, drop}
use Rattle.std.specs.Prelude.{vec_capacity}
use Rattle.superdirectory.specs.Parts.{extents}
use Rattle.held_parts.proofs.holding.runs_of.Given as goal

-- the runs of the segments before this one are there, and room for the others
abbrev pub invariant-loop-segment : goal.invariant-loop-segment
invariant-loop-segment g l = record {
  all : l.runs.items ++ extents (λ s. g.S.Span.start s.span) (λ s. g.S.Span.contents s.span) (drop l.segment-index l.segments)
      ≡ extents (λ s. g.S.Span.start s.span) (λ s. g.S.Span.contents s.span) l.segments;
  room : length l.runs.items + length (drop l.segment-index l.segments) ≤ vec_capacity l.runs;
}

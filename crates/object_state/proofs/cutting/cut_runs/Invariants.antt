use Rattle.std.proofs.Common.{ℕ, drop}
use Rattle.span_store.specs.Held.{AllSized}
use Rattle.object_state.proofs.CutLemmas.{IsCutting}
use Rattle.object_state.proofs.cutting.cut_runs.Given as goal

-- the runs so far have their borders
abbrev pub invariant-loop-run : goal.invariant-loop-run
invariant-loop-run g l = record {
  cutting : IsCutting l.fn.held l.held l.runs (drop l.run-index l.runs);
  sized : (size : ℕ) → AllSized g.S.Span.tells size l.fn.held → AllSized g.S.Span.tells size l.held;
}

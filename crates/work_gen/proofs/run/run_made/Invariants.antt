use Rattle.std.proofs.Common.{◌≡◌, ◌≤◌}
use Rattle.work_gen.proofs.RunLemmas.{SoFar}
use Rattle.work_gen.proofs.run.run_made.Given as goal

-- the lines before this one were run
abbrev pub invariant-lines : goal.invariant-lines
invariant-lines g l = record {
  so_far : SoFar g.W.Server.step l.fn.server l.fn.work l.index l.work l.summary l.server;
  counted : l.summary.lines ≡ l.index;
  within : l.index ≤ l.lines;
  ready : g.W.Server.ready l.server;
}

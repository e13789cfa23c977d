use Rattle.std.proofs.Common.{◌≡◌, length}
use Rattle.script_model.specs.Transcript.{script_lines}
use Rattle.script_run.specs.Served.{Served}
use Rattle.script_run.proofs.run.run_lines.Given as goal

-- the lines before the rest were run, and no call of the sink has failed so far
abbrev pub invariant-lines : goal.invariant-lines
invariant-lines g l = record {
  served : Served g.W.Server.step l.initial.server (script_lines l.script) (script_lines l.rest)
      (g.O.Sink.written l.initial.output) (g.O.Sink.written l.output) l.server;
  ready : g.W.Server.ready l.server;
  still : g.O.Sink.faults l.output ≡ g.O.Sink.faults l.initial.output;
}

abbrev pub decreases-lines : goal.decreases-lines
decreases-lines g l = length l.rest

-- What isn't written yet is the end of the bytes, and the rest was appended.
use Rattle.std.proofs.Common.{◌≡◌, ◌≤◌, ◌-◌, length, take, drop}
use Rattle.edge_io.specs.Moved.{Appends}
use Rattle.edge_io.proofs.write.write_all.Given as goal

abbrev pub invariant-loop-rest : goal.invariant-loop-rest
invariant-loop-rest g l = record {
  end : length l.rest ≤ length l.bytes;
  rest : l.rest ≡ drop (length l.bytes - length l.rest) l.bytes;
  front : Appends (take (length l.bytes - length l.rest) l.bytes)
      (g.O.Sink.written l.initial.sink) (g.O.Sink.written l.sink);
  still : g.O.Sink.faults l.sink ≡ g.O.Sink.faults l.initial.sink;
}

abbrev pub decreases-loop-rest : goal.decreases-loop-rest
decreases-loop-rest g l = length l.rest

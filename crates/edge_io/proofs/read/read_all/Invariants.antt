-- What was read so far is the front of what was left, and fits the limit.
use Rattle.std.proofs.Common.{◌≡◌, ◌+◌, ◌-◌, ◌≤◌, vec_len}
use Rattle.edge_io.specs.Moved.{GaveFront}
use Rattle.edge_io.proofs.read.read_all.Given as goal

abbrev pub invariant-loop-count : goal.invariant-loop-count
invariant-loop-count g l = record {
  front : GaveFront l.bytes.items (g.S.Source.left l.initial.source) (g.S.Source.left l.source);
  within : vec_len l.bytes ≤ l.limit;
  still : g.S.Source.faults l.source ≡ g.S.Source.faults l.initial.source;
}

abbrev pub decreases-loop-count : goal.decreases-loop-count
decreases-loop-count g l = l.limit + 1 - vec_len l.bytes

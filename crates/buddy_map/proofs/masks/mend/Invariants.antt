use Rattle.std.proofs.Common.{◌+◌}
use Rattle.buddy_map.specs.Tree.{IsMended}
use Rattle.buddy_map.proofs.Mending.{IsRow}
use Rattle.buddy_map.proofs.masks.mend.Given as goal

-- the rows below are mended
abbrev pub invariant-loop-order : goal.invariant-loop-order
invariant-loop-order l = record {
  row : IsRow l.whole l.first l.n l.order l.low l.high;
  mended : IsMended l.pages l.whole l.first l.n (l.order + 1) l.masks;
}

use Rattle.std.proofs.Common.{◌≡◌, ◌-◌, ◌*◌, ◌^◌, ◌<◌, ◌≤◌, List, Bool}
use Rattle.std.specs.Int.{bit_at}
use Rattle.std.specs.Prelude.{slice_index}
use Rattle.buddy_map.specs.Tree.{AreMasks}
use Rattle.buddy_map.proofs.Descent.{IsOnWay}
use Rattle.buddy_map.proofs.masks.leftmost.Given as goal

-- the part is on the way
abbrev pub invariant-loop-depth : goal.invariant-loop-depth
invariant-loop-depth l = record {
  from : 2 ^ l._depth ≤ l.part;
  to : l.part < 2 * 2 ^ l._depth;
  way : (free : List Bool) → AreMasks free l.whole l.masks → bit_at (slice_index l.masks 1) l.order ≡ 1 →
      IsOnWay free l.order (l.whole - l._depth) (l.part - 2 ^ l._depth);
}

use Rattle.std.proofs.Common.{◌≡◌, ◌+◌, ◌-◌, ◌*◌, ◌/◌, None, IsTrue, take}
use Rattle.fault_count.specs.Counts.{Reads}
use Rattle.geometry_model.specs.Numbers.{fan_out}
use Rattle.image_model.specs.Checks.{each}
use Rattle.image_check.specs.Owners.{owned}
use Rattle.image_check.specs.Verdicts.{Judged, check_named}
use Rattle.image_check.specs.Rooms.{KeepsRoom}
use Rattle.image_check.proofs.tree.+walk.Given as goal

-- a node's pairs are of the level below it
abbrev pub decreases-check_named : goal.decreases-check_named
decreases-check_named g l = 2 * l.named.level + 1

abbrev pub decreases-check_pairs : goal.decreases-check_pairs
decreases-check_pairs g l = 2 * l.level

abbrev pub invariant-check_pairs-loop-pair : goal.invariant-check_pairs-loop-pair
invariant-check_pairs-loop-pair g l = record {
  judged : Judged (IsTrue g.P.S.Span.tells) l.geometry l.held l.tree.object l.fn.walk l.walk None
      (λ bytes. each (check_named l.geometry bytes l.tree.object l.tree.threshold (l.fn.level - 1) (fan_out l.geometry / 2))
      (take l.pair-index l.pairs));
  room : KeepsRoom l.geometry.page l.fn.path l.path;
  reads : Reads (owned l.walk - owned l.fn.walk) (g.P.Port.meter l.fn.port) (g.P.Port.meter l.port);
  quiet : (g.P.Port.meter l.port).faults ≡ (g.P.Port.meter l.fn.port).faults;
}

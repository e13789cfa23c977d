use Rattle.std.proofs.Common.{◌≡◌, None, length, take}
use Rattle.geometry_model.specs.Numbers.{pages}
use Rattle.span_store.specs.Held.{Held}
use Rattle.image_model.specs.Checks.{check_segment, each}
use Rattle.image_check.specs.Owners.{IsMarked}
use Rattle.image_check.specs.Verdicts.{Judged}
use Rattle.image_check.proofs.segment.check_segments.Given as goal

abbrev pub invariant-loop-pair : goal.invariant-loop-pair
invariant-loop-pair l = record {
  count : length l.walk.owners ≡ pages l.geometry;
  judged : (held : Held) → IsMarked l.geometry held l.fn.walk →
      Judged (Unit {0}) l.geometry held l.tree.object l.fn.walk l.walk None
      (λ bytes. each (check_segment l.geometry bytes l.tree.object l.tree.threshold) (take l.pair-index l.pairs));
}

use Rattle.std.proofs.Common.{◌≡◌, ◌-◌, None, length, take}
use Rattle.std.specs.List.{range_with_len}
use Rattle.geometry_model.specs.Numbers.{pages}
use Rattle.span_store.specs.Held.{Held}
use Rattle.image_model.specs.Checks.{each, meet}
use Rattle.image_check.specs.Owners.{IsMarked}
use Rattle.image_check.specs.Verdicts.{Judged}
use Rattle.image_check.proofs.segment.meet_pages.Given as goal

abbrev pub invariant-loop-page : goal.invariant-loop-page
invariant-loop-page l = record {
  count : length l.walk.owners ≡ pages l.geometry;
  judged : (held : Held) → IsMarked l.geometry held l.fn.walk →
      Judged (Unit {0}) l.geometry held l.object l.fn.walk l.walk None
      (λ bytes. each (meet l.geometry bytes) (take (l.page - l.first) (range_with_len l.first l.count)));
}

use Rattle.std.proofs.Common.{◌≡◌, ◌*◌, ◌≤◌, ap, sym, arith, ◌∙◌}
use Rattle.std.proofs.lemmas.Bool.{false≢true}
use Rattle.geometry_model.specs.Numbers.{space_pages}
use Rattle.object_plan.proofs.tests.planned.Goals.{else-change-via-then-change+else-change-length-3, else-change-via-else-change}
use Rattle.object_plan.proofs.tests.planned.Goals.{else-change-2-via-then-change-2+else-change-ne0, else-change-2-via-else-change-2}
use Rattle.object_plan.proofs.tests.planned.Goals as goal

pub plan_change-requires-clause-change : goal.plan_change-requires-clause-change
plan_change-requires-clause-change c =
    let spaces = ap space_pages c.in-Some.ensures in
    record {
      within = omega arith;
      some = omega arith;
      at_end = λ appends. (
        elim c.else-change.branch [
          | else-change-via-then-change+else-change-length-3 w ↦ omega arith
          | else-change-via-else-change w ↦ absurd (false≢true (sym w.if-change.false ∙ appends))
        ],
        elim c.else-change-2.branch [
          | else-change-2-via-then-change-2+else-change-ne0 w ↦ omega arith
          | else-change-2-via-else-change-2 w ↦ absurd (false≢true (sym w.if-change-2.false ∙ appends))
        ],
      );
      fits = omega arith;
      threshold_low = omega arith;
      threshold_high = omega (arith, spaces);
    }

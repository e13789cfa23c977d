use Rattle.std.proofs.Common.{◌≡◌, ◌-◌, ◌≤◌, ◌++◌, map}
use Rattle.layout_model.specs.Parts.{pieces}
use Rattle.edit_parts.specs.declared.part.Part.TheVariants.{Make}
use Rattle.edit_plan.specs.Cuts.{stretches}
use Rattle.edit_plan.proofs.PlanLemmas.{fresh}
use Rattle.edit_plan.proofs.planning.make.Given as goal

abbrev pub invariant-loop-from : goal.invariant-loop-from
invariant-loop-from l = record {
  within : l.from ≤ l.total;
  made : l.parts ++ map Make (stretches l.page l.from (pieces l.most (l.total - l.from)) (fresh l.fn.given l.fn.head))
      ≡ l.fn.parts ++ map Make (stretches l.page 0 (pieces l.most l.total) (fresh l.fn.given l.fn.head));
}

abbrev pub decreases-loop-from : goal.decreases-loop-from
decreases-loop-from l = l.total - l.from

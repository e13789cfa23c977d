use Rattle.std.proofs.Common.{◌≡◌, ◌-◌, ◌≤◌, ◌++◌, drop, map}
use Rattle.edit_parts.specs.declared.part.Part.TheVariants.{Make}
use Rattle.edit_plan.specs.Cuts.{lengths_on, stretches}
use Rattle.edit_plan.proofs.cutting.cut_all.Given as goal

abbrev pub invariant-loop-count : goal.invariant-loop-count
invariant-loop-count l = record {
  within : l.from ≤ l.total;
  cut : l.parts ++ map Make (stretches l.page l.from (lengths_on l.page (l.total - l.from) (drop l.count-index l.pages)) l.pieces)
      ≡ map Make (stretches l.page 0 (lengths_on l.page l.total l.pages) l.pieces);
}

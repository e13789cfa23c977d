use Rattle.std.proofs.Common.{◌≡◌, map, drop}
use Rattle.layout_model.specs.Plan.{made_part_bytes}
use Rattle.edit_parts.specs.Parts.{layout_part}
use Rattle.object_plan.specs.Asked.{AreCounted, only_one}
use Rattle.object_plan.proofs.CodeLemmas.{then_one}
use Rattle.object_plan.proofs.asking.only_made.Given as goal

-- what is left decides, once some are passed
abbrev pub invariant-loop-part : goal.invariant-loop-part
invariant-loop-part l = record {
  same : only_one (made_part_bytes (map layout_part l.parts))
      ≡ then_one l.found (made_part_bytes (map layout_part (drop l.part-index l.parts)));
  few : AreCounted (made_part_bytes (map layout_part (drop l.part-index l.parts)));
}

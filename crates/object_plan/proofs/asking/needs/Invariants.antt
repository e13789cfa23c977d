use Rattle.std.proofs.Common.{◌≡◌, ◌≤◌, ◌++◌, map, drop}
use Rattle.std.specs.List.{AllByRecursion}
use Rattle.tree_model.specs.Tree.{page_count}
use Rattle.layout_model.specs.Plan.{made_part_bytes}
use Rattle.edit_parts.specs.Parts.{layout_part}
use Rattle.object_plan.specs.Asked.{AreCounted, just}
use Rattle.object_plan.proofs.asking.needs.Given as goal

-- with those of the parts that are left they are all
abbrev pub invariant-loop-part : goal.invariant-loop-part
invariant-loop-part l = record {
  same : l.list.items ++ map just (map (page_count l.page) (made_part_bytes (map layout_part (drop l.part-index l.parts))))
      ≡ map just (map (page_count l.page) (made_part_bytes (map layout_part l.parts)));
  few : AreCounted (made_part_bytes (map layout_part (drop l.part-index l.parts)));
  fit : AllByRecursion (λ bytes. page_count l.page bytes ≤ l.limit) (made_part_bytes (map layout_part (drop l.part-index l.parts)));
}

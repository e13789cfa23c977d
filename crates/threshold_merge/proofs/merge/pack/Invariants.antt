use Rattle.std.proofs.Common.{◌≡◌, List, ◌++◌, map}
use Rattle.layout_model.specs.declared.part.Part as layout
use Rattle.layout_model.specs.Pack.{pack}
use Rattle.edit_parts.specs.Parts.{layout_part, pieces_of}
use Rattle.threshold_merge.specs.Passed.{then_packed}
use Rattle.threshold_merge.proofs.merge.pack.Given as goal

abbrev pub invariant-loop-part : goal.invariant-loop-part
invariant-loop-part l = record {
  packed : (rest : List layout.Part) → then_packed l.page l.threshold (map layout_part l.packed) rest
      ≡ pack l.page l.threshold (map layout_part l.yielded ++ rest);
  pieces : pieces_of l.packed ≡ pieces_of l.yielded;
}

use Rattle.std.proofs.Common.{◌≡◌, ℕ, ◌+◌, ◌*◌, ◌<◌, ◌≤◌}
use Rattle.std.specs.Prelude.{◌⊎◌, slice_index}
use Rattle.buddy_map.specs.Tree.{joined_mask}
use Rattle.buddy_map.proofs.masks.mend_row.Given as goal

-- the parts before x are mended
abbrev pub invariant-loop-x : goal.invariant-loop-x
invariant-loop-x l = record {
  mended : (y : ℕ) → l.low ≤ y → y < l.x →
      slice_index l.masks y ≡ joined_mask l.half (slice_index l.fn.masks (2 * y)) (slice_index l.fn.masks (2 * y + 1));
  beside : (y : ℕ) → (y < l.low) ⊎ (l.x ≤ y) → slice_index l.masks y ≡ slice_index l.fn.masks y;
}

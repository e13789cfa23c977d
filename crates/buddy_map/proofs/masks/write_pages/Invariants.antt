use Rattle.std.proofs.Common.{◌≡◌, ℕ, ◌+◌, ◌<◌, ◌≤◌, length}
use Rattle.std.specs.Prelude.{◌⊎◌, slice_index, if◌then◌else◌}
use Rattle.block_model.specs.Block.{has_page}
use Rattle.buddy_map.proofs.masks.write_pages.Given as goal

-- the pages so far are written
abbrev pub invariant-loop-page : goal.invariant-loop-page
invariant-loop-page l = record {
  written : (k : ℕ) → l.first ≤ k → k < l.page → slice_index l.masks (length l.pages + k) ≡ (if has_page l.pages k then 1 else 0);
  beside : (x : ℕ) → (x < length l.pages + l.first) ⊎ (length l.pages + l.page ≤ x) → slice_index l.masks x ≡ slice_index l.fn.masks x;
}

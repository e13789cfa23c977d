-- The bounds of objects in trees of segments: on the pages that an edit may be refused and may
-- write, and on those that a read may read.
use Rattle.std.specs.Prelude.{ℕ, ◌*◌, ◌<◌, ◌≤◌, length, Some, None, IfSome}
use Rattle.eos_ops.specs.declared.edit.Edit.{Edit}
use Rattle.geometry_model.specs.Numbers.{Numbers}
use Rattle.moment_model.specs.Costs.{added_most, cost, read_cost}
use Rattle.moment_model.specs.Moment.{ObjectSlot}
use Rattle.moment_model.specs.Version.{Version}
use Rattle.edit_content_laws.specs.Brought.{brought}

-- the levels of a version's tree, and its threshold; 0 where it is absent
abbrev pub version_height : Version → ℕ
version_height None = 0
version_height (Some tree) = length tree.levels

abbrev pub version_threshold : Version → ℕ
version_threshold None = 0
version_threshold (Some tree) = tree.threshold

-- an edit may be refused a page, or fewer pages than twice the threshold
pub record TreeMayRefuse (n : Numbers) (slot : ObjectSlot) (pages : ℕ) : Type 0 where
  pub some : 1 ≤ pages
  pub most : pages < 2 * version_threshold slot.working

-- an edit may write what it costs by the height before it, with as many pieces more as halving may
-- add
pub record TreeMayWrite (n : Numbers) (old : ObjectSlot) (edit : Edit) (new : ObjectSlot)
    (pages : ℕ) : Type 0 where
  pub added : ℕ
  pub few : added ≤ added_most n (length (brought edit)) (version_threshold old.working)
  pub most : pages ≤ cost n (length (brought edit)) (version_height old.working)
      (version_threshold old.working) added

-- a read of so many bytes may read what it costs
abbrev pub tree_may_read : Numbers → ObjectSlot → ℕ → ℕ → Type 0
tree_may_read n slot count pages = IfSome slot.working
    (λ tree. pages ≤ read_cost n count (length tree.levels) tree.threshold)

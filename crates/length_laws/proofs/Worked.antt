-- Worked edits of a tree of two segments, 700 bytes on 256-byte pages, out of a space of sixteen pages.
use Rattle.std.proofs.Common.{◌≡◌, true, false, refl, Some, None, [], ◌∷◌, replicate}
use Rattle.geometry_model.specs.Numbers.{Numbers}
use Rattle.block_model.specs.Place.{place}
use Rattle.eos_ops.specs.declared.edit.Edit.TheVariants.{Insert, Delete}
use Rattle.layout_model.specs.Grants.{Spaces}
use Rattle.layout_model.specs.Layout.{Tree, granted, laid}
use Rattle.layout_model.specs.Levels.{spliced}
use Rattle.layout_model.specs.Plan.{planned}
use Rattle.moment_model.specs.Moment.{ObjectSlot}
use Rattle.moment_model.specs.Version.{version_bytes}
use Rattle.moment_model.specs.Edit.{edited_slot}
use Rattle.moment_model.specs.Run.{slot_got}

abbrev small : Numbers
small = record { page = 256; order = 4; spaces = 1; catalog = 1; threshold = 2 }

abbrev two_segments : Tree
two_segments = record {
  levels = (record { page = 9; pairs = record { bytes = 512; page = 3 } ∷ record { bytes = 188; page = 5 } ∷ [] } ∷ []) ∷ [];
  threshold = 2;
}

abbrev being_edited : ObjectSlot
being_edited = record { committed = Some two_segments; working = Some two_segments; spare = None }

-- pages 3 to 5 and 9 are in use
abbrev sixteen : Spaces
sixteen = (false ∷ false ∷ false ∷ true ∷ true ∷ true ∷ false ∷ replicate 9 true) ∷ []

inserted : version_bytes (slot_got (edited_slot small 0 sixteen being_edited (Insert 300 (1 ∷ 2 ∷ 3 ∷ [])))).working ≡ Some 703
unfolding edited_slot granted laid planned spliced place
inserted = refl

deleted : version_bytes (slot_got (edited_slot small 0 sixteen being_edited (Delete 100 500))).working ≡ Some 200
unfolding edited_slot granted laid planned spliced place
deleted = refl

-- past the end nothing changes
past_the_end : version_bytes (slot_got (edited_slot small 0 sixteen being_edited (Delete 600 101))).working ≡ Some 700
unfolding edited_slot granted laid planned spliced place
past_the_end = refl

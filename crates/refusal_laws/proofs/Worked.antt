-- Worked refusals: of sixteen pages only single ones are free, so neither five pages nor their halves have a place.
use Rattle.std.proofs.Common.{◌≡◌, ℕ, true, false, refl, Bool, Option, Some, None, List, [], ◌∷◌}
use Rattle.geometry_model.specs.Numbers.{Numbers}
use Rattle.block_model.specs.Place.{place}
use Rattle.eos_ops.specs.declared.edit.Edit.TheVariants.{Append, Insert}
use Rattle.std.specs.Prelude.{replicate}
use Rattle.layout_model.specs.Grants.{Spaces, halved}
use Rattle.layout_model.specs.Layout.{Tree, granted}
use Rattle.layout_model.specs.Levels.{spliced}
use Rattle.layout_model.specs.Plan.{planned}
use Rattle.moment_model.specs.Moment.{ObjectSlot}
use Rattle.moment_model.specs.Edit.{edited_slot}
use Rattle.refusal_laws.specs.Refusal.{refused_slot}

abbrev small : Numbers
small = record { page = 256; order = 4; spaces = 1; catalog = 1; threshold = 2 }

-- every other page is free
abbrev every_other : Spaces
every_other = (false ∷ true ∷ false ∷ true ∷ false ∷ true ∷ false ∷ true ∷ false ∷ true ∷ false ∷ true ∷ false
    ∷ true ∷ false ∷ true ∷ []) ∷ []

-- an object of one entry of a full page, on page 3 under a root on page 5
abbrev one_page : ObjectSlot
one_page = record {
  committed = None;
  working = Some (record { levels = (record { page = 5; pairs = record { bytes = 512; page = 3 } ∷ [] } ∷ []) ∷ []; threshold = 2 });
  spare = None;
}

-- five pages are halved into three and two, three pages aren't halved: three are refused
five_pages : edited_slot small 0 every_other one_page (Append (replicate 1280 1)) ≡ refused_slot 3
unfolding edited_slot granted planned spliced place
five_pages = refl

-- more steps make no difference
steps_enough : halved 5 small 0 2 5 every_other ≡ halved 9 small 0 2 5 every_other
unfolding place
steps_enough = refl

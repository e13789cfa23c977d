-- A worked change: of two committed segments the second is cut down to its first page, so its other page and the old
-- root are locked; the same of an object that was never committed leaves them free.
use Rattle.std.proofs.Common.{◌≡◌, true, false, refl, Some, None, [], ◌∷◌, replicate}
use Rattle.geometry_model.specs.Numbers.{Numbers}
use Rattle.layout_model.specs.declared.change.Change.{Change}
use Rattle.layout_model.specs.Grants.{Spaces}
use Rattle.layout_model.specs.Layout.{Tree, Grants, laid}
use Rattle.layout_model.specs.Levels.{spliced}
use Rattle.layout_model.specs.Plan.{planned}
use Rattle.moment_model.specs.Moment.{ObjectSlot, is_free, is_locked}
use Rattle.moment_model.specs.Version.{Version}
use Rattle.soundness_laws.specs.LetGo.{laid_slot}
use Rattle.let_go_laws.specs.LetGo.{is_dropped, dropped_runs}

abbrev small : Numbers
small = record { page = 256; order = 4; spaces = 1; catalog = 1; threshold = 2 }

-- 512 bytes on pages 3 and 4, and 512 on pages 5 and 6, under a root on page 9
abbrev two_segments : Tree
two_segments = record {
  levels = (record { page = 9; pairs = record { bytes = 512; page = 3 } ∷ record { bytes = 512; page = 5 } ∷ [] } ∷ []) ∷ [];
  threshold = 2;
}

-- pages 3 to 6 and 9 are in use
abbrev sixteen : Spaces
sixteen = (false ∷ false ∷ false ∷ false ∷ true ∷ true ∷ false ∷ replicate 9 true) ∷ []

-- the last page goes
abbrev cut_down : Change
cut_down = record { at = 768; removed = 256; added = 0; appends = false }

-- a page for the new root is granted
abbrev one_node : Grants
one_node = record { runs = []; pages = 7 ∷ [] }

abbrev edited : Version → ObjectSlot
edited committed = record { committed = committed; working = Some two_segments; spare = None }

-- the second segment and the old root are in the dropped runs
runs_are : dropped_runs small two_segments None cut_down (record { page = 9; pages = 1 } ∷ [])
    ≡ record { page = 5; pages = 2 } ∷ record { page = 9; pages = 1 } ∷ []
unfolding planned
runs_are = refl

page_six : is_dropped small 6 (edited None) (laid_slot (edited None) (laid small two_segments None cut_down one_node)) ≡ true
unfolding laid planned spliced
page_six = refl

-- page 5 stays in use
page_five : is_dropped small 5 (edited None) (laid_slot (edited None) (laid small two_segments None cut_down one_node)) ≡ false
unfolding laid planned spliced
page_five = refl

locked_after_it : is_locked small 6 (laid_slot (edited (Some two_segments)) (laid small two_segments None cut_down one_node) ∷ []) ≡ true
unfolding laid planned spliced
locked_after_it = refl

free_after_it : is_free small 9 (laid_slot (edited None) (laid small two_segments None cut_down one_node) ∷ []) ≡ true
unfolding laid planned spliced
free_after_it = refl

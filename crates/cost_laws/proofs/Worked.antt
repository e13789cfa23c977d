-- Worked costs: an append whose part is halved, one that gets a spare, and rows of bytes that meet as many segments as the
-- bound allows. There are 256 bytes a page and one space of 16 pages, from page 3 on. The object is two full pages from
-- page 3 on under a root on page 5, with threshold 2.
use Rattle.std.proofs.Common.{◌≡◌, ℕ, ◌+◌, true, false, refl, None, List, [], ◌∷◌, ◌++◌, length, replicate}
use Rattle.geometry_model.specs.Numbers.{Numbers}
use Rattle.block_model.specs.Place.{place}
use Rattle.tree_model.specs.declared.entry.Pair.{Pair}
use Rattle.tree_model.specs.Range.{in_range}
use Rattle.layout_model.specs.declared.change.Change.{Change}
use Rattle.layout_model.specs.declared.extent.Extent.{Extent}
use Rattle.layout_model.specs.Grants.{Spaces}
use Rattle.layout_model.specs.Layout.{Tree, Grants, granted, laid}
use Rattle.layout_model.specs.Levels.{spliced}
use Rattle.layout_model.specs.Plan.{planned, extent_pages}
use Rattle.layout_laws.specs.Halving.{runs_pages}
use Rattle.moment_model.specs.Costs.{added_most, segments_met}
use Rattle.moment_laws.specs.Granting.{got_grants, granted_runs}
use Rattle.cost_laws.specs.ChangeCost.{added_pieces, change_cost, written_pages}

abbrev small : Numbers
small = record { page = 256; order = 4; spaces = 1; catalog = 1; threshold = 2 }

abbrev pair : ℕ → ℕ → Pair
pair bytes page = record { bytes = bytes; page = page }

abbrev run : ℕ → ℕ → Extent
run page pages = record { page = page; pages = pages }

abbrev two_pages : Tree
two_pages = record { levels = (record { page = 5; pairs = pair 512 3 ∷ [] } ∷ []) ∷ []; threshold = 2 }

abbrev append : ℕ → Change
append added = record { at = 512; removed = 0; added = added; appends = true }

-- ---- halved: of seven free pages no block holds the five that are needed, but blocks of four and two pages hold three and two

abbrev seven_free : Spaces
seven_free = (replicate 3 false ++ (replicate 7 true ++ replicate 6 false)) ∷ []

abbrev halves : Grants
halves = record { runs = (run 7 3 ∷ run 11 2 ∷ []) ∷ []; pages = 6 ∷ [] }

halves-granted : granted small 0 two_pages None (append 1280) seven_free
    ≡ got_grants halves ((replicate 7 false ++ true ∷ replicate 8 false) ∷ [])
unfolding granted planned spliced place
halves-granted = refl

-- one piece was added, of at most eight
halves-added : added_pieces halves ≡ 1
halves-added = refl

halves-most : added_most small 1280 2 ≡ 8
halves-most = refl

-- five pages and a node are written, of at most 35
halves-written : written_pages small two_pages None (append 1280) halves ≡ 6
unfolding planned
halves-written = refl

halves-cost : change_cost small two_pages (append 1280) halves ≡ 35
halves-cost = refl

-- ---- a wish for twice the last segment: four pages are granted and one is needed, so three are the spare

abbrev with_wish : Grants
with_wish = record { runs = (run 7 4 ∷ []) ∷ []; pages = 6 ∷ [] }

wish-granted : granted small 0 two_pages None (append 256) ((replicate 3 false ++ replicate 13 true) ∷ [])
    ≡ got_grants with_wish ((replicate 8 false ++ replicate 8 true) ∷ [])
unfolding granted planned spliced place
wish-granted = refl

wish-written : written_pages small two_pages None (append 256) with_wish ≡ 2
unfolding planned
wish-written = refl

-- the granted pages are those that are written, and the spare
wish-pages : runs_pages (granted_runs with_wish) ≡ 2 + extent_pages (laid small two_pages None (append 256) with_wish).spare
unfolding laid planned spliced
wish-pages = refl

wish-cost : change_cost small two_pages (append 256) with_wish ≡ 30
wish-cost = refl

-- ---- rows of bytes that meet as many segments as the bound allows

abbrev segments : List Pair
segments = pair 257 3 ∷ pair 1 5 ∷ pair 257 6 ∷ pair 1 8 ∷ pair 257 9 ∷ []

-- three bytes, the last of a segment, the only one of the next, and the first of a third
three-met : length (in_range 256 259 0 segments) ≡ segments_met small 3 2
three-met = refl

three-are : segments_met small 3 2 ≡ 3
three-are = refl

-- 261 bytes, with a whole large segment among them
five-met : length (in_range 256 517 0 segments) ≡ segments_met small 261 2
five-met = refl

five-are : segments_met small 261 2 ≡ 5
five-are = refl

-- Worked windows: an exchange inside the third of five segments, an append behind them, and the searches that find
-- them.
use Rattle.std.proofs.Common.{◌≡◌, ℕ, true, false, refl, List, [], ◌∷◌, None}
use Rattle.geometry_model.specs.Numbers.{Numbers}
use Rattle.tree_model.specs.declared.entry.Pair.{Pair}
use Rattle.tree_model.specs.declared.entry.Placed.{Placed}
use Rattle.tree_model.specs.Range.{placed}
use Rattle.layout_model.specs.declared.change.Change.{Change}
use Rattle.layout_model.specs.declared.fit.Fit.TheVariants.{Extend, Fresh}
use Rattle.layout_model.specs.declared.part.Part.TheVariants.{Keep, Make}
use Rattle.layout_model.specs.Parts.{count_ended, count_begun}
use Rattle.layout_model.specs.Plan.{Plan, planned}
use Rattle.layout_model.specs.Layout.{Tree, plan_of, wanted}
use Rattle.window_laws.specs.Searches.{met_around, with_neighbours}
use Rattle.window_laws.specs.Window.{window_start, window_at, moved, shifted, wanted_behind}

-- one space of 16 pages of 256 bytes
abbrev small : Numbers
small = record { page = 256; order = 4; spaces = 1; catalog = 1; threshold = 2 }

abbrev pair : ℕ → ℕ → Pair
pair bytes page = record { bytes = bytes; page = page }

-- five segments of two pages, two pages, four pages, one page and three pages
abbrev five : List Pair
five = pair 512 3 ∷ pair 400 5 ∷ pair 1024 7 ∷ pair 200 11 ∷ pair 768 12 ∷ []

-- the third segment begins at byte 912, where two end and two begin before it
border-ended : count_ended 912 five ≡ 2
border-ended = refl

border-begun : count_begun 912 five ≡ 2
border-begun = refl

-- 300 bytes from inside the third segment on are exchanged for 10
abbrev within : Change
within = record { at = 1200; removed = 300; added = 10; appends = false }

-- the window is the second, third and fourth segment, from byte 512 on
within-window : window_at five 1200 300 ≡ pair 400 5 ∷ pair 1024 7 ∷ pair 200 11 ∷ []
within-window = refl

within-start : window_start 1200 five ≡ 512
within-start = refl

-- Its plan on the window, and the plan on all entries: the same with one entry more in front. The 190 bytes up to the
-- next border and the page behind them have one page each and are merged, and then the fourth segment stays.
abbrev within_plan : Plan
within_plan = record {
  from = 1;
  count = 1;
  parts = Keep (pair 288 7) ∷ Make 446 ∷ [];
  fit = Fresh;
}

within-on_window : planned small 2 (window_at five 1200 300) 0 (moved 512 within) ≡ within_plan
unfolding planned
within-on_window = refl

within-whole : planned small 2 five 0 within ≡ shifted 1 within_plan
unfolding planned
within-whole = refl

-- a page is put behind the last segment, whose last page is full and has a spare page behind it
abbrev behind : Change
behind = record { at = 2904; removed = 0; added = 256; appends = true }

-- the window is the last segment alone, and tells that it grows
behind-window : window_at five 2904 0 ≡ pair 768 12 ∷ []
behind-window = refl

abbrev behind_plan : Plan
behind_plan = record { from = 0; count = 1; parts = Keep (pair 1024 12) ∷ []; fit = Extend }

behind-on_window : planned small 2 (window_at five 2904 0) 1 (moved 2136 behind) ≡ behind_plan
unfolding planned
behind-on_window = refl

behind-whole : planned small 2 five 1 behind ≡ shifted 4 behind_plan
unfolding planned
behind-whole = refl

-- five pages are put there: the tail asks for twice the three pages of the last segment, as the window tells
abbrev wide : Change
wide = record { at = 2904; removed = 0; added = 1280; appends = true }

abbrev tree : Tree
tree = record { levels = (record { page = 20; pairs = five } ∷ []) ∷ []; threshold = 2 }

wide-asks : wanted small tree wide (plan_of small tree None wide) ≡ record { want = 6; need = 5 } ∷ []
unfolding planned
wide-asks = refl

wide-asks_behind : wanted_behind small (window_at five 2904 0) wide (planned small 2 (window_at five 2904 0) 0 (moved 2136 wide))
    ≡ record { want = 6; need = 5 } ∷ []
unfolding planned
wide-asks_behind = refl

abbrev at : ℕ → Pair → Placed
at start segment = record { start = start; pair = segment }

-- the search around the exchange meets the third segment alone, inside which both its ends lie
within-met : met_around five 1200 300 ≡ at 912 (pair 1024 7) ∷ []
within-met = refl

-- and the two more find its neighbours
within-found : with_neighbours five 1200 300 (met_around five 1200 300)
    ≡ at 512 (pair 400 5) ∷ at 912 (pair 1024 7) ∷ at 1936 (pair 200 11) ∷ []
within-found = refl

-- from a border on into the third segment: the search meets the second one itself, and one more finds the fourth
border-met : met_around five 912 100 ≡ at 512 (pair 400 5) ∷ at 912 (pair 1024 7) ∷ []
border-met = refl

border-found : with_neighbours five 912 100 (met_around five 912 100) ≡ placed 512 (pair 400 5 ∷ pair 1024 7 ∷ pair 200 11 ∷ [])
border-found = refl

-- at the end of the object the search meets the last segment, and nothing is behind it
behind-found : with_neighbours five 2904 0 (met_around five 2904 0) ≡ at 2136 (pair 768 12) ∷ []
behind-found = refl

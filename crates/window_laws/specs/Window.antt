-- The window of a change: the few entries around its place that its plan is made from.
use Rattle.std.specs.Prelude.{ℕ, ◌+◌, ◌-◌, List, [], map, take, drop}
use Rattle.geometry_model.specs.Numbers.{Numbers, space_pages}
use Rattle.tree_model.specs.declared.entry.Pair.{Pair}
use Rattle.tree_model.specs.Tree.{bytes_of, page_count}
use Rattle.layout_model.specs.Parts.{count_ended, count_begun}
use Rattle.layout_model.specs.declared.change.Change.{Change}
use Rattle.layout_model.specs.declared.fit.Fit.TheVariants.{Fresh}
use Rattle.layout_model.specs.declared.request.Request.{Request}
use Rattle.layout_model.specs.Plan.{Plan, last_entry, made_part_bytes}
use Rattle.layout_model.specs.Layout.{requests}

-- how many entries stand before the last one that ends at `at` or before it
abbrev pub window_from : ℕ → List Pair → ℕ
window_from at entries = count_ended at entries - 1

-- the bytes of these entries, which is where the window begins
abbrev pub window_start : ℕ → List Pair → ℕ
window_start at entries = bytes_of (take (window_from at entries) entries)

-- from the entry before the place to the one after what is removed, where there are such
abbrev pub window_at : List Pair → ℕ → ℕ → List Pair
window_at entries at removed =
    take (count_begun (at + removed) entries + 1 - window_from at entries)
    (drop (window_from at entries) entries)

-- the change with its place counted from a later byte
abbrev pub moved : ℕ → Change → Change
moved start change = record {
  at = change.at - start;
  removed = change.removed;
  added = change.added;
  appends = change.appends;
}

-- the plan with its entries counted from an earlier one
abbrev pub shifted : ℕ → Plan → Plan
shifted entries plan = record {
  from = entries + plan.from;
  count = plan.count;
  parts = plan.parts;
  fit = plan.fit;
}

-- what a plan asks for behind these entries: an append wishes for twice the pages of their last one
abbrev pub wanted_behind : Numbers → List Pair → Change → Plan → List Request
wanted_behind n entries change plan =
    elim plan.fit [
      | Fresh ↦ requests change.appends (page_count n.page (last_entry entries).bytes)
          (space_pages n) (map (page_count n.page) (made_part_bytes plan.parts))
      | _ ↦ []
    ]

-- The plan of a change: which entries are replaced, and by which parts. An append may grow the
-- tail, that is, use the spare pages behind the last segment.
use Rattle.std.specs.Prelude.{ℕ, ◌+◌, ◌-◌, ◌*◌, ◌%◌, min, max, Bool, true, false, Option, Some}
use Rattle.std.specs.Prelude.{None, List, [], ◌∷◌, length, take, drop, nat_eq, nat_le}
use Rattle.std.specs.Prelude.{if◌then◌else◌}
use Rattle.geometry_model.specs.Numbers.{Numbers, space_pages}
use Rattle.tree_model.specs.declared.entry.Pair.{Pair}
use Rattle.tree_model.specs.Tree.{page_count}
use Rattle.layout_model.specs.Parts.{parts_of, count_ended, count_begun, one_before, one_after}
use Rattle.layout_model.specs.declared.change.Change.{Change}
use Rattle.layout_model.specs.declared.extent.Extent.{Extent}
use Rattle.layout_model.specs.declared.fit.Fit.{Fit}
use Rattle.layout_model.specs.declared.fit.Fit.TheVariants.{Extend, Follow, Fresh}
use Rattle.layout_model.specs.declared.part.Part.{Part}
use Rattle.layout_model.specs.declared.part.Part.TheVariants.{Keep, Make}
use Rattle.layout_model.specs.Pack.{pack}

-- a run of pages, and none where it has no page
abbrev pub extent : ℕ → ℕ → Option Extent
extent page pages = if nat_eq pages 0 then None else Some (record { page = page; pages = pages })

abbrev pub extent_pages : Option Extent → ℕ
extent_pages None = 0
extent_pages (Some run) = run.pages

-- the run without its first pages
abbrev pub past : ℕ → Option Extent → Option Extent
past pages None = None
past pages (Some run) = extent (run.page + pages) (run.pages - pages)

-- the rule for a need of pages, where the last page of the last segment is full or not
abbrev pub fit_of : ℕ → ℕ → Bool → Fit
fit_of need spare full = if nat_le need spare then (if full then Extend else Follow) else Fresh

-- the pages that an append asks for: what it needs, or twice the last segment up to the limit
abbrev pub ask_of : ℕ → ℕ → ℕ → ℕ
ask_of need last limit = max need (min (2 * last) limit)

-- which entries are replaced, the parts in their place, and how these meet the spare pages
pub record Plan : Type 0 where
  pub from : ℕ
  pub count : ℕ
  pub parts : List Part
  pub fit : Fit

abbrev pub is_kept : Part → Bool
is_kept (Keep pair) = true
is_kept (Make bytes) = false

-- is the first part a kept one? No part is none
abbrev pub begins_kept : List Part → Bool
begins_kept [] = false
begins_kept (part ∷ rest) = is_kept part

abbrev pub ends_kept : List Part → Bool
ends_kept [] = false
ends_kept (part ∷ []) = is_kept part
ends_kept (part ∷ next ∷ rest) = ends_kept (next ∷ rest)

-- the bytes of the parts that are made
abbrev pub made_part_bytes : List Part → List ℕ
made_part_bytes [] = []
made_part_bytes (Keep pair ∷ rest) = made_part_bytes rest
made_part_bytes (Make bytes ∷ rest) = bytes ∷ made_part_bytes rest

-- where there is just one made part, an append puts it on the spare pages that have room for it
abbrev pub fit_made : ℕ → Bool → ℕ → List ℕ → Fit
fit_made size appends spare [] = Fresh
fit_made size appends spare (bytes ∷ []) =
    if appends then fit_of (page_count size bytes) spare false else Fresh
fit_made size appends spare (bytes ∷ more ∷ rest) = Fresh

-- 1 where there is an entry here and it was merged
abbrev pub merged_one : List Pair → Bool → ℕ
merged_one [] kept = 0
merged_one (p ∷ ps) kept = if kept then 0 else 1

-- the plan from the merged parts. The entry before the place and the one after it are left out
-- where they weren't merged.
abbrev pub plan_packed : ℕ → List Pair → ℕ → Change → List Part → Plan
plan_packed size entries spare change parts =
    let before = one_before change.at entries in
    let after = one_after (change.at + change.removed) entries in
    let front = length before - merged_one before (begins_kept parts) in
    let back = length after - merged_one after (ends_kept parts) in
    let from = count_ended change.at entries - merged_one before (begins_kept parts) in
    let to = count_begun (change.at + change.removed) entries + merged_one after
    (ends_kept parts) in
    record {
      from = from;
      count = to - from;
      parts = take (length parts - (front + back)) (drop front parts);
      fit = fit_made size change.appends spare (made_part_bytes parts);
    }

-- the last entry, and an entry of no byte where there is none
abbrev pub last_entry : List Pair → Pair
last_entry [] = record { bytes = 0; page = 0 }
last_entry (p ∷ []) = p
last_entry (p ∷ q ∷ rest) = last_entry (q ∷ rest)

-- the last segment grows by the new bytes, on the spare pages behind it
abbrev pub plan_extended : List Pair → Change → Plan
plan_extended entries change = record {
  from = length entries - 1;
  count = 1;
  parts = Keep (record {
    bytes = (last_entry entries).bytes + change.added;
    page =
        (last_entry entries).page;
  }) ∷ [];
  fit = Extend;
}

-- how an append's own bytes meet the spare pages; another change doesn't meet them
abbrev pub fit_appended : ℕ → List Pair → ℕ → Change → Fit
fit_appended size entries spare change =
    if change.appends
    then fit_of (page_count size change.added) spare (nat_eq ((last_entry entries).bytes % size) 0)
    else Fresh

-- the plan of a change of these entries, with `spare` pages behind the last one
unfoldable pub planned : Numbers → ℕ → List Pair → ℕ → Change → Plan
planned n threshold entries spare change =
    elim (fit_appended n.page entries spare change) [
      | Extend ↦ plan_extended entries change
      | _ ↦ plan_packed n.page entries spare change (pack n.page threshold
          (parts_of n.page (space_pages n * n.page) entries change.at change.removed change.added))
    ]

-- What a plan says of a change, from the window around its place, and a cut of a part.
use Rattle.std.specs.Prelude.{◌≡◌, ℕ, ◌+◌, ◌-◌, ◌*◌, ◌^◌, ◌<◌, ◌≤◌, false, List, length, map}
use Rattle.std.specs.List.{AllByRecursion}
use Rattle.geometry_model.specs.Numbers.{Numbers, space_pages, pages}
use Rattle.tree_model.specs.declared.entry.Pair.{Pair}
use Rattle.tree_model.specs.declared.entry.Placed.{Placed}
use Rattle.tree_model.specs.Range.{pairs_of, start_of}
use Rattle.tree_model.specs.Tree.{Pages, page_count}
use Rattle.layout_model.specs.declared.change.Change.{Change}
use Rattle.layout_model.specs.declared.extent.Extent.{Extent}
use Rattle.layout_model.specs.Layout.{segments_on}
use Rattle.layout_model.specs.Parts.{count_begun, count_ended, part_bytes, parts_of}
use Rattle.window_laws.specs.Searches.{end_of}
use Rattle.content_laws.specs.Spelling.{IsThere, edited_content}
use Rattle.edit_parts.specs.declared.part.Part.{Part}
use Rattle.edit_parts.specs.Pieces.{IsFrom, pieces_content}
use Rattle.edit_parts.specs.Parts.{layout_part, pieces_in, pieces_of, parts_content}
use Rattle.edit_plan.specs.Cuts.{made_on}

-- an entry of a store: a byte at least, at most those of a space, on pages of the store
pub record IsEntry (n : Numbers) (p : Pair) : Type 0 where
  pub some : 1 ≤ p.bytes
  pub most : p.bytes ≤ space_pages n * n.page
  pub within : p.page + page_count n.page p.bytes ≤ pages n

-- what a plan asks of a window and a change: the change lies between the window's ends, each
-- segment is one that a store can have, and all numbers fit their types
pub record CanPlan (n : Numbers) (window : List Placed) (at cut given : ℕ) : Type 0 where
  pub first : start_of window ≤ at
  pub last : at + cut ≤ end_of window
  pub fits : end_of window < 2 ^ 64
  pub entries : AllByRecursion (IsEntry n) (pairs_of window)
  pub payload : given < 2 ^ 63

-- a change in a window, its place counted from the window's first byte
abbrev pub change_in : List Placed → ℕ → ℕ → ℕ → Change
change_in window at cut given = record {
  at = at - start_of window;
  removed = cut;
  added = given;
  appends = false;
}

-- no segment stands before the last one that ends at the place, or behind the first that begins at
-- the end of what is cut out
pub record IsTight (window : List Placed) (at cut : ℕ) : Type 0 where
  pub front : count_ended (at - start_of window) (pairs_of window) ≤ 1
  pub back : length (pairs_of window)
      ≤ count_begun (at - start_of window + cut) (pairs_of window) + 1

-- the parts of a change: those of the definition, their bytes are the edited ones of the window,
-- whatever the pages and the payload hold, and each old piece lies in a segment of the window
pub record IsPlan (n : Numbers) (window : List Placed) (at cut given : ℕ) (parts : List Part)
    : Type 0 where
  pub plan : map layout_part parts
      ≡ parts_of n.page (space_pages n * n.page) (pairs_of window) (at - start_of window) cut given
  pub spells : (pages : Pages) (payload : List ℕ) → IsTight window at cut →
      length payload ≡ given → AllByRecursion (IsThere pages n.page) (pairs_of window) →
      parts_content pages n.page payload parts
      ≡ edited_content pages n.page (pairs_of window) (change_in window at cut given) payload
  pub held : AllByRecursion (IsFrom n.page (pairs_of window) given) (pieces_of parts)

-- a part that is cut over runs of so many pages: the new parts have the bytes of the segments on
-- these runs, and together the same bytes, from where they were
pub record IsCut (size : ℕ) (part : Part) (counts : List ℕ) (parts : List Part) : Type 0 where
  pub lengths : (runs : List Extent) → map (λ run. run.pages) runs ≡ counts →
      map layout_part parts ≡ made_on (segments_on size (part_bytes (layout_part part)) runs)
  pub spells : (pages : Pages) (entries : List Pair) (payload : List ℕ) →
      AllByRecursion (IsFrom size entries (length payload)) (pieces_in part) →
      AllByRecursion (IsThere pages size) entries →
      parts_content pages size payload parts ≡ pieces_content pages size payload (pieces_in part)
  pub held : (entries : List Pair) (given : ℕ) →
      AllByRecursion (IsFrom size entries given) (pieces_in part) →
      AllByRecursion (IsFrom size entries given) (pieces_of parts)

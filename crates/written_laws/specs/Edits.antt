-- New parts of an edit between what they were granted and what they are written as.
use Rattle.std.specs.Prelude.{◌≡◌, ℕ, Bool, IsTrue, Option, List, [], length, map, sum}
use Rattle.std.specs.List.{AllByRecursion}
use Rattle.geometry_model.specs.Numbers.{Numbers, space_pages}
use Rattle.tree_model.specs.Tree.{Pages, page_count}
use Rattle.layout_model.specs.declared.extent.Extent.{Extent}
use Rattle.layout_model.specs.declared.fit.Fit.{Fit}
use Rattle.layout_model.specs.declared.fit.Fit.TheVariants.{Extend, Follow, Fresh}
use Rattle.layout_model.specs.declared.request.Request.{Request}
use Rattle.layout_model.specs.Layout.{as_run}
use Rattle.layout_model.specs.Plan.{made_part_bytes}
use Rattle.edit_parts.specs.declared.part.Part.{Part}
use Rattle.edit_parts.specs.declared.piece.Piece.{Piece}
use Rattle.edit_parts.specs.Parts.{layout_part, pieces_of}
use Rattle.edit_parts.specs.Pieces.{piece_bytes, piece_content}
use Rattle.span_store.specs.Held.{Held}
use Rattle.part_store.specs.Asking.{AreOfAll, IsAskable, rows}
use Rattle.part_bytes.specs.Gathering.{CanGather}
use Rattle.part_bytes.specs.Parts.{IsApart}

-- the old bytes of parts are held, and, where the device tells, on pages that are in no run
pub record HaveOldBytes (told : Bool) (size given : ℕ) (parts : List Part) (runs : List Extent)
    (now : Held) : Type 0 where
  pub each : AllByRecursion (CanGather now size given) (pieces_of parts)
  pub apart : IsTrue told → AllByRecursion (IsApart size runs) (pieces_of parts)

-- each new part asked for its pages, and got so many of the runs as its count says
pub record AreGrantedFor (n : Numbers) (threshold : ℕ) (parts : List Part)
    (requests : List Request) (counts : List ℕ) (runs : List Extent) : Type 0 where
  pub needs : map (λ request. request.need) requests
      ≡ map (page_count n.page) (made_part_bytes (map layout_part parts))
  pub asked : AllByRecursion (IsAskable (space_pages n)) requests
  pub whole : sum counts ≡ length runs
  pub each : AreOfAll threshold requests (rows counts (map (λ run. run.pages) runs))

-- a piece has as many bytes as it says
abbrev pub HasItsBytes : Pages → ℕ → List ℕ → Piece → Type 0
HasItsBytes at size payload piece =
    length (piece_content at size payload piece) ≡ piece_bytes piece

-- the runs that the new parts of a change are put on: those that were granted, or the spare where
-- the one new part follows the tail
abbrev pub put_on : Fit → Option Extent → List (List Extent) → List (List Extent)
put_on Fresh spare granted = granted
put_on Follow spare granted = as_run spare
put_on Extend spare granted = []

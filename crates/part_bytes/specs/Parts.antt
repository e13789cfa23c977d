-- What a write of new parts needs, and what it leaves.
use Rattle.std.specs.Prelude.{◌≡◌, ℕ, ◌+◌, ◌^◌, ◌<◌, ◌≤◌, max, Bool, IsTrue, List, [], ◌∷◌, length}
use Rattle.std.specs.Prelude.{map, take, drop, sum, Result, OnOk}
use Rattle.std.specs.List.{AllByRecursion}
use Rattle.fault_count.specs.Counts.{Meter, IsUsed, Reads, Writes, counted}
use Rattle.tree_model.specs.Content.{content}
use Rattle.tree_model.specs.Tree.{Pages, page_count}
use Rattle.layout_model.specs.declared.extent.Extent.{Extent}
use Rattle.layout_model.specs.Layout.{segments_on}
use Rattle.moment_model.specs.Version.{uses}
use Rattle.edit_parts.specs.declared.part.Part.{Part}
use Rattle.edit_parts.specs.declared.part.Part.TheVariants.{Keep, Make}
use Rattle.edit_parts.specs.declared.piece.Piece.{Piece}
use Rattle.edit_parts.specs.declared.piece.Piece.TheVariants.{Old, Given}
use Rattle.edit_parts.specs.Pieces.{pieces_bytes, pieces_content}
use Rattle.span_store.specs.Held.{AllSized, Held, bytes_on}
use Rattle.part_bytes.specs.Gathering.{CanGather, pieces_reads}
use Rattle.part_bytes.specs.Runs.{HoldsRuns, StandOn, ChangesRuns}

-- at most n pages were read, and then at most m were written
pub record ReadsThenWrites (n m : ℕ) (old new : Meter) : Type 0 where
  pub between : Meter
  pub reads : Reads n old between
  pub writes : Writes m between new

-- at most n pages were read and at most m written, in whatever order
pub record ReadsAndWrites (n m : ℕ) (old new : Meter) : Type 0 where
  pub used : IsUsed old new
  pub read : new.read ≤ max old.read (counted old.read n)
  pub written : new.written ≤ max old.written (counted old.written m)

-- What a write of a new part on its runs leaves. Where it went well, and the device tells, the runs
-- hold the bytes that its pieces had, and so do the segments on them. Nothing but the pages of the
-- runs has changed, also after a failure.
pub record HasWrittenPart {E : Type 0} (told : Bool) (size : ℕ) (payload : List ℕ)
    (pieces : List Piece) (runs : List Extent) (result : Result Unit E) (old new : Held)
    (before after : Meter) : Type 0 where
  pub bytes : OnOk result (IsTrue told → StandOn (bytes_on new) size runs
      (pieces_content (bytes_on old) size payload pieces))
  pub segments : OnOk result (IsTrue told
      → content (bytes_on new) size (segments_on size (pieces_bytes pieces) runs)
      ≡ pieces_content (bytes_on old) size payload pieces)
  pub others : ChangesRuns told size runs old new
  pub moves : ReadsThenWrites (pieces_reads size pieces)
      (page_count size (pieces_bytes pieces)) before after

-- no page of an old piece is in one of the runs
abbrev pub IsApart : ℕ → List Extent → Piece → Type 0
IsApart size runs (Old page skip bytes) = (q : ℕ) → page ≤ q →
    q < page + page_count size (skip + bytes) → uses q runs ≡ 0
IsApart size runs (Given from bytes) = Unit {0}

-- a new part can be gathered, and its runs have pages enough for it
pub record CanWritePart (held : Held) (size given : ℕ) (pieces : List Piece)
    (runs : List Extent) : Type 0 where
  pub each : AllByRecursion (CanGather held size given) pieces
  pub fits : pieces_bytes pieces < 2 ^ 64
  pub enough : page_count size (pieces_bytes pieces) ≤ sum (map (λ run. run.pages) runs)

-- So it is with each new part and its runs, of which the counts say how many they are. Where the
-- device tells what its pages hold, no page of an old piece is in any of all runs.
abbrev pub CanWriteEach : Bool → Held → ℕ → ℕ → List Extent → List Part → List ℕ → List Extent →
    Type 0
CanWriteEach told held size given all [] counts runs = Unit {0}
CanWriteEach told held size given all (Keep pair ∷ parts) counts runs =
    CanWriteEach told held size given all parts counts runs
CanWriteEach told held size given all (Make pieces ∷ parts) [] runs = ⊥
CanWriteEach told held size given all (Make pieces ∷ parts) (n ∷ counts) runs =
    (n ≤ length runs) × CanWritePart held size given pieces (take n runs)
    × (IsTrue told → AllByRecursion (IsApart size all) pieces)
    × CanWriteEach told held size given all parts counts (drop n runs)

-- the new parts of an edit can be written on their runs, by room for a page: no page is in two runs
pub record CanWriteParts (told : Bool) (size room given : ℕ) (parts : List Part) (counts : List ℕ)
    (runs : List Extent) (now : Held) : Type 0 where
  pub scratch : room ≡ size
  pub some : 0 < size
  pub held : HoldsRuns now runs
  pub sized : AllSized told size now
  pub each : CanWriteEach told now size given runs parts counts runs

-- the new parts stand on their runs, with the bytes that their pieces had on these pages
abbrev pub PartsStand : Pages → ℕ → Pages → List ℕ → List Part → List ℕ → List Extent → Type 0
PartsStand now size at payload [] counts runs = Unit {0}
PartsStand now size at payload (Keep pair ∷ parts) counts runs =
    PartsStand now size at payload parts counts runs
PartsStand now size at payload (Make pieces ∷ parts) [] runs = ⊥
PartsStand now size at payload (Make pieces ∷ parts) (n ∷ counts) runs =
    StandOn now size (take n runs) (pieces_content at size payload pieces)
    × PartsStand now size at payload parts counts (drop n runs)

-- the pages that have a byte of an old piece of the new parts, and those that the parts fill
abbrev pub parts_reads : ℕ → List Part → ℕ
parts_reads size [] = 0
parts_reads size (Keep pair ∷ parts) = parts_reads size parts
parts_reads size (Make pieces ∷ parts) = pieces_reads size pieces + parts_reads size parts

abbrev pub parts_pages : ℕ → List Part → ℕ
parts_pages size [] = 0
parts_pages size (Keep pair ∷ parts) = parts_pages size parts
parts_pages size (Make pieces ∷ parts) =
    page_count size (pieces_bytes pieces) + parts_pages size parts

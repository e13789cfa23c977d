-- What closing writes on the pages of no object: the directories of the spaces, and then the
-- superblock with the catalog.
use Rattle.std.specs.Prelude.{◌≡◌, ℕ, ◌-◌, ◌<◌, ◌≤◌, Bool, List, [], ◌++◌, length, map, replicate}
use Rattle.std.specs.Prelude.{slice_index_or, IsTrue}
use Rattle.std.specs.List.{flat_map}
use Rattle.geometry_model.specs.Numbers.{Numbers}
use Rattle.block_model.specs.Directory.{directory_page as directory_bytes}
use Rattle.tree_model.specs.Tree.{Pages}
use Rattle.tree_pages.specs.Entry.{Entry}
use Rattle.image_model.specs.Super.{image_page, super_bytes}
use Rattle.image_model.specs.Catalog.{entry_bytes}
use Rattle.image_model.specs.Image.{image_pages}
use Rattle.page_port.specs.Device.{Device}
use Rattle.span_store.specs.Held.{HeldSpan, span_of, spans_of}
use Rattle.span_store.specs.Order.{no_span}
use Rattle.space_directory.specs.SpaceView.{SpaceView}
use Rattle.store_format.specs.Writing.{front_count, IsCutShort}
use Rattle.store_parts.specs.Fixed.{FixedView, IsRunAt, front_held, directory_held}
use Rattle.store_parts.specs.Parts.{PartsView}
use Rattle.store_parts.specs.Pages.{ShowParts}

-- the directory page of the space at s of a list, as the space itself writes it
abbrev pub directory_of : List SpaceView → ℕ → List ℕ
directory_of spaces s =
    slice_index_or (map (λ v. directory_bytes v.page v.number v.free) spaces) s []

-- the directory page of space s
abbrev pub closed_directory : Numbers → List SpaceView → ℕ → List ℕ
closed_directory n spaces s =
    directory_bytes n.page s (slice_index_or (map (λ v. v.free) spaces) s [])

-- the superblock on its page, and the entries of the objects behind it
abbrev pub closed_front : Numbers → List Entry → List ℕ
closed_front n entries =
    (super_bytes 2 n ++ replicate (n.page - 256) 0) ++ flat_map (entry_bytes 2) entries

-- the pages of no object by their parts: the front pages, the directories, and the room
abbrev pub fixed_of : {X : Type 0} → (X → ℕ) → (X → List (List ℕ)) → X → List X → List ℕ → FixedView
fixed_of start contents front directories room = record {
  front = span_of start contents front;
  directories = spans_of start contents directories;
  room = length room;
}

-- The first `done` spans of a list hold these bytes on their page. The next one may hold anything,
-- and all behind it are as they were. Each has its place, and its pages their size.
pub record AreSpansWritten (tells : Bool) (size : ℕ) (directories : ℕ → List ℕ) (done : ℕ)
    (old now : List HeldSpan) : Type 0 where
  pub count : length now ≡ length old
  pub shape : (s : ℕ) → s < length old →
      IsRunAt tells size (slice_index_or old s no_span).first
      (length (slice_index_or old s no_span).pages) (slice_index_or now s no_span)
  pub stand : IsTrue tells → (s : ℕ) → s < done →
      slice_index_or (slice_index_or now s no_span).pages 0 [] ≡ directories s
  pub behind : (s : ℕ) → done < s → slice_index_or now s no_span ≡ slice_index_or old s no_span

-- all of these pages were written
pub record AreFixedWritten (n : Numbers) (directory : ℕ → List ℕ) (bytes : List ℕ)
    (fixed : FixedView) : Type 0 where
  pub directories : (s : ℕ) → s < n.spaces → directory_held fixed s ≡ directory s
  pub front : (page : ℕ) → page < front_count n → front_held fixed page
      ≡ image_page n.page bytes page

-- The first `done` directories were written. The next one or, where none is left, the front pages
-- may hold anything, and all others hold what they held.
pub record AreFixedCut (n : Numbers) (directory : ℕ → List ℕ) (done : ℕ)
    (old now : FixedView) : Type 0 where
  pub within : done ≤ n.spaces
  pub stand : (s : ℕ) → s < done → directory_held now s ≡ directory s
  pub behind : (s : ℕ) → done < s → s < n.spaces → directory_held now s ≡ directory_held old s
  pub front : (page : ℕ) → done < n.spaces → front_held now page ≡ front_held old page

-- A closing failed: it was cut short, the superblock and the catalog being written last.
abbrev pub IsUnclosed : PartsView → Device → Type 0
IsUnclosed parts after = (at : Pages) → ShowParts parts at →
    IsCutShort parts.numbers (closed_directory parts.numbers parts.spaces) at
    (image_pages parts.numbers after.bytes)

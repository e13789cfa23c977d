-- The pages of a store that belong to no space and no object: the superblock and the catalog, in
-- one row, and the directory page of each space.
use Rattle.std.specs.Prelude.{◌≡◌, ℕ, ◌*◌, ◌<◌, Bool, List, [], length, slice_index_or}
use Rattle.geometry_model.specs.Numbers.{Numbers}
use Rattle.geometry_model.specs.Pages.{directory_page}
use Rattle.page_port.specs.Pages.{IsSized}
use Rattle.span_store.specs.Held.{HeldSpan, span_of, spans_of}
use Rattle.span_store.specs.Order.{no_span}
use Rattle.store_format.specs.Writing.{front_count}
use Rattle.store_parts.specs.declared.fixed.Fixed.{Fixed}

-- the front pages, the directory pages in the order of their spaces, and the bytes of the room for
-- what is written on them
pub record FixedView : Type 0 where
  pub front : HeldSpan
  pub directories : List HeldSpan
  pub room : ℕ

-- these pages as contracts see them
abbrev pub fixed_view : {X : Type 0} → (X → ℕ) → (X → List (List ℕ)) → Fixed X → FixedView
fixed_view start contents fixed = record {
  front = span_of start contents fixed.front;
  directories = spans_of start contents fixed.directories.items;
  room = length fixed.room.items;
}

-- the span of the directory page of a space
abbrev pub directory_span : FixedView → ℕ → HeldSpan
directory_span fixed s = slice_index_or fixed.directories s no_span

-- what the directory page of a space holds, and what a front page
abbrev pub directory_held : FixedView → ℕ → List ℕ
directory_held fixed s = slice_index_or (directory_span fixed s).pages 0 []

abbrev pub front_held : FixedView → ℕ → List ℕ
front_held fixed page = slice_index_or fixed.front.pages page []

-- a run of so many pages from this one on, of the page size where they are told
pub record IsRunAt (tells : Bool) (size from n : ℕ) (span : HeldSpan) : Type 0 where
  pub first : span.first ≡ from
  pub count : length span.pages ≡ n
  pub sized : IsSized tells size span.pages

-- these are the pages of a store of these numbers, and there is room for all front pages
pub record IsFixed (tells : Bool) (n : Numbers) (fixed : FixedView) : Type 0 where
  pub front : IsRunAt tells n.page 0 (front_count n) fixed.front
  pub number : length fixed.directories ≡ n.spaces
  pub directories : (s : ℕ) → s < n.spaces →
      IsRunAt tells n.page (directory_page n s) 1 (directory_span fixed s)
  pub room : fixed.room ≡ front_count n * n.page

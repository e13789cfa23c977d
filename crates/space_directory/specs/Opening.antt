-- What reading a directory page makes of the data pages of a space.
use Rattle.std.specs.Prelude.{◌≡◌, ℕ, suc, ◌+◌, ◌/◌, ◌^◌, ◌<◌, ◌≤◌, Bool, true, false, List, []}
use Rattle.std.specs.Prelude.{◌∷◌}
use Rattle.std.specs.Prelude.{length, drop, replicate, if◌then◌else◌, Option, Some, None}
use Rattle.std.specs.List.{flat_map}
use Rattle.block_model.specs.Directory.{directory_page}
use Rattle.space_directory.specs.SpaceView.{SpaceView}

-- pages in a row with their numbers, the first of them `page`
abbrev pub numbered : ℕ → List (List ℕ) → List (ℕ × List ℕ)
numbered page [] = []
numbered page (held ∷ pages) = (page, held) ∷ numbered (suc page) pages

-- those of them that are not free
abbrev pub unfree : ℕ → List Bool → List (List ℕ) → List (ℕ × List ℕ)
unfree page [] pages = []
unfree page (f ∷ free) [] = []
unfree page (true ∷ free) (held ∷ pages) = unfree (suc page) free pages
unfree page (false ∷ free) (held ∷ pages) = (page, held) ∷ unfree (suc page) free pages

-- the pages of spans in a row of spans, with their numbers
abbrev pub pages_of_all : {X : Type 0} → (X → ℕ) → (X → List (List ℕ)) → List X → List (ℕ × List ℕ)
pages_of_all start contents spans = flat_map (λ span. numbered (start span) (contents span)) spans

-- the page is the directory page of a space of 2 ^ order pages with this number, whichever of its
-- pages are free
abbrev pub IsDirectory : List ℕ → ℕ → ℕ → ℕ → Type 0
IsDirectory page size number order = (free : List Bool) × (length free ≡ 2 ^ order)
    × (page ≡ directory_page size number free)

-- what each free page holds, of pages in a row, and nothing for the others
abbrev pub held_where : List Bool → List (List ℕ) → List (List ℕ)
held_where [] pages = []
held_where (f ∷ free) [] = []
held_where (f ∷ free) (held ∷ pages) = (if f then held else []) ∷ held_where free pages

-- each span of the list begins behind page `end`, and behind the page that follows the span
-- before it
abbrev pub StandBehind : {X : Type 0} → (X → ℕ) → (X → List (List ℕ)) → ℕ → List X → Type 0
StandBehind start contents end [] = Unit {0}
StandBehind start contents end (span ∷ spans) =
    (end < start span) × StandBehind start contents (start span + length (contents span)) spans

-- no two spans of the list meet: behind each comes a page of none before the next one begins
abbrev pub StandApart : {X : Type 0} → (X → ℕ) → (X → List (List ℕ)) → List X → Type 0
StandApart start contents [] = Unit {0}
StandApart start contents (span ∷ spans) =
    StandBehind start contents (start span + length (contents span)) spans

-- The spans are the runs of pages that are not free, of pages in a row from page `first` on: one
-- span a run, in the order of their numbers.
pub record AreUsedRuns {X : Type 0} (start : X → ℕ) (contents : X → List (List ℕ)) (first : ℕ)
    (free : List Bool) (pages : List (List ℕ)) (spans : List X) : Type 0 where
  pub whole : pages_of_all start contents spans ≡ unfree first free pages
  pub apart : StandApart start contents spans

-- a space may have 2 ^ order pages of `size` bytes: its directory fits one of them
pub record IsSpaceSize (order size : ℕ) : Type 0 where
  pub low : 4 ≤ order
  pub high : order ≤ 14
  pub fits : 16 + 2 ^ order / 8 ≤ size
  pub most : size ≤ 4096

-- the space that a directory page tells of: nothing in it is locked, and its free pages hold what
-- these data pages hold
pub record IsRead (page : List ℕ) (size space order start : ℕ) (pages : List (List ℕ))
    (v : SpaceView) : Type 0 where
  pub number : v.number ≡ space
  pub first : v.first ≡ start
  pub page_size : v.page ≡ size
  pub count : length v.free ≡ 2 ^ order
  pub encoded : page ≡ directory_page size space v.free
  pub unlocked : v.locked ≡ replicate (2 ^ order) false
  pub held : v.held ≡ held_where v.free pages

-- what is left of a span of `count` pages once those before place `at` are cut off
abbrev pub IsRest : {X : Type 0} → (X → ℕ) → (X → List (List ℕ)) → ℕ → List (List ℕ) → ℕ →
    Option X → Type 0
IsRest start contents first pages at None = at ≡ length pages
IsRest start contents first pages at (Some span) = (at < length pages) × (start span ≡ first + at)
    × (contents span ≡ drop at pages)

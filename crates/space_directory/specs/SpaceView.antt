-- A space as contracts see it, and what its calls make of it.
use Rattle.std.specs.Prelude.{◌≡◌, ℕ, suc, ◌+◌, ◌-◌, ◌/◌, ◌^◌, ◌<◌, ◌≤◌, Bool, true, false, not}
use Rattle.std.specs.Prelude.{◌||◌, IsTrue, List, [], ◌∷◌, ◌++◌, length, take, drop, replicate}
use Rattle.std.specs.Prelude.{slice_index_or, Some}
use Rattle.page_port.specs.Pages.{IsSized, run}
use Rattle.block_model.specs.Block.{has_page, HasRun, with_run}
use Rattle.block_model.specs.Place.{place}

-- the number of the space, its first data page, the bytes of a page, and for each of its pages
-- whether it is free, whether it is locked, and what it holds while it is free: nothing stands for
-- a page that isn't
pub record SpaceView : Type 0 where
  pub number : ℕ
  pub first : ℕ
  pub page : ℕ
  pub free : List Bool
  pub locked : List Bool
  pub held : List (List ℕ)

-- a space has a power of two of pages, no page of it is both free and locked, only a free one is
-- told to hold anything, and its directory fits a page
pub record IsSpace (v : SpaceView) : Type 0 where
  pub order : ℕ
  pub order_low : 4 ≤ order
  pub order_high : order ≤ 14
  pub size : length v.free ≡ 2 ^ order
  pub locks : length v.locked ≡ length v.free
  pub holds : length v.held ≡ length v.free
  pub nothing : (at : ℕ) → has_page v.free at ≡ false → slice_index_or v.held at [] ≡ []
  pub apart : (at : ℕ) → IsTrue (has_page v.free at) → IsTrue (has_page v.locked at) → ⊥
  pub range : v.first + length v.free < 2 ^ 32
  pub fits : 16 + length v.free / 8 ≤ v.page

-- a run of at least one page that lies in the space
pub record IsRunOf (v : SpaceView) (first n : ℕ) : Type 0 where
  pub some : 1 ≤ n
  pub from : v.first ≤ first
  pub to : first + n ≤ v.first + length v.free

-- a segment that names the space, lies in it and has pages of its size
pub record IsSegmentOf (v : SpaceView) (space start : ℕ) (pages : List (List ℕ))
    (tells : Bool) : Type 0 where
  pub named : space ≡ v.number
  pub inside : IsRunOf v start (length pages)
  pub sized : IsSized tells v.page pages

-- what pages hold, where those from place `at` on hold these contents and all others are as before
abbrev pub with_pages : List (List ℕ) → ℕ → List (List ℕ) → List (List ℕ)
with_pages held at pages = take at held ++ (pages ++ drop (at + length pages) held)

-- n pages from place `at` on are no longer free, and what they hold went with them
abbrev pub after_grant : SpaceView → ℕ → ℕ → SpaceView
after_grant v at n = record v {
  free = with_run v.free at n false;
  held =
      with_pages v.held at (replicate n []);
}

-- the pages from place `at` on, with these contents, are free and not locked
abbrev pub after_give : SpaceView → ℕ → List (List ℕ) → SpaceView
after_give v at pages = record v {
  free = with_run v.free at (length pages) true;
  locked = with_run v.locked at (length pages) false;
  held = with_pages v.held at pages;
}

-- of pages in a row, those that are locked, or are not free
abbrev pub kept_back : List Bool → List Bool → List Bool
kept_back [] locked = locked
kept_back (f ∷ free) [] = []
kept_back (f ∷ free) (l ∷ locked) = (l || not f) ∷ kept_back free locked

-- the locked pages, and those of the n pages from place `at` on that are not free
abbrev pub locked_with : List Bool → List Bool → ℕ → ℕ → List Bool
locked_with free locked at n =
    take at locked ++ (kept_back (take n (drop at free)) (take n (drop at locked))
    ++ drop (at + n) locked)

-- of n pages from place `at` on, those that are not free are locked
abbrev pub after_lock : SpaceView → ℕ → ℕ → SpaceView
after_lock v at n = record v { locked = locked_with v.free v.locked at n }

-- n pages from place `at` on are not locked
abbrev pub after_unlock : SpaceView → ℕ → ℕ → SpaceView
after_unlock v at n = record v { locked = with_run v.locked at n false }

-- n pages were granted, where the buddy rule places them, and hold what they held while they were
-- free
pub record IsGrant (old new : SpaceView) (n space start : ℕ) (pages : List (List ℕ))
    (tells : Bool) : Type 0 where
  pub named : space ≡ old.number
  pub from : old.first ≤ start
  pub placed : place old.free n ≡ Some (start - old.first)
  pub count : length pages ≡ n
  pub sized : IsSized tells old.page pages
  pub held : pages ≡ run (start - old.first) n old.held
  pub after : new ≡ after_grant old (start - old.first) n

-- a whole run of free pages was granted, wherever it stood, with no free page right before or
-- behind it; they hold what they held while they were free
pub record IsAnyGrant (old new : SpaceView) (start : ℕ) (pages : List (List ℕ))
    (tells : Bool) : Type 0 where
  pub from : old.first ≤ start
  pub some : 1 ≤ length pages
  pub free : HasRun old.free (start - old.first) (length pages)
  pub before : (page : ℕ) → suc page ≡ start - old.first → has_page old.free page ≡ false
  pub behind : has_page old.free ((start - old.first) + length pages) ≡ false
  pub sized : IsSized tells old.page pages
  pub held : pages ≡ run (start - old.first) (length pages) old.held
  pub after : new ≡ after_grant old (start - old.first) (length pages)

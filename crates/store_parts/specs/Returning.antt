-- Pages of a mount that come back, one run after the other, while page 0 is out.
use Rattle.std.specs.Prelude.{◌≡◌, ℕ, ◌+◌, ◌-◌, ◌≤◌, Bool, true, false, ◌&&◌, List, [], length, is_some}
use Rattle.std.specs.Prelude.{Option, Some, None, slice_index_or, unwrap_or, nat_le}
use Rattle.std.specs.List.{list_any}
use Rattle.tree_model.specs.Tree.{Pages}
use Rattle.block_model.specs.Block.{has_page}
use Rattle.page_port.specs.Device.{Device}
use Rattle.span_store.specs.Held.{HeldSpan, Held, page_of, has, bytes_on}
use Rattle.space_directory.specs.SpaceView.{SpaceView}

-- what page number `page` of the mount came back with, none where it is out
abbrev pub returned_page : Device → ℕ → Option (List ℕ)
returned_page d page = slice_index_or d.pages page None

-- page 0 of the mount is out
abbrev pub IsFirstOut : Device → Type 0
IsFirstOut d = returned_page d 0 ≡ None

-- Just the pages that are tested for came back, with what `at` has on them; page 0 is still out.
pub record HaveReturned (at : Pages) (test : ℕ → Bool) (old new : Device) : Type 0 where
  pub count : length new.pages ≡ length old.pages
  pub mounted : new.mounted ≡ old.mounted
  pub bytes : new.bytes ≡ old.bytes
  pub first : IsFirstOut new
  pub sized : (page : ℕ) → test page ≡ true → length (at page) ≡ unwrap_or old.mounted 0
  pub came : (page : ℕ) → test page ≡ true → returned_page new page ≡ Some (at page)
  pub others : (page : ℕ) → test page ≡ false → returned_page new page ≡ returned_page old page

-- is it a page of the span?
abbrev pub is_page_of : HeldSpan → ℕ → Bool
is_page_of span page = is_some (page_of span page)

-- is the page one of any of these?
abbrev pub any_has : {X : Type 0} → (X → ℕ → Bool) → List X → ℕ → Bool
any_has has_page_of xs page = list_any (λ x. has_page_of x page) xs

-- the pages of the span hold what `at` has on them
abbrev pub ShowsSpan : Pages → HeldSpan → Type 0
ShowsSpan at span = (page : ℕ) (held : List ℕ) → page_of span page ≡ Some held → held ≡ at page

-- is it a free page of the space?
abbrev pub is_free_of : SpaceView → ℕ → Bool
is_free_of v page = nat_le v.first page && has_page v.free (page - v.first)

-- the free pages of the space hold what `at` has on them
abbrev pub ShowsSpace : Pages → SpaceView → Type 0
ShowsSpace at v = (place : ℕ) → has_page v.free place ≡ true →
    slice_index_or v.held place [] ≡ at (v.first + place)

-- the held pages hold what `at` has on them
abbrev pub ShowsHeld : Pages → Held → Type 0
ShowsHeld at held = (page : ℕ) → has held page ≡ true → bytes_on held page ≡ at page

-- A run of at least one page lies on the mount, behind page 0.
pub record IsOnMount (d : Device) (first count : ℕ) : Type 0 where
  pub some : 1 ≤ first
  pub range : first + count ≤ length d.pages

-- each held page does
abbrev pub AreHeldOnMount : Device → Held → Type 0
AreHeldOnMount d held = (page : ℕ) → has held page ≡ true → IsOnMount d page 1

-- The free and the locked pages of told spaces, page by page.
use Rattle.std.specs.Prelude.{◌≡◌, ℕ, ◌<◌, Bool, List, [], length, slice_get, slice_index}
use Rattle.std.specs.Prelude.{slice_index_or, map, Some, None}
use Rattle.geometry_model.specs.Numbers.{Numbers, space_pages}
use Rattle.geometry_model.specs.Pages.{IsPlace, first_page}
use Rattle.block_model.specs.Block.{has_page}
use Rattle.space_directory.specs.SpaceView.{SpaceView, IsSpace}
use Rattle.superdirectory.specs.Rest.{Frame, Rest, IsOf}

-- the spaces are those of the store: so many of them, of its pages, each on its data pages
pub record IsStore (n : Numbers) (frame : Frame) : Type 0 where
  pub page : frame.page ≡ n.page
  pub pages : frame.pages ≡ space_pages n
  pub number : length frame.firsts ≡ n.spaces
  pub firsts : (s : ℕ) → s < n.spaces → slice_index frame.firsts s ≡ first_page n s

-- the spaces are those of the store, and none is entered
pub record IsReady (n : Numbers) (rest : Rest) : Type 0 where
  pub store : IsStore n rest.frame
  pub none : rest.entered ≡ None

-- each of the told spaces is one, on its run
pub record AreHome (frame : Frame) (views : List SpaceView) : Type 0 where
  pub number : length views ≡ length frame.firsts
  pub space : (s : ℕ) (v : SpaceView) → slice_get views s ≡ Some v → IsSpace v
  pub home : (s : ℕ) (v : SpaceView) → slice_get views s ≡ Some v → IsOf frame s v

-- is the page at a place of a space free, and is it locked?
abbrev pub is_free_place : List SpaceView → ℕ → ℕ → Bool
is_free_place views s at = has_page (slice_index_or (map (λ v. v.free) views) s []) at

abbrev pub is_locked_place : List SpaceView → ℕ → ℕ → Bool
is_locked_place views s at = has_page (slice_index_or (map (λ v. v.locked) views) s []) at

-- a set of the pages of a store, by page, space and place: the test holds of just the data pages
-- in the set
abbrev pub IsTest : Numbers → (ℕ → ℕ → Bool) → (ℕ → Bool) → Type 0
IsTest n at_place test = (page s at : ℕ) → IsPlace n page s at → at_place s at ≡ test page

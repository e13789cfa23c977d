-- The spaces of a store in a file, and an object that can be edited there.
use Rattle.std.specs.Prelude.{◌≡◌, ℕ, suc, ◌<◌, List, [], ◌∷◌, length}
use Rattle.geometry_model.specs.Numbers.{Numbers, space_pages}
use Rattle.geometry_model.specs.Pages.{first_page}
use Rattle.space_directory.specs.SpaceView.{SpaceView}
use Rattle.superdirectory.specs.Rest.{Rest, count}
use Rattle.object_body.specs.Places.{IsReady}

-- the space is the one of this number
pub record IsSpaceAt (n : Numbers) (s : ℕ) (v : SpaceView) : Type 0 where
  pub number : v.number ≡ s
  pub page : v.page ≡ n.page
  pub pages : length v.free ≡ space_pages n
  pub first : v.first ≡ first_page n s

-- they are spaces in a row, from this number on
abbrev pub AreFrom : Numbers → ℕ → List SpaceView → Type 0
AreFrom n s [] = Unit {0}
AreFrom n s (v ∷ spaces) = IsSpaceAt n s v × AreFrom n (suc s) spaces

-- they are the store's first ones, so many of them
pub record AreFirst (n : Numbers) (count : ℕ) (spaces : List SpaceView) : Type 0 where
  pub long : length spaces ≡ count
  pub row : AreFrom n 0 spaces

-- the port and the spaces are those of the object's store, and there is a space
pub record CanEdit (n : Numbers) (page : ℕ) (rest : Rest) : Type 0 where
  pub page_is : page ≡ n.page
  pub ready : IsReady n rest
  pub some : 0 < count rest

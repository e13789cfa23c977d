-- What a world is made of, and what it begins with.
use Rattle.std.specs.Prelude.{◌≡◌, ℕ, ◌+◌, true, false, List, All, length, map, Some}
use Rattle.std.specs.Prelude.{replicate, slice_get}
use Rattle.change_laws.specs.Tail.{HaveTails}
use Rattle.geometry_model.specs.Numbers.{Numbers, objects, space_pages}
use Rattle.geometry_model.specs.Pages.{first_page}
use Rattle.layout_model.specs.Layout.{Tree}
use Rattle.machine.specs.Machine.{no_seat}
use Rattle.moment_model.specs.Moment.{Moment, IsSound, free_of, locked_of}
use Rattle.shadow_txn.specs.Transaction.{Transaction, unbegun}
use Rattle.space_directory.specs.SpaceView.{SpaceView, IsSpace}
use Rattle.store_model.specs.Store.{Store}
use Rattle.superdirectory.specs.Grants.{free_sets}
use Rattle.superdirectory.specs.Solo.{AreAlike}
use Rattle.body_world.specs.Keeping.{locked_sets}
use Rattle.body_world.specs.Session.{Shown, at_home}
use Rattle.body_world.specs.Ties.{slot_of}

-- The spaces are those of the store, in the order of their numbers: so many of them, each a space
-- of its pages, on its data pages.
pub record AreStoreSpaces (n : Numbers) (spaces : List SpaceView) : Type 0 where
  pub number : length spaces ≡ n.spaces
  pub sound : (s : ℕ) (v : SpaceView) → slice_get spaces s ≡ Some v → IsSpace v
  pub alike : AreAlike n.page (space_pages n) spaces
  pub firsts : (s : ℕ) (v : SpaceView) → slice_get spaces s ≡ Some v → v.first ≡ first_page n s

-- the objects are those of the store, and at rest
pub record AreStoreObjects {T : Type 0} (show : T → Shown) (n : Numbers)
    (xs : List T) : Type 0 where
  pub count : length xs ≡ objects n
  pub of_store : All (λ x. (show x).form.numbers ≡ n) xs
  pub at_rest : All (λ x. (show x).form.is_resting ≡ true) xs

-- the parts of one store: its spaces, its objects, and the page size of its port
pub record AreParts {T : Type 0} (show : T → Shown) (n : Numbers) (spaces : List SpaceView)
    (xs : List T) (page : ℕ) : Type 0 where
  pub of_spaces : AreStoreSpaces n spaces
  pub of_objects : AreStoreObjects show n xs
  pub sized : page ≡ n.page

-- the moment of objects
abbrev pub moment_of_parts : {T : Type 0} → (T → Shown) → List T → Moment
moment_of_parts show xs = map (λ x. (show x).told.slot) xs

-- the store of objects that nobody holds, with so many sessions that have begun nothing
abbrev pub store_of_parts : {T : Type 0} → (T → Shown) → Numbers → ℕ → List T → Store
store_of_parts show n sessions xs = record {
  numbers = n;
  machine = record {
    slots = map (λ x. slot_of (at_home (show x))) xs;
    seats =
        replicate sessions no_seat;
  };
  moment = moment_of_parts show xs;
}

-- The roles of the pages agree: the moment of the objects is sound with nothing held, and each
-- space has just the pages that are free in it and those that are locked.
pub record RolesAgree {T : Type 0} (good : Numbers → Tree → Type 0) (show : T → Shown)
    (n : Numbers) (spaces : List SpaceView) (xs : List T) : Type 0 where
  pub sound : IsSound good n (λ o. false) (moment_of_parts show xs)
  pub tails : HaveTails n (moment_of_parts show xs)
  pub free : free_sets spaces ≡ free_of n (moment_of_parts show xs)
  pub locked : locked_sets spaces ≡ locked_of n (moment_of_parts show xs)

-- the session at a place, with no transaction so far
abbrev pub first_txn : {T : Type 0} → ℕ → ℕ → Transaction T
first_txn count i = unbegun (i + 1) count

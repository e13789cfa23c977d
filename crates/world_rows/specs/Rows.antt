-- The parts of a store in which nothing is used.
use Rattle.std.specs.Prelude.{◌≡◌, ℕ, true, false, List, length, replicate, Some, All, slice_get}
use Rattle.geometry_model.specs.Numbers.{Numbers}
use Rattle.moment_model.specs.Moment.{absent_slot}
use Rattle.space_directory.specs.SpaceView.{SpaceView}
use Rattle.body_world.specs.Session.{Shown}
use Rattle.body_world.specs.Start.{AreStoreSpaces}

-- the spaces are those of the store, with all pages free and none locked
pub record AreFreeSpaces (n : Numbers) (spaces : List SpaceView) : Type 0 where
  pub of_store : AreStoreSpaces n spaces
  pub free : (s : ℕ) (v : SpaceView) → slice_get spaces s ≡ Some v →
      v.free ≡ replicate (length v.free) true
  pub locked : (s : ℕ) (v : SpaceView) → slice_get spaces s ≡ Some v →
      v.locked ≡ replicate (length v.locked) false

-- the objects are of the store, at rest, and use no page
pub record AreAbsent {T : Type 0} (show : T → Shown) (n : Numbers) (xs : List T) : Type 0 where
  pub of_store : All (λ x. (show x).form.numbers ≡ n) xs
  pub at_rest : All (λ x. (show x).form.is_resting ≡ true) xs
  pub absent : All (λ x. (show x).told.slot ≡ absent_slot) xs

-- What a world keeps: over every device, and where bytes are told.
use Rattle.std.specs.Prelude.{◌≡◌, ℕ, Bool, true, IsTrue, List, length, map, Option, Some, None}
use Rattle.std.specs.Prelude.{is_some}
use Rattle.change_laws.specs.Tail.{HaveTails}
use Rattle.fault_count.specs.Counts.{Meter}
use Rattle.geometry_model.specs.Numbers.{Numbers, IsInRange, objects}
use Rattle.layout_model.specs.Grants.{Spaces}
use Rattle.layout_model.specs.Layout.{Tree}
use Rattle.machine.specs.Machine.{Machine, slot_at}
use Rattle.moment_model.specs.Moment.{IsSound, free_of, locked_of}
use Rattle.object_body.specs.Places.{IsReady, AreHome}
use Rattle.shadow_txn.specs.Transaction.{Transaction}
use Rattle.space_directory.specs.SpaceView.{SpaceView}
use Rattle.store_model.specs.Store.{Store}
use Rattle.superdirectory.specs.Grants.{AreTold, free_sets}
use Rattle.superdirectory.specs.Rest.{Rest}
use Rattle.body_world.specs.Session.{Shown, Seen}
use Rattle.body_world.specs.Ties.{ShareObjects, seen_at, viewed}

-- what contracts see of a world: the store, and the port's page size and counts
pub record WorldView : Type 0 where
  pub store : Store
  pub meter : Meter

-- which pages are locked in each space
abbrev pub locked_sets : List SpaceView → Spaces
locked_sets views = map (λ v. v.locked) views

-- is the object held?
abbrev pub is_taken : Machine → ℕ → Bool
is_taken m o = is_some (slot_at m o).holder

-- Over every device: each object is on the shelf or with one session, and all of them, the spaces
-- and the port are those of one store. What is on the shelf is at rest.
pub record IsAtWork {T : Type 0} (show : T → Shown) (n : Numbers) (shelf : List (Option T))
    (txns : List (Transaction T)) (rest : Rest) (page : ℕ) : Type 0 where
  pub range : IsInRange n
  pub shares : ShareObjects shelf txns
  pub count : length shelf ≡ objects n
  pub of_store : (o : ℕ) (seen : Seen) → seen_at show shelf txns o ≡ Some seen →
      seen.object.form.numbers ≡ n
  pub resting : (o : ℕ) (seen : Seen) → seen_at show shelf txns o ≡ Some seen →
      seen.holder ≡ None → seen.object.form.is_resting ≡ true
  pub ready : IsReady n rest
  pub sized : page ≡ n.page

-- Where bytes are told: the moment is sound with what is held, and the spaces have just its free
-- and its locked pages.
pub record HaveRoles (good : Numbers → Tree → Type 0) (store : Store) (rest : Rest) : Type 0 where
  pub views : List SpaceView
  pub told : AreTold rest views
  pub home : AreHome rest.frame views
  pub sound : IsSound good store.numbers (is_taken store.machine) store.moment
  pub tails : HaveTails store.numbers store.moment
  pub free : free_sets views ≡ free_of store.numbers store.moment
  pub locked : locked_sets views ≡ locked_of store.numbers store.moment

-- a world: at work, and with its roles where bytes are told
pub record IsWorld {T : Type 0} (tells : Bool) (good : Numbers → Tree → Type 0) (show : T → Shown)
    (n : Numbers) (shelf : List (Option T)) (txns : List (Transaction T)) (rest : Rest)
    (page : ℕ) : Type 0 where
  pub work : IsAtWork show n shelf txns rest page
  pub roles : IsTrue tells → HaveRoles good (viewed show n shelf txns) rest

-- The store that the shelf and all sessions are, and what ties them to each other.
use Rattle.std.specs.Prelude.{◌≡◌, ◌≢◌, ℕ, ◌+◌, ◌<◌, List, [], ◌∷◌, map, length, Option, Some}
use Rattle.std.specs.Prelude.{None, IsSome, is_some, slice_get, slice_index_or, if◌then◌else◌}
use Rattle.std.specs.List.{range_with_len}
use Rattle.std.specs.Option.{option_map_or}
use Rattle.eos_ops.specs.declared.limits.TheConstants.{SESSIONS}
use Rattle.geometry_model.specs.Numbers.{Numbers}
use Rattle.machine.specs.Machine.{Slot, Seat, Machine, no_slot}
use Rattle.moment_model.specs.Moment.{ObjectSlot, Moment, absent_slot}
use Rattle.shadow_txn.specs.Held.{held_object}
use Rattle.shadow_txn.specs.Transaction.{Transaction, unbegun}
use Rattle.store_model.specs.Store.{Store}
use Rattle.body_world.specs.Session.{Shown, Seen, at_home, in_hand, IsSoundSession}

-- what stands at a place of no session
abbrev pub no_txn : {T : Type 0} → Transaction T
no_txn = unbegun 0 0

-- session i + 1
abbrev pub txn_at : {T : Type 0} → List (Transaction T) → ℕ → Transaction T
txn_at txns i = slice_index_or txns i no_txn

-- object o in the hands of the first session that holds it
abbrev pub held_in : {T : Type 0} → (T → Shown) → List (Transaction T) → ℕ → Option Seen
held_in show [] o = None
held_in show (txn ∷ txns) o = option_map_or (λ x. Some (in_hand txn.session (show x)))
    (held_object o txn.held) (held_in show txns o)

-- object o at its place on the shelf, or else in the hands of a session
abbrev pub place_seen : {T : Type 0} → (T → Shown) → Option (Option T) → Option Seen → Option Seen
place_seen show None held = None
place_seen show (Some None) held = held
place_seen show (Some (Some x)) held = Some (at_home (show x))

abbrev pub seen_at : {T : Type 0} → (T → Shown) → List (Option T) → List (Transaction T) → ℕ
    → Option Seen
seen_at show shelf txns o = place_seen show (slice_get shelf o) (held_in show txns o)

-- An object as the machine has it. On the shelf its versions are equal.
abbrev pub slot_of : Seen → Slot
slot_of seen = record {
  committed = seen.object.told.committed;
  working = if is_some seen.holder then seen.object.told.working
      else seen.object.told.committed;
  holder = seen.holder;
  stamp = seen.object.stamp;
}

-- as the moment has it
abbrev pub pages_of : Seen → ObjectSlot
pages_of seen = seen.object.told.slot

abbrev pub seat_of : {T : Type 0} → Transaction T → Seat
seat_of txn = record { active = txn.is_open; stamp = txn.stamp }

abbrev pub machine_seen : {T : Type 0} → (T → Shown) → List (Option T) → List (Transaction T)
    → Machine
machine_seen show shelf txns = record {
  slots = map (λ o. option_map_or slot_of (seen_at show shelf txns o) no_slot)
      (range_with_len 0 (length shelf));
  seats = map seat_of txns;
}

abbrev pub moment_seen : {T : Type 0} → (T → Shown) → List (Option T) → List (Transaction T)
    → Moment
moment_seen show shelf txns = map (λ o. option_map_or pages_of (seen_at show shelf txns o)
    absent_slot) (range_with_len 0 (length shelf))

-- the store that contracts see: one look at each object gives its slot of the machine and its slot
-- of the moment
abbrev pub viewed : {T : Type 0} → (T → Shown) → Numbers → List (Option T) → List (Transaction T)
    → Store
viewed show n shelf txns = record {
  numbers = n;
  machine = machine_seen show shelf txns;
  moment = moment_seen show shelf txns;
}

-- There is one place for each session, and each object is on the shelf or with one session.
pub record ShareObjects {T : Type 0} (shelf : List (Option T))
    (txns : List (Transaction T)) : Type 0 where
  pub sessions : length txns ≡ SESSIONS
  pub numbers : (i : ℕ) → i < SESSIONS → (txn_at txns i).session ≡ i + 1
  pub sound : (i : ℕ) → i < SESSIONS → IsSoundSession shelf (txn_at txns i)
  pub alone : (i j o : ℕ) → i ≢ j → IsSome (held_object o (txn_at txns i).held) →
      held_object o (txn_at txns j).held ≡ None
  pub taken : (o : ℕ) → slice_get shelf o ≡ Some None →
      (i : ℕ) × (i < SESSIONS) × IsSome (held_object o (txn_at txns i).held)

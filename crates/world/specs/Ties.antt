-- The machine that the shelf and all sessions are, and what ties them to each other.
use Rattle.std.specs.Prelude.{◌≡◌, ◌≢◌, ℕ, ◌+◌, ◌<◌, List, [], ◌∷◌, map, length, Option, Some}
use Rattle.std.specs.Prelude.{None, IsSome, slice_get, slice_index_or}
use Rattle.std.specs.List.{range_with_len}
use Rattle.std.specs.Option.{option_map_or}
use Rattle.eos_ops.specs.declared.limits.TheConstants.{SESSIONS}
use Rattle.machine.specs.Machine.{Slot, Seat, Machine, no_slot}
use Rattle.shadow_txn.specs.Held.{held_object}
use Rattle.shadow_txn.specs.Transaction.{unbegun}
use Rattle.world.specs.Session.{Object, Session, home_slot, held_slot, IsSoundSession}

-- what stands at a place of no session
abbrev pub no_txn : Session
no_txn = unbegun 0 0

-- session i + 1
abbrev pub txn_at : List Session → ℕ → Session
txn_at txns i = slice_index_or txns i no_txn

-- object o in the hands of the first session that holds it
abbrev pub held_in : List Session → ℕ → Slot
held_in [] o = no_slot
held_in (txn ∷ txns) o = option_map_or (held_slot txn.session) (held_object o txn.held)
    (held_in txns o)

-- object o at its place on the shelf, or else in the hands of a session
abbrev pub slot_seen : Option (Option Object) → Slot → Slot
slot_seen None held = no_slot
slot_seen (Some None) held = held
slot_seen (Some (Some x)) held = home_slot x

abbrev pub slot_seen_at : List (Option Object) → List Session → ℕ → Slot
slot_seen_at shelf txns o = slot_seen (slice_get shelf o) (held_in txns o)

abbrev pub seat_of : Session → Seat
seat_of txn = record { active = txn.is_open; stamp = txn.stamp }

-- the machine that contracts see
abbrev pub viewed : List (Option Object) → List Session → Machine
viewed shelf txns = record {
  slots =
      map (slot_seen_at shelf txns) (range_with_len 0 (length shelf));
  seats = map seat_of txns;
}

-- There is one place for each session, and each object is on the shelf or with one session.
pub record ShareObjects (shelf : List (Option Object)) (txns : List Session) : Type 0 where
  pub sessions : length txns ≡ SESSIONS
  pub numbers : (i : ℕ) → i < SESSIONS → (txn_at txns i).session ≡ i + 1
  pub sound : (i : ℕ) → i < SESSIONS → IsSoundSession shelf (txn_at txns i)
  pub alone : (i j o : ℕ) → i ≢ j → IsSome (held_object o (txn_at txns i).held) →
      held_object o (txn_at txns j).held ≡ None
  pub taken : (o : ℕ) → slice_get shelf o ≡ Some None → IsSome (held_in txns o).holder

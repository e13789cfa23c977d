-- The machine: a slot for each object and a seat for each session. Plain data, and no code.
use Rattle.std.specs.Prelude.{◌≡◌, ℕ, zero, suc, ◌<◌, ◌≤◌, List, Bool, false, ◌==◌, Option, Some}
use Rattle.std.specs.Prelude.{None, length, map, replicate, slice_index_or, slice_set}
use Rattle.eos_ops.specs.declared.plain.Plain.{Plain}
use Rattle.eos_ops.specs.declared.plain.Plain.TheVariants.{Absent}
use Rattle.history.specs.Holding.{count_below}

-- an object in its two versions, the session that holds it, and its last stamp
pub record Slot : Type 0 where
  pub committed : Plain
  pub working : Plain
  pub holder : Option ℕ
  pub stamp : ℕ

-- a session: whether it has a transaction open, and its last stamp
pub record Seat : Type 0 where
  pub active : Bool
  pub stamp : ℕ

-- object o is the slot at o, and session s the seat at s - 1
pub record Machine : Type 0 where
  pub slots : List Slot
  pub seats : List Seat

-- what stands at a number of no object: nothing, held by nobody
abbrev pub no_slot : Slot
no_slot = record { committed = Absent; working = Absent; holder = None; stamp = 0 }

-- what stands at a number of no session
abbrev pub no_seat : Seat
no_seat = record { active = false; stamp = 0 }

abbrev pub slot_at : Machine → ℕ → Slot
slot_at m o = slice_index_or m.slots o no_slot

-- sessions are numbered from 1
abbrev pub seat_in : List Seat → ℕ → Seat
seat_in seats zero = no_seat
seat_in seats (suc i) = slice_index_or seats i no_seat

abbrev pub seat_at : Machine → ℕ → Seat
seat_at m s = seat_in m.seats s

-- whether session s has a transaction open
abbrev pub is_active : Machine → ℕ → Bool
is_active m s = (seat_at m s).active

-- there is such a session
pub record IsSession (m : Machine) (s : ℕ) : Type 0 where
  pub from_one : 0 < s
  pub within : s ≤ length m.seats

-- whether the holder of an object is s
abbrev pub is_holder : ℕ → Option ℕ → Bool
is_holder s None = false
is_holder s (Some t) = t == s

-- how many objects session s holds
unfoldable pub held_by : Machine → ℕ → ℕ
held_by m s = count_below (length m.slots) (λ o. is_holder s (slot_at m o).holder)

-- a slot with its contents forgotten: who holds the object, and its last stamp
abbrev pub bare_slot : Slot → Slot
bare_slot slot = record {
  committed = Absent;
  working = Absent;
  holder = slot.holder;
  stamp =
      slot.stamp;
}

-- the machine with the contents of all its objects forgotten
abbrev pub bare : Machine → Machine
bare m = record { slots = map bare_slot m.slots; seats = m.seats }

-- the committed objects
abbrev pub database : Machine → List Plain
database m = map (λ slot. slot.committed) m.slots

-- the machine with another slot for object o
abbrev pub with_slot : Machine → ℕ → Slot → Machine
with_slot m o slot = record { slots = slice_set m.slots o slot; seats = m.seats }

abbrev pub seats_with : List Seat → ℕ → Seat → List Seat
seats_with seats zero seat = seats
seats_with seats (suc i) seat = slice_set seats i seat

-- the machine with another seat for session s
abbrev pub with_seat : Machine → ℕ → Seat → Machine
with_seat m s seat = record { slots = m.slots; seats = seats_with m.seats s seat }

-- nothing is open and nothing is held
pub record AtRest (m : Machine) : Type 0 where
  pub idle : (s : ℕ) → is_active m s ≡ false
  pub free : (o : ℕ) → (slot_at m o).holder ≡ None
  pub equal : (o : ℕ) → (slot_at m o).working ≡ (slot_at m o).committed

-- an object that nobody has touched yet
abbrev pub new_slot : Plain → Slot
new_slot object = record { committed = object; working = object; holder = None; stamp = 0 }

-- the machine of n sessions before the first event, over the objects of a database
abbrev pub fresh : ℕ → List Plain → Machine
fresh n db = record { slots = map new_slot db; seats = replicate n no_seat }

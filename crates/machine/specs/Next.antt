-- How the machine goes on: what each deed of a session makes of it, and where that deed may come.
use Rattle.std.specs.Prelude.{◌≡◌, ℕ, ◌+◌, ◌<◌, ◌⊎◌, max, List, [], ◌∷◌, Bool, true, false, Some}
use Rattle.std.specs.Prelude.{None, length, map, if◌then◌else◌}
use Rattle.eos_ops.specs.declared.act.Act.{Act}
use Rattle.eos_ops.specs.Objects.{object_of, reply_in, after_in}
use Rattle.history.specs.Event.{Deed, Opens, Does, Takes, Closes, Nothing}
use Rattle.machine.specs.Machine.{Slot, Machine, slot_at, seat_at, is_active, IsSession}
use Rattle.machine.specs.Machine.{is_holder, with_slot, with_seat, seats_with}

-- an object that session s takes, or has taken, as it is
abbrev pub taken : ℕ → Slot → Slot
taken s slot = record {
  committed = slot.committed;
  working = slot.working;
  holder = Some s;
  stamp = slot.stamp;
}

-- an object that session s takes, or has taken, with the working version that the act leaves
abbrev pub worked : ℕ → Act → Slot → Slot
worked s act slot = record {
  committed = slot.committed;
  working =
      after_in act.command slot.working;
  holder = Some s;
  stamp = slot.stamp;
}

-- An object that is let go at the end of a transaction: a commit keeps the working version, an
-- abort the committed one.
abbrev pub released : Bool → ℕ → Slot → Slot
released true stamp slot = record {
  committed = slot.working;
  working = slot.working;
  holder =
      None;
  stamp = stamp;
}
released false stamp slot = record {
  committed = slot.committed;
  working = slot.committed;
  holder = None;
  stamp = stamp;
}

-- the objects of session s are let go, and all others stay
abbrev pub settled : ℕ → Bool → ℕ → Slot → Slot
settled s committed stamp slot = if is_holder s slot.holder then released committed stamp slot
    else slot

-- the greatest last stamp of the objects that session s holds
abbrev pub greatest_held : ℕ → List Slot → ℕ
greatest_held s [] = 0
greatest_held s (slot ∷ slots) = max (if is_holder s slot.holder then slot.stamp else 0)
    (greatest_held s slots)

-- the stamp of an end: one more than the last stamps of the session and of all objects that it
-- holds
unfoldable pub stamp_of : Machine → ℕ → ℕ
stamp_of m s = max (seat_at m s).stamp (greatest_held s m.slots) + 1

abbrev pub next : Machine → ℕ → Deed → Machine
next m s Opens = with_seat m s (record { active = true; stamp = (seat_at m s).stamp })
next m s (Does o act) = with_slot m o (worked s act (slot_at m o))
next m s (Takes o) = with_slot m o (taken s (slot_at m o))
next m s (Closes committed) = record {
  slots = map (settled s committed (stamp_of m s)) m.slots;
  seats = seats_with m.seats s (record { active = false; stamp = stamp_of m s });
}
next m s Nothing = m

-- session s has a transaction open, and object o is there and held by no other session
pub record CanUse (m : Machine) (s o : ℕ) : Type 0 where
  pub active : is_active m s ≡ true
  pub present : o < length m.slots
  pub free : ((slot_at m o).holder ≡ None) ⊎ ((slot_at m o).holder ≡ Some s)

-- the act is on object o, which session s can use, and has the reply of its working version
pub record CanDo (m : Machine) (s o : ℕ) (act : Act) : Type 0 where
  pub usable : CanUse m s o
  pub object : object_of act.command ≡ Some o
  pub reply : reply_in act.command (slot_at m o).working ≡ act.reply

pub record CanBegin (m : Machine) (s : ℕ) : Type 0 where
  pub session : IsSession m s
  pub idle : is_active m s ≡ false

-- Where a deed of session s may come. Any machine that keeps to this is serial, whichever
-- refusals it gives.
abbrev pub May : Machine → ℕ → Deed → Type 0
May m s Opens = CanBegin m s
May m s (Does o act) = CanDo m s o act
May m s (Takes o) = CanUse m s o
May m s (Closes committed) = is_active m s ≡ true
May m s Nothing = Unit {0}

-- Where a deed of session s may come, whatever the contents of the objects are.
abbrev pub MayTouch : Machine → ℕ → Deed → Type 0
MayTouch m s Opens = CanBegin m s
MayTouch m s (Does o act) = CanUse m s o
MayTouch m s (Takes o) = CanUse m s o
MayTouch m s (Closes committed) = is_active m s ≡ true
MayTouch m s Nothing = Unit {0}

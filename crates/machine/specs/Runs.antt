-- Whole runs of the machine. The newest event comes first.
use Rattle.std.specs.Prelude.{ℕ, ◌≤◌, List, [], ◌∷◌}
use Rattle.history.specs.Event.{Event, deed_of}
use Rattle.machine.specs.Machine.{Machine, IsSession, slot_at, seat_at}
use Rattle.machine.specs.Next.{next, May}
use Rattle.machine.specs.Replies.{Replies, Owes}

-- the machine after these events
abbrev pub state_after : Machine → List Event → Machine
state_after m [] = m
state_after m (e ∷ past) = next (state_after m past) e.session (deed_of e)

-- each event's deed may come where it comes
abbrev pub MayRun : Machine → List Event → Type 0
MayRun m [] = Unit {0}
MayRun m (e ∷ past) = MayRun m past × May (state_after m past) e.session (deed_of e)

-- an event of a session, with a reply that the machine owes or may give
pub record IsEvent (m : Machine) (e : Event) : Type 0 where
  pub session : IsSession m e.session
  pub reply : Replies m e.session e.command e.reply

-- each event has such a reply
abbrev pub IsRun : Machine → List Event → Type 0
IsRun m [] = Unit {0}
IsRun m (e ∷ past) = IsRun m past × IsEvent (state_after m past) e

-- an event of a session, with a reply that is owed whatever the objects hold
pub record IsOwed (m : Machine) (e : Event) : Type 0 where
  pub session : IsSession m e.session
  pub reply : Owes m e.session e.command e.reply

-- Each event has such a reply. What the machine's slots contain decides nothing here.
abbrev pub IsOwedRun : Machine → List Event → Type 0
IsOwedRun m [] = Unit {0}
IsOwedRun m (e ∷ past) = IsOwedRun m past × IsOwed (state_after m past) e

-- no stamp of a session or of an object is above n
pub record StampsUpTo (n : ℕ) (m : Machine) : Type 0 where
  pub seats : (s : ℕ) → (seat_at m s).stamp ≤ n
  pub slots : (o : ℕ) → (slot_at m o).stamp ≤ n

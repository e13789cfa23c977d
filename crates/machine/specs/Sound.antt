-- What the machine and the events so far have to do with each other. It is said of each session
-- and object by itself, and never of whole databases.
use Rattle.std.specs.Prelude.{◌≡◌, ℕ, List, [], Bool, true, false, Option, Some, None, length}
use Rattle.std.specs.Prelude.{is_some}
use Rattle.eos_ops.specs.declared.act.Act.{Act}
use Rattle.eos_ops.specs.declared.plain.Plain.{Plain}
use Rattle.history.specs.Event.{Event}
use Rattle.history.specs.Holding.{holds}
use Rattle.history.specs.Serial.{Serial, AreInside, acts_on, RightAt, replayed}
use Rattle.history.specs.Transactions.{Ended, opened, closed}
use Rattle.machine.specs.Machine.{Slot, Machine, slot_at, is_active, is_holder, database}

-- The acts of a session's open transaction on object o, replayed from the committed version, have
-- their replies and give the working version, where the session holds o. Else there are none.
abbrev pub StandsBy : ℕ → Option (List Act) → Bool → Plain → Plain → Type 0
StandsBy o None held committed working = held ≡ false
StandsBy o (Some acts) true committed working = RightAt committed (acts_on o acts)
    × (working ≡ replayed committed (acts_on o acts))
StandsBy o (Some acts) false committed working = acts_on o acts ≡ []

abbrev pub Stands : ℕ → ℕ → Option (List Act) → Slot → Type 0
Stands s o acts slot = StandsBy o acts (is_holder s slot.holder) slot.committed slot.working

-- the acts that are open, if any, are on objects below n
abbrev pub AreInsideOf : ℕ → Option (List Act) → Type 0
AreInsideOf n None = Unit {0}
AreInsideOf n (Some acts) = AreInside n acts

-- The acts of each session's open transaction and the held objects, beside who is active in the
-- machine and who holds what. An idle session holds nothing. Of contents it says nothing.
pub record Tracks (acts : ℕ → Option (List Act)) (holding : ℕ → ℕ → Bool)
    (m : Machine) : Type 0 where
  pub active : (s : ℕ) → is_some (acts s) ≡ is_active m s
  pub held : (s o : ℕ) → holding s o ≡ is_holder s (slot_at m o).holder
  pub idle : (s o : ℕ) → is_active m s ≡ false → is_holder s (slot_at m o).holder ≡ false

-- The same with the contents: the ends so far are serial and lead to the committed objects, and
-- each session's open acts to its working ones.
pub record Reflects (db : List Plain) (ends : List Ended) (acts : ℕ → Option (List Act))
    (holding : ℕ → ℕ → Bool) (m : Machine) : Type 0 where
  pub tracks : Tracks acts holding m
  pub serial : Serial db ends (database m)
  pub stands : (s o : ℕ) → Stands s o (acts s) (slot_at m o)
  pub rests : (o : ℕ) → (slot_at m o).holder ≡ None →
      (slot_at m o).working ≡ (slot_at m o).committed
  pub inside : (s : ℕ) → AreInsideOf (length m.slots) (acts s)

-- the machine's roles are those of these events
abbrev pub Tracked : List Event → Machine → Type 0
Tracked past m = Tracks (λ s. opened s past) (λ s o. holds s o past) m

-- the machine stands where these events, which began at db, have brought it
abbrev pub Sound : List Plain → List Event → Machine → Type 0
Sound db past m = Reflects db (closed past) (λ s. opened s past) (λ s o. holds s o past) m

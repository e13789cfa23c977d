-- A store as one value, and what an answered line makes of it: a step of the machine, and a move
-- of the moment.
use Rattle.std.specs.Prelude.{◌≡◌, ℕ, List, [], ◌∷◌}
use Rattle.eos_ops.specs.declared.command.Command.{Command}
use Rattle.eos_ops.specs.declared.reply.Reply.{Reply}
use Rattle.geometry_model.specs.Numbers.{Numbers}
use Rattle.history.specs.Event.{Event, deed}
use Rattle.history.specs.Holding.{holds}
use Rattle.machine.specs.Machine.{Machine, bare, is_holder, slot_at}
use Rattle.machine.specs.Next.{next}
use Rattle.machine.specs.Runs.{IsEvent, IsOwed}
use Rattle.moment_model.specs.Moment.{Moment}
use Rattle.moment_model.specs.Run.{Lays, moment_after, Agrees}

-- the numbers of a store, the bytes of its objects with the sessions, and where the objects stand
-- on pages
pub record Store : Type 0 where
  pub numbers : Numbers
  pub machine : Machine
  pub moment : Moment

-- an answered line
abbrev pub event_of : ℕ → Command → Reply → Event
event_of s c r = record { session = s; command = c; reply = r }

-- session s holds, by the events, just what it holds in the machine
abbrev pub HoldsBy : ℕ → List Event → Machine → Type 0
HoldsBy s past m = (o : ℕ) → holds s o past ≡ is_holder s (slot_at m o).holder

-- One step of a store whose bytes are told, over bodies that lay out edits so: an event of the
-- machine, which moves the machine and the moment, and whose reply agrees with the moment. (It
-- moves the moment after any events by which the session holds what it holds.)
pub record IsToldStep (laid : Lays) (w : Store) (s : ℕ) (c : Command) (r : Reply)
    (w' : Store) : Type 0 where
  pub numbers : w'.numbers ≡ w.numbers
  pub event : IsEvent w.machine (event_of s c r)
  pub machine : w'.machine ≡ next w.machine s (deed c r)
  pub moment : (past : List Event) → HoldsBy s past w.machine →
      w'.moment ≡ moment_after laid w.numbers past w.moment (event_of s c r)
  pub agrees : Agrees laid w.numbers w.moment s c r

-- One step over every device, told or not: the reply is owed, and sessions and holders move by
-- it. Nothing is said of what the objects contain.
pub record IsOwedStep (m : Machine) (s : ℕ) (c : Command) (r : Reply) (m' : Machine) : Type 0 where
  pub owed : IsOwed m (event_of s c r)
  pub state : bare m' ≡ bare (next m s (deed c r))

-- these events bring a told store from the first to the last, each by a step; the newest stands
-- first
abbrev pub AreToldSteps : Lays → Store → List Event → Store → Type 0
AreToldSteps laid first [] last = last ≡ first
AreToldSteps laid first (e ∷ past) last =
    (mid : Store) × AreToldSteps laid first past mid
    × IsToldStep laid mid e.session e.command e.reply last

-- the same of steps that are owed, from one machine to another
abbrev pub AreOwedSteps : Machine → List Event → Machine → Type 0
AreOwedSteps first [] last = bare last ≡ bare first
AreOwedSteps first (e ∷ past) last =
    (mid : Machine) × AreOwedSteps first past mid × IsOwedStep mid e.session e.command e.reply last

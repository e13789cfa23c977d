-- Objects and sessions before the first command.
use Rattle.std.specs.Prelude.{ℕ, ◌+◌, None}
use Rattle.eos_ops.specs.declared.plain.Plain.TheVariants.{Absent}
use Rattle.shadow_txn.specs.Transaction.{unbegun}
use Rattle.world.specs.Session.{Object, Session}

-- an absent object that nobody has held
abbrev pub first_object : Object
first_object = record { committed = Absent; working = None; annals = 0 }

-- the session at a place, with no transaction so far
abbrev pub first_txn : ℕ → ℕ → Session
first_txn objects i = unbegun (i + 1) objects

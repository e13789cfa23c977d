-- One command served over plain objects in memory.
use Rattle.std.specs.Prelude.{◌≡◌, ℕ, IsTrue, Bool, true, false}
use Rattle.eos_ops.specs.declared.command.Command.{Command}
use Rattle.eos_ops.specs.declared.reply.Reply.{Reply}
use Rattle.eos_ops.specs.declared.reply.Reply.TheVariants as reply
use Rattle.history.specs.Event.{deed}
use Rattle.machine.specs.Machine.{Machine}
use Rattle.machine.specs.Next.{next}
use Rattle.machine.specs.Runs.{IsEvent}

-- Plain objects in memory need no page and no device: no reply tells of a want of space, or of a
-- fault.
abbrev pub is_plain_reply : Reply → Bool
is_plain_reply (reply.NoSpace n) = false
is_plain_reply reply.Fault = false
is_plain_reply r = true

-- the command and its reply are an event of the machine, which moves it
pub record IsPlainStep (m : Machine) (s : ℕ) (c : Command) (r : Reply) (m' : Machine) : Type 0 where
  pub event : IsEvent m (record { session = s; command = c; reply = r })
  pub plain : IsTrue (is_plain_reply r)
  pub state : m' ≡ next m s (deed c r)

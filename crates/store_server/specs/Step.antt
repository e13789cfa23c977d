-- One command served over a store.
use Rattle.std.specs.Prelude.{◌≡◌, ℕ, Bool, IsTrue}
use Rattle.eos_ops.specs.declared.command.Command.{Command}
use Rattle.eos_ops.specs.declared.edit.Edit.{Edit}
use Rattle.eos_ops.specs.declared.reply.Reply.{Reply}
use Rattle.eos_ops.specs.declared.reply.Reply.TheVariants as reply
use Rattle.geometry_model.specs.Numbers.{Numbers}
use Rattle.moment_model.specs.Moment.{ObjectSlot}
use Rattle.moment_model.specs.Run.{Lays}
use Rattle.store_model.specs.Store.{IsOwedStep, IsToldStep}
use Rattle.body_world.specs.Keeping.{WorldView}
use Rattle.body_world.specs.Pages.{MovesPages, UsesPort}

-- A command of a session, its reply, and the store before and after. Over every device the reply is
-- owed, sessions and holders move by it, and a fault has its cause. Where bytes are told it moves no
-- more pages than it may; and where the slots stand for pages it is a step of the store.
pub record IsServerStep (tells on_pages : Bool) (laid : Lays)
    (may_write : Numbers → ObjectSlot → Edit → ObjectSlot → ℕ → Type 0)
    (may_read : Numbers → ObjectSlot → ℕ → ℕ → Type 0)
    (w : WorldView) (s : ℕ) (c : Command) (r : Reply) (w' : WorldView) : Type 0 where
  pub owed : IsOwedStep w.store.machine s c r w'.store.machine
  pub told : IsTrue tells → IsTrue on_pages → IsToldStep laid w.store s c r w'.store
  pub numbers : w'.store.numbers ≡ w.store.numbers
  pub port : UsesPort w.meter w'.meter (r ≡ reply.Fault)
  pub pages : IsTrue tells →
      MovesPages may_write may_read w.store w'.store c w.meter w'.meter

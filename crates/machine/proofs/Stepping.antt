-- One event more: what a layer whose step is one step of the machine adds to a run.
use Rattle.std.proofs.Common.{◌≡◌, ℕ, ◌<◌, ◌≤◌, List, ◌∷◌, length, refl, sym, ap, subst, inl}
use Rattle.eos_ops.specs.declared.command.Command.{Command}
use Rattle.eos_ops.specs.declared.plain.Plain.{Plain}
use Rattle.eos_ops.specs.declared.reply.Reply.TheVariants as reply
use Rattle.eos_ops.specs.Memory.{MayTakeMemory}
use Rattle.history.specs.Event.{Event, deed_of}
use Rattle.machine.specs.Machine.{Machine, IsSession}
use Rattle.machine.specs.Next.{next}
use Rattle.machine.specs.Replies.{IsStep}
use Rattle.machine.specs.Runs.{state_after, IsEvent, IsRun}
use Rattle.machine.specs.Sound.{Sound}
use Rattle.machine.proofs.Answering.{deed_memory}
use Rattle.machine.proofs.Replying.{Replies-answers, May-replies}
use Rattle.machine.proofs.Sizes.{seats-run}
use Rattle.machine.proofs.Soundness.{Sound-step}

-- the sessions of a run are those that it began with
pub IsSession-run : (m : Machine) (past : List Event) (s : ℕ) → 0 < s → s ≤ length m.seats → IsSession (state_after m past) s
IsSession-run m past s from within = record { from_one = from; within = subst (λ (n : ℕ). s ≤ n) (sym (seats-run m past)) within }

-- an exact step after a run
pub IsRun-step : (m : Machine) (past : List Event) (e : Event) (m' : Machine) → IsRun m past →
    IsSession (state_after m past) e.session → IsStep (state_after m past) e.session e.command e.reply m' →
    IsRun m (e ∷ past) × (m' ≡ state_after m (e ∷ past))
IsRun-step m past e m' run session step = (
  (
    run,
    record {
      session = session;
      reply =
          Replies-answers (state_after m past) e.session e.command e.reply step.reply;
    },
  ),
  step.state,
)

-- a line that is answered `memory` before it is run, and may be, leaves the machine as it was
pub IsRun-memory : (m : Machine) (past : List Event) (s : ℕ) (c : Command) → IsRun m past →
    IsSession (state_after m past) s → MayTakeMemory c →
    IsRun m (record { session = s; command = c; reply = reply.Memory } ∷ past)
    × (state_after m past ≡ state_after m (record { session = s; command = c; reply = reply.Memory } ∷ past))
IsRun-memory m past s c run session may = (
  (run, record { session = session; reply = inl (refl, may) }),
  sym (ap (next (state_after m past) s) (deed_memory c)),
)

-- a step of the machine by its replies keeps what is sound
pub Sound-event : (db : List Plain) (past : List Event) (m : Machine) (e : Event) → IsEvent m e → Sound db past m →
    Sound db (e ∷ past) (next m e.session (deed_of e))
Sound-event db past m e event sound = Sound-step db past m e (May-replies m e.session e.command e.reply event.session event.reply) sound

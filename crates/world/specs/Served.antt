-- What a command on an object makes of a session and of the shelf.
use Rattle.std.specs.Prelude.{◌≡◌, ◌≢◌, ℕ, ◌⊎◌, Bool, List, Option, Some, None, length, is_some}
use Rattle.std.specs.Prelude.{IsSomeAnd}
use Rattle.std.specs.Option.{option_map}
use Rattle.eos_ops.specs.declared.command.Command.{Command}
use Rattle.eos_ops.specs.declared.reply.Reply.{Reply}
use Rattle.eos_ops.specs.declared.reply.Reply.TheVariants.{Memory}
use Rattle.eos_ops.specs.Memory.{TakesMemory}
use Rattle.eos_ops.specs.Objects.{reply_in, after_in}
use Rattle.machine.specs.Machine.{Slot}
use Rattle.machine.specs.Next.{settled}
use Rattle.shadow_txn.specs.Transaction.{with_end, end_stamp}
use Rattle.world.specs.Session.{Object, Session, IsSoundSession, seen_by, refused_by}

-- an object after a command of a session that holds it from then on
abbrev pub served : ℕ → Command → Slot → Slot
served s c slot = record {
  committed = slot.committed;
  working = after_in c slot.working;
  holder =
      Some s;
  stamp = slot.stamp;
}

-- The session is as sound as it was, sees just those objects that it saw, and is the same session
-- with the same last stamp and a transaction open as before.
pub record KeepsSession (shelf : List (Option Object)) (txn : Session)
    (shelf' : List (Option Object)) (txn' : Session) : Type 0 where
  pub session : txn'.session ≡ txn.session
  pub size : length shelf' ≡ length shelf
  pub sides : (o : ℕ) → is_some (seen_by shelf' txn' o) ≡ is_some (seen_by shelf txn o)
  pub sound : IsSoundSession shelf' txn'

-- The object answers from what the session saw of it, the session holds it from then on, and it
-- sees all else as before.
pub record HasServed (c : Command) (o : ℕ) (r : Reply) (shelf : List (Option Object))
    (txn : Session) (shelf' : List (Option Object)) (txn' : Session) : Type 0 where
  pub slot : Slot
  pub seen : seen_by shelf txn o ≡ Some slot
  pub reply : r ≡ reply_in c slot.working
  pub now : seen_by shelf' txn' o ≡ Some (served txn.session c slot)
  pub others : (p : ℕ) → p ≢ o → seen_by shelf' txn' p ≡ seen_by shelf txn p
  pub kept : KeepsSession shelf txn shelf' txn'
  pub is_open : txn'.is_open ≡ txn.is_open
  pub stamp : txn'.stamp ≡ txn.stamp

-- An answer is the first refusal, want of memory where there is none and the object's answer
-- takes memory, or the object's own. In the first two cases nothing has changed.
abbrev pub IsAnswer : Command → ℕ → Reply → List (Option Object) → Session →
    List (Option Object) → Session → Type 0
IsAnswer c o r shelf txn shelf' txn' =
    ((refused_by shelf txn o ≡ Some r) × (shelf' ≡ shelf) × (txn' ≡ txn))
    ⊎ (((refused_by shelf txn o ≡ None) × (r ≡ Memory) × (shelf' ≡ shelf) × (txn' ≡ txn)
    × IsSomeAnd (seen_by shelf txn o) (λ slot. TakesMemory c slot.working))
    ⊎ ((refused_by shelf txn o ≡ None) × HasServed c o r shelf txn shelf' txn'))

-- A transaction has ended: what the session held is let go, with the stamp of the end, and it
-- sees all else as before.
pub record IsEnded (committed : Bool) (shelf : List (Option Object)) (txn : Session)
    (shelf' : List (Option Object)) (txn' : Session) : Type 0 where
  pub kept : KeepsSession shelf txn shelf' txn'
  pub closed : txn' ≡ with_end txn (end_stamp (λ x. x.annals) txn)
  pub seen : (o : ℕ) → seen_by shelf' txn' o
      ≡ option_map (settled txn.session committed (end_stamp (λ x. x.annals) txn))
      (seen_by shelf txn o)

-- A line that was answered, and what it was: the one place where commands meet replies.
--
-- All that is said of a history goes by the deeds of its events. A list of events has the newest
-- first, since each event is judged by those before it.
use Rattle.std.specs.Prelude.{ℕ, Bool, true, false}
use Rattle.std.specs.Option.{option_map_or}
use Rattle.eos_ops.specs.declared.act.Act.{Act}
use Rattle.eos_ops.specs.declared.command.Command.{Command}
use Rattle.eos_ops.specs.declared.command.Command.TheVariants.{Begin, Commit, Abort}
use Rattle.eos_ops.specs.declared.reply.Reply.{Reply}
use Rattle.eos_ops.specs.declared.reply.Reply.TheVariants as reply
use Rattle.eos_ops.specs.Objects.{object_of, with_bytes}

-- a command of a session, and its reply
pub record Event : Type 0 where
  pub session : ℕ
  pub command : Command
  pub reply : Reply

pub data Deed : Type 0 where
  -- a transaction begins
  Opens : Deed
  -- the object was at hand and answered: an act on it
  Does : ℕ → Act → Deed
  -- the object was at hand, but no space or no device was: it is held, and there is no act
  Takes : ℕ → Deed
  -- the transaction ends, committed or else aborted
  Closes : Bool → Deed
  -- a refusal, or a question about the pages
  Nothing : Deed

-- a reply to a command on object o
abbrev pub answered : ℕ → Command → Reply → Deed
answered o c reply.Ok = Does o (record { command = c; reply = reply.Ok })
answered o c (reply.Length n) = Does o (record { command = c; reply = reply.Length n })
answered o c (reply.Bytes x) = Does o (record { command = c; reply = reply.Bytes x })
answered o c (reply.Range n) = Does o (record { command = c; reply = reply.Range n })
answered o c reply.Exists = Does o (record { command = c; reply = reply.Exists })
answered o c reply.Missing = Does o (record { command = c; reply = reply.Missing })
answered o c (reply.NoSpace n) = Takes o
answered o c reply.Fault = Takes o
answered o c reply.Busy = Nothing
answered o c reply.Full = Nothing
answered o c reply.NoObject = Nothing
answered o c reply.Memory = Nothing
answered o c reply.Idle = Nothing
answered o c reply.Active = Nothing
answered o c reply.TooLong = Nothing
answered o c reply.Worn = Nothing
answered o c (reply.Status f l h) = Nothing
answered o c reply.Again = Nothing

-- whether the reply is `ok`
abbrev pub is_done : Reply → Bool
is_done reply.Ok = true
is_done r = false

-- a reply to a command on no object
abbrev pub bounded : Command → Bool → Deed
bounded Begin true = Opens
bounded Commit true = Closes true
bounded Abort true = Closes false
bounded c done = Nothing

-- What a command with its reply is. In an act a payload stands as its bytes.
abbrev pub deed : Command → Reply → Deed
deed c r = option_map_or (λ o. answered o (with_bytes c) r) (object_of c) (bounded c (is_done r))

abbrev pub deed_of : Event → Deed
deed_of e = deed e.command e.reply

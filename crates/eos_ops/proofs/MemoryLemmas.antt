-- What takes memory at some object, may take memory.
use Rattle.std.proofs.Common.{refl, ℕ, zero, suc, ◌+◌, ◌<◌, Bool, true, false, cond, length, arith}
use Rattle.std.specs.Prelude.{nat_le, IsSome}
use Rattle.eos_ops.specs.declared.command.Command.{Command}
use Rattle.eos_ops.specs.declared.command.Command.TheVariants.{Begin, Create, Destroy, Length, Read, Append, Insert}
use Rattle.eos_ops.specs.declared.command.Command.TheVariants.{Delete, Replace, Commit, Abort, Status}
use Rattle.eos_ops.specs.declared.plain.Plain.{Plain}
use Rattle.eos_ops.specs.declared.plain.Plain.TheVariants.{Absent, Present}
use Rattle.eos_ops.specs.declared.reply.Reply.TheVariants as reply
use Rattle.eos_ops.specs.Memory.{GivesBytes, TakesMemory, MayTakeMemory}
use Rattle.eos_ops.specs.Objects.{object_of, read_in}
use Rattle.eos_ops.specs.Splice.{part}

-- a read that gives a byte asks for one
read_asks : (at n : ℕ) (x : Plain) → GivesBytes (read_in at n x) → 0 < n
read_asks at n Absent gives = absurd gives
read_asks at zero (Present x) gives = none (nat_le (at + 0) (length x)) gives
  where
    none : (b : Bool) → GivesBytes (cond b (reply.Bytes (part x at 0)) (reply.Range (length x))) → 0 < 0
    none true gives = gives
    none false gives = absurd gives
read_asks at (suc n) (Present x) gives = omega arith

pub takes_may_take : (c : Command) (x : Plain) → TakesMemory c x → MayTakeMemory c
takes_may_take Begin x takes = takes
takes_may_take (Create o t) x takes = takes
takes_may_take (Destroy o) x takes = absurd takes
takes_may_take (Length o) x takes = takes
takes_may_take (Read o at n) x takes = read_asks at n x takes
takes_may_take (Append o p) x takes = tt
takes_may_take (Insert o at p) x takes = tt
takes_may_take (Delete o at n) x takes = tt
takes_may_take (Replace o at p) x takes = tt
takes_may_take Commit x takes = takes
takes_may_take Abort x takes = takes
takes_may_take Status x takes = takes

-- a command that may take memory is on an object
pub may_take-object : (c : Command) → MayTakeMemory c → IsSome (object_of c)
may_take-object Begin may = absurd may
may_take-object (Create o t) may = absurd may
may_take-object (Destroy o) may = refl
may_take-object (Length o) may = absurd may
may_take-object (Read o at n) may = refl
may_take-object (Append o p) may = refl
may_take-object (Insert o at p) may = refl
may_take-object (Delete o at n) may = refl
may_take-object (Replace o at p) may = refl
may_take-object Commit may = absurd may
may_take-object Abort may = absurd may
may_take-object Status may = absurd may

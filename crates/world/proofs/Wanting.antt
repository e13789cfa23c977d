-- An edit that wants memory can be made, and leaves bytes.
use Rattle.std.proofs.Common.{◌≡◌, ℕ, ◌+◌, ◌<◌, Bool, true, false, cond, length, length-append, ◌++◌, drop, take}
use Rattle.std.proofs.Common.{nat_le, Option, Some, None, unwrap_or, subst, arith}
use Rattle.std.specs.Prelude.{MatchOption, IfSome}
use Rattle.eos_ops.specs.declared.edit.Edit.{Edit}
use Rattle.eos_ops.specs.declared.edit.Edit.TheVariants.{Create, Destroy, Append, Insert, Delete, Replace}
use Rattle.eos_ops.specs.declared.outcome.Outcome.TheVariants.{Done, Range}
use Rattle.eos_ops.specs.declared.plain.Plain.{Plain}
use Rattle.eos_ops.specs.declared.plain.Plain.TheVariants.{Absent, Present}
use Rattle.eos_ops.specs.Edits.{outcome_in, edited, PutsBytes}
use Rattle.eos_ops.specs.Memory.{HasAByte, LeavesBytes}
use Rattle.eos_ops.specs.Splice.{inserted}
use Rattle.shadow_txn.specs.Held.{held_object}
use Rattle.shadow_txn.specs.Memory.{WantsMemory}
use Rattle.shadow_txn.specs.Objects.{working_of}
use Rattle.shadow_txn.specs.Replies.{working_in}
use Rattle.world.specs.Session.{Object, Session}

-- bytes that are put in are there
puts-leaves : (e : Edit) (x : Plain) → outcome_in e x ≡ Done → PutsBytes e x → HasAByte (edited e x)
puts-leaves (Create t) x done puts = absurd puts
puts-leaves Destroy x done puts = absurd puts
puts-leaves (Delete at n) x done puts = absurd puts
puts-leaves (Replace at p) x done puts = absurd puts
puts-leaves (Append p) Absent done puts = absurd puts
puts-leaves (Insert at p) Absent done puts = absurd puts
puts-leaves (Append p) (Present x) done puts = let sum = length-append x p in omega (arith, sum, puts)
puts-leaves (Insert at p) (Present x) done puts = fits (nat_le at (length x)) done
  where
    fits : (b : Bool) → cond b Done (Range (length x)) ≡ Done → 0 < length (cond b (inserted x at p) x)
    fits true done =
        let outer : length (take at x ++ p ++ drop at x) ≡ length (take at x ++ p) + length (drop at x) =
        length-append (take at x ++ p) (drop at x) in
        let inner : length (take at x ++ p) ≡ length (take at x) + length p = length-append (take at x) p in
        let some : 0 < length (take at x ++ p ++ drop at x) = omega (arith, outer, inner, puts) in
        some
    fits false done = absurd (cc)

wants-version : (e : Edit) (committed : Plain) (working : Option Plain) →
    outcome_in e (unwrap_or working committed) ≡ Done →
    MatchOption working (HasAByte (edited e committed)) (PutsBytes e) →
    HasAByte (edited e (unwrap_or working committed))
wants-version e committed None done wants = wants
wants-version e committed (Some x) done wants = puts-leaves e x done wants

pub wants-leaves : (e : Edit) (x : Object) → WantsMemory e x → LeavesBytes e (working_of x)
wants-leaves e x wants = (wants.0, wants-version e x.committed x.working wants.0 wants.1)

-- the same of an object that a session holds
pub held-leaves : (e : Edit) (o : ℕ) (txn : Session) (x : Object) → held_object o txn.held ≡ Some x →
    IfSome (held_object o txn.held) (WantsMemory e) → LeavesBytes e (working_in o txn.held)
held-leaves e o txn x is wants = rw is (wants-leaves e x (subst (λ t. IfSome t (WantsMemory e)) is wants))

-- When a shelf serves a transaction: what its calls ask for, and keep.
use Rattle.std.specs.Prelude.{◌≡◌, ℕ, ◌+◌, ◌-◌, ◌≤◌, List, [], Bool, true, false, Option, Some}
use Rattle.std.specs.Prelude.{None, IfSome, IsSomeAnd, slice_index_or}
use Rattle.eos_ops.specs.declared.end.End.{End}
use Rattle.eos_ops.specs.declared.plain.Plain.TheVariants.{Absent}
use Rattle.object_locks.specs.Shelving.{Shelving, Terms, Log}
use Rattle.shadow_txn.specs.declared.held.Held.{Held}
use Rattle.shadow_txn.specs.declared.plain_object.PlainObject.{PlainObject}
use Rattle.shadow_txn.specs.Held.{held_object}
use Rattle.shadow_txn.specs.Objects.{IsLegalObject}
use Rattle.shadow_txn.specs.Transaction.{Transaction, last_ended}

-- The shelf's past allows the next end: it has seen the last stamps of all held objects, and that
-- of the session but for the ends that held no object.
pub record IsPast {T : Type 0} (last : T → ℕ) (txn : Transaction T) (log : Log) : Type 0 where
  pub seen : (o : ℕ) (x : T) → held_object o txn.held ≡ Some x → last x ≤ log.reach
  pub number : log.count ≤ last_ended txn
  pub stamp : txn.stamp ≤ log.reach + (last_ended txn - log.count)

-- The shelf has the objects of the transaction, serves its session or no single one, and the held
-- objects came from it. Where it serves one session, nothing else is out with it.
pub record Serves {H : Type 0} (told : H → Option (List End)) (last : H → ℕ)
    (txn : Transaction (PlainObject H)) (shelf : Shelving (PlainObject H)) : Type 0 where
  pub objects : shelf.objects ≡ txn.objects
  pub session : IfSome shelf.session (λ s. s ≡ txn.session)
  pub came : (o : ℕ) (x : PlainObject H) → held_object o txn.held ≡ Some x →
      IsSomeAnd (shelf.out o) (λ known. IfSome known (λ was. told x.annals ≡ Some was))
  pub just : IfSome shelf.session (λ _. (o : ℕ) → held_object o txn.held ≡ None →
      shelf.out o ≡ None)
  pub past : IfSome shelf.log (IsPast (λ x. last x.annals) txn)

-- The ends of each held object, where they are told, lead from its contents at opening to its
-- committed version.
abbrev pub AreLegal : {H : Type 0} → (H → Option (List End)) → Terms →
    List (Held (PlainObject H)) → Type 0
AreLegal {H} told t held = (o : ℕ) (x : PlainObject H) → held_object o held ≡ Some x →
    IsLegalObject told (slice_index_or t.opened o Absent) x

-- The held objects keep the terms: objects in memory have no frame, and where ends are told they
-- are legal.
abbrev pub Agree : {H : Type 0} → Bool → (H → Option (List End)) → Terms →
    List (Held (PlainObject H)) → Type 0
Agree false told t held = t.frame ≡ []
Agree true told t held = (t.frame ≡ []) × AreLegal told t held

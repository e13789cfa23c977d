-- What taking an object makes of the shelf, by its answer.
use Rattle.std.specs.Prelude.{◌≡◌, ℕ, ◌<◌, ◌≤◌, ◌^◌, List, [], ◌∷◌, ◌++◌, length, Option, None}
use Rattle.std.specs.Prelude.{IfSome}
use Rattle.eos_ops.specs.declared.end.End.{End}
use Rattle.eos_ops.specs.declared.limits.TheConstants.{MAX_HELD}
use Rattle.eos_ops.specs.Ends.{last_stamp_of}
use Rattle.object_locks.specs.Shelving.{Shelving, IsTake, IsPut, refused_take}
use Rattle.shadow_txn.specs.declared.fails.HoldFail.{HoldFail}
use Rattle.shadow_txn.specs.declared.fails.HoldFail.TheVariants.{NoObject, Full, Busy, Worn, Memory}
use Rattle.shadow_txn.specs.declared.plain_object.PlainObject.{PlainObject}
use Rattle.shadow_txn.specs.Held.{held_object}
use Rattle.shadow_txn.specs.Transaction.{Transaction, holding}

-- the same object, with the same history
pub record IsSameObject {H : Type 0} (told : H → Option (List End)) (last : H → ℕ)
    (x y : PlainObject H) : Type 0 where
  pub committed : y.committed ≡ x.committed
  pub working : y.working ≡ x.working
  pub ends : told y.annals ≡ told x.annals
  pub stamp : last y.annals ≡ last x.annals

-- The object came from the shelf, at rest, with a stamp left and room for one end.
pub record HasTaken {H : Type 0} (told : H → Option (List End)) (last spare : H → ℕ) (o : ℕ)
    (object : PlainObject H) (old new : Shelving (PlainObject H)) : Type 0 where
  pub was : PlainObject H
  pub take : IsTake (told was.annals) o was old new
  pub same : IsSameObject told last was object
  pub rests : object.working ≡ None
  pub room : 1 ≤ spare object.annals
  pub left : last object.annals < 2 ^ 62
  pub ages : IfSome (told object.annals) (λ ends. last object.annals ≡ last_stamp_of ends)

-- the object came from the shelf and was put back as it was
pub record IsReturned {H : Type 0} (told : H → Option (List End)) (last : H → ℕ) (o at : ℕ)
    (old new : Shelving (PlainObject H)) : Type 0 where
  pub was : PlainObject H
  pub back : PlainObject H
  pub between : Shelving (PlainObject H)
  pub take : IsTake (told was.annals) o was old between
  pub put : IsPut (told back.annals) o back between new
  pub same : IsSameObject told last was back
  pub stamp : last was.annals ≡ at

-- What a refusal leaves of the shelf.
abbrev pub Leaves : {H : Type 0} → (H → Option (List End)) → (H → ℕ) → HoldFail → ℕ →
    Shelving (PlainObject H) → Shelving (PlainObject H) → Type 0
Leaves told last NoObject o old new = new ≡ old
Leaves told last Full o old new = new ≡ old
Leaves told last Busy o old new = new ≡ refused_take o old
Leaves told last Worn o old new = IsReturned told last o (2 ^ 62) old new
Leaves told last Memory o old new = (stamp : ℕ) × (stamp < 2 ^ 62)
    × IsReturned told last o stamp old new

-- The transaction holds one object more, which came from the shelf, and has done nothing to it.
pub record Holds {H : Type 0} (told : H → Option (List End)) (last spare : H → ℕ) (o : ℕ)
    (old new : Transaction (PlainObject H))
    (before after : Shelving (PlainObject H)) : Type 0 where
  pub object : PlainObject H
  pub taken : HasTaken told last spare o object before after
  pub held : new ≡ holding old (old.held ++ record { number = o; object = object; acts = [] } ∷ [])

-- the shelf is asked for object o: it isn't held, there is such an object, and a place for it
pub record CanAsk {T : Type 0} (o : ℕ) (txn : Transaction T) : Type 0 where
  pub away : held_object o txn.held ≡ None
  pub present : o < txn.objects
  pub place : length txn.held < MAX_HELD

-- What taking an object makes of the transaction and the shelf, by its answer.
use Rattle.std.specs.Prelude.{◌≡◌, ℕ, ◌<◌, ◌≤◌, ◌^◌, ◌↔◌, List, [], ◌∷◌, ◌++◌, length, Bool, true}
use Rattle.std.specs.Prelude.{false, Option, Some, None, IsSome, IfSome, IfErr, OnErr}
use Rattle.std.specs.Prelude.{slice_get, Result, Ok, Err}
use Rattle.eos_ops.specs.declared.end.End.{End}
use Rattle.eos_ops.specs.declared.limits.TheConstants.{MAX_HELD}
use Rattle.eos_ops.specs.Ends.{last_stamp_of}
use Rattle.object_locks.specs.Shelving.{Shelving, IsTake, IsPut, refused_take}
use Rattle.shadow_txn.specs.declared.fails.HoldFail.{HoldFail}
use Rattle.shadow_txn.specs.declared.fails.HoldFail.TheVariants.{NoObject, Full, Busy, Worn, Memory}
use Rattle.shadow_txn.specs.Held.{held_object}
use Rattle.shadow_txn.specs.Taking.{CanAsk}
use Rattle.shadow_txn.specs.Transaction.{Transaction, holding}

-- the same object, with the same history: room for an end may have been made
pub record IsSame {T C : Type 0} (body : T → C) (told : T → Option (List End)) (last : T → ℕ)
    (x y : T) : Type 0 where
  pub versions : body y ≡ body x
  pub ends : told y ≡ told x
  pub stamp : last y ≡ last x

-- The object came from the shelf, at rest, with a stamp left and room for one end.
pub record TookObject {T C : Type 0} (body : T → C) (told : T → Option (List End))
    (last spare : T → ℕ) (rests : T → Type 0) (o : ℕ) (object : T)
    (old new : Shelving T) : Type 0 where
  pub was : T
  pub take : IsTake (told was) o was old new
  pub same : IsSame body told last was object
  pub at_rest : rests object
  pub room : 1 ≤ spare object
  pub left : last object < 2 ^ 62
  pub ages : IfSome (told object) (λ ends. last object ≡ last_stamp_of ends)

-- the object came from the shelf and was put back as it was
pub record WasReturned {T C : Type 0} (body : T → C) (told : T → Option (List End)) (last : T → ℕ)
    (o at : ℕ) (old new : Shelving T) : Type 0 where
  pub was : T
  pub back : T
  pub between : Shelving T
  pub take : IsTake (told was) o was old between
  pub put : IsPut (told back) o back between new
  pub same : IsSame body told last was back
  pub stamp : last was ≡ at

-- What a refusal leaves of the shelf.
abbrev pub RefusalLeaves : {T C : Type 0} → (T → C) → (T → Option (List End)) → (T → ℕ)
    → HoldFail → ℕ → Shelving T → Shelving T → Type 0
RefusalLeaves body told last NoObject o old new = new ≡ old
RefusalLeaves body told last Full o old new = new ≡ old
RefusalLeaves body told last Busy o old new = new ≡ refused_take o old
RefusalLeaves body told last Worn o old new = WasReturned body told last o (2 ^ 62) old new
RefusalLeaves body told last Memory o old new = (stamp : ℕ) × (stamp < 2 ^ 62)
    × WasReturned body told last o stamp old new

-- The transaction holds one object more, which came from the shelf, and has done nothing to it.
pub record HoldsMore {T C : Type 0} (body : T → C) (told : T → Option (List End))
    (last spare : T → ℕ)
    (rests : T → Type 0) (o : ℕ) (old new : Transaction T)
    (before after : Shelving T) : Type 0 where
  pub object : T
  pub taken : TookObject body told last spare rests o object before after
  pub held : new ≡ holding old (old.held ++ record { number = o; object = object; acts = [] } ∷ [])

-- The answers to `hold` have these causes, in this order: there is no such object; as many are held
-- as may be; it is out, where it is told what is home. Want of memory comes only where annals keep
-- their ends.
pub record HasHoldCause {T A : Type 0} (keeps : Bool) (o : ℕ) (txn : Transaction T)
    (shelf : Shelving T) (result : Result A HoldFail) : Type 0 where
  pub no_object : (result ≡ Err NoObject) ↔ ((held_object o txn.held ≡ None) × (txn.objects ≤ o))
  pub full : (result ≡ Err Full) ↔ ((held_object o txn.held ≡ None) × (o < txn.objects) ×
      (length txn.held ≡ MAX_HELD))
  pub busy : IfSome shelf.home (λ xs. (result ≡ Err Busy) ↔
      (CanAsk o txn × (slice_get xs o ≡ Some None)))
  pub memory : result ≡ Err Memory → keeps ≡ true

-- The answer says whether the object was taken in this call: one that was held already stays held
-- and nothing happens, and one that was taken is held. After a refusal nothing is held that wasn't.
pub record IsHold {T C : Type 0} (body : T → C) (told : T → Option (List End))
    (last spare : T → ℕ) (rests : T → Type 0) (o : ℕ) (result : Result Bool HoldFail)
    (old new : Transaction T) (before after : Shelving T) : Type 0 where
  pub again : (result ≡ Ok false) ↔ IsSome (held_object o old.held)
  pub same : result ≡ Ok false → (new ≡ old) × (after ≡ before)
  pub took : result ≡ Ok true → HoldsMore body told last spare rests o old new before after
  pub err : OnErr result (new ≡ old)
  pub left : IfErr result (λ fail. RefusalLeaves body told last fail o before after)

-- When a shelf serves a transaction over any objects: what its calls ask for, and keep.
use Rattle.std.specs.Prelude.{◌≡◌, ℕ, List, Option, Some, None, IfSome, IsSomeAnd}
use Rattle.eos_ops.specs.declared.end.End.{End}
use Rattle.eos_ops.specs.declared.plain.Plain.{Plain}
use Rattle.object_locks.specs.Shelving.{Shelving, Terms, Suits}
use Rattle.shadow_txn.specs.declared.held.Held.{Held}
use Rattle.shadow_txn.specs.Held.{held_object}
use Rattle.shadow_txn.specs.Serving.{IsPast}
use Rattle.shadow_txn.specs.Transaction.{Transaction}

-- the value came from the shelf, with the ends that it has
abbrev pub CameFrom : {T : Type 0} → (T → Option (List End)) → Shelving T → ℕ → T → Type 0
CameFrom told shelf o x = IsSomeAnd (shelf.out o) (λ known. IfSome known (λ was. told x ≡ Some was))

-- The shelf has the objects of the transaction, serves its session or no single one, and the held
-- objects came from it. Where it serves one session, nothing else is out with it.
pub record ServesTxn {T : Type 0} (told : T → Option (List End)) (last : T → ℕ)
    (txn : Transaction T)
    (shelf : Shelving T) : Type 0 where
  pub objects : shelf.objects ≡ txn.objects
  pub session : IfSome shelf.session (λ s. s ≡ txn.session)
  pub came : (o : ℕ) (x : T) → held_object o txn.held ≡ Some x → CameFrom told shelf o x
  pub just : IfSome shelf.session (λ _. (o : ℕ) → held_object o txn.held ≡ None
      → shelf.out o ≡ None)
  pub past : IfSome shelf.log (IsPast last txn)

-- the held objects keep the terms of a shelf: its frame, and ends that lead on from the contents at
-- opening
abbrev pub KeepTerms : {T : Type 0} → (T → List ℕ) → (Plain → T → Type 0) → Terms → List (Held T)
    → Type 0
KeepTerms {T} frame legal t held = (o : ℕ) (x : T) → held_object o held ≡ Some x
    → Suits frame legal t o x

-- a shelf that served the transaction serves it still, and the terms that were kept are kept
pub record GoesOn {T : Type 0} (told : T → Option (List End)) (last : T → ℕ) (frame : T → List ℕ)
    (legal : Plain → T → Type 0) (old new : Transaction T) : Type 0 where
  pub serves : (shelf : Shelving T) → ServesTxn told last old shelf → ServesTxn told last new shelf
  pub agree : (t : Terms) → KeepTerms frame legal t old.held → KeepTerms frame legal t new.held

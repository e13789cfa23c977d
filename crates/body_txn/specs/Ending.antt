-- What the end of a transaction makes of its objects, of the shelf and of the spaces.
use Rattle.std.specs.Prelude.{◌≡◌, ℕ, ◌<◌, ◌≤◌, ◌^◌, List, [], ◌∷◌, ◌++◌, Bool, true, false, IsTrue}
use Rattle.std.specs.Prelude.{Option, IfSome, Some, slice_get}
use Rattle.std.specs.Option.{option_map}
use Rattle.eos_ops.specs.declared.act.Act.{Act}
use Rattle.eos_ops.specs.declared.end.End.{End}
use Rattle.eos_ops.specs.declared.plain.Plain.{Plain}
use Rattle.object_body.specs.Calls.{Stage, IsBodyEnd}
use Rattle.object_body.specs.Form.{Form, Contents, settled_form, settled_contents, undone_form}
use Rattle.object_body.specs.Form.{undone_contents}
use Rattle.object_body.specs.Places.{IsReady}
use Rattle.object_locks.specs.Shelving.{Shelving, Terms, IsPut}
use Rattle.shadow_txn.specs.declared.held.Held.{Held}
use Rattle.shadow_txn.specs.Ending.{IsEnding, made_ends, with_puts}
use Rattle.shadow_txn.specs.Held.{held_object, acts_in}
use Rattle.shadow_txn.specs.Transaction.{Transaction, end_stamp, with_end}
use Rattle.superdirectory.specs.Rest.{Rest}
use Rattle.superdirectory.specs.Trace.{SpaceEvent}
use Rattle.body_txn.specs.Serving.{ServesTxn, KeepTerms, CameFrom}

-- what a commit, or else an abort, makes of an object
abbrev pub end_form : Bool → Form → Form
end_form true form = settled_form form
end_form false form = undone_form form

abbrev pub end_contents : Bool → Contents → Contents
end_contents true told = settled_contents told
end_contents false told = undone_contents told

-- the object has got this end, by which its versions are decided
pub record GotEnd {T : Type 0} (tells : Bool) (form : T → Form) (contents : T → Contents)
    (told : T → Option (List End)) (last : T → ℕ) (end : End) (x y : T) : Type 0 where
  pub lengths : form y ≡ end_form end.committed (form x)
  pub bytes : IsTrue tells → contents y ≡ end_contents end.committed (contents x)
  pub at : last y ≡ end.stamp
  pub ends : told y ≡ option_map (λ es. es ++ end ∷ []) (told x)

-- the object after the end of a transaction, with one end more
pub record HasOneEndMore {T : Type 0} (tells : Bool) (form : T → Form) (contents : T → Contents)
    (told : T → Option (List End)) (last : T → ℕ) (stamp session number : ℕ) (committed : Bool)
    (x y : T) : Type 0 where
  pub end : End
  pub stamped : end.stamp ≡ stamp
  pub own : end.session ≡ session
  pub numbered : end.number ≡ number
  pub decided : end.committed ≡ committed
  pub got : GotEnd tells form contents told last end x y

-- Each held object that is home has the end that its acts make, behind those that it had.
abbrev pub EndsAreAdded : {T : Type 0} → (T → Option (List End)) → (List Act → End) → List (Held T)
    → Shelving T → Type 0
EndsAreAdded {T} told end held new =
    (o : ℕ) (x : T) → held_object o held ≡ Some x
    → IfSome new.home (λ xs. (y : T) → slice_get xs o ≡ Some (Some y) → told y ≡ option_map
    (λ es. es ++ end (acts_in o held) ∷ []) (told x))

-- All held objects are home, each with its end and just the acts on it, and in the shelf's past
-- they stand from the last to the first; every other object is as before.
pub record HaveEnded {T : Type 0} (Ended : T → T → Type 0) (told : T → Option (List End))
    (end : List Act → End) (held : List (Held T)) (old new : Shelving T) : Type 0 where
  pub shelf : IsEnding Ended held old new
  pub ends : EndsAreAdded told end held new
  pub log : new.log ≡ option_map (with_puts (made_ends old.out end held)) old.log

-- the transaction is over, with the stamp that is one more than those of its session and its
-- objects
pub record IsClosed {T : Type 0} (last : T → ℕ) (stamp : ℕ) (old new : Transaction T) : Type 0 where
  pub next : stamp ≡ end_stamp last old
  pub within : stamp ≤ 2 ^ 62
  pub over : new ≡ with_end old stamp

-- the shelf serves the transaction still, and keeps the terms that the held objects kept
pub record StaysServed {T : Type 0} (told : T → Option (List End)) (last : T → ℕ)
    (frame : T → List ℕ) (legal : Plain → T → Type 0) (old new : Transaction T) (shelf : Shelving T)
    (Was Is : Terms → Type 0) : Type 0 where
  pub serves : ServesTxn told last new shelf
  pub under : (t : Terms) → KeepTerms frame legal t old.held → Was t → Is t

-- how the spaces stand: what they are, and the looks and enters so far
pub record Standing : Type 0 where
  pub rest : Rest
  pub trace : Option (List SpaceEvent)

-- an object with the spaces as they stand
abbrev pub staged : Form → Contents → Standing → Stage
staged form told s = record { form = form; told = told; rest = s.rest; trace = s.trace }

-- one object is settled, or else undone, and the spaces move with it
pub record IsEndStep (tells : Bool) (suits : Contents → Type 0) (committed : Bool) (form : Form)
    (told : Contents) (before after : Standing) : Type 0 where
  pub left : Contents
  pub body : IsBodyEnd tells suits (end_form committed form) (end_contents committed told)
      (staged form told before) (staged (end_form committed form) left after)

-- the held objects take these steps one after the other, the last one first, and nothing else
-- happens to the spaces
abbrev pub EndInTurn : {T : Type 0} → (T → Standing → Standing → Type 0) → List (Held T) → Standing
    → Standing → Type 0
EndInTurn Step [] before after = after ≡ before
EndInTurn Step (h ∷ held) before after = (between : Standing) × EndInTurn Step held before between
    × Step h.object between after

-- the spaces are those of each held object's store, and none is entered
abbrev pub AreReady : {T : Type 0} → (T → Form) → List (Held T) → Rest → Type 0
AreReady {T} form held rest = (o : ℕ) (x : T) → held_object o held ≡ Some x → IsReady
    (form x).numbers rest

-- What an object needs to go home with an end of this stamp: room for it, a last stamp below it,
-- acts that made its working version, a shelf that it came from, and its spaces.
pub record IsReadyToEnd {T : Type 0} (Made : T → List Act → Type 0) (form : T → Form)
    (told : T → Option (List End)) (last spare : T → ℕ) (stamp : ℕ) (shelf : Shelving T)
    (rest : Rest) (h : Held T) : Type 0 where
  pub room : 1 ≤ spare h.object
  pub above : last h.object < stamp
  pub present : h.number < shelf.objects
  pub came : CameFrom told shelf h.number h.object
  pub led : Made h.object h.acts
  pub ready : IsReady (form h.object).numbers rest

-- the object went home, with this end, and the spaces moved with it
pub record ReturnsHome {T : Type 0} (told : T → Option (List End)) (Got : T → T → Type 0) (o : ℕ)
    (x : T) (old new : Shelving T) : Type 0 where
  pub home : T
  pub put : IsPut (told home) o home old new
  pub got : Got x home

-- What the end of a transaction makes of its objects and of the shelf.
use Rattle.std.specs.Prelude.{◌≡◌, ℕ, ◌+◌, ◌-◌, ◌<◌, ◌≤◌, List, [], ◌∷◌, ◌++◌, length, Bool}
use Rattle.std.specs.Prelude.{Option, Some, None, IfSome, IsSomeAnd, MatchOption, slice_get}
use Rattle.std.specs.Prelude.{if◌then◌else◌}
use Rattle.std.specs.Option.{option_map, option_map_or, option_flatten}
use Rattle.eos_ops.specs.declared.act.Act.{Act}
use Rattle.eos_ops.specs.declared.end.End.{End}
use Rattle.object_locks.specs.Shelving.{Shelving, Log, IsSameShelf, IsPut, with_put}
use Rattle.shadow_txn.specs.declared.held.Held.{Held}
use Rattle.shadow_txn.specs.declared.plain_object.PlainObject.{PlainObject}
use Rattle.shadow_txn.specs.Acts.{IsLed}
use Rattle.shadow_txn.specs.Held.{held_object, acts_in}
use Rattle.shadow_txn.specs.Objects.{working_of}

-- The object after the end of a transaction: a commit keeps the working version, an abort the
-- committed one. Its annals have one end more.
pub record HasEnded {H : Type 0} (told : H → Option (List End)) (last : H → ℕ)
    (stamp session number : ℕ) (committed : Bool) (x y : PlainObject H) : Type 0 where
  pub kept : y.committed ≡ (if committed then working_of x else x.committed)
  pub rests : y.working ≡ None
  pub at : last y.annals ≡ stamp
  pub end : End
  pub stamped : end.stamp ≡ stamp
  pub own : end.session ≡ session
  pub numbered : end.number ≡ number
  pub decided : end.committed ≡ committed
  pub ends : told y.annals ≡ option_map (λ es. es ++ end ∷ []) (told x.annals)

-- the shelf shows the same at object o
pub record IsSameAt {T : Type 0} (o : ℕ) (old new : Shelving T) : Type 0 where
  pub out : new.out o ≡ old.out o
  pub home : option_map (λ xs. slice_get xs o) new.home ≡ option_map (λ xs. slice_get xs o) old.home

-- object o, which was x in the hands of the transaction, is home with its end
pub record IsEndedAt {T : Type 0} (Ended : T → T → Type 0) (o : ℕ) (x : T)
    (new : Shelving T) : Type 0 where
  pub out : new.out o ≡ None
  pub home : IfSome new.home (λ xs. (slot : Option T) → slice_get xs o ≡ Some slot → (y : T)
      × (slot ≡ Some y) × Ended x y)

-- All held objects are home with their end, and every other one is as before.
pub record IsEnding {T : Type 0} (Ended : T → T → Type 0) (held : List (Held T))
    (old new : Shelving T) : Type 0 where
  pub same : IsSameShelf old new
  pub each : (o : ℕ) → MatchOption (held_object o held) (IsSameAt o old new)
      (λ x. IsEndedAt Ended o x new)
  pub count : option_map length new.home ≡ option_map length old.home

-- The end of a transaction, as an object's annals have it: with the acts on that object.
abbrev pub end_with : ℕ → ℕ → ℕ → Bool → List Act → End
end_with stamp session number committed acts =
    record {
      stamp = stamp;
      session = session;
      number = number;
      acts = acts;
      committed =
          committed;
    }

-- Each held object that is home has the end that its acts make, behind those that it had.
abbrev pub HaveEnds : {H : Type 0} → (H → Option (List End)) → (List Act → End) →
    List (Held (PlainObject H)) → Shelving (PlainObject H) → Type 0
HaveEnds {H} told end held new =
    (o : ℕ) (x : PlainObject H) → held_object o held ≡ Some x
    → IfSome new.home (λ xs. (y : PlainObject H) → slice_get xs o ≡ Some (Some y) →
    told y.annals ≡ option_map (λ es. es ++ end (acts_in o held) ∷ []) (told x.annals))

-- The ends that a shelf puts of held objects whose ends it knows: the objects go home from the
-- last to the first.
abbrev pub made_ends : {T : Type 0} → (ℕ → Option (Option (List End))) → (List Act → End) →
    List (Held T) → List (ℕ × End)
made_ends out end [] = []
made_ends out end (h ∷ held) = made_ends out end held
    ++ option_map_or (λ _. (h.number, end h.acts) ∷ []) (option_flatten (out h.number)) []

-- a shelf's past after these ends
abbrev pub with_puts : List (ℕ × End) → Log → Log
with_puts [] log = log
with_puts (one ∷ more) log = with_puts more (with_put one.0 (one.1 ∷ []) log)

-- the object has got this end, by which its version is decided
pub record HasGot {H : Type 0} (told : H → Option (List End)) (last : H → ℕ) (end : End)
    (x y : PlainObject H) : Type 0 where
  pub kept : y.committed ≡ (if end.committed then working_of x else x.committed)
  pub rests : y.working ≡ None
  pub at : last y.annals ≡ end.stamp
  pub ends : told y.annals ≡ option_map (λ es. es ++ end ∷ []) (told x.annals)

-- What an object needs to go home with an end of this stamp: room for it, a last stamp below it,
-- acts that made its working version, and a shelf that it came from.
pub record CanEnd {H : Type 0} (tells : Bool) (told : H → Option (List End)) (last spare : H → ℕ)
    (stamp : ℕ) (shelf : Shelving (PlainObject H)) (h : Held (PlainObject H)) : Type 0 where
  pub room : 1 ≤ spare h.object.annals
  pub above : last h.object.annals < stamp
  pub present : h.number < shelf.objects
  pub came : IsSomeAnd (shelf.out h.number)
      (λ known. IfSome known (λ was. told h.object.annals ≡ Some was))
  pub led : IsLed tells told last h.object h.acts

-- The shelf may take ends of this stamp, session and number.
pub record MayEnd {T : Type 0} (stamp session number : ℕ) (shelf : Shelving T) : Type 0 where
  pub own : IfSome shelf.session (λ s. session ≡ s)
  pub past : IfSome shelf.log (λ g. (g.count ≤ number) × (stamp ≤ g.reach + (number - g.count)))

-- the object went home, with this end
pub record GoesHome {H : Type 0} (told : H → Option (List End)) (last : H → ℕ) (end : End) (o : ℕ)
    (x : PlainObject H) (old new : Shelving (PlainObject H)) : Type 0 where
  pub home : PlainObject H
  pub put : IsPut (told home.annals) o home old new
  pub got : HasGot told last end x home

-- What a session sees of an object: it holds it, it is on the shelf, or it is with another.
use Rattle.std.proofs.Common.{◌≡◌, ℕ, ◌<◌, List, length, Option, Some, None, IsSome, is_some, slice_get, ◌⊎◌, refl, ap, ◌∙◌, inl, inr}
use Rattle.std.proofs.lemmas.Option.{slice_get-get_or}
use Rattle.base_laws.proofs.OptionLaws.{none-unless}
use Rattle.machine.specs.Machine.{Slot}
use Rattle.shadow_txn.specs.Held.{held_object}
use Rattle.world.specs.Session.{Object, Session, home_slot, held_slot, home_seen, own_seen, seen_by}

-- what is seen stands on the shelf
home_seen-some : (place : Option (Option Object)) (slot : Slot) → home_seen place ≡ Some slot → (x : Object)
    × (place ≡ Some (Some x)) × (slot ≡ home_slot x)
home_seen-some None slot seen = absurd cc
home_seen-some (Some None) slot seen = absurd cc
home_seen-some (Some (Some x)) slot seen = (x, refl, cc)

own_seen-some : (s : ℕ) (own : Option Object) (place : Option (Option Object)) (slot : Slot) → own_seen s own (home_seen place) ≡ Some slot
    → ((x : Object) × (own ≡ Some x) × (slot ≡ held_slot s x))
    ⊎ ((own ≡ None) × ((x : Object) × (place ≡ Some (Some x)) × (slot ≡ home_slot x)))
own_seen-some s None place slot seen = inr (refl, home_seen-some place slot seen)
own_seen-some s (Some x) place slot seen = inl (x, refl, cc)

-- an object that a session sees: it holds it, or it is on the shelf
pub seen-some : (shelf : List (Option Object)) (txn : Session) (o : ℕ) (slot : Slot) → seen_by shelf txn o ≡ Some slot
    → ((x : Object) × (held_object o txn.held ≡ Some x) × (slot ≡ held_slot txn.session x))
    ⊎ ((held_object o txn.held ≡ None) × ((x : Object) × (slice_get shelf o ≡ Some (Some x)) × (slot ≡ home_slot x)))
seen-some shelf txn o slot seen = own_seen-some txn.session (held_object o txn.held) (slice_get shelf o) slot seen

own_seen-none : (s : ℕ) (own : Option Object) (home : Option Slot) → own_seen s own home ≡ None → (own ≡ None) × (home ≡ None)
own_seen-none s None home unseen = (refl, unseen)
own_seen-none s (Some x) home unseen = absurd cc

home_seen-none : (place : Option (Option Object)) → home_seen place ≡ None → IsSome place → place ≡ Some None
home_seen-none None unseen there = absurd cc
home_seen-none (Some None) unseen there = refl
home_seen-none (Some (Some x)) unseen there = absurd cc

-- an object that a session doesn't see isn't in its hands
pub unseen-own : (shelf : List (Option Object)) (txn : Session) (o : ℕ) → seen_by shelf txn o ≡ None → held_object o txn.held ≡ None
unseen-own shelf txn o unseen = (own_seen-none txn.session (held_object o txn.held) (home_seen (slice_get shelf o)) unseen).0

-- and not on the shelf
pub unseen-out : (shelf : List (Option Object)) (txn : Session) (o : ℕ) → seen_by shelf txn o ≡ None →
    o < length shelf → slice_get shelf o ≡ Some None
unseen-out shelf txn o unseen within =
    home_seen-none (slice_get shelf o) (own_seen-none txn.session (held_object o txn.held) (home_seen (slice_get shelf o)) unseen).1
    (ap is_some (slice_get-get_or shelf o None within))

-- what is out, and not in the session's hands, it doesn't see
pub seen-out : (shelf : List (Option Object)) (txn : Session) (o : ℕ) → held_object o txn.held ≡ None →
    slice_get shelf o ≡ Some None → seen_by shelf txn o ≡ None
seen-out shelf txn o none out = rw (none, out) refl

pub seen-held : (shelf : List (Option Object)) (txn : Session) (o : ℕ) (x : Object) →
    held_object o txn.held ≡ Some x → seen_by shelf txn o ≡ Some (held_slot txn.session x)
seen-held shelf txn o x found = rw found refl

pub seen-home : (shelf : List (Option Object)) (txn : Session) (o : ℕ) (x : Object) →
    held_object o txn.held ≡ None → slice_get shelf o ≡ Some (Some x) → seen_by shelf txn o ≡ Some (home_slot x)
seen-home shelf txn o x none home = rw (none, home) refl

-- what is unseen before is unseen after, and the other way round
pub unseen-after : {A B : Type 0} (before : Option A) (after : Option B) → is_some after ≡ is_some before → before ≡ None → after ≡ None
unseen-after before after sides none = none-unless after (sides ∙ ap is_some none)

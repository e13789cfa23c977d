-- What a session sees of an object: it holds it, it is on the shelf, or it is with another.
use Rattle.std.proofs.Common.{◌≡◌, ℕ, ◌<◌, List, length, Option, Some, None, IsSome, is_some, slice_get, ◌⊎◌, refl, ap, ◌∙◌, inl, inr}
use Rattle.std.proofs.lemmas.Option.{slice_get-get_or}
use Rattle.base_laws.proofs.OptionLaws.{none-unless}
use Rattle.shadow_txn.specs.Held.{held_object}
use Rattle.shadow_txn.specs.Transaction.{Transaction}
use Rattle.body_world.specs.Session.{Shown, Seen, at_home, in_hand, home_seen, own_seen, seen_by}

-- what is seen stands on the shelf
home_seen-some : {T : Type 0} (show : T → Shown) (place : Option (Option T)) (seen : Seen) → home_seen show place ≡ Some seen → (x : T)
    × (place ≡ Some (Some x)) × (seen ≡ at_home (show x))
home_seen-some show None seen sees = absurd cc
home_seen-some show (Some None) seen sees = absurd cc
home_seen-some show (Some (Some x)) seen sees = (x, refl, cc)

own_seen-some : {T : Type 0} (show : T → Shown) (s : ℕ) (own : Option T) (place : Option (Option T)) (seen : Seen)
    → own_seen show s own (home_seen show place) ≡ Some seen
    → ((x : T) × (own ≡ Some x) × (seen ≡ in_hand s (show x)))
    ⊎ ((own ≡ None) × ((x : T) × (place ≡ Some (Some x)) × (seen ≡ at_home (show x))))
own_seen-some show s None place seen sees = inr (refl, home_seen-some show place seen sees)
own_seen-some show s (Some x) place seen sees = inl (x, refl, cc)

-- an object that a session sees: it holds it, or it is on the shelf
pub seen-some : {T : Type 0} (show : T → Shown) (shelf : List (Option T)) (txn : Transaction T) (o : ℕ) (seen : Seen)
    → seen_by show shelf txn o ≡ Some seen
    → ((x : T) × (held_object o txn.held ≡ Some x) × (seen ≡ in_hand txn.session (show x)))
    ⊎ ((held_object o txn.held ≡ None) × ((x : T) × (slice_get shelf o ≡ Some (Some x)) × (seen ≡ at_home (show x))))
seen-some show shelf txn o seen sees = own_seen-some show txn.session (held_object o txn.held) (slice_get shelf o) seen sees

own_seen-none : {T : Type 0} (show : T → Shown) (s : ℕ) (own : Option T) (home : Option Seen) → own_seen show s own home ≡ None
    → (own ≡ None) × (home ≡ None)
own_seen-none show s None home unseen = (refl, unseen)
own_seen-none show s (Some x) home unseen = absurd cc

home_seen-none : {T : Type 0} (show : T → Shown) (place : Option (Option T)) → home_seen show place ≡ None → IsSome place →
    place ≡ Some None
home_seen-none show None unseen there = absurd cc
home_seen-none show (Some None) unseen there = refl
home_seen-none show (Some (Some x)) unseen there = absurd cc

-- an object that a session doesn't see isn't in its hands
pub unseen-own : {T : Type 0} (show : T → Shown) (shelf : List (Option T)) (txn : Transaction T) (o : ℕ) → seen_by show shelf txn o ≡ None
    → held_object o txn.held ≡ None
unseen-own show shelf txn o unseen =
    (own_seen-none show txn.session (held_object o txn.held) (home_seen show (slice_get shelf o)) unseen).0

-- and not on the shelf
pub unseen-out : {T : Type 0} (show : T → Shown) (shelf : List (Option T)) (txn : Transaction T) (o : ℕ) → seen_by show shelf txn o ≡ None
    → o < length shelf → slice_get shelf o ≡ Some None
unseen-out show shelf txn o unseen within =
    home_seen-none show (slice_get shelf o)
    (own_seen-none show txn.session (held_object o txn.held) (home_seen show (slice_get shelf o)) unseen).1
    (ap is_some (slice_get-get_or shelf o None within))

-- what is out, and not in the session's hands, it doesn't see
pub seen-out : {T : Type 0} (show : T → Shown) (shelf : List (Option T)) (txn : Transaction T) (o : ℕ) → held_object o txn.held ≡ None
    → slice_get shelf o ≡ Some None → seen_by show shelf txn o ≡ None
seen-out show shelf txn o none out = rw (none, out) refl

pub seen-held : {T : Type 0} (show : T → Shown) (shelf : List (Option T)) (txn : Transaction T) (o : ℕ) (x : T)
    → held_object o txn.held ≡ Some x → seen_by show shelf txn o ≡ Some (in_hand txn.session (show x))
seen-held show shelf txn o x found = rw found refl

pub seen-home : {T : Type 0} (show : T → Shown) (shelf : List (Option T)) (txn : Transaction T) (o : ℕ) (x : T)
    → held_object o txn.held ≡ None → slice_get shelf o ≡ Some (Some x) → seen_by show shelf txn o ≡ Some (at_home (show x))
seen-home show shelf txn o x none home = rw (none, home) refl

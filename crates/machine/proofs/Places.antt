-- Slots and seats by their numbers, before and after a write.
use Rattle.std.proofs.Common.{◌≡◌, ℕ, zero, suc, ◌<◌, ◌≤◌, List, [], ◌∷◌, Bool, true, false, Option, Some, None}
use Rattle.std.proofs.Common.{length, get_or, set, map, refl, sym, ap, ◌∙◌, inl, inr, ◌⊎◌, arith}
use Rattle.std.proofs.lemmas.Bool.{eq-eqb, ne_eqb, eqb-true, cond-true, cond-false}
use Rattle.std.proofs.lemmas.List.{length-set, get_or-set_same, get_or-set_other}
use Rattle.history.specs.Serial.{object_at}
use Rattle.machine.specs.Machine.{Slot, Seat, Machine, no_slot, no_seat, slot_at, seat_in, seat_at, is_active}
use Rattle.machine.specs.Machine.{IsSession, is_holder, database, with_slot, seats_with, with_seat}
use Rattle.machine.specs.Next.{settled, released}

pub get_or_map : {A B : Type 0} (f : A → B) (xs : List A) (i : ℕ) (d : A) → get_or (map f xs) i (f d) ≡ f (get_or xs i d)
get_or_map f [] i d = refl
get_or_map f (x ∷ xs) zero d = refl
get_or_map f (x ∷ xs) (suc i) d = get_or_map f xs i d

-- a write that f doesn't see
pub map-set_unseen : {A B : Type 0} (f : A → B) (xs : List A) (i : ℕ) (d x : A) → f x ≡ f (get_or xs i d) → map f (set xs i x) ≡ map f xs
map-set_unseen f [] i d x same = refl
map-set_unseen f (y ∷ xs) zero d x same = ap (λ b. b ∷ map f xs) same
map-set_unseen f (y ∷ xs) (suc i) d x same = ap (λ l. f y ∷ l) (map-set_unseen f xs i d x same)

pub object_at-database : (m : Machine) (o : ℕ) → object_at (database m) o ≡ (slot_at m o).committed
object_at-database m o = get_or_map (λ (slot : Slot). slot.committed) m.slots o no_slot

pub slot_at-same : (m : Machine) (o : ℕ) (slot : Slot) → o < length m.slots → slot_at (with_slot m o slot) o ≡ slot
slot_at-same m o slot below = get_or-set_same m.slots o slot no_slot below

pub slot_at-other : (m : Machine) (o p : ℕ) (slot : Slot) → (p ≡ o → ⊥) → slot_at (with_slot m o slot) p ≡ slot_at m p
slot_at-other m o p slot other = get_or-set_other m.slots o p slot no_slot other

pub database-with_slot : (m : Machine) (o : ℕ) (slot : Slot) → slot.committed ≡ (slot_at m o).committed →
    database (with_slot m o slot) ≡ database m
database-with_slot m o slot same = map-set_unseen (λ (x : Slot). x.committed) m.slots o no_slot slot same

seat_in-same : (seats : List Seat) (s : ℕ) (seat : Seat) → 0 < s → s ≤ length seats → seat_in (seats_with seats s seat) s ≡ seat
seat_in-same seats zero seat from within = absurd (omega arith)
seat_in-same seats (suc i) seat from within = let below : i < length seats = omega arith in get_or-set_same seats i seat no_seat below

pub seat_at-same : (m : Machine) (s : ℕ) (seat : Seat) → IsSession m s → seat_at (with_seat m s seat) s ≡ seat
seat_at-same m s seat session = seat_in-same m.seats s seat session.from_one session.within

pub seat_in-other : (seats : List Seat) (s t : ℕ) (seat : Seat) → (t ≡ s → ⊥) → seat_in (seats_with seats s seat) t ≡ seat_in seats t
seat_in-other seats zero zero seat other = refl
seat_in-other seats zero (suc j) seat other = refl
seat_in-other seats (suc i) zero seat other = refl
seat_in-other seats (suc i) (suc j) seat other = get_or-set_other seats i j seat no_seat (λ same. other (ap suc same))

pub length-seats_with : (seats : List Seat) (s : ℕ) (seat : Seat) → length (seats_with seats s seat) ≡ length seats
length-seats_with seats zero seat = refl
length-seats_with seats (suc i) seat = length-set seats i seat

-- only sessions are active
pub active-IsSession : (m : Machine) (s : ℕ) → is_active m s ≡ true → IsSession m s
active-IsSession m zero active = absurd (cc)
active-IsSession m (suc i) active = record { from_one = omega arith; within = seat_within m.seats i active }
  where
    seat_within : (seats : List Seat) (i : ℕ) → (get_or seats i no_seat).active ≡ true → suc i ≤ length seats
    seat_within [] i active = absurd (cc)
    seat_within (seat ∷ seats) zero active = omega arith
    seat_within (seat ∷ seats) (suc i) active = let rest : suc i ≤ length seats = seat_within seats i active in omega arith

pub is_holder-own : (s : ℕ) → is_holder s (Some s) ≡ true
is_holder-own s = eq-eqb s s refl

pub is_holder-other : (s t : ℕ) → (t ≡ s → ⊥) → is_holder t (Some s) ≡ false
is_holder-other s t other = ne_eqb s t (λ same. other (sym same))

-- who holds an object is its holder
pub is_holder-true : (s : ℕ) (holder : Option ℕ) → is_holder s holder ≡ true → holder ≡ Some s
is_holder-true s None held = cc
is_holder-true s (Some t) held = ap Some (eqb-true t s held)

-- where it is free for s, no other session holds it
pub free-other : (s t : ℕ) (holder : Option ℕ) → (holder ≡ None) ⊎ (holder ≡ Some s) → (t ≡ s → ⊥) → is_holder t holder ≡ false
free-other s t holder free other =
    elim free [
      | inl none ↦ ap (is_holder t) none
      | inr own ↦ ap (is_holder t) own ∙ is_holder-other s t other
    ]

-- an object that s holds is held by no other session
pub held-other : (s t : ℕ) (holder : Option ℕ) → is_holder s holder ≡ true → (t ≡ s → ⊥) → is_holder t holder ≡ false
held-other s t holder held other = ap (is_holder t) (is_holder-true s holder held) ∙ is_holder-other s t other

pub settled-held : (s stamp : ℕ) (committed : Bool) (slot : Slot) → is_holder s slot.holder ≡ true →
    settled s committed stamp slot ≡ released committed stamp slot
settled-held s stamp committed slot held = cond-true (is_holder s slot.holder) (released committed stamp slot) slot held

pub settled-other : (s stamp : ℕ) (committed : Bool) (slot : Slot) → is_holder s slot.holder ≡ false → settled s committed stamp slot ≡ slot
settled-other s stamp committed slot other = cond-false (is_holder s slot.holder) (released committed stamp slot) slot other

pub slot_at-settled : (slots : List Slot) (s stamp : ℕ) (committed : Bool) (o : ℕ) →
    get_or (map (settled s committed stamp) slots) o no_slot ≡ settled s committed stamp (get_or slots o no_slot)
slot_at-settled slots s stamp committed o = get_or_map (settled s committed stamp) slots o no_slot

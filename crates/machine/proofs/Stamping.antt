-- Stamps: an event raises none by more than one above the greatest.
use Rattle.std.proofs.Common.{◌≡◌, ℕ, zero, suc, ◌+◌, ◌≤◌, List, [], ◌∷◌, Bool, true, false, cond, length, get_or}
use Rattle.std.proofs.Common.{set, refl, sym, subst, inl, inr, ◌⊎◌, arith}
use Rattle.std.proofs.lemmas.Bool.{cases_Bool}
use Rattle.history.specs.Event.{Event, Deed, Opens, Does, Takes, Closes, Nothing, deed_of}
use Rattle.machine.specs.Machine.{Slot, Seat, Machine, no_slot, no_seat, slot_at, seat_in, seat_at, is_holder, with_slot, seats_with}
use Rattle.machine.specs.Next.{next, worked, taken, released, settled, greatest_held, stamp_of}
use Rattle.machine.specs.Runs.{state_after, StampsUpTo}
use Rattle.machine.proofs.Places.{settled-held, settled-other, slot_at-settled}

-- after a write a place has what was written, or what it had
set_either : {A : Type 0} (xs : List A) (i j : ℕ) (x d : A) → (get_or (set xs i x) j d ≡ x) ⊎ (get_or (set xs i x) j d ≡ get_or xs j d)
set_either [] i j x d = inr refl
set_either (y ∷ xs) zero zero x d = inl refl
set_either (y ∷ xs) zero (suc j) x d = inr refl
set_either (y ∷ xs) (suc i) zero x d = inr refl
set_either (y ∷ xs) (suc i) (suc j) x d = set_either xs i j x d

slot_within : (m : Machine) (o p n : ℕ) (slot : Slot) → slot.stamp ≤ n → ((q : ℕ) → (slot_at m q).stamp ≤ n) →
    (slot_at (with_slot m o slot) p).stamp ≤ n
slot_within m o p n slot new old =
    elim (set_either m.slots o p slot no_slot) [
      | inl same ↦ subst (λ (x : Slot). x.stamp ≤ n) (sym same) new
      | inr same ↦ subst (λ (x : Slot). x.stamp ≤ n) (sym same) (old p)
    ]

seat_within : (seats : List Seat) (s t n : ℕ) (seat : Seat) → seat.stamp ≤ n →
    ((q : ℕ) → (seat_in seats q).stamp ≤ n) → (seat_in (seats_with seats s seat) t).stamp ≤ n
seat_within seats zero t n seat new old = old t
seat_within seats (suc i) zero n seat new old = old zero
seat_within seats (suc i) (suc j) n seat new old =
    elim (set_either seats i j seat no_seat) [
      | inl same ↦ subst (λ (x : Seat). x.stamp ≤ n) (sym same) new
      | inr same ↦ subst (λ (x : Seat). x.stamp ≤ n) (sym same) (old (suc j))
    ]

first_part : (b : Bool) (stamp n : ℕ) → stamp ≤ n → cond b stamp 0 ≤ n
first_part true stamp n below = below
first_part false stamp n below = omega arith

greatest_within : (slots : List Slot) (s n : ℕ) → ((o : ℕ) → (get_or slots o no_slot).stamp ≤ n) → greatest_held s slots ≤ n
greatest_within [] s n below = omega arith
greatest_within (slot ∷ slots) s n below =
    let first : cond (is_holder s slot.holder) slot.stamp 0 ≤ n = first_part (is_holder s slot.holder) slot.stamp n (below zero) in
    let rest : greatest_held s slots ≤ n = greatest_within slots s n (λ o. below (suc o)) in
    omega arith

pub stamp_within : (m : Machine) (s n : ℕ) → StampsUpTo n m → stamp_of m s ≤ n + 1
unfolding stamp_of
stamp_within m s n stamps =
    let seat : (seat_at m s).stamp ≤ n = stamps.seats s in
    let held : greatest_held s m.slots ≤ n = greatest_within m.slots s n stamps.slots in
    omega arith

released_within : (committed : Bool) (stamp n : ℕ) (slot : Slot) → stamp ≤ n → (released committed stamp slot).stamp ≤ n
released_within true stamp n slot below = below
released_within false stamp n slot below = below

settled_within : (s stamp n : ℕ) (committed : Bool) (slot : Slot) → stamp ≤ n → slot.stamp ≤ n → (settled s committed stamp slot).stamp ≤ n
settled_within s stamp n committed slot new old =
    elim (cases_Bool (is_holder s slot.holder)) [
      | inl held ↦ subst (λ (x : Slot). x.stamp ≤ n) (sym (settled-held s stamp committed slot held))
          (released_within committed stamp n slot new)
      | inr other ↦ subst (λ (x : Slot). x.stamp ≤ n) (sym (settled-other s stamp committed slot other)) old
    ]

pub StampsUpTo-more : (m : Machine) (n : ℕ) → StampsUpTo n m → StampsUpTo (n + 1) m
StampsUpTo-more m n stamps = record {
  seats = λ s. let below : (seat_at m s).stamp ≤ n = stamps.seats s in omega arith;
  slots = λ o. let below : (slot_at m o).stamp ≤ n = stamps.slots o in omega arith;
}

pub StampsUpTo-next : (d : Deed) (m : Machine) (s n : ℕ) → StampsUpTo n m → StampsUpTo (n + 1) (next m s d)
StampsUpTo-next Opens m s n stamps =
    let more = StampsUpTo-more m n stamps in
    record { seats = λ t. seat_within m.seats s t (n + 1) _ (more.seats s) more.seats; slots = more.slots }
StampsUpTo-next (Does o act) m s n stamps =
    let more = StampsUpTo-more m n stamps in
    record { seats = more.seats; slots = λ p. slot_within m o p (n + 1) (worked s act (slot_at m o)) (more.slots o) more.slots }
StampsUpTo-next (Takes o) m s n stamps =
    let more = StampsUpTo-more m n stamps in
    record { seats = more.seats; slots = λ p. slot_within m o p (n + 1) (taken s (slot_at m o)) (more.slots o) more.slots }
StampsUpTo-next (Closes committed) m s n stamps =
    let more = StampsUpTo-more m n stamps in
    let new : stamp_of m s ≤ n + 1 = stamp_within m s n stamps in
    record {
      seats = λ t. seat_within m.seats s t (n + 1) (record { active = false; stamp = stamp_of m s }) new more.seats;
      slots = λ p. subst (λ (x : Slot). x.stamp ≤ n + 1)
          (sym (slot_at-settled m.slots s (stamp_of m s) committed p))
          (settled_within s (stamp_of m s) (n + 1) committed (slot_at m p) new (more.slots p));
    }
StampsUpTo-next Nothing m s n stamps = StampsUpTo-more m n stamps

-- After n events no stamp is more than n above those before.
pub StampsUpTo-run : (m : Machine) (past : List Event) (n : ℕ) → StampsUpTo n m → StampsUpTo (n + length past) (state_after m past)
StampsUpTo-run m [] n stamps = let same : n ≡ n + 0 = omega arith in subst (λ (k : ℕ). StampsUpTo k m) same stamps
StampsUpTo-run m (e ∷ past) n stamps =
    let same : (n + length past) + 1 ≡ n + suc (length past) = omega arith in
    subst (λ (k : ℕ). StampsUpTo k (state_after m (e ∷ past))) same (StampsUpTo-next (deed_of e)
    (state_after m past) e.session (n + length past) (StampsUpTo-run m past n stamps))

-- The numbers of objects and of sessions stay, and so does the machine that a run began with.
use Rattle.std.proofs.Common.{◌≡◌, ℕ, zero, suc, ◌≤◌, List, [], ◌∷◌, true, false, length, get_or, map, replicate}
use Rattle.std.proofs.Common.{refl, sym, ap, subst, ◌∙◌, arith}
use Rattle.std.proofs.lemmas.List.{length-set, length-map, length-replicate}
use Rattle.eos_ops.specs.declared.plain.Plain.{Plain}
use Rattle.eos_ops.specs.declared.plain.Plain.TheVariants.{Absent}
use Rattle.history.specs.Event.{Event, Deed, Opens, Does, Takes, Closes, Nothing, deed_of}
use Rattle.machine.specs.Machine.{Slot, Seat, Machine, no_seat, new_slot, slot_at, seat_in, seat_at, database, fresh, AtRest}
use Rattle.machine.specs.Next.{next, worked, taken, settled, stamp_of}
use Rattle.machine.specs.Runs.{state_after, StampsUpTo}
use Rattle.machine.proofs.Places.{length-seats_with, get_or_map}

pub slots-next : (d : Deed) (m : Machine) (s : ℕ) → length (next m s d).slots ≡ length m.slots
slots-next Opens m s = refl
slots-next (Does o act) m s = length-set m.slots o (worked s act (slot_at m o))
slots-next (Takes o) m s = length-set m.slots o (taken s (slot_at m o))
slots-next (Closes committed) m s = length-map m.slots (settled s committed (stamp_of m s))
slots-next Nothing m s = refl

pub seats-next : (d : Deed) (m : Machine) (s : ℕ) → length (next m s d).seats ≡ length m.seats
seats-next Opens m s = length-seats_with m.seats s (record { active = true; stamp = (seat_at m s).stamp })
seats-next (Does o act) m s = refl
seats-next (Takes o) m s = refl
seats-next (Closes committed) m s = length-seats_with m.seats s (record { active = false; stamp = stamp_of m s })
seats-next Nothing m s = refl

pub slots-run : (m : Machine) (past : List Event) → length (state_after m past).slots ≡ length m.slots
slots-run m [] = refl
slots-run m (e ∷ past) = slots-next (deed_of e) (state_after m past) e.session ∙ slots-run m past

pub seats-run : (m : Machine) (past : List Event) → length (state_after m past).seats ≡ length m.seats
seats-run m [] = refl
seats-run m (e ∷ past) = seats-next (deed_of e) (state_after m past) e.session ∙ seats-run m past

no_seats : (n s : ℕ) → seat_in (replicate n no_seat) s ≡ no_seat
no_seats zero zero = refl
no_seats zero (suc i) = refl
no_seats (suc n) zero = refl
no_seats (suc n) (suc zero) = refl
no_seats (suc n) (suc (suc i)) = no_seats n (suc i)

fresh_slot : (n : ℕ) (db : List Plain) (o : ℕ) → slot_at (fresh n db) o ≡ new_slot (get_or db o Absent)
fresh_slot n db o = get_or_map new_slot db o Absent

fresh_database : (db : List Plain) → map (λ (slot : Slot). slot.committed) (map new_slot db) ≡ db
fresh_database [] = refl
fresh_database (x ∷ db) = ap (λ (l : List Plain). x ∷ l) (fresh_database db)

pub database-fresh : (n : ℕ) (db : List Plain) → database (fresh n db) ≡ db
database-fresh n db = fresh_database db

pub AtRest-fresh : (n : ℕ) (db : List Plain) → AtRest (fresh n db)
AtRest-fresh n db = record {
  idle = λ s. ap (λ (x : Seat). x.active) (no_seats n s);
  free = λ o. ap (λ (x : Slot). x.holder) (fresh_slot n db o);
  equal = λ o. subst (λ (x : Slot). x.working ≡ x.committed) (sym (fresh_slot n db o)) refl;
}

pub StampsUpTo-fresh : (n : ℕ) (db : List Plain) → StampsUpTo 0 (fresh n db)
StampsUpTo-fresh n db = record {
  seats = λ s. subst (λ (x : Seat). x.stamp ≤ 0) (sym (no_seats n s)) (omega arith);
  slots = λ o. subst (λ (x : Slot). x.stamp ≤ 0) (sym (fresh_slot n db o)) (omega arith);
}

pub length-fresh_slots : (n : ℕ) (db : List Plain) → length (fresh n db).slots ≡ length db
length-fresh_slots n db = length-map db new_slot

pub length-fresh_seats : (n : ℕ) (db : List Plain) → length (fresh n db).seats ≡ n
length-fresh_seats n db = length-replicate n no_seat

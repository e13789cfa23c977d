-- A machine with its contents forgotten refuses, owes and moves as before.
use Rattle.std.proofs.Common.{◌≡◌, ℕ, zero, suc, ◌+◌, List, [], ◌∷◌, Bool, true, false, cond, Option, Some, None}
use Rattle.std.proofs.Common.{length, set, map, max, refl, sym, ap, subst, ◌∙◌, inl, inr}
use Rattle.std.specs.Prelude.{is_some, nat_le, ◌==◌, IsTrue, MatchOption}
use Rattle.std.specs.Option.{option_and_then}
use Rattle.std.proofs.lemmas.Bool.{cases_Bool}
use Rattle.std.proofs.lemmas.List.{length-map}
use Rattle.eos_ops.specs.declared.command.Command.{Command}
use Rattle.eos_ops.specs.declared.limits.TheConstants.{MAX_HELD, LAST_STAMP}
use Rattle.eos_ops.specs.declared.reply.Reply.{Reply}
use Rattle.eos_ops.specs.declared.reply.Reply.TheVariants as reply
use Rattle.eos_ops.specs.Objects.{object_of, is_too_long}
use Rattle.history.specs.Event.{Deed, Opens, Does, Takes, Closes, Nothing}
use Rattle.history.specs.Holding.{count_below}
use Rattle.history.specs.Refusals.{or_else, is_answer}
use Rattle.machine.specs.Machine.{Slot, Machine, no_slot, bare_slot, bare, slot_at, seat_at, is_holder, held_by, seats_with}
use Rattle.machine.specs.Next.{next, settled, released, stamp_of, greatest_held, taken, worked}
use Rattle.machine.specs.Replies.{object_refused, seat_refused, refused, Owes}
use Rattle.machine.proofs.Counting.{count_below-agree}
use Rattle.machine.proofs.Places.{get_or_map, settled-held, settled-other}

slot_at-bare : (m : Machine) (o : ℕ) → slot_at (bare m) o ≡ bare_slot (slot_at m o)
slot_at-bare m o = get_or_map bare_slot m.slots o no_slot

held_by-bare : (m : Machine) (s : ℕ) → held_by (bare m) s ≡ held_by m s
unfolding held_by
held_by-bare m s =
    ap (λ n. count_below n (λ o. is_holder s (slot_at (bare m) o).holder)) (length-map m.slots bare_slot)
    ∙ count_below-agree (length m.slots) (λ o. is_holder s (slot_at (bare m) o).holder)
    (λ o. is_holder s (slot_at m o).holder) (λ o _. ap (λ (x : Slot). is_holder s x.holder) (slot_at-bare m o))

object_refused-bare : (m : Machine) (s o : ℕ) → object_refused (bare m) s o ≡ object_refused m s o
object_refused-bare m s o =
    ap (λ (x : Slot). cond (is_holder s x.holder) None (cond (nat_le (length (bare m).slots) o)
    (Some reply.NoObject) (cond (nat_le MAX_HELD (held_by (bare m) s)) (Some reply.Full)
    (cond (is_some x.holder) (Some reply.Busy) (cond (x.stamp == LAST_STAMP) (Some reply.Worn) None)))))
    (slot_at-bare m o)
    ∙ ap (λ n. cond (is_holder s (slot_at m o).holder) None (cond (nat_le n o) (Some reply.NoObject)
    (cond (nat_le MAX_HELD (held_by (bare m) s)) (Some reply.Full)
    (cond (is_some (slot_at m o).holder) (Some reply.Busy)
    (cond ((slot_at m o).stamp == LAST_STAMP) (Some reply.Worn) None))))) (length-map m.slots bare_slot)
    ∙ ap (λ n. cond (is_holder s (slot_at m o).holder) None (cond (nat_le (length m.slots) o) (Some reply.NoObject)
    (cond (nat_le MAX_HELD n) (Some reply.Full)
    (cond (is_some (slot_at m o).holder) (Some reply.Busy)
    (cond ((slot_at m o).stamp == LAST_STAMP) (Some reply.Worn) None))))) (held_by-bare m s)

chain-bare : (m : Machine) (s : ℕ) (t : Option ℕ) → option_and_then (object_refused (bare m) s) t ≡ option_and_then (object_refused m s) t
chain-bare m s None = refl
chain-bare m s (Some o) = object_refused-bare m s o

pub refused-bare : (m : Machine) (s : ℕ) (c : Command) → refused (bare m) s c ≡ refused m s c
unfolding refused
refused-bare m s c = ap (λ x. cond (is_too_long c) (Some reply.TooLong) (or_else (seat_refused (seat_at m s) c) x))
    (chain-bare m s (object_of c))

-- what is owed goes by the refusal alone
pub Owes-refused : (m m' : Machine) (s : ℕ) (c : Command) (r : Reply) → refused m s c ≡ refused m' s c → Owes m s c r → Owes m' s c r
Owes-refused m m' s c r same owes = elim owes [
  | inl memory ↦ inl memory
  | inr so ↦ inr (subst (λ (t : Option Reply). MatchOption t (IsTrue (is_answer c r)) (λ x. r ≡ x)) same so)
]

pub Owes-bare : (m : Machine) (s : ℕ) (c : Command) (r : Reply) → Owes m s c r → Owes (bare m) s c r
Owes-bare m s c r owes = Owes-refused m (bare m) s c r (sym (refused-bare m s c)) owes

map-set : {A B : Type 0} (f : A → B) (xs : List A) (i : ℕ) (x : A) → map f (set xs i x) ≡ set (map f xs) i (f x)
map-set f [] i x = refl
map-set f (y ∷ xs) zero x = refl
map-set f (y ∷ xs) (suc i) x = ap (λ l. f y ∷ l) (map-set f xs i x)

bare_twice : (slots : List Slot) → map bare_slot (map bare_slot slots) ≡ map bare_slot slots
bare_twice [] = refl
bare_twice (slot ∷ slots) = ap (λ l. bare_slot slot ∷ l) (bare_twice slots)

-- a slot that is written over, with a change that looks at holder and stamp alone
write-bare : (m : Machine) (o : ℕ) (change : Slot → Slot) →
    ((slot : Slot) → bare_slot (change (bare_slot slot)) ≡ bare_slot (change slot)) →
    map bare_slot (set (bare m).slots o (change (slot_at (bare m) o)))
    ≡ map bare_slot (set m.slots o (change (slot_at m o)))
write-bare m o change blind =
    map-set bare_slot (bare m).slots o (change (slot_at (bare m) o))
    ∙ ap (λ (l : List Slot). set l o (bare_slot (change (slot_at (bare m) o)))) (bare_twice m.slots)
    ∙ ap (λ (x : Slot). set (map bare_slot m.slots) o (bare_slot (change x))) (slot_at-bare m o)
    ∙ ap (λ (x : Slot). set (map bare_slot m.slots) o x) (blind (slot_at m o))
    ∙ sym (map-set bare_slot m.slots o (change (slot_at m o)))

greatest-bare : (slots : List Slot) (s : ℕ) → greatest_held s (map bare_slot slots) ≡ greatest_held s slots
greatest-bare [] s = refl
greatest-bare (slot ∷ slots) s = ap (max (cond (is_holder s slot.holder) slot.stamp 0)) (greatest-bare slots s)

stamp-bare : (m : Machine) (s : ℕ) → stamp_of (bare m) s ≡ stamp_of m s
unfolding stamp_of
stamp-bare m s = ap (λ n. max (seat_at m s).stamp n + 1) (greatest-bare m.slots s)

released-bare : (committed : Bool) (stamp : ℕ) (slot : Slot) →
    bare_slot (released committed stamp (bare_slot slot)) ≡ bare_slot (released committed stamp slot)
released-bare true stamp slot = refl
released-bare false stamp slot = refl

settled-bare : (s : ℕ) (committed : Bool) (stamp : ℕ) (slot : Slot) →
    bare_slot (settled s committed stamp (bare_slot slot)) ≡ bare_slot (settled s committed stamp slot)
settled-bare s committed stamp slot =
    elim (cases_Bool (is_holder s slot.holder)) [
      | inl held ↦ ap bare_slot (settled-held s stamp committed (bare_slot slot) held)
          ∙ released-bare committed stamp slot ∙ sym (ap bare_slot (settled-held s stamp committed slot held))
      | inr other ↦ ap bare_slot (settled-other s stamp committed (bare_slot slot) other)
          ∙ sym (ap bare_slot (settled-other s stamp committed slot other))
    ]

settled_all-bare : (slots : List Slot) (s : ℕ) (committed : Bool) (stamp : ℕ) →
    map bare_slot (map (settled s committed stamp) (map bare_slot slots))
    ≡ map bare_slot (map (settled s committed stamp) slots)
settled_all-bare [] s committed stamp = refl
settled_all-bare (slot ∷ slots) s committed stamp =
    ap (λ (x : Slot). x ∷ map bare_slot (map (settled s committed stamp) (map bare_slot slots))) (settled-bare s committed stamp slot)
    ∙ ap (λ (l : List Slot). bare_slot (settled s committed stamp slot) ∷ l) (settled_all-bare slots s committed stamp)

pub next-bare : (m : Machine) (s : ℕ) (d : Deed) → bare (next (bare m) s d) ≡ bare (next m s d)
next-bare m s Opens = ap (λ (l : List Slot). record { slots = l; seats = (next m s Opens).seats }) (bare_twice m.slots)
next-bare m s (Does o act) = ap (λ (l : List Slot). record { slots = l; seats = m.seats }) (write-bare m o (worked s act) (λ slot. refl))
next-bare m s (Takes o) = ap (λ (l : List Slot). record { slots = l; seats = m.seats }) (write-bare m o (taken s) (λ slot. refl))
next-bare m s (Closes committed) =
    ap (λ (n : ℕ). record {
      slots = map bare_slot (map (settled s committed n) (map bare_slot m.slots));
      seats =
          seats_with m.seats s (record { active = false; stamp = n });
    }) (stamp-bare m s)
    ∙ ap (λ (l : List Slot). record { slots = l; seats = (next m s (Closes committed)).seats })
    (settled_all-bare m.slots s committed (stamp_of m s))
next-bare m s Nothing = ap (λ (l : List Slot). record { slots = l; seats = m.seats }) (bare_twice m.slots)

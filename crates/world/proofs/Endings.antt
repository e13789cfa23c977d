-- The end of a transaction: its stamp, and what it makes of the machine.
use Rattle.std.proofs.Common.{◌≡◌, ℕ, zero, suc, ◌+◌, ◌<◌, ◌≤◌, Bool, true, false, List, [], ◌∷◌, map, set, get_or}
use Rattle.std.proofs.Common.{Option, Some, None, is_some, unwrap_or, refl, ap, sym, ◌∙◌, subst, arith, inl, inr}
use Rattle.std.specs.Option.{option_map}
use Rattle.std.proofs.lemmas.Bool.{cases_Bool, false≢true}
use Rattle.std.proofs.lemmas.List.{map-set, length-map}
use Rattle.base_laws.proofs.OptionLaws.{some-if}
use Rattle.eos_ops.specs.declared.limits.TheConstants.{SESSIONS}
use Rattle.history.specs.Event.{Closes}
use Rattle.machine.specs.Machine.{Slot, no_slot, seat_at, slot_at, is_holder}
use Rattle.machine.specs.Next.{next, settled, greatest_held, stamp_of}
use Rattle.machine.proofs.Places.{slot_at-settled, settled-other}
use Rattle.shadow_txn.specs.Held.{held_object}
use Rattle.shadow_txn.specs.Transaction.{end_stamp, greatest_last}
use Rattle.world.specs.Served.{IsEnded}
use Rattle.world.specs.Session.{Object, Session, held_slot, seen_by}
use Rattle.world.specs.Ties.{txn_at, slot_seen_at, seat_of, viewed, ShareObjects}
use Rattle.world.proofs.HeldLists.{greatest_last-bound, greatest_last-least}
use Rattle.world.proofs.Sights.{seen-held, unseen-own}
use Rattle.world.proofs.Tied.{slot_seen_at-seen, is_holder-own, slot_seen_at-set}
use Rattle.world.proofs.Viewed.{length-viewed, slot_at-viewed, seat_at-viewed, slots-viewed}

-- the greatest stamp that a session holds bounds each that it holds
pub greatest-bound : (s : ℕ) (slots : List Slot) (o : ℕ) → is_holder s (get_or slots o no_slot).holder ≡ true →
    (get_or slots o no_slot).stamp ≤ greatest_held s slots
greatest-bound s [] o mine = absurd (false≢true mine)
greatest-bound s (slot ∷ slots) zero mine = rw mine (omega arith)
greatest-bound s (slot ∷ slots) (suc o) mine =
    let below : (get_or slots o no_slot).stamp ≤ greatest_held s slots = greatest-bound s slots o mine in
    omega arith

-- and is the least such number
pub greatest-least : (s : ℕ) (slots : List Slot) (bound : ℕ) →
    ((o : ℕ) → is_holder s (get_or slots o no_slot).holder ≡ true → (get_or slots o no_slot).stamp ≤ bound) →
    greatest_held s slots ≤ bound
greatest-least s [] bound all = omega arith
greatest-least s (slot ∷ slots) bound all =
    let rest : greatest_held s slots ≤ bound = greatest-least s slots bound (λ o mine. all (suc o) mine) in
    elim (cases_Bool (is_holder s slot.holder)) [
      | inl mine ↦ let here : slot.stamp ≤ bound = all 0 mine in rw mine (omega arith)
      | inr away ↦ rw away (omega arith)
    ]

-- an object in the hands of a session has the slot of what it holds
held-slot : (shelf : List (Option Object)) (txns : List Session) (i o : ℕ) (x : Object) → i < SESSIONS →
    ShareObjects shelf txns → held_object o (txn_at txns i).held ≡ Some x
    → slot_at (viewed shelf txns) o ≡ held_slot (txn_at txns i).session x
held-slot shelf txns i o x within tied found =
    slot_at-viewed shelf txns o ∙ slot_seen_at-seen shelf txns i o (held_slot (txn_at txns i).session x) within tied
    (seen-held shelf (txn_at txns i) o x found)

-- the greatest stamp in the hands of a session is the greatest that it holds in the machine
greatest-viewed : (shelf : List (Option Object)) (txns : List Session) (i : ℕ) → i < SESSIONS → ShareObjects shelf txns
    → greatest_held (i + 1) (viewed shelf txns).slots ≡ greatest_last (λ x. x.annals) (txn_at txns i).held
greatest-viewed shelf txns i within tied =
    let held = (txn_at txns i).held in
    let slots : List Slot = (viewed shelf txns).slots in
    let in_hand : (o : ℕ) → is_holder (i + 1) (get_or slots o no_slot).holder ≡ is_some (held_object o (txn_at txns i).held) =
    λ o. ap (λ slot. is_holder (i + 1) slot.holder) (slot_at-viewed shelf txns o) ∙ is_holder-own shelf txns i o within tied in
    let below : greatest_held (i + 1) slots ≤ greatest_last (λ x. x.annals) (txn_at txns i).held =
    greatest-least (i + 1) slots (greatest_last (λ x. x.annals) (txn_at txns i).held) (λ o mine.
    let some = some-if (held_object o (txn_at txns i).held) (sym (in_hand o) ∙ mine) in
    let bound : (some.0).annals ≤ greatest_last (λ x. x.annals) (txn_at txns i).held =
    greatest_last-bound (λ (x : Object). x.annals) (txn_at txns i).held o some.0 some.1 in
    subst (λ (slot : Slot). slot.stamp ≤ greatest_last (λ x. x.annals) (txn_at txns i).held)
    (sym (held-slot shelf txns i o some.0 within tied some.1)) bound) in
    let above : greatest_last (λ x. x.annals) (txn_at txns i).held ≤ greatest_held (i + 1) slots =
    greatest_last-least (λ (x : Object). x.annals) (txn_at txns i).held (greatest_held (i + 1) slots)
    (tied.sound i within).distinct (λ o x found.
    subst (λ (slot : Slot). slot.stamp ≤ greatest_held (i + 1) slots) (held-slot shelf txns i o x within tied found)
    (greatest-bound (i + 1) slots o (in_hand o ∙ ap is_some found))) in
    omega (arith, below, above)

-- the stamp of an end
pub stamp_of-viewed : (shelf : List (Option Object)) (txns : List Session) (i : ℕ) → i < SESSIONS →
    ShareObjects shelf txns → stamp_of (viewed shelf txns) (suc i) ≡ end_stamp (λ x. x.annals) (txn_at txns i)
unfolding stamp_of
stamp_of-viewed shelf txns i within tied =
    let number : suc i ≡ i + 1 = omega arith in
    let greatest : greatest_held (suc i) (viewed shelf txns).slots ≡ greatest_last (λ x. x.annals) (txn_at txns i).held =
    ap (λ s. greatest_held s (viewed shelf txns).slots) number ∙ greatest-viewed shelf txns i within tied in
    let seat : (seat_at (viewed shelf txns) (suc i)).stamp ≡ (txn_at txns i).stamp =
    ap (λ seat. seat.stamp) (seat_at-viewed shelf txns i) in
    omega (arith, greatest, seat)

-- a transaction ends: what the session holds is let go, and all else stays
pub viewed-ended : (shelf : List (Option Object)) (txns : List Session) (i : ℕ) (shelf' : List (Option Object))
    (txn' : Session) (committed : Bool) → i < SESSIONS → ShareObjects shelf txns
    → IsEnded committed shelf (txn_at txns i) shelf' txn' →
    viewed shelf' (set txns i txn') ≡ next (viewed shelf txns) (suc i) (Closes committed)
viewed-ended shelf txns i shelf' txn' committed within tied end =
    let stamp : ℕ = end_stamp (λ x. x.annals) (txn_at txns i) in
    let slots : (viewed shelf' (set txns i txn')).slots ≡ map (settled (suc i) committed stamp) (viewed shelf txns).slots =
    slots-viewed shelf' (set txns i txn') (map (settled (suc i) committed stamp) (viewed shelf txns).slots)
    (length-map (viewed shelf txns).slots (settled (suc i) committed stamp) ∙ length-viewed shelf txns ∙ sym end.kept.size)
    (λ o. let_go o ∙ sym (slot_at-settled (viewed shelf txns).slots (suc i) stamp committed o
    ∙ ap (settled (suc i) committed stamp) (slot_at-viewed shelf txns o))) in
    let seat : seat_of txn' ≡ record { active = false; stamp = stamp } = ap seat_of end.closed in
    ap (λ slots. record { slots = slots; seats = map seat_of (set txns i txn') }) slots
    ∙ ap (λ seats. record {
      slots = map (settled (suc i) committed stamp) (viewed shelf txns).slots;
      seats =
          seats;
    }) (map-set seat_of txns i txn' ∙ ap (set (map seat_of txns) i) seat)
    ∙ ap (λ t. record {
      slots = map (settled (suc i) committed t) (viewed shelf txns).slots;
      seats =
          set (map seat_of txns) i (record { active = false; stamp = t });
    })
    (sym (stamp_of-viewed shelf txns i within tied))
  where
    by_sight : (o : ℕ) (sight : Option Slot) → seen_by shelf (txn_at txns i) o ≡ sight
        → unwrap_or (option_map (settled (suc i) committed (end_stamp (λ x. x.annals) (txn_at txns i)))
        (seen_by shelf (txn_at txns i) o)) (slot_seen_at shelf txns o)
        ≡ settled (suc i) committed (end_stamp (λ x. x.annals) (txn_at txns i)) (slot_seen_at shelf txns o)
    by_sight o (Some slot) is =
        let stamp : ℕ = end_stamp (λ x. x.annals) (txn_at txns i) in
        ap (λ s. unwrap_or (option_map (settled (suc i) committed stamp) s) (slot_seen_at shelf txns o)) is
        ∙ ap (settled (suc i) committed stamp) (sym (slot_seen_at-seen shelf txns i o slot within tied is))
    by_sight o None is =
        let stamp : ℕ = end_stamp (λ x. x.annals) (txn_at txns i) in
        let number : suc i ≡ i + 1 = omega arith in
        let other : is_holder (suc i) (slot_seen_at shelf txns o).holder ≡ false =
        ap (λ s. is_holder s (slot_seen_at shelf txns o).holder) number ∙ is_holder-own shelf txns i o within tied
        ∙ ap is_some (unseen-own shelf (txn_at txns i) o is) in
        ap (λ s. unwrap_or (option_map (settled (suc i) committed stamp) s) (slot_seen_at shelf txns o)) is
        ∙ sym (settled-other (suc i) stamp committed (slot_seen_at shelf txns o) other)

    let_go : (o : ℕ) → slot_seen_at shelf' (set txns i txn') o
        ≡ settled (suc i) committed (end_stamp (λ x. x.annals) (txn_at txns i)) (slot_seen_at shelf txns o)
    let_go o =
        let stamp : ℕ = end_stamp (λ x. x.annals) (txn_at txns i) in
        let number : (txn_at txns i).session ≡ suc i = let own : (txn_at txns i).session ≡ i + 1 =
        tied.numbers i within in omega (arith, own) in
        slot_seen_at-set shelf txns i shelf' txn' within tied end.kept o
        ∙ ap (λ sight. unwrap_or sight (slot_seen_at shelf txns o)) (end.seen o)
        ∙ ap (λ s. unwrap_or (option_map (settled s committed stamp) (seen_by shelf (txn_at txns i) o)) (slot_seen_at shelf txns o)) number
        ∙ by_sight o (seen_by shelf (txn_at txns i) o) refl

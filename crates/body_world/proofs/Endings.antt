-- The end of a transaction: its stamp, and what it makes of the machine, over every device and where bytes are told.
use Rattle.std.proofs.Common.{◌≡◌, ℕ, suc, ◌+◌, ◌<◌, ◌≤◌, Bool, true, false, List, map, set, get_or}
use Rattle.std.proofs.Common.{Option, Some, None, is_some, refl, ap, sym, ◌∙◌, subst, arith, inl, inr}
use Rattle.std.specs.Prelude.{IsTrue}
use Rattle.std.proofs.lemmas.Bool.{eq-eqb}
use Rattle.std.proofs.lemmas.List.{map-set, length-map, ext_get_or}
use Rattle.base_laws.proofs.OptionLaws.{some-if}
use Rattle.eos_ops.specs.declared.limits.TheConstants.{SESSIONS}
use Rattle.history.specs.Event.{Closes}
use Rattle.machine.specs.Machine.{Slot, no_slot, bare, bare_slot, seat_at, slot_at, is_holder}
use Rattle.machine.specs.Next.{next, settled, greatest_held, stamp_of}
use Rattle.machine.proofs.Places.{slot_at-settled, settled-other, get_or_map}
use Rattle.shadow_txn.specs.Held.{held_object}
use Rattle.shadow_txn.specs.Transaction.{Transaction, end_stamp, greatest_last}
use Rattle.world.proofs.Endings.{greatest-bound, greatest-least}
use Rattle.world.proofs.HeldLists.{greatest_last-bound, greatest_last-least}
use Rattle.body_world.specs.Served.{IsEnded, IsLeft, IsLeftBy}
use Rattle.body_world.specs.Session.{Shown, Seen, at_home, in_hand, seen_by}
use Rattle.body_world.specs.Ties.{txn_at, seen_at, slot_of, seat_of, machine_seen, ShareObjects}
use Rattle.body_world.proofs.Hands.{holder_seen}
use Rattle.body_world.proofs.Sights.{seen-held, seen-some, unseen-own}
use Rattle.body_world.proofs.Tied.{or_before, seen_at-seen, is_holder-own, seen_at-set}
use Rattle.body_world.proofs.Viewed.{as_slot, each, each-at, each-is, length-each, slot_at-seen, seat_at-seen}

-- the holder of a slot is that of what is seen
holder-slot : (seen : Option Seen) → (as_slot seen).holder ≡ holder_seen seen
holder-slot None = refl
holder-slot (Some seen) = refl

-- a session holds in the machine what it has in hand
pub in-hand : {T : Type 0} (show : T → Shown) (shelf : List (Option T)) (txns : List (Transaction T)) (i o : ℕ) → i < SESSIONS
    → ShareObjects shelf txns
    → is_holder (i + 1) (slot_at (machine_seen show shelf txns) o).holder ≡ is_some (held_object o (txn_at txns i).held)
in-hand show shelf txns i o within tied =
    ap (λ slot. is_holder (i + 1) slot.holder) (slot_at-seen show shelf txns o)
    ∙ ap (is_holder (i + 1)) (holder-slot (seen_at show shelf txns o)) ∙ is_holder-own show shelf txns i o within tied

held-stamp : {T : Type 0} (show : T → Shown) (shelf : List (Option T)) (txns : List (Transaction T)) (i o : ℕ) (x : T) → i < SESSIONS
    → ShareObjects shelf txns → held_object o (txn_at txns i).held ≡ Some x
    → (slot_at (machine_seen show shelf txns) o).stamp ≡ (show x).stamp
held-stamp show shelf txns i o x within tied found =
    ap (λ slot. slot.stamp) (slot_at-seen show shelf txns o
    ∙ ap as_slot (seen_at-seen show shelf txns i o (in_hand (txn_at txns i).session (show x)) within tied
    (seen-held show shelf (txn_at txns i) o x found)))

-- the greatest stamp in the hands of a session is the greatest that it holds in the machine
greatest-seen : {T : Type 0} (show : T → Shown) (last : T → ℕ) (shelf : List (Option T)) (txns : List (Transaction T)) (i : ℕ)
    → ((x : T) → (show x).stamp ≡ last x) → i < SESSIONS → ShareObjects shelf txns
    → greatest_held (i + 1) (machine_seen show shelf txns).slots ≡ greatest_last last (txn_at txns i).held
greatest-seen {T} show last shelf txns i stamps within tied =
    let held = (txn_at txns i).held in
    let slots : List Slot = (machine_seen show shelf txns).slots in
    let below : greatest_held (i + 1) slots ≤ greatest_last last held =
    greatest-least (i + 1) slots (greatest_last last held) (λ o mine.
    let some = some-if (held_object o held) (sym (in-hand show shelf txns i o within tied) ∙ mine) in
    let bound : last some.0 ≤ greatest_last last held = greatest_last-bound last held o some.0 some.1 in
    let same : (get_or slots o no_slot).stamp ≡ last some.0 = held-stamp show shelf txns i o some.0 within tied some.1 ∙ stamps some.0 in
    omega (arith, bound, same)) in
    let above : greatest_last last held ≤ greatest_held (i + 1) slots =
    greatest_last-least last held (greatest_held (i + 1) slots)
    (tied.sound i within).distinct (λ o x found.
    let bound : (get_or slots o no_slot).stamp ≤ greatest_held (i + 1) slots =
    greatest-bound (i + 1) slots o (in-hand show shelf txns i o within tied ∙ ap is_some found) in
    let same : (get_or slots o no_slot).stamp ≡ last x = held-stamp show shelf txns i o x within tied found ∙ stamps x in
    omega (arith, bound, same)) in
    omega (arith, below, above)

-- the stamp of an end
pub stamp_of-seen : {T : Type 0} (show : T → Shown) (last : T → ℕ) (shelf : List (Option T)) (txns : List (Transaction T)) (i : ℕ)
    → ((x : T) → (show x).stamp ≡ last x) → i < SESSIONS → ShareObjects shelf txns
    → stamp_of (machine_seen show shelf txns) (suc i) ≡ end_stamp last (txn_at txns i)
unfolding stamp_of
stamp_of-seen show last shelf txns i stamps within tied =
    let number : suc i ≡ i + 1 = omega arith in
    let greatest : greatest_held (suc i) (machine_seen show shelf txns).slots ≡ greatest_last last (txn_at txns i).held =
    ap (λ s. greatest_held s (machine_seen show shelf txns).slots) number ∙ greatest-seen show last shelf txns i stamps within tied in
    let seat : (seat_at (machine_seen show shelf txns) (suc i)).stamp ≡ (txn_at txns i).stamp =
    ap (λ seat. seat.stamp) (seat_at-seen show shelf txns i) in
    omega (arith, greatest, seat)

-- an object that the session held, or that was on the shelf, as it is left: with its contents where bytes are told
left-slot : (tells committed : Bool) (s at : ℕ) (holder : Option ℕ) (x y : Shown) → IsTrue tells → is_holder s holder ≡ is_some holder
    → IsLeftBy tells committed at holder x y
    → slot_of (at_home y) ≡ settled s committed at (slot_of (record { holder = holder; object = x }))
left-slot tells committed s at None x y tell own left = ap (λ z. slot_of (at_home z)) left
left-slot tells true s at (Some t) x y tell own left =
    rw own (ap (λ told. record { committed = told.committed; working = told.committed; holder = None; stamp = y.stamp }) (left.told tell)
    ∙ ap (λ k. record { committed = x.told.working; working = x.told.working; holder = None; stamp = k }) left.at)
left-slot tells false s at (Some t) x y tell own left =
    rw own (ap (λ told. record { committed = told.committed; working = told.committed; holder = None; stamp = y.stamp }) (left.told tell)
    ∙ ap (λ k. record { committed = x.told.committed; working = x.told.committed; holder = None; stamp = k }) left.at)

-- and but for its contents over every device
left-bare : (tells committed : Bool) (s at : ℕ) (holder : Option ℕ) (x y : Shown) → is_holder s holder ≡ is_some holder
    → IsLeftBy tells committed at holder x y
    → bare_slot (slot_of (at_home y)) ≡ bare_slot (settled s committed at (slot_of (record { holder = holder; object = x })))
left-bare tells committed s at None x y own left = ap (λ z. bare_slot (slot_of (at_home z))) left
left-bare tells true s at (Some t) x y own left =
    rw own (ap (λ k. bare_slot (record { committed = x.told.working; working = x.told.working; holder = None; stamp = k })) left.at)
left-bare tells false s at (Some t) x y own left =
    rw own (ap (λ k. bare_slot (record { committed = x.told.committed; working = x.told.committed; holder = None; stamp = k })) left.at)

-- a session sees what it holds itself, or what nobody holds
own-holder : {T : Type 0} (show : T → Shown) (shelf : List (Option T)) (txn : Transaction T) (o : ℕ) (seen : Seen)
    → seen_by show shelf txn o ≡ Some seen → is_holder txn.session seen.holder ≡ is_some seen.holder
own-holder show shelf txn o seen sees = elim (seen-some show shelf txn o seen sees) [
  | inl own ↦ ap (λ (t : Seen). is_holder txn.session t.holder) own.2 ∙ eq-eqb txn.session txn.session refl
      ∙ sym (ap (λ (t : Seen). is_some t.holder) own.2)
  | inr home ↦ ap (λ (t : Seen). is_holder txn.session t.holder) home.1.2 ∙ sym (ap (λ (t : Seen). is_some t.holder) home.1.2)
]

-- Each reading of what a session leaves, where it reads what it let go as settled.
pub ended-reads : {T A : Type 0} (reads : Slot → A) (tells : Bool) (show : T → Shown) (last : T → ℕ) (committed : Bool)
    (shelf : List (Option T)) (txns : List (Transaction T)) (i : ℕ) (shelf' : List (Option T)) (txn' : Transaction T)
    → i < SESSIONS → ShareObjects shelf txns → IsEnded tells show last committed shelf (txn_at txns i) shelf' txn'
    → ((holder : Option ℕ) (x y : Shown) → is_holder (suc i) holder ≡ is_some holder
    → IsLeftBy tells committed (end_stamp last (txn_at txns i)) holder x y
    → reads (slot_of (at_home y)) ≡ reads (settled (suc i) committed (end_stamp last (txn_at txns i))
    (slot_of (record { holder = holder; object = x }))))
    → (o : ℕ) → reads (as_slot (seen_at show shelf' (set txns i txn') o))
    ≡ reads (settled (suc i) committed (end_stamp last (txn_at txns i)) (as_slot (seen_at show shelf txns o)))
ended-reads {T} reads tells show last committed shelf txns i shelf' txn' within tied end left o =
    ap (λ seen. reads (as_slot seen)) (seen_at-set show shelf txns i shelf' txn' within tied end.kept o)
    ∙ by_sight (seen_by show shelf (txn_at txns i) o) refl (end.seen o)
  where
    number : (txn_at txns i).session ≡ suc i
    number = let own : (txn_at txns i).session ≡ i + 1 = tied.numbers i within in omega (arith, own)

    by_sight : (sight : Option Seen) → seen_by show shelf (txn_at txns i) o ≡ sight
        → IsLeft tells committed (end_stamp last (txn_at txns i)) (seen_by show shelf (txn_at txns i) o) (seen_by show shelf' txn' o)
        → reads (as_slot (or_before (seen_by show shelf' txn' o) (seen_at show shelf txns o)))
        ≡ reads (settled (suc i) committed (end_stamp last (txn_at txns i)) (as_slot (seen_at show shelf txns o)))
    by_sight None is fact =
        let gone : seen_by show shelf' txn' o ≡ None =
        subst (λ sight. IsLeft tells committed (end_stamp last (txn_at txns i)) sight (seen_by show shelf' txn' o)) is fact in
        let same : suc i ≡ i + 1 = omega arith in
        let other : is_holder (suc i) (as_slot (seen_at show shelf txns o)).holder ≡ false =
        ap (λ s. is_holder s (as_slot (seen_at show shelf txns o)).holder) same
        ∙ ap (is_holder (i + 1)) (holder-slot (seen_at show shelf txns o)) ∙ is_holder-own show shelf txns i o within tied
        ∙ ap is_some (unseen-own show shelf (txn_at txns i) o is) in
        ap (λ s. reads (as_slot (or_before s (seen_at show shelf txns o)))) gone
        ∙ sym (ap reads (settled-other (suc i) (end_stamp last (txn_at txns i)) committed (as_slot (seen_at show shelf txns o)) other))
    by_sight (Some seen) is fact =
        let back : IsLeft tells committed (end_stamp last (txn_at txns i)) (Some seen) (seen_by show shelf' txn' o) =
        subst (λ sight. IsLeft tells committed (end_stamp last (txn_at txns i)) sight (seen_by show shelf' txn' o)) is fact in
        let own : is_holder (suc i) seen.holder ≡ is_some seen.holder =
        ap (λ s. is_holder s seen.holder) (sym number) ∙ own-holder show shelf (txn_at txns i) o seen is in
        ap (λ s. reads (as_slot (or_before s (seen_at show shelf txns o)))) back.1
        ∙ left seen.holder seen.object back.0 own back.2
        ∙ ap (λ s. reads (settled (suc i) committed (end_stamp last (txn_at txns i)) (as_slot s)))
        (sym (seen_at-seen show shelf txns i o seen within tied is))

-- a transaction ends: what the session holds is let go, and all else stays
pub machine-ended : {T : Type 0} (tells : Bool) (show : T → Shown) (last : T → ℕ) (committed : Bool)
    (shelf : List (Option T)) (txns : List (Transaction T)) (i : ℕ) (shelf' : List (Option T)) (txn' : Transaction T)
    → IsTrue tells → ((x : T) → (show x).stamp ≡ last x) → i < SESSIONS → ShareObjects shelf txns
    → IsEnded tells show last committed shelf (txn_at txns i) shelf' txn'
    → machine_seen show shelf' (set txns i txn') ≡ next (machine_seen show shelf txns) (suc i) (Closes committed)
machine-ended tells show last committed shelf txns i shelf' txn' tell stamps within tied end =
    let stamp : ℕ = end_stamp last (txn_at txns i) in
    let before : List Slot = each as_slot show shelf txns in
    let slots : each as_slot show shelf' (set txns i txn') ≡ map (settled (suc i) committed stamp) before =
    each-is as_slot show shelf' (set txns i txn') (map (settled (suc i) committed stamp) before)
    (length-map before (settled (suc i) committed stamp) ∙ length-each as_slot show shelf txns ∙ sym end.kept.size)
    (λ o. ended-reads (λ slot. slot) tells show last committed shelf txns i shelf' txn' within tied end
    (λ holder x y own left. left-slot tells committed (suc i) stamp holder x y tell own left) o
    ∙ sym (slot_at-settled before (suc i) stamp committed o
    ∙ ap (settled (suc i) committed stamp) (each-at as_slot show shelf txns o))) in
    ap (λ slots. record { slots = slots; seats = map seat_of (set txns i txn') }) slots
    ∙ ap (λ seats. record { slots = map (settled (suc i) committed stamp) before; seats = seats })
    (map-set seat_of txns i txn' ∙ ap (set (map seat_of txns) i) (ap seat_of end.closed))
    ∙ ap (λ t. record {
      slots = map (settled (suc i) committed t) before;
      seats = set (map seat_of txns) i (record { active = false; stamp = t });
    }) (sym (stamp_of-seen show last shelf txns i stamps within tied))

-- and but for the contents it is so over every device
pub machine-ended_bare : {T : Type 0} (tells : Bool) (show : T → Shown) (last : T → ℕ) (committed : Bool)
    (shelf : List (Option T)) (txns : List (Transaction T)) (i : ℕ) (shelf' : List (Option T)) (txn' : Transaction T)
    → ((x : T) → (show x).stamp ≡ last x) → i < SESSIONS → ShareObjects shelf txns
    → IsEnded tells show last committed shelf (txn_at txns i) shelf' txn'
    → bare (machine_seen show shelf' (set txns i txn')) ≡ bare (next (machine_seen show shelf txns) (suc i) (Closes committed))
machine-ended_bare tells show last committed shelf txns i shelf' txn' stamps within tied end =
    let stamp : ℕ = end_stamp last (txn_at txns i) in
    let before : List Slot = each as_slot show shelf txns in
    let after : List Slot = each as_slot show shelf' (set txns i txn') in
    let slots : map bare_slot after ≡ map bare_slot (map (settled (suc i) committed stamp) before) =
    ext_get_or (bare_slot no_slot) (map bare_slot after) (map bare_slot (map (settled (suc i) committed stamp) before))
    (length-map after bare_slot ∙ length-each as_slot show shelf' (set txns i txn') ∙ end.kept.size
    ∙ sym (length-map (map (settled (suc i) committed stamp) before) bare_slot ∙ length-map before (settled (suc i) committed stamp)
    ∙ length-each as_slot show shelf txns))
    (λ o below. get_or_map bare_slot after o no_slot
    ∙ ap bare_slot (each-at as_slot show shelf' (set txns i txn') o)
    ∙ ended-reads bare_slot tells show last committed shelf txns i shelf' txn' within tied end
    (λ holder x y own left. left-bare tells committed (suc i) stamp holder x y own left) o
    ∙ sym (get_or_map bare_slot (map (settled (suc i) committed stamp) before) o no_slot
    ∙ ap bare_slot (slot_at-settled before (suc i) stamp committed o
    ∙ ap (settled (suc i) committed stamp) (each-at as_slot show shelf txns o)))) in
    ap (λ slots. record { slots = slots; seats = map seat_of (set txns i txn') }) slots
    ∙ ap (λ seats. record { slots = map bare_slot (map (settled (suc i) committed stamp) before); seats = seats })
    (map-set seat_of txns i txn' ∙ ap (set (map seat_of txns) i) (ap seat_of end.closed))
    ∙ ap (λ t. record {
      slots = map bare_slot (map (settled (suc i) committed t) before);
      seats = set (map seat_of txns) i (record { active = false; stamp = t });
    }) (sym (stamp_of-seen show last shelf txns i stamps within tied))

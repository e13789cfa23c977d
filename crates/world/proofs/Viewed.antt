-- The machine of the shelf and the sessions: read at one session or one object, and after one session's deed.
use Rattle.std.proofs.Common.{◌≡◌, ◌≢◌, ℕ, suc, ◌+◌, ◌<◌, nat_le, ◌==◌, Bool, true, false, List, length, map, set}
use Rattle.std.proofs.Common.{get_or, Option, Some, None, is_some, slice_get, unwrap_or, if◌then◌else◌, zero-add}
use Rattle.std.proofs.Common.{refl, ap, sym, ◌∙◌, arith, inl, inr}
use Rattle.std.proofs.lemmas.Bool.{cases_eq, cases_lt, leb-false}
use Rattle.std.proofs.lemmas.List.{get_or-set_same, get_or-set_other, get_or_past, ext_get_or, map-set, length-set}
use Rattle.std.proofs.lemmas.List.FromFn.{length-map-range_with_len, get_or-map-range_with_len}
use Rattle.std.proofs.lemmas.Option.{slice_get_past, slice_get-get_or, slice_get_within}
use Rattle.eos_ops.specs.declared.limits.TheConstants.{SESSIONS, MAX_HELD, LAST_STAMP}
use Rattle.eos_ops.specs.declared.reply.Reply.TheVariants as reply
use Rattle.history.specs.Event.{Opens}
use Rattle.history.specs.Holding.{count_below}
use Rattle.machine.specs.Machine.{Slot, no_slot, slot_at, seat_at, is_holder, held_by, with_slot}
use Rattle.machine.specs.Next.{next}
use Rattle.machine.specs.Replies.{object_refused}
use Rattle.machine.proofs.Places.{get_or_map, map-set_unseen}
use Rattle.machine.proofs.Counting.{count_below-agree}
use Rattle.shadow_txn.specs.Held.{held_object}
use Rattle.shadow_txn.specs.Transaction.{with_begin}
use Rattle.world.specs.Served.{KeepsSession}
use Rattle.world.specs.Session.{Object, Session, seen_by, refused_by, place_refused, IsSoundSession}
use Rattle.world.specs.Ties.{no_txn, txn_at, held_in, slot_seen, slot_seen_at, seat_of, viewed, ShareObjects}
use Rattle.world.proofs.HeldLists.{length-held}
use Rattle.world.proofs.Tied.{slot_seen_at-seen, is_holder-own, slot_seen_at-set}

pub length-viewed : (shelf : List (Option Object)) (txns : List Session) → length (viewed shelf txns).slots ≡ length shelf
length-viewed shelf txns = length-map-range_with_len (slot_seen_at shelf txns) 0 (length shelf)

pub slot_at-viewed : (shelf : List (Option Object)) (txns : List Session) (o : ℕ) →
    slot_at (viewed shelf txns) o ≡ slot_seen_at shelf txns o
slot_at-viewed shelf txns o = elim (cases_lt o (length shelf)) [
  | inl there ↦ get_or-map-range_with_len (slot_seen_at shelf txns) 0 (length shelf) o o no_slot there (zero-add o)
  | inr past ↦
      let size : length (viewed shelf txns).slots ≡ length shelf = length-viewed shelf txns in
      get_or_past (viewed shelf txns).slots o no_slot (omega (arith, past, size))
      ∙ sym (ap (λ place. slot_seen place (held_in txns o)) (slice_get_past shelf o past))
]

pub seat_at-viewed : (shelf : List (Option Object)) (txns : List Session) (i : ℕ) →
    seat_at (viewed shelf txns) (suc i) ≡ seat_of (txn_at txns i)
seat_at-viewed shelf txns i = get_or_map seat_of txns i no_txn

-- all slots after the change, from each of them
pub slots-viewed : (shelf : List (Option Object)) (txns : List Session) (slots : List Slot) →
    length slots ≡ length shelf → ((o : ℕ) → slot_seen_at shelf txns o ≡ get_or slots o no_slot)
    → (viewed shelf txns).slots ≡ slots
slots-viewed shelf txns slots size each =
    ext_get_or no_slot (viewed shelf txns).slots slots (length-viewed shelf txns ∙ sym size)
    (λ o within. slot_at-viewed shelf txns o ∙ each o)

-- what the session sees as before is as before
pub stays : (shelf : List (Option Object)) (txns : List Session) (i : ℕ) (shelf' : List (Option Object))
    (txn' : Session) → i < SESSIONS → ShareObjects shelf txns → KeepsSession shelf (txn_at txns i) shelf' txn'
    → (o : ℕ) → seen_by shelf' txn' o ≡ seen_by shelf (txn_at txns i) o →
    slot_seen_at shelf' (set txns i txn') o ≡ slot_seen_at shelf txns o
stays shelf txns i shelf' txn' within tied kept o same =
    slot_seen_at-set shelf txns i shelf' txn' within tied kept o
    ∙ ap (λ sight. unwrap_or sight (slot_seen_at shelf txns o)) same
    ∙ by_sight (seen_by shelf (txn_at txns i) o) refl
  where
    by_sight : (sight : Option Slot) → seen_by shelf (txn_at txns i) o ≡ sight →
        unwrap_or (seen_by shelf (txn_at txns i) o) (slot_seen_at shelf txns o) ≡ slot_seen_at shelf txns o
    by_sight None is = ap (λ s. unwrap_or s (slot_seen_at shelf txns o)) is
    by_sight (Some slot) is = ap (λ s. unwrap_or s (slot_seen_at shelf txns o)) is
        ∙ sym (slot_seen_at-seen shelf txns i o slot within tied is)

-- a command on an object changes its slot alone
pub viewed-served : (shelf : List (Option Object)) (txns : List Session) (i : ℕ) (shelf' : List (Option Object))
    (txn' : Session) (o : ℕ) (slot : Slot) → i < SESSIONS → ShareObjects shelf txns
    → KeepsSession shelf (txn_at txns i) shelf' txn' → seat_of txn' ≡ seat_of (txn_at txns i) → o < length shelf
    → seen_by shelf' txn' o ≡ Some slot → ((p : ℕ) → p ≢ o → seen_by shelf' txn' p ≡ seen_by shelf (txn_at txns i) p)
    → viewed shelf' (set txns i txn') ≡ with_slot (viewed shelf txns) o slot
viewed-served shelf txns i shelf' txn' o slot within tied kept seat there now others =
    let size : length (viewed shelf txns).slots ≡ length shelf = length-viewed shelf txns in
    let slots : (viewed shelf' (set txns i txn')).slots ≡ set (viewed shelf txns).slots o slot =
    slots-viewed shelf' (set txns i txn') (set (viewed shelf txns).slots o slot)
    (length-set (viewed shelf txns).slots o slot ∙ size ∙ sym kept.size)
    (λ p. elim (cases_eq p o) [
      | inl this ↦
          ap (slot_seen_at shelf' (set txns i txn')) this
          ∙ slot_seen_at-set shelf txns i shelf' txn' within tied kept o
          ∙ ap (λ sight. unwrap_or sight (slot_seen_at shelf txns o)) now
          ∙ sym (ap (λ q. get_or (set (viewed shelf txns).slots o slot) q no_slot) this
          ∙ get_or-set_same (viewed shelf txns).slots o slot no_slot (omega (arith, there, size)))
      | inr other ↦
          stays shelf txns i shelf' txn' within tied kept p (others p other)
          ∙ sym (get_or-set_other (viewed shelf txns).slots o p slot no_slot other ∙ slot_at-viewed shelf txns p)
    ]) in
    ap (λ slots. record { slots = slots; seats = map seat_of (set txns i txn') }) slots
    ∙ ap (λ seats. record { slots = set (viewed shelf txns).slots o slot; seats = seats }) (map-set_unseen seat_of txns i no_txn txn' seat)

-- a transaction begins
pub viewed-begun : (shelf : List (Option Object)) (txns : List Session) (i : ℕ) → i < SESSIONS →
    ShareObjects shelf txns → KeepsSession shelf (txn_at txns i) shelf (with_begin (txn_at txns i))
    → viewed shelf (set txns i (with_begin (txn_at txns i))) ≡ next (viewed shelf txns) (suc i) Opens
viewed-begun shelf txns i within tied kept =
    let slots : (viewed shelf (set txns i (with_begin (txn_at txns i)))).slots ≡ (viewed shelf txns).slots =
    slots-viewed shelf (set txns i (with_begin (txn_at txns i))) (viewed shelf txns).slots (length-viewed shelf txns)
    (λ o. stays shelf txns i shelf (with_begin (txn_at txns i)) within tied kept o refl ∙ sym (slot_at-viewed shelf txns o)) in
    ap (λ slots. record { slots = slots; seats = map seat_of (set txns i (with_begin (txn_at txns i))) }) slots
    ∙ ap (λ seats. record { slots = (viewed shelf txns).slots; seats = seats })
    (map-set seat_of txns i (with_begin (txn_at txns i))
    ∙ ap (λ stamp. set (map seat_of txns) i (record { active = true; stamp = stamp }))
    (sym (ap (λ seat. seat.stamp) (seat_at-viewed shelf txns i))))

-- how many objects a session holds is the length of its list
pub held_by-viewed : (shelf : List (Option Object)) (txns : List Session) (i : ℕ) → i < SESSIONS →
    ShareObjects shelf txns → held_by (viewed shelf txns) (i + 1) ≡ length (txn_at txns i).held
unfolding held_by
held_by-viewed shelf txns i within tied =
    let sound : IsSoundSession shelf (txn_at txns i) = tied.sound i within in
    ap (λ n. count_below n (λ o. is_holder (i + 1) (slot_at (viewed shelf txns) o).holder)) (length-viewed shelf txns)
    ∙ count_below-agree (length shelf) (λ o. is_holder (i + 1) (slot_at (viewed shelf txns) o).holder)
    (λ o. is_some (held_object o (txn_at txns i).held))
    (λ o below. ap (λ slot. is_holder (i + 1) slot.holder) (slot_at-viewed shelf txns o) ∙ is_holder-own shelf txns i o within tied)
    ∙ sym (length-held (length shelf) (txn_at txns i).held sound.distinct
    (λ o x found. slice_get_within shelf o None (sound.out o x found)))

-- the refusals of the machine, from what is read of the session and of the shelf
refused-cases : (place : Option (Option Object)) (held : Slot) (mine past full : Bool) →
    (place ≡ Some None → is_some held.holder ≡ true) → (past ≡ false → is_some place ≡ true)
    → (if mine then None else if past then Some reply.NoObject else if full then Some reply.Full
    else if is_some (slot_seen place held).holder then Some reply.Busy else if (slot_seen place held).stamp ==
    LAST_STAMP then Some reply.Worn else None)
    ≡ (if mine then None else if past then Some reply.NoObject else if full then Some reply.Full else place_refused place)
refused-cases place held true past full taken there = refl
refused-cases place held false true full taken there = refl
refused-cases place held false false true taken there = refl
refused-cases None held false false false taken there = let absent : false ≡ true = there refl in absurd cc
refused-cases (Some None) held false false false taken there = let some : is_some held.holder ≡ true = taken refl in rw some refl
refused-cases (Some (Some x)) held false false false taken there = refl

-- why a session can't have an object
pub object_refused-viewed : (shelf : List (Option Object)) (txns : List Session) (i o : ℕ) → i < SESSIONS →
    ShareObjects shelf txns → object_refused (viewed shelf txns) (i + 1) o ≡ refused_by shelf (txn_at txns i) o
object_refused-viewed shelf txns i o within tied =
    let mine : is_holder (i + 1) (slot_seen_at shelf txns o).holder ≡ is_some (held_object o (txn_at txns i).held) =
    is_holder-own shelf txns i o within tied in
    let counted : held_by (viewed shelf txns) (i + 1) ≡ length (txn_at txns i).held = held_by-viewed shelf txns i within tied in
    let size : length (viewed shelf txns).slots ≡ length shelf = length-viewed shelf txns in
    let slot : slot_at (viewed shelf txns) o ≡ slot_seen_at shelf txns o = slot_at-viewed shelf txns o in
    ap (λ x. if is_holder (i + 1) x.holder then None else if nat_le (length (viewed shelf txns).slots) o then Some
    reply.NoObject else if nat_le MAX_HELD (held_by (viewed shelf txns) (i + 1)) then Some reply.Full
    else if is_some x.holder then Some reply.Busy else if x.stamp == LAST_STAMP then Some reply.Worn else None) slot
    ∙ ap (λ n. if is_holder (i + 1) (slot_seen_at shelf txns o).holder then None else if nat_le n o then Some
    reply.NoObject else if nat_le MAX_HELD (held_by (viewed shelf txns) (i + 1)) then Some reply.Full
    else if is_some (slot_seen_at shelf txns o).holder then Some reply.Busy else
    if (slot_seen_at shelf txns o).stamp == LAST_STAMP then Some reply.Worn else None) size
    ∙ ap (λ n. if is_holder (i + 1) (slot_seen_at shelf txns o).holder then None else if nat_le (length shelf) o
    then Some reply.NoObject else if nat_le MAX_HELD n then Some reply.Full
    else if is_some (slot_seen_at shelf txns o).holder then Some reply.Busy else
    if (slot_seen_at shelf txns o).stamp == LAST_STAMP then Some reply.Worn else None) counted
    ∙ ap (λ b. if b then None else if nat_le (length shelf) o then Some reply.NoObject else if nat_le MAX_HELD
    (length (txn_at txns i).held) then Some reply.Full
    else if is_some (slot_seen_at shelf txns o).holder then Some reply.Busy else
    if (slot_seen_at shelf txns o).stamp == LAST_STAMP then Some reply.Worn else None) mine
    ∙ refused-cases (slice_get shelf o) (held_in txns o) (is_some (held_object o (txn_at txns i).held))
    (nat_le (length shelf) o) (nat_le MAX_HELD (length (txn_at txns i).held)) (tied.taken o) there
  where
    there : nat_le (length shelf) o ≡ false → is_some (slice_get shelf o) ≡ true
    there below = ap is_some (slice_get-get_or shelf o None (leb-false (length shelf) o below))

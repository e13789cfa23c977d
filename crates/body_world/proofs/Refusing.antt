-- Why a session can't have an object, in the machine: as it is read of the session and of the shelf.
use Rattle.std.proofs.Common.{◌≡◌, ℕ, ◌+◌, ◌<◌, nat_le, ◌==◌, Bool, true, false, List, length, Option, Some, None, is_some}
use Rattle.std.proofs.Common.{slice_get, if◌then◌else◌, refl, ap, sym, ◌∙◌, subst}
use Rattle.std.proofs.lemmas.Bool.{leb-false}
use Rattle.std.proofs.lemmas.Option.{slice_get-get_or, slice_get_within}
use Rattle.base_laws.proofs.OptionLaws.{some-if, some-inner}
use Rattle.eos_ops.specs.declared.limits.TheConstants.{SESSIONS, MAX_HELD, LAST_STAMP}
use Rattle.eos_ops.specs.declared.reply.Reply.{Reply}
use Rattle.eos_ops.specs.declared.reply.Reply.TheVariants as reply
use Rattle.history.specs.Holding.{count_below}
use Rattle.machine.specs.Machine.{slot_at, is_holder, held_by}
use Rattle.machine.specs.Replies.{object_refused}
use Rattle.machine.proofs.Counting.{count_below-agree}
use Rattle.shadow_txn.specs.Held.{held_object}
use Rattle.shadow_txn.specs.Transaction.{Transaction}
use Rattle.world.proofs.HeldLists.{length-held}
use Rattle.body_world.specs.Session.{Shown, Seen, refused_by, place_refused, IsSoundSession}
use Rattle.body_world.specs.Ties.{txn_at, held_in, place_seen, seen_at, machine_seen, ShareObjects}
use Rattle.body_world.proofs.Endings.{in-hand}
use Rattle.body_world.proofs.Hands.{held_in-at}
use Rattle.body_world.proofs.Viewed.{as_slot, length-each, slot_at-seen}

-- how many objects a session holds is the length of its list
held_by-seen : {T : Type 0} (show : T → Shown) (shelf : List (Option T)) (txns : List (Transaction T)) (i : ℕ) → i < SESSIONS
    → ShareObjects shelf txns → held_by (machine_seen show shelf txns) (i + 1) ≡ length (txn_at txns i).held
unfolding held_by
held_by-seen show shelf txns i within tied =
    let sound : IsSoundSession shelf (txn_at txns i) = tied.sound i within in
    ap (λ n. count_below n (λ o. is_holder (i + 1) (slot_at (machine_seen show shelf txns) o).holder)) (length-each as_slot show shelf txns)
    ∙ count_below-agree (length shelf) (λ o. is_holder (i + 1) (slot_at (machine_seen show shelf txns) o).holder)
    (λ o. is_some (held_object o (txn_at txns i).held)) (λ o below. in-hand show shelf txns i o within tied)
    ∙ sym (length-held (length shelf) (txn_at txns i).held sound.distinct
    (λ o x found. slice_get_within shelf o None (sound.out o x found)))

-- the refusals of the machine, from what is read of the session and of the shelf
refused-cases : {T : Type 0} (show : T → Shown) (place : Option (Option T)) (held : Option Seen) (mine past full : Bool)
    → (place ≡ Some None → is_some (as_slot held).holder ≡ true) → (past ≡ false → is_some place ≡ true)
    → (if mine then None else if past then Some reply.NoObject else if full then Some reply.Full
    else if is_some (as_slot (place_seen show place held)).holder then Some reply.Busy
    else if (as_slot (place_seen show place held)).stamp == LAST_STAMP then Some reply.Worn else None)
    ≡ (if mine then None else if past then Some reply.NoObject else if full then Some reply.Full else place_refused show place)
refused-cases show place held true past full taken there = refl
refused-cases show place held false true full taken there = refl
refused-cases show place held false false true taken there = refl
refused-cases show None held false false false taken there = let absent : false ≡ true = there refl in absurd cc
refused-cases show (Some None) held false false false taken there =
    let some : is_some (as_slot held).holder ≡ true = taken refl in rw some refl
refused-cases show (Some (Some x)) held false false false taken there = refl

-- what is out is in the hands of a session
taken-hands : {T : Type 0} (show : T → Shown) (shelf : List (Option T)) (txns : List (Transaction T)) (o : ℕ) → ShareObjects shelf txns
    → slice_get shelf o ≡ Some None → is_some (as_slot (held_in show txns o)).holder ≡ true
taken-hands show shelf txns o tied out =
    let had = tied.taken o out in
    let some = some-if (held_object o (txn_at txns had.0).held) had.2 in
    ap (λ seen. is_some (as_slot seen).holder) (held_in-at show txns had.0 o some.0 some.1
    (λ j other. tied.alone had.0 j o (λ e. other (sym e)) had.2))

-- why a session can't have an object
pub object_refused-seen : {T : Type 0} (show : T → Shown) (shelf : List (Option T)) (txns : List (Transaction T)) (i o : ℕ) → i < SESSIONS
    → ShareObjects shelf txns → object_refused (machine_seen show shelf txns) (i + 1) o ≡ refused_by show shelf (txn_at txns i) o
object_refused-seen show shelf txns i o within tied =
    let m = machine_seen show shelf txns in
    let seen = seen_at show shelf txns o in
    let held = (txn_at txns i).held in
    let mine : is_holder (i + 1) (slot_at m o).holder ≡ is_some (held_object o held) = in-hand show shelf txns i o within tied in
    let counted : held_by m (i + 1) ≡ length held = held_by-seen show shelf txns i within tied in
    let size : length m.slots ≡ length shelf = length-each as_slot show shelf txns in
    ap (λ b. if b then None else if nat_le (length m.slots) o then Some reply.NoObject
    else if nat_le MAX_HELD (held_by m (i + 1)) then Some reply.Full
    else if is_some (slot_at m o).holder then Some reply.Busy
    else if (slot_at m o).stamp == LAST_STAMP then Some reply.Worn else None) mine
    ∙ ap (λ x. if is_some (held_object o held) then None else if nat_le (length m.slots) o then Some reply.NoObject
    else if nat_le MAX_HELD (held_by m (i + 1)) then Some reply.Full
    else if is_some x.holder then Some reply.Busy else if x.stamp == LAST_STAMP then Some reply.Worn else None)
    (slot_at-seen show shelf txns o)
    ∙ ap (λ k. if is_some (held_object o held) then None else if nat_le k o then Some reply.NoObject
    else if nat_le MAX_HELD (held_by m (i + 1)) then Some reply.Full
    else if is_some (as_slot seen).holder then Some reply.Busy else if (as_slot seen).stamp == LAST_STAMP then Some reply.Worn else None)
    size
    ∙ ap (λ k. if is_some (held_object o held) then None else if nat_le (length shelf) o then Some reply.NoObject
    else if nat_le MAX_HELD k then Some reply.Full
    else if is_some (as_slot seen).holder then Some reply.Busy else if (as_slot seen).stamp == LAST_STAMP then Some reply.Worn else None)
    counted
    ∙ refused-cases show (slice_get shelf o) (held_in show txns o) (is_some (held_object o held))
    (nat_le (length shelf) o) (nat_le MAX_HELD (length held)) (taken-hands show shelf txns o tied) there
  where
    there : nat_le (length shelf) o ≡ false → is_some (slice_get shelf o) ≡ true
    there below = ap is_some (slice_get-get_or shelf o None (leb-false (length shelf) o below))

-- a refusal is one of these
pub refused-reply : {T : Type 0} (show : T → Shown) (shelf : List (Option T)) (txn : Transaction T) (o : ℕ) (r : Reply)
    (P : Reply → Type 0) → P reply.NoObject → P reply.Full → P reply.Busy → P reply.Worn → refused_by show shelf txn o ≡ Some r → P r
refused-reply {T} show shelf txn o r P no_object full busy worn is =
    by (is_some (held_object o txn.held)) (nat_le (length shelf) o) (nat_le MAX_HELD (length txn.held)) (slice_get shelf o) is
  where
    place : (p : Option (Option T)) → place_refused show p ≡ Some r → P r
    place None is = subst P (some-inner reply.NoObject r is) no_object
    place (Some None) is = subst P (some-inner reply.Busy r is) busy
    place (Some (Some x)) is = last ((show x).stamp == LAST_STAMP) is
      where
        last : (b : Bool) → (if b then Some reply.Worn else None) ≡ Some r → P r
        last true is = subst P (some-inner reply.Worn r is) worn
        last false is = absurd cc

    by : (mine past many : Bool) (p : Option (Option T))
        → (if mine then None else if past then Some reply.NoObject else if many then Some reply.Full else place_refused show p) ≡ Some r
        → P r
    by true past many p is = absurd cc
    by false true many p is = subst P (some-inner reply.NoObject r is) no_object
    by false false true p is = subst P (some-inner reply.Full r is) full
    by false false false p is = place p is

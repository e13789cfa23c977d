-- The store of the shelf and the sessions: read at one session or one object, and after one session's deed. What is said of the
-- machine's slots and of the moment's is one lemma, for any reading of what is seen.
use Rattle.std.proofs.Common.{◌≡◌, ◌≢◌, ℕ, suc, ◌<◌, true, List, length, map, set}
use Rattle.std.proofs.Common.{get_or, Option, Some, None, zero-add}
use Rattle.std.proofs.Common.{refl, ap, sym, ◌∙◌, arith, inl, inr}
use Rattle.std.specs.List.{range_with_len}
use Rattle.std.specs.Option.{option_map_or}
use Rattle.std.proofs.lemmas.Bool.{cases_eq, cases_lt}
use Rattle.std.proofs.lemmas.List.{get_or-set_same, get_or-set_other, get_or_past, ext_get_or, length-set, map-set}
use Rattle.std.proofs.lemmas.List.FromFn.{length-map-range_with_len, get_or-map-range_with_len}
use Rattle.std.proofs.lemmas.Option.{slice_get_past}
use Rattle.eos_ops.specs.declared.limits.TheConstants.{SESSIONS}
use Rattle.history.specs.Event.{Opens}
use Rattle.machine.specs.Machine.{Slot, no_slot, slot_at, seat_at}
use Rattle.machine.specs.Next.{next}
use Rattle.machine.proofs.Places.{get_or_map}
use Rattle.moment_model.specs.Moment.{object_slot, absent_slot}
use Rattle.shadow_txn.specs.Transaction.{Transaction, with_begin}
use Rattle.body_world.specs.Served.{KeepsSession}
use Rattle.body_world.specs.Session.{Shown, Seen, seen_by}
use Rattle.body_world.specs.Ties.{no_txn, txn_at, held_in, place_seen, seen_at, seat_of, slot_of, pages_of, machine_seen, moment_seen}
use Rattle.body_world.specs.Ties.{ShareObjects}
use Rattle.body_world.proofs.Tied.{or_before, seen_at-seen, seen_at-set}

-- how the machine and the moment read what is seen
abbrev pub as_slot : Option Seen → Slot
as_slot seen = option_map_or slot_of seen no_slot

-- a reading of each object
abbrev pub each : {T A : Type 0} → (Option Seen → A) → (T → Shown) → List (Option T) → List (Transaction T) → List A
each read show shelf txns = map (λ o. read (seen_at show shelf txns o)) (range_with_len 0 (length shelf))

pub length-each : {T A : Type 0} (read : Option Seen → A) (show : T → Shown) (shelf : List (Option T)) (txns : List (Transaction T))
    → length (each read show shelf txns) ≡ length shelf
length-each read show shelf txns = length-map-range_with_len (λ o. read (seen_at show shelf txns o)) 0 (length shelf)

pub each-at : {T A : Type 0} (read : Option Seen → A) (show : T → Shown) (shelf : List (Option T)) (txns : List (Transaction T)) (o : ℕ)
    → get_or (each read show shelf txns) o (read None) ≡ read (seen_at show shelf txns o)
each-at read show shelf txns o = elim (cases_lt o (length shelf)) [
  | inl there ↦ get_or-map-range_with_len (λ q. read (seen_at show shelf txns q)) 0 (length shelf) o o (read None) there (zero-add o)
  | inr past ↦
      let size : length (each read show shelf txns) ≡ length shelf = length-each read show shelf txns in
      get_or_past (each read show shelf txns) o (read None) (omega (arith, past, size))
      ∙ sym (ap (λ place. read (place_seen show place (held_in show txns o))) (slice_get_past shelf o past))
]

-- all readings, from each of them
pub each-is : {T A : Type 0} (read : Option Seen → A) (show : T →
    Shown) (shelf : List (Option T)) (txns : List (Transaction T)) (xs : List A)
    → length xs ≡ length shelf → ((o : ℕ) → read (seen_at show shelf txns o) ≡ get_or xs o (read None))
    → each read show shelf txns ≡ xs
each-is read show shelf txns xs size all =
    ext_get_or (read None) (each read show shelf txns) xs (length-each read show shelf txns ∙ sym size)
    (λ o within. each-at read show shelf txns o ∙ all o)

pub slot_at-seen : {T : Type 0} (show : T → Shown) (shelf : List (Option T)) (txns : List (Transaction T)) (o : ℕ)
    → slot_at (machine_seen show shelf txns) o ≡ as_slot (seen_at show shelf txns o)
slot_at-seen show shelf txns o = each-at as_slot show shelf txns o

pub object_slot-seen : {T : Type 0} (show : T → Shown) (shelf : List (Option T)) (txns : List (Transaction T)) (o : ℕ)
    → object_slot (moment_seen show shelf txns) o ≡ option_map_or pages_of (seen_at show shelf txns o) absent_slot
object_slot-seen show shelf txns o = each-at (λ seen. option_map_or pages_of seen absent_slot) show shelf txns o

pub seat_at-seen : {T : Type 0} (show : T → Shown) (shelf : List (Option T)) (txns : List (Transaction T)) (i : ℕ)
    → seat_at (machine_seen show shelf txns) (suc i) ≡ seat_of (txn_at txns i)
seat_at-seen show shelf txns i = get_or_map seat_of txns i no_txn

-- what the session sees as before is as before
pub stays : {T : Type 0} (show : T → Shown) (shelf : List (Option T)) (txns : List (Transaction T)) (i : ℕ) (shelf' : List (Option T))
    (txn' : Transaction T) → i < SESSIONS → ShareObjects shelf txns → KeepsSession show shelf (txn_at txns i) shelf' txn'
    → (o : ℕ) → seen_by show shelf' txn' o ≡ seen_by show shelf (txn_at txns i) o
    → seen_at show shelf' (set txns i txn') o ≡ seen_at show shelf txns o
stays show shelf txns i shelf' txn' within tied kept o same =
    seen_at-set show shelf txns i shelf' txn' within tied kept o
    ∙ ap (λ sight. or_before sight (seen_at show shelf txns o)) same
    ∙ by_sight (seen_by show shelf (txn_at txns i) o) refl
  where
    by_sight : (sight : Option Seen) → seen_by show shelf (txn_at txns i) o ≡ sight
        → or_before (seen_by show shelf (txn_at txns i) o) (seen_at show shelf txns o) ≡ seen_at show shelf txns o
    by_sight None is = ap (λ s. or_before s (seen_at show shelf txns o)) is
    by_sight (Some seen) is = ap (λ s. or_before s (seen_at show shelf txns o)) is
        ∙ sym (seen_at-seen show shelf txns i o seen within tied is)

-- where all is seen as before, each reading is as before
pub each-stays : {T A : Type 0} (read : Option Seen → A) (show : T → Shown) (shelf : List (Option T)) (txns : List (Transaction T)) (i : ℕ)
    (shelf' : List (Option T)) (txn' : Transaction T) → i < SESSIONS → ShareObjects shelf txns
    → KeepsSession show shelf (txn_at txns i) shelf' txn'
    → ((o : ℕ) → seen_by show shelf' txn' o ≡ seen_by show shelf (txn_at txns i) o)
    → each read show shelf' (set txns i txn') ≡ each read show shelf txns
each-stays read show shelf txns i shelf' txn' within tied kept same =
    each-is read show shelf' (set txns i txn') (each read show shelf txns) (length-each read show shelf txns ∙ sym kept.size)
    (λ o. ap read (stays show shelf txns i shelf' txn' within tied kept o (same o)) ∙ sym (each-at read show shelf txns o))

-- a command on an object changes its reading alone
pub each-served : {T A : Type 0} (read : Option Seen → A) (show : T → Shown) (shelf : List (Option T)) (txns : List (Transaction T)) (i : ℕ)
    (shelf' : List (Option T)) (txn' : Transaction T) (o : ℕ) (seen : Seen) → i < SESSIONS → ShareObjects shelf txns
    → KeepsSession show shelf (txn_at txns i) shelf' txn' → o < length shelf → seen_by show shelf' txn' o ≡ Some seen
    → ((p : ℕ) → p ≢ o → seen_by show shelf' txn' p ≡ seen_by show shelf (txn_at txns i) p)
    → each read show shelf' (set txns i txn') ≡ set (each read show shelf txns) o (read (Some seen))
each-served read show shelf txns i shelf' txn' o seen within tied kept there now others =
    let size = length-each read show shelf txns in
    each-is read show shelf' (set txns i txn') (set (each read show shelf txns) o (read (Some seen)))
    (length-set (each read show shelf txns) o (read (Some seen)) ∙ size ∙ sym kept.size)
    (λ p. elim (cases_eq p o) [
      | inl this ↦
          ap read (ap (seen_at show shelf' (set txns i txn')) this
          ∙ seen_at-set show shelf txns i shelf' txn' within tied kept o
          ∙ ap (λ sight. or_before sight (seen_at show shelf txns o)) now)
          ∙ sym (ap (λ q. get_or (set (each read show shelf txns) o (read (Some seen))) q (read None)) this
          ∙ get_or-set_same (each read show shelf txns) o (read (Some seen)) (read None) (omega (arith, there, size)))
      | inr other ↦
          ap read (stays show shelf txns i shelf' txn' within tied kept p (others p other))
          ∙ sym (get_or-set_other (each read show shelf txns) o p (read (Some seen)) (read None) other ∙ each-at read show shelf txns p)
    ])

-- a transaction begins
pub machine-begun : {T : Type 0} (show : T → Shown) (shelf : List (Option T)) (txns : List (Transaction T)) (i : ℕ) → i < SESSIONS
    → ShareObjects shelf txns → KeepsSession show shelf (txn_at txns i) shelf (with_begin (txn_at txns i))
    → machine_seen show shelf (set txns i (with_begin (txn_at txns i))) ≡ next (machine_seen show shelf txns) (suc i) Opens
machine-begun show shelf txns i within tied kept =
    let slots : each as_slot show shelf (set txns i (with_begin (txn_at txns i))) ≡ each as_slot show shelf txns =
    each-stays as_slot show shelf txns i shelf (with_begin (txn_at txns i)) within tied kept (λ o. refl) in
    ap (λ slots. record { slots = slots; seats = map seat_of (set txns i (with_begin (txn_at txns i))) }) slots
    ∙ ap (λ seats. record { slots = each as_slot show shelf txns; seats = seats })
    (map-set seat_of txns i (with_begin (txn_at txns i))
    ∙ ap (λ stamp. set (map seat_of txns) i (record { active = true; stamp = stamp }))
    (sym (ap (λ seat. seat.stamp) (seat_at-seen show shelf txns i))))

-- The world before its first command, and after its last.
use Rattle.std.proofs.Common.{◌≡◌, ◌≢◌, ℕ, zero, suc, ◌+◌, ◌<◌, ◌≤◌, Bool, List, [], ◌∷◌, false, length, map}
use Rattle.std.proofs.Common.{replicate, set, get_or, Option, Some, None, ◌⊎◌, slice_get, zero-add, refl, ap, ◌∙◌}
use Rattle.std.proofs.Common.{sym, subst, arith, inl, inr}
use Rattle.std.specs.List.{range_with_len}
use Rattle.std.proofs.lemmas.Bool.{cases_eq, cases_lt, cases_Bool}
use Rattle.std.proofs.lemmas.List.{get_or-set_same, get_or-set_other, get_or_past, length-set, length-map, length-replicate}
use Rattle.std.proofs.lemmas.List.FromFn.{length-map-range_with_len, get_or-map-range_with_len}
use Rattle.eos_ops.specs.declared.limits.TheConstants.{SESSIONS}
use Rattle.eos_ops.specs.declared.plain.Plain.TheVariants.{Absent}
use Rattle.history.specs.Event.{Closes}
use Rattle.machine.specs.Machine.{Slot, Machine, no_slot, no_seat, new_slot, slot_at, seat_in, is_active, is_holder}
use Rattle.machine.specs.Machine.{database, fresh, AtRest}
use Rattle.machine.specs.Next.{next, settled, stamp_of}
use Rattle.machine.proofs.Places.{get_or_map}
use Rattle.shadow_txn.specs.Held.{held_object}
use Rattle.world.specs.Session.{Object, Session, IsSoundSession}
use Rattle.world.specs.Start.{first_object, first_txn}
use Rattle.world.specs.Ties.{no_txn, txn_at, held_in, slot_seen, seat_of, viewed, ShareObjects}
use Rattle.world.proofs.Hands.{txn_at-past, held_in-none}
use Rattle.world.proofs.Viewed.{slot_at-viewed, seat_at-viewed, slots-viewed}

-- nothing is out
first-place : (n o : ℕ) → (slice_get (replicate n (Some first_object)) o ≡ None)
    ⊎ (slice_get (replicate n (Some first_object)) o ≡ Some (Some first_object))
first-place zero o = inl refl
first-place (suc n) zero = inr refl
first-place (suc n) (suc o) = first-place n o

first-seen : (n o : ℕ) (held : Slot) → slot_seen (slice_get (replicate n (Some first_object)) o) held ≡ no_slot
first-seen n o held = elim (first-place n o) [
  | inl none ↦ ap (λ place. slot_seen place held) none
  | inr home ↦ ap (λ place. slot_seen place held) home
]

absent-at : (n o : ℕ) → get_or (replicate n Absent) o Absent ≡ Absent
absent-at zero o = refl
absent-at (suc n) zero = refl
absent-at (suc n) (suc o) = absent-at n o

first-seats : (objects a n : ℕ) → map seat_of (map (first_txn objects) (range_with_len a n)) ≡ replicate n no_seat
first-seats objects a zero = refl
first-seats objects a (suc n) = ap (λ seats. no_seat ∷ seats) (first-seats objects (a + 1) n)

-- the machine over fresh objects
pub viewed-first : (n : ℕ) → viewed (replicate n (Some first_object))
    (map (first_txn n) (range_with_len 0 SESSIONS)) ≡ fresh SESSIONS (replicate n Absent)
viewed-first n =
    let shelf : List (Option Object) = replicate n (Some first_object) in
    let txns : List Session = map (first_txn n) (range_with_len 0 SESSIONS) in
    let slots : (viewed shelf txns).slots ≡ map new_slot (replicate n Absent) =
    slots-viewed shelf txns (map new_slot (replicate n Absent))
    (length-map (replicate n Absent) new_slot ∙ length-replicate n Absent
    ∙ sym (length-replicate n (Some first_object)))
    (λ o. first-seen n o (held_in txns o) ∙ sym (get_or_map new_slot (replicate n Absent) o Absent ∙ ap new_slot (absent-at n o))) in
    ap (λ slots. record { slots = slots; seats = map seat_of txns }) slots
    ∙ ap (λ seats. record { slots = map new_slot (replicate n Absent); seats = seats }) (first-seats n 0 SESSIONS)

first-at : (n i : ℕ) → i < SESSIONS → txn_at (map (first_txn n) (range_with_len 0 SESSIONS)) i ≡ first_txn n i
first-at n i within = get_or-map-range_with_len (first_txn n) 0 SESSIONS i i no_txn within (zero-add i)

first-empty : (n i : ℕ) → (txn_at (map (first_txn n) (range_with_len 0 SESSIONS)) i).held ≡ []
first-empty n i = elim (cases_lt i SESSIONS) [
  | inl within ↦ ap (λ (t : Session). t.held) (first-at n i within)
  | inr past ↦
      let size : length (map (first_txn n) (range_with_len 0 SESSIONS)) ≡ SESSIONS = length-map-range_with_len (first_txn n) 0 SESSIONS in
      ap (λ (t : Session). t.held) (txn_at-past (map (first_txn n) (range_with_len 0 SESSIONS)) i (omega (arith, past, size)))
]

sound-first : (n i : ℕ) → IsSoundSession (replicate n (Some first_object)) (first_txn n i)
sound-first n i = record {
  objects = sym (length-replicate n (Some first_object));
  few = omega arith;
  distinct = tt;
  idle = λ idle. refl;
  out = λ o x found. absurd cc;
}

pub tied-first : (n : ℕ) → ShareObjects (replicate n (Some first_object)) (map (first_txn n) (range_with_len 0 SESSIONS))
tied-first n = record {
  sessions = length-map-range_with_len (first_txn n) 0 SESSIONS;
  numbers = λ i within. ap (λ (t : Session). t.session) (first-at n i within);
  sound = λ i within. subst (IsSoundSession (replicate n (Some first_object))) (sym (first-at n i within)) (sound-first n i);
  alone = λ i j o apart some. ap (held_object o) (first-empty n j);
  taken = λ o out. elim (first-place n o) [
    | inl none ↦ absurd cc
    | inr home ↦ absurd cc
  ];
}

-- what isn't held is on the shelf, in two equal versions
resting : (place : Option (Option Object)) → ((slot_seen place no_slot).holder ≡ None)
    × ((slot_seen place no_slot).working ≡ (slot_seen place no_slot).committed)
resting None = (refl, refl)
resting (Some None) = (refl, refl)
resting (Some (Some x)) = (refl, refl)

-- past the last session there is nothing open
idle-at : (shelf : List (Option Object)) (txns : List Session) (m : Machine) → viewed shelf txns ≡ m →
    ShareObjects shelf txns → ((s : ℕ) → s ≤ SESSIONS → is_active m s ≡ false) → (i : ℕ) →
    (txn_at txns i).is_open ≡ false
idle-at shelf txns m view tied closed i = elim (cases_lt i SESSIONS) [
  | inl within ↦ sym (ap (λ n. is_active n (suc i)) (sym view)
      ∙ ap (λ seat. seat.active) (seat_at-viewed shelf txns i)) ∙ closed (suc i) (omega arith)
  | inr past ↦ ap (λ (t : Session). t.is_open) (txn_at-past txns i (omega (arith, past, tied.sessions)))
]

-- where no session has a transaction open the machine is at rest
pub rests-from : (shelf : List (Option Object)) (txns : List Session) (m : Machine) → viewed shelf txns ≡ m →
    ShareObjects shelf txns → ((s : ℕ) → s ≤ SESSIONS → is_active m s ≡ false) → AtRest m
rests-from shelf txns m view tied closed =
    subst AtRest view (record {
      idle = idle;
      free = λ o. ap (λ slot. slot.holder) (rest o) ∙ (resting (slice_get shelf o)).0;
      equal = λ o. subst (λ (slot : Slot). slot.working ≡ slot.committed) (sym (rest o)) (resting (slice_get shelf o)).1;
    })
  where
    idle : (s : ℕ) → is_active (viewed shelf txns) s ≡ false
    idle zero = refl
    idle (suc i) = ap (λ seat. seat.active) (seat_at-viewed shelf txns i) ∙ idle-at shelf txns m view tied closed i

    empty : (i : ℕ) → (txn_at txns i).held ≡ []
    empty i = elim (cases_lt i SESSIONS) [
      | inl within ↦ (tied.sound i within).idle (idle-at shelf txns m view tied closed i)
      | inr past ↦ ap (λ (t : Session). t.held) (txn_at-past txns i (omega (arith, past, tied.sessions)))
    ]

    rest : (o : ℕ) → slot_at (viewed shelf txns) o ≡ slot_seen (slice_get shelf o) no_slot
    rest o = slot_at-viewed shelf txns o ∙ ap (slot_seen (slice_get shelf o)) (held_in-none txns o (λ j. ap (held_object o) (empty j)))

-- an abort keeps the committed objects
settled-committed : (s stamp : ℕ) (slot : Slot) → (settled s false stamp slot).committed ≡ slot.committed
settled-committed s stamp slot = elim (cases_Bool (is_holder s slot.holder)) [ inl mine ↦ rw mine refl | inr away ↦ rw away refl ]

map-settled : (s stamp : ℕ) (slots : List Slot) →
    map (λ slot. slot.committed) (map (settled s false stamp) slots) ≡ map (λ slot. slot.committed) slots
map-settled s stamp [] = refl
map-settled s stamp (slot ∷ slots) = let here : (settled s false stamp slot).committed ≡ slot.committed = settled-committed s stamp slot in
    let rest : map (λ slot. slot.committed) (map (settled s false stamp) slots)
    ≡ map (λ slot. slot.committed) slots = map-settled s stamp slots in
    cc

pub database-abort : (m : Machine) (s : ℕ) → database (next m s (Closes false)) ≡ database m
database-abort m s = map-settled s (stamp_of m s) m.slots

-- and closes that session alone
pub active-closed : (m : Machine) (s t : ℕ) (committed : Bool) → (t ≢ s → is_active m t ≡ false) →
    is_active (next m s (Closes committed)) t ≡ false
active-closed m zero t committed others = elim (cases_eq t 0) [
  | inl this ↦ ap (λ u. (seat_in m.seats u).active) this
  | inr other ↦ others other
]
active-closed m (suc i) zero committed others = refl
active-closed m (suc i) (suc j) committed others = elim (cases_eq j i) [
  | inl this ↦ elim (cases_lt i (length m.seats)) [
    | inl there ↦ ap (λ k. (get_or (set m.seats i (record { active = false; stamp = stamp_of m (suc i) })) k no_seat).active) this
        ∙ ap (λ seat. seat.active) (get_or-set_same m.seats i (record { active = false; stamp = stamp_of m (suc i) }) no_seat there)
    | inr past ↦
        let size : length (set m.seats i (record { active = false; stamp = stamp_of m (suc i) })) ≡ length m.seats =
        length-set m.seats i (record { active = false; stamp = stamp_of m (suc i) }) in
        ap (λ seat. seat.active) (get_or_past (set m.seats i
        (record { active = false; stamp = stamp_of m (suc i) })) j no_seat (omega arith))
  ]
  | inr other ↦ ap (λ seat. seat.active) (get_or-set_other m.seats i j
      (record { active = false; stamp = stamp_of m (suc i) }) no_seat other) ∙ others (omega arith)
]

-- all of them on the shelf
pub map-replicated : {A B : Type 0} (f : A → B) (n : ℕ) (x : A) → map f (replicate n x) ≡ replicate n (f x)
map-replicated f zero x = refl
map-replicated f (suc n) x = ap (λ ys. f x ∷ ys) (map-replicated f n x)

-- Who is active and who holds what, after one deed. Nothing is said of contents, so this holds over any store.
use Rattle.std.proofs.Common.{◌≡◌, ℕ, List, [], ◌∷◌, Bool, true, false, ◌&&◌, ◌||◌, Option, Some, None, eqb, refl}
use Rattle.std.proofs.Common.{sym, ap, subst, ◌∙◌, inl, inr}
use Rattle.std.specs.Prelude.{is_some}
use Rattle.std.proofs.lemmas.Bool.{cases_eq, eq-eqb, ne_eqb, and_from, or_left}
use Rattle.eos_ops.specs.declared.act.Act.{Act}
use Rattle.history.specs.Event.{Event, Deed, Opens, Does, Takes, Closes, Nothing, deed_of}
use Rattle.history.specs.Holding.{holds}
use Rattle.history.specs.Transactions.{Ended, acts_after, opened, begun, closed}
use Rattle.machine.specs.Machine.{Slot, Seat, Machine, slot_at, seat_at, is_active, is_holder, with_slot, with_seat, AtRest}
use Rattle.machine.specs.Next.{next, settled, stamp_of, taken, worked, CanUse, CanBegin, May, MayTouch}
use Rattle.machine.specs.Sound.{Tracks, Tracked}
use Rattle.machine.proofs.Changes.{Changes, event_changes}
use Rattle.machine.proofs.Closing.{settled_free, settled_held}
use Rattle.machine.proofs.Places.{slot_at-same, slot_at-other, slot_at-settled, seat_at-same, seat_in-other}
use Rattle.machine.proofs.Places.{active-IsSession, is_holder-own, is_holder-other, free-other}

-- a deed that may come by its contents too, may come
pub MayTouch-from : (d : Deed) (m : Machine) (s : ℕ) → May m s d → MayTouch m s d
MayTouch-from Opens m s may = may
MayTouch-from (Does o act) m s may = may.usable
MayTouch-from (Takes o) m s may = may
MayTouch-from (Closes committed) m s may = may
MayTouch-from Nothing m s may = tt

Tracks-begin : (s number : ℕ) (ends ends' : List Ended) (acts acts' : ℕ → Option (List Act))
    (holding holding' : ℕ → ℕ → Bool) (m : Machine) → CanBegin m s →
    Changes Opens s number ends ends' acts acts' holding holding' → Tracks acts holding m →
    Tracks acts' holding' (next m s Opens)
Tracks-begin s number ends ends' acts acts' holding holding' m can ch v = record {
  active = λ t. elim (cases_eq t s) [
    | inl same ↦ ap (λ n. is_some (acts' n)) same ∙ begins ∙ sym (ap (λ n. is_active (with_seat m s seat) n) same ∙ here)
    | inr other ↦ ap is_some (ch.others t other) ∙ v.active t ∙ sym (away t other)
  ];
  held = λ t o. elim (cases_eq t s) [
    | inl same ↦ ap (λ n. holding' n o) same ∙ ch.held_own o ∙ v.held s o ∙ ap (λ n. is_holder n (slot_at m o).holder) (sym same)
    | inr other ↦ ch.held_others t o other ∙ v.held t o
  ];
  idle = λ t o rests. elim (cases_eq t s) [
    | inl same ↦
        let on : is_active (with_seat m s seat) t ≡ true = ap (λ n. is_active (with_seat m s seat) n) same ∙ here in
        absurd (cc)
    | inr other ↦ v.idle t o (sym (away t other) ∙ rests)
  ];
}
  where
    seat : Seat
    seat = record { active = true; stamp = (seat_at m s).stamp }

    here : is_active (with_seat m s seat) s ≡ true
    here = ap (λ (x : Seat). x.active) (seat_at-same m s seat can.session)

    away : (t : ℕ) → (t ≡ s → ⊥) → is_active (with_seat m s seat) t ≡ is_active m t
    away t other = ap (λ (x : Seat). x.active) (seat_in-other m.seats s t seat other)

    begins : is_some (acts' s) ≡ true
    begins = opening (acts s) (acts' s) ch.own
      where
        opening : (before after : Option (List Act)) → after ≡ acts_after Opens before → is_some after ≡ true
        opening None after own = ap is_some own
        opening (Some so_far) after own = ap is_some own

-- session s has object o, which it can use, in this slot from now on
Tracks-touch : (s o : ℕ) (slot : Slot) (acts acts' : ℕ → Option (List Act)) (holding holding' : ℕ → ℕ → Bool)
    (m : Machine) → CanUse m s o → slot.holder ≡ Some s → is_some (acts' s) ≡ is_some (acts s) →
    ((t : ℕ) → (t ≡ s → ⊥) → acts' t ≡ acts t) →
    ((p : ℕ) → holding' s p ≡ (eqb o p && is_some (acts s)) || holding s p) →
    ((t p : ℕ) → (t ≡ s → ⊥) → holding' t p ≡ holding t p) → Tracks acts holding m →
    Tracks acts' holding' (with_slot m o slot)
Tracks-touch s o slot acts acts' holding holding' m usable owned stays others held_own held_others v = record {
  active = λ t. elim (cases_eq t s) [
    | inl own ↦ subst (λ n. is_some (acts' n) ≡ is_active m n) (sym own) (stays ∙ v.active s)
    | inr apart ↦ ap is_some (others t apart) ∙ v.active t
  ];
  held = λ t p. elim (cases_eq p o) [
    | inl same ↦ subst (λ n. holding' t n ≡ is_holder t (slot_at (with_slot m o slot) n).holder) (sym same)
        (at_o t ∙ sym (ap (λ (x : Slot). is_holder t x.holder) (slot_at-same m o slot usable.present)))
    | inr away ↦ elsewhere t p away ∙ v.held t p ∙ sym (ap (λ (x : Slot). is_holder t x.holder) (slot_at-other m o p slot away))
  ];
  idle = λ t p rests. elim (cases_eq t s) [
    | inl own ↦
        let on : is_active m t ≡ true = ap (λ n. is_active m n) own ∙ usable.active in
        absurd (cc)
    | inr apart ↦ elim (cases_eq p o) [
      | inl same ↦ ap (λ n. is_holder t (slot_at (with_slot m o slot) n).holder) same
          ∙ ap (λ (x : Slot). is_holder t x.holder) (slot_at-same m o slot usable.present) ∙ ap (is_holder t) owned
          ∙ is_holder-other s t apart
      | inr away ↦ ap (λ (x : Slot). is_holder t x.holder) (slot_at-other m o p slot away) ∙ v.idle t p rests
    ]
  ];
}
  where
    at_o : (t : ℕ) → holding' t o ≡ is_holder t slot.holder
    at_o t = elim (cases_eq t s) [
      | inl own ↦ subst (λ n. holding' n o ≡ is_holder n slot.holder) (sym own)
          (held_own o ∙ or_left _ _ (and_from _ _ (eq-eqb o o refl) (v.active s ∙ usable.active))
          ∙ sym (ap (is_holder s) owned ∙ is_holder-own s))
      | inr apart ↦ held_others t o apart ∙ v.held t o ∙ free-other s t (slot_at m o).holder usable.free apart
          ∙ sym (ap (is_holder t) owned ∙ is_holder-other s t apart)
    ]

    elsewhere : (t p : ℕ) → (p ≡ o → ⊥) → holding' t p ≡ holding t p
    elsewhere t p away = elim (cases_eq t s) [
      | inl own ↦ subst (λ n. holding' n p ≡ holding n p) (sym own)
          (held_own p ∙ ap (λ b. (b && is_some (acts s)) || holding s p) (ne_eqb o p (λ same. away (sym same))))
      | inr apart ↦ held_others t p apart
    ]

Tracks-closes : (s number : ℕ) (committed : Bool) (ends ends' : List Ended) (acts acts' : ℕ → Option (List Act))
    (holding holding' : ℕ → ℕ → Bool) (m : Machine) → is_active m s ≡ true →
    Changes (Closes committed) s number ends ends' acts acts' holding holding' → Tracks acts holding m →
    Tracks acts' holding' (next m s (Closes committed))
Tracks-closes s number committed ends ends' acts acts' holding holding' m active ch v = record {
  active = λ t. elim (cases_eq t s) [
    | inl own ↦ subst (λ n. is_some (acts' n) ≡ is_active (next m s (Closes committed)) n) (sym own)
        (ap is_some ch.own ∙ sym (ap (λ (x : Seat). x.active)
        (seat_at-same m s seat (active-IsSession m s active))))
    | inr apart ↦ ap is_some (ch.others t apart) ∙ v.active t ∙ sym (away t apart)
  ];
  held = λ t o. elim (cases_eq t s) [
    | inl own ↦ subst (λ n. holding' n o ≡ is_holder n (slot_at (next m s (Closes committed)) o).holder) (sym own)
        (ch.held_own o ∙ sym (freed o))
    | inr apart ↦ ch.held_others t o apart ∙ v.held t o ∙ sym (stays t o apart)
  ];
  idle = λ t o rests. elim (cases_eq t s) [
    | inl own ↦ subst (λ n. is_holder n (slot_at (next m s (Closes committed)) o).holder ≡ false) (sym own) (freed o)
    | inr apart ↦ stays t o apart ∙ v.idle t o (sym (away t apart) ∙ rests)
  ];
}
  where
    seat : Seat
    seat = record { active = false; stamp = stamp_of m s }

    at : (o : ℕ) → slot_at (next m s (Closes committed)) o ≡ settled s committed (stamp_of m s) (slot_at m o)
    at o = slot_at-settled m.slots s (stamp_of m s) committed o

    freed : (o : ℕ) → is_holder s (slot_at (next m s (Closes committed)) o).holder ≡ false
    freed o = ap (λ (x : Slot). is_holder s x.holder) (at o) ∙ settled_free s (stamp_of m s) committed (slot_at m o)

    stays : (t o : ℕ) → (t ≡ s → ⊥) → is_holder t (slot_at (next m s (Closes committed)) o).holder ≡ is_holder t (slot_at m o).holder
    stays t o apart = ap (λ (x : Slot). is_holder t x.holder) (at o) ∙ sym (settled_held s t (stamp_of m s) committed (slot_at m o) apart)

    away : (t : ℕ) → (t ≡ s → ⊥) → is_active (next m s (Closes committed)) t ≡ is_active m t
    away t apart = ap (λ (x : Seat). x.active) (seat_in-other m.seats s t seat apart)

Tracks-nothing : (s number : ℕ) (ends ends' : List Ended) (acts acts' : ℕ → Option (List Act))
    (holding holding' : ℕ → ℕ → Bool) (m : Machine) →
    Changes Nothing s number ends ends' acts acts' holding holding' → Tracks acts holding m →
    Tracks acts' holding' m
Tracks-nothing s number ends ends' acts acts' holding holding' m ch v = record {
  active = λ t. elim (cases_eq t s) [
    | inl own ↦ ap (λ n. is_some (acts' n)) own ∙ ap is_some ch.own ∙ ap (λ n. is_some (acts n)) (sym own) ∙ v.active t
    | inr apart ↦ ap is_some (ch.others t apart) ∙ v.active t
  ];
  held = λ t o. elim (cases_eq t s) [
    | inl own ↦ ap (λ n. holding' n o) own ∙ ch.held_own o ∙ ap (λ n. holding n o) (sym own) ∙ v.held t o
    | inr apart ↦ ch.held_others t o apart ∙ v.held t o
  ];
  idle = v.idle;
}

still_open : (acts : Option (List Act)) (act : Act) → is_some (acts_after (Does 0 act) acts) ≡ is_some acts
still_open None act = refl
still_open (Some done) act = refl

pub Tracks-step : (d : Deed) (s number : ℕ) (ends ends' : List Ended) (acts acts' : ℕ → Option (List Act))
    (holding holding' : ℕ → ℕ → Bool) (m : Machine) → MayTouch m s d →
    Changes d s number ends ends' acts acts' holding holding' → Tracks acts holding m →
    Tracks acts' holding' (next m s d)
Tracks-step Opens s number ends ends' acts acts' holding holding' m may ch v =
    Tracks-begin s number ends ends' acts acts' holding holding' m may ch v
Tracks-step (Does o act) s number ends ends' acts acts' holding holding' m may ch v =
    Tracks-touch s o (worked s act (slot_at m o)) acts acts' holding holding' m may refl (ap is_some ch.own
    ∙ still_open (acts s) act) ch.others ch.held_own ch.held_others v
Tracks-step (Takes o) s number ends ends' acts acts' holding holding' m may ch v =
    Tracks-touch s o (taken s (slot_at m o)) acts acts' holding holding' m may refl (ap is_some ch.own) ch.others
    ch.held_own ch.held_others v
Tracks-step (Closes committed) s number ends ends' acts acts' holding holding' m may ch v =
    Tracks-closes s number committed ends ends' acts acts' holding holding' m may ch v
Tracks-step Nothing s number ends ends' acts acts' holding holding' m may ch v =
    Tracks-nothing s number ends ends' acts acts' holding holding' m ch v

-- An event whose deed may come keeps the roles those of the events.
pub Tracked-step : (past : List Event) (m : Machine) (e : Event) → MayTouch m e.session (deed_of e) →
    Tracked past m → Tracked (e ∷ past) (next m e.session (deed_of e))
Tracked-step past m e may tracked =
    Tracks-step (deed_of e) e.session (begun e.session past) (closed past) (closed (e ∷ past)) (λ s. opened s past)
    (λ s. opened s (e ∷ past)) (λ s o. holds s o past)
    (λ s o. holds s o (e ∷ past)) m may (event_changes e past) tracked

-- With nothing open it is so before the first event.
pub Tracked-start : (m : Machine) → AtRest m → Tracked [] m
Tracked-start m rest = record {
  active = λ s. sym (rest.idle s);
  held = λ s o. sym (ap (is_holder s) (rest.free o));
  idle = λ s o _. ap (is_holder s) (rest.free o);
}

-- A transaction ends: its objects are let go, and its end is one more serial one.
use Rattle.std.proofs.Common.{◌≡◌, ℕ, List, [], ◌∷◌, ◌++◌, Bool, true, false, Option, Some, None, length, map, refl}
use Rattle.std.proofs.Common.{sym, ap, subst, ◌∙◌, inl, inr}
use Rattle.std.proofs.lemmas.Bool.{cases_eq, cases_Bool}
use Rattle.std.proofs.lemmas.List.{length-map, ext_get_or}
use Rattle.eos_ops.specs.declared.act.Act.{Act}
use Rattle.eos_ops.specs.declared.plain.Plain.{Plain}
use Rattle.eos_ops.specs.declared.plain.Plain.TheVariants.{Absent}
use Rattle.history.specs.Event.{Closes}
use Rattle.history.specs.Serial.{Serial, AreInside, RightActs, after_acts, after_end, acts_on, RightAt, replayed}
use Rattle.history.specs.Transactions.{Ended}
use Rattle.history.proofs.Ends.{Serial-push}
use Rattle.history.proofs.Objects.{RightActs-from_objects, object_at-after_acts, length-after_acts}
use Rattle.machine.specs.Machine.{Slot, Machine, slot_at, is_active, is_holder, database}
use Rattle.machine.specs.Next.{next, settled, released, stamp_of}
use Rattle.machine.specs.Sound.{Tracks, Reflects, Stands, StandsBy, AreInsideOf}
use Rattle.machine.proofs.Begins.{some_from}
use Rattle.machine.proofs.Changes.{Changes, closing}
use Rattle.machine.proofs.Places.{object_at-database, held-other, settled-held, settled-other, slot_at-settled}

-- the acts of an open transaction on one object are right there
right_at : (s o : ℕ) (done : List Act) (slot : Slot) → Stands s o (Some done) slot → RightAt slot.committed (acts_on o done)
right_at s o done slot stands =
    elim (cases_Bool (is_holder s slot.holder)) [
      | inl held ↦ (subst (λ (b : Bool). StandsBy o (Some done) b slot.committed slot.working) held stands).0
      | inr other ↦ subst (RightAt slot.committed)
          (sym (subst (λ (b : Bool). StandsBy o (Some done) b slot.committed slot.working) other stands)) tt
    ]

inside_database : (m : Machine) (done : List Act) → AreInside (length m.slots) done → AreInside (length (database m)) done
inside_database m done inside = subst (λ n. AreInside n done) (sym (length-map m.slots (λ (slot : Slot). slot.committed))) inside

-- the acts of an open transaction are right over the database
pub open_acts_right : (m : Machine) (s : ℕ) (done : List Act) → AreInside (length m.slots) done →
    ((o : ℕ) → Stands s o (Some done) (slot_at m o)) → RightActs (database m) done
open_acts_right m s done inside stands =
    RightActs-from_objects done (database m) (inside_database m done inside)
    (λ o. subst (λ (x : Plain). RightAt x (acts_on o done)) (sym (object_at-database m o))
    (right_at s o done (slot_at m o) (stands o)))

-- what a commit leaves at an object is the replay of the acts there
kept_at : (s o stamp : ℕ) (done : List Act) (slot : Slot) → Stands s o (Some done) slot →
    replayed slot.committed (acts_on o done) ≡ (settled s true stamp slot).committed
kept_at s o stamp done slot stands =
    elim (cases_Bool (is_holder s slot.holder)) [
      | inl held ↦ sym (subst (λ (b : Bool). StandsBy o (Some done) b slot.committed slot.working) held stands).1
          ∙ sym (ap (λ (x : Slot). x.committed) (settled-held s stamp true slot held))
      | inr other ↦ ap (replayed slot.committed)
          (subst (λ (b : Bool). StandsBy o (Some done) b slot.committed slot.working) other stands)
          ∙ sym (ap (λ (x : Slot). x.committed) (settled-other s stamp true slot other))
    ]

-- an abort leaves each committed version
aborted_stays : (slots : List Slot) (s stamp : ℕ) →
    map (λ (slot : Slot). slot.committed) (map (settled s false stamp) slots)
    ≡ map (λ (slot : Slot). slot.committed) slots
aborted_stays [] s stamp = refl
aborted_stays (slot ∷ slots) s stamp =
    let first : (settled s false stamp slot).committed ≡ slot.committed = elim (cases_Bool (is_holder s slot.holder)) [
      | inl held ↦ ap (λ (x : Slot). x.committed) (settled-held s stamp false slot held)
      | inr other ↦ ap (λ (x : Slot). x.committed) (settled-other s stamp false slot other)
    ] in
    let rest = aborted_stays slots s stamp in
    ap (λ (x : Plain). x ∷ map (λ (slot : Slot). slot.committed) (map (settled s false stamp) slots)) first
    ∙ ap (λ (l : List Plain). slot.committed ∷ l) rest

-- the database after the end is the one that the machine has
pub database-close : (m : Machine) (s number : ℕ) (committed : Bool) (done : List Act) →
    AreInside (length m.slots) done → ((o : ℕ) → Stands s o (Some done) (slot_at m o)) →
    after_end (database m) (record { session = s; number = number; acts = done; committed = committed })
    ≡ database (next m s (Closes committed))
database-close m s number true done inside stands =
    ext_get_or Absent (after_acts (database m) done) (database (next m s (Closes true)))
    (length-after_acts done (database m) (inside_database m done inside)
    ∙ length-map m.slots (λ (slot : Slot). slot.committed)
    ∙ sym (length-map (map (settled s true (stamp_of m s)) m.slots) (λ (slot : Slot). slot.committed)
    ∙ length-map m.slots (settled s true (stamp_of m s))))
    (λ o below.
    object_at-after_acts done (database m) (inside_database m done inside) o
    ∙ ap (λ (x : Plain). replayed x (acts_on o done)) (object_at-database m o)
    ∙ kept_at s o (stamp_of m s) done (slot_at m o) (stands o)
    ∙ sym (object_at-database (next m s (Closes true)) o
    ∙ ap (λ (x : Slot). x.committed) (slot_at-settled m.slots s (stamp_of m s) true o)))
database-close m s number false done inside stands = sym (aborted_stays m.slots s (stamp_of m s))

-- what is said of session t and object o once session s has let its objects go
pub settled_stands : (s t o stamp : ℕ) (committed : Bool) (acts : Option (List Act)) (slot : Slot) → (t ≡ s → ⊥) →
    Stands t o acts slot → Stands t o acts (settled s committed stamp slot)
settled_stands s t o stamp committed acts slot apart stands =
    elim (cases_Bool (is_holder s slot.holder)) [
      | inl held ↦ subst (λ (x : Slot). Stands t o acts x) (sym (settled-held s stamp committed slot held))
          (released_stands acts committed (subst (λ (b : Bool). StandsBy o acts b slot.committed slot.working)
          (held-other s t slot.holder held apart) stands))
      | inr other ↦ subst (λ (x : Slot). Stands t o acts x) (sym (settled-other s stamp committed slot other)) stands
    ]
  where
    released_stands : (acts : Option (List Act)) (committed : Bool) →
        StandsBy o acts false slot.committed slot.working → Stands t o acts (released committed stamp slot)
    released_stands None true stands = stands
    released_stands None false stands = stands
    released_stands (Some done) true stands = stands
    released_stands (Some done) false stands = stands

pub settled_free : (s stamp : ℕ) (committed : Bool) (slot : Slot) → is_holder s (settled s committed stamp slot).holder ≡ false
settled_free s stamp committed slot =
    elim (cases_Bool (is_holder s slot.holder)) [
      | inl held ↦ ap (λ (x : Slot). is_holder s x.holder) (settled-held s stamp committed slot held) ∙ released_free committed
      | inr other ↦ ap (λ (x : Slot). is_holder s x.holder) (settled-other s stamp committed slot other) ∙ other
    ]
  where
    released_free : (committed : Bool) → is_holder s (released committed stamp slot).holder ≡ false
    released_free true = refl
    released_free false = refl

pub settled_held : (s t stamp : ℕ) (committed : Bool) (slot : Slot) → (t ≡ s → ⊥) →
    is_holder t slot.holder ≡ is_holder t (settled s committed stamp slot).holder
settled_held s t stamp committed slot apart =
    elim (cases_Bool (is_holder s slot.holder)) [
      | inl held ↦ held-other s t slot.holder held apart
          ∙ sym (ap (λ (x : Slot). is_holder t x.holder) (settled-held s stamp committed slot held)
          ∙ released_free committed)
      | inr other ↦ sym (ap (λ (x : Slot). is_holder t x.holder) (settled-other s stamp committed slot other))
    ]
  where
    released_free : (committed : Bool) → is_holder t (released committed stamp slot).holder ≡ false
    released_free true = refl
    released_free false = refl

pub settled_rests : (s stamp : ℕ) (committed : Bool) (slot : Slot) →
    (slot.holder ≡ None → slot.working ≡ slot.committed) → (settled s committed stamp slot).holder ≡ None →
    (settled s committed stamp slot).working ≡ (settled s committed stamp slot).committed
settled_rests s stamp committed slot rests =
    elim (cases_Bool (is_holder s slot.holder)) [
      | inl held ↦ subst (λ (x : Slot). x.holder ≡ None → x.working ≡ x.committed)
          (sym (settled-held s stamp committed slot held)) (released_rests committed)
      | inr other ↦ subst (λ (x : Slot). x.holder ≡ None → x.working ≡ x.committed) (sym (settled-other s stamp committed slot other)) rests
    ]
  where
    released_rests : (committed : Bool) → (released committed stamp slot).holder ≡ None →
        (released committed stamp slot).working ≡ (released committed stamp slot).committed
    released_rests true none = refl
    released_rests false none = refl

pub Reflects-closes : (db : List Plain) (s number : ℕ) (committed : Bool) (ends ends' : List Ended)
    (acts acts' : ℕ → Option (List Act)) (holding holding' : ℕ → ℕ → Bool) (m : Machine) → is_active m s ≡ true →
    Changes (Closes committed) s number ends ends' acts acts' holding holding' →
    Tracks acts' holding' (next m s (Closes committed)) → Reflects db ends acts holding m →
    Reflects db ends' acts' holding' (next m s (Closes committed))
Reflects-closes db s number committed ends ends' acts acts' holding holding' m active ch tracks v =
    let open_acts = some_from (acts s) (v.tracks.active s ∙ active) in
    let done : List Act = open_acts.0 in
    let before : acts s ≡ Some done = open_acts.1 in
    let end : Ended = record { session = s; number = number; acts = done; committed = committed } in
    let more : ends' ≡ ends ++ end ∷ [] = ch.closes
    ∙ ap (λ (a : Option (List Act)). ends ++ closing (Closes committed) s number a) before in
    let inside : AreInside (length m.slots) done = subst (AreInsideOf (length m.slots)) before (v.inside s) in
    let mine : (o : ℕ) → Stands s o (Some done) (slot_at m o) =
    λ o. subst (λ (a : Option (List Act)). Stands s o a (slot_at m o)) before (v.stands s o) in
    let stamp : ℕ = stamp_of m s in
    let at : (o : ℕ) → slot_at (next m s (Closes committed)) o ≡ settled s committed stamp (slot_at m o) =
    slot_at-settled m.slots s stamp committed in
    record {
      tracks = tracks;
      serial = subst (λ (e : List Ended). Serial db e (database (next m s (Closes committed)))) (sym more)
          (subst (Serial db (ends ++ end ∷ [])) (database-close m s number committed done inside mine)
          (Serial-push ends end db (database m) v.serial (open_acts_right m s done inside mine)));
      stands = λ t o. subst (λ (x : Slot). Stands t o (acts' t) x) (sym (at o)) (elim (cases_eq t s) [
        | inl own ↦ subst (λ n. Stands n o (acts' n) (settled s committed stamp (slot_at m o))) (sym own)
            (subst (λ (a : Option (List Act)). Stands s o a (settled s committed stamp (slot_at m o))) (sym ch.own)
            (settled_free s stamp committed (slot_at m o)))
        | inr apart ↦ subst (λ (a : Option (List Act)). Stands t o a (settled s committed stamp (slot_at m o)))
            (sym (ch.others t apart)) (settled_stands s t o stamp committed (acts t)
            (slot_at m o) apart (v.stands t o))
      ]);
      rests = λ o none. subst (λ (x : Slot). x.working ≡ x.committed) (sym (at o))
          (settled_rests s stamp committed (slot_at m o) (v.rests o)
          (sym (ap (λ (x : Slot). x.holder) (at o)) ∙ none));
      inside = λ t. subst (λ n. AreInsideOf n (acts' t)) (sym (length-map m.slots (settled s committed stamp))) (elim (cases_eq t s) [
        | inl own ↦ subst (λ n. AreInsideOf (length m.slots) (acts' n)) (sym own) (subst (AreInsideOf (length m.slots)) (sym ch.own) tt)
        | inr apart ↦ subst (AreInsideOf (length m.slots)) (sym (ch.others t apart)) (v.inside t)
      ]);
    }

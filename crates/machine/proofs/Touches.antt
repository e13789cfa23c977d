-- An object answers, or is taken without an answer.
use Rattle.std.proofs.Common.{◌≡◌, ℕ, List, [], ◌∷◌, ◌++◌, Bool, true, false, Option, Some, None, length, refl, sym}
use Rattle.std.proofs.Common.{ap, subst, ◌∙◌, inl, inr, ◌⊎◌}
use Rattle.std.proofs.lemmas.Bool.{cases_eq}
use Rattle.std.proofs.lemmas.List.{append-nil, length-set}
use Rattle.eos_ops.specs.declared.act.Act.{Act}
use Rattle.eos_ops.specs.declared.plain.Plain.{Plain}
use Rattle.eos_ops.specs.Objects.{reply_in, after_in}
use Rattle.history.specs.Event.{Does, Takes}
use Rattle.history.specs.Serial.{Serial, AreInside, acts_on, RightAt, replayed}
use Rattle.history.specs.Transactions.{Ended, acts_after}
use Rattle.history.proofs.Acts.{is_on-same, is_on-other, acts_on-push, acts_on-skip, replayed-push, RightAt-push}
use Rattle.history.proofs.Objects.{AreInside-push, inside_from}
use Rattle.machine.specs.Machine.{Slot, Machine, slot_at, is_holder, database, with_slot}
use Rattle.machine.specs.Next.{next, taken, worked, CanUse, CanDo}
use Rattle.machine.specs.Sound.{Tracks, Reflects, Stands, StandsBy, AreInsideOf}
use Rattle.machine.proofs.Begins.{some_from}
use Rattle.machine.proofs.Changes.{Changes}
use Rattle.machine.proofs.Places.{slot_at-same, slot_at-other, database-with_slot, is_holder-own, is_holder-other, free-other}

-- the working version of an object that s holds, or can take, is the replay of its acts there
replay_before : (s o : ℕ) (done : List Act) (slot : Slot) → Stands s o (Some done) slot →
    (slot.holder ≡ None → slot.working ≡ slot.committed) → (slot.holder ≡ None) ⊎ (slot.holder ≡ Some s) →
    RightAt slot.committed (acts_on o done) × (slot.working ≡ replayed slot.committed (acts_on o done))
replay_before s o done slot stands rests free =
    elim free [
      | inl none ↦
          let empty : acts_on o done ≡ [] = subst (λ (h : Option ℕ). StandsBy o (Some done)
          (is_holder s h) slot.committed slot.working) none stands in
          (subst (RightAt slot.committed) (sym empty) tt, rests none ∙ ap (replayed slot.committed) (sym empty))
      | inr own ↦ subst (λ (b : Bool). StandsBy o (Some done) b slot.committed slot.working) (ap (is_holder s) own ∙ is_holder-own s) stands
    ]

-- what stays said of a session that holds the object neither before nor after
stands_aside : (t o : ℕ) (acts : Option (List Act)) (before after : Slot) → is_holder t before.holder ≡ false →
    is_holder t after.holder ≡ false → Stands t o acts before → Stands t o acts after
stands_aside t o None before after off on stands = on
stands_aside t o (Some done) before after off on stands =
    subst (λ (b : Bool). StandsBy o (Some done) b after.committed after.working) (sym on)
    (subst (λ (b : Bool). StandsBy o (Some done) b before.committed before.working) off stands)

stands_here : (s o : ℕ) (done : List Act) (slot : Slot) → slot.holder ≡ Some s →
    RightAt slot.committed (acts_on o done) × (slot.working ≡ replayed slot.committed (acts_on o done)) →
    Stands s o (Some done) slot
stands_here s o done slot own here = subst (λ (b : Bool). StandsBy o (Some done) b slot.committed slot.working)
    (sym (ap (is_holder s) own ∙ is_holder-own s)) here

-- the same acts on the object, and the same slot
stands_same : (s o : ℕ) (done done' : List Act) (b : Bool) (committed working : Plain) →
    acts_on o done' ≡ acts_on o done → StandsBy o (Some done) b committed working →
    StandsBy o (Some done') b committed working
stands_same s o done done' true committed working same stands =
    subst (λ (l : List Act). RightAt committed l × (working ≡ replayed committed l)) (sym same) stands
stands_same s o done done' false committed working same stands = same ∙ stands

-- a touch of object o by session s: it is held, and `slot` stands there; `done` goes over to `done'`
record Touch (s o : ℕ) (slot : Slot) (done done' : List Act) (ends ends' : List Ended)
    (acts acts' : ℕ → Option (List Act)) (holding holding' : ℕ → ℕ → Bool) (m : Machine) : Type 0 where
  usable : CanUse m s o
  owned : slot.holder ≡ Some s
  committed : slot.committed ≡ (slot_at m o).committed
  before : acts s ≡ Some done
  after : acts' s ≡ Some done'
  others : (t : ℕ) → (t ≡ s → ⊥) → acts' t ≡ acts t
  here : RightAt slot.committed (acts_on o done') × (slot.working ≡ replayed slot.committed (acts_on o done'))
  away : (p : ℕ) → (p ≡ o → ⊥) → acts_on p done' ≡ acts_on p done
  inside : AreInside (length m.slots) done'
  same_ends : ends' ≡ ends

touch_stands : (s o : ℕ) (slot : Slot) (done done' : List Act) (ends ends' : List Ended)
    (acts acts' : ℕ → Option (List Act)) (holding holding' : ℕ → ℕ → Bool) (m : Machine) →
    Touch s o slot done done' ends ends' acts acts' holding holding' m →
    ((t p : ℕ) → Stands t p (acts t) (slot_at m p)) → (t p : ℕ) →
    Stands t p (acts' t) (slot_at (with_slot m o slot) p)
touch_stands s o slot done done' ends ends' acts acts' holding holding' m touch stands t p =
    elim (cases_eq t s) [
      | inl own ↦ subst (λ n. Stands n p (acts' n) (slot_at (with_slot m o slot) p)) (sym own)
          (subst (λ (a : Option (List Act)). Stands s p a (slot_at (with_slot m o slot) p)) (sym touch.after) mine)
      | inr other ↦ subst (λ (a : Option (List Act)). Stands t p a (slot_at (with_slot m o slot) p))
          (sym (touch.others t other)) (theirs other)
    ]
  where
    mine : Stands s p (Some done') (slot_at (with_slot m o slot) p)
    mine = elim (cases_eq p o) [
      | inl same ↦ subst (λ n. Stands s n (Some done') (slot_at (with_slot m o slot) n)) (sym same)
          (subst (λ (x : Slot). Stands s o (Some done') x) (sym (slot_at-same m o slot touch.usable.present))
          (stands_here s o done' slot touch.owned touch.here))
      | inr other ↦ subst (λ (x : Slot). Stands s p (Some done') x) (sym (slot_at-other m o p slot other))
          (stands_same s p done done' (is_holder s (slot_at m p).holder)
          (slot_at m p).committed (slot_at m p).working (touch.away p other)
          (subst (λ (a : Option (List Act)). Stands s p a (slot_at m p)) touch.before (stands s p)))
    ]

    theirs : (t ≡ s → ⊥) → Stands t p (acts t) (slot_at (with_slot m o slot) p)
    theirs apart = elim (cases_eq p o) [
      | inl same ↦ subst (λ n. Stands t n (acts t) (slot_at (with_slot m o slot) n)) (sym same)
          (subst (λ (x : Slot). Stands t o (acts t) x) (sym (slot_at-same m o slot touch.usable.present))
          (stands_aside t o (acts t) (slot_at m o) slot
          (free-other s t (slot_at m o).holder touch.usable.free apart)
          (ap (is_holder t) touch.owned ∙ is_holder-other s t apart) (stands t o)))
      | inr other ↦ subst (λ (x : Slot). Stands t p (acts t) x) (sym (slot_at-other m o p slot other)) (stands t p)
    ]

touch_reflects : (db : List Plain) (s o : ℕ) (slot : Slot) (done done' : List Act) (ends ends' : List Ended)
    (acts acts' : ℕ → Option (List Act)) (holding holding' : ℕ → ℕ → Bool) (m : Machine) →
    Touch s o slot done done' ends ends' acts acts' holding holding' m →
    Tracks acts' holding' (with_slot m o slot) → Reflects db ends acts holding m →
    Reflects db ends' acts' holding' (with_slot m o slot)
touch_reflects db s o slot done done' ends ends' acts acts' holding holding' m touch tracks v = record {
  tracks = tracks;
  serial = subst (λ (e : List Ended). Serial db e (database (with_slot m o slot))) (sym touch.same_ends)
      (subst (Serial db ends) (sym (database-with_slot m o slot touch.committed)) v.serial);
  stands = touch_stands s o slot done done' ends ends' acts acts' holding holding' m touch v.stands;
  rests = λ p none. elim (cases_eq p o) [
    | inl same ↦
        let here : slot.holder ≡ None = sym (ap (λ (x : Slot). x.holder)
        (slot_at-same m o slot touch.usable.present))
        ∙ ap (λ n. (slot_at (with_slot m o slot) n).holder) (sym same) ∙ none in
        let owned : slot.holder ≡ Some s = touch.owned in
        absurd (cc)
    | inr away ↦
        let stays : slot_at (with_slot m o slot) p ≡ slot_at m p = slot_at-other m o p slot away in
        subst (λ (x : Slot). x.working ≡ x.committed) (sym stays) (v.rests p (sym (ap (λ (x : Slot). x.holder) stays) ∙ none))
  ];
  inside = λ t. subst (λ n. AreInsideOf n (acts' t)) (sym (length-set m.slots o slot)) (elim (cases_eq t s) [
    | inl own ↦ subst (λ n. AreInsideOf (length m.slots) (acts' n)) (sym own)
        (subst (AreInsideOf (length m.slots)) (sym touch.after) touch.inside)
    | inr apart ↦ subst (AreInsideOf (length m.slots)) (sym (touch.others t apart)) (v.inside t)
  ]);
}

pub Reflects-does : (db : List Plain) (s number o : ℕ) (act : Act) (ends ends' : List Ended)
    (acts acts' : ℕ → Option (List Act)) (holding holding' : ℕ → ℕ → Bool) (m : Machine) → CanDo m s o act →
    Changes (Does o act) s number ends ends' acts acts' holding holding' →
    Tracks acts' holding' (next m s (Does o act)) → Reflects db ends acts holding m →
    Reflects db ends' acts' holding' (next m s (Does o act))
Reflects-does db s number o act ends ends' acts acts' holding holding' m can ch tracks v =
    let open_acts = some_from (acts s) (v.tracks.active s ∙ can.usable.active) in
    let done : List Act = open_acts.0 in
    let before : acts s ≡ Some done = open_acts.1 in
    let slot : Slot = slot_at m o in
    let replay = replay_before s o done slot
    (subst (λ (a : Option (List Act)). Stands s o a slot) before (v.stands s o)) (v.rests o) can.usable.free in
    let pushed : acts_on o (done ++ act ∷ []) ≡ acts_on o done ++ act ∷ [] = acts_on-push o done act (is_on-same o act can.object) in
    let right : RightAt slot.committed (acts_on o done ++ act ∷ []) =
    RightAt-push (acts_on o done) act slot.committed replay.0 (ap (reply_in act.command) (sym replay.1)
    ∙ can.reply) in
    let made : after_in act.command slot.working ≡ replayed slot.committed (acts_on o done ++ act ∷ []) =
    ap (after_in act.command) replay.1 ∙ sym (replayed-push (acts_on o done) act slot.committed) in
    let touch : Touch s o (worked s act slot) done (done ++ act ∷ []) ends ends' acts acts' holding holding' m = record {
      usable = can.usable;
      owned = refl;
      committed = refl;
      before = before;
      after = ch.own ∙ ap (acts_after (Does o act)) before;
      others = ch.others;
      here = (subst (RightAt slot.committed) (sym pushed) right, made ∙ ap (replayed slot.committed) (sym pushed));
      away = λ p away. acts_on-skip p done act (is_on-other p o act can.object (λ same. away (sym same)));
      inside = AreInside-push (length m.slots) done act (subst (AreInsideOf (length m.slots)) before (v.inside s))
          (inside_from (length m.slots) o act can.object can.usable.present);
      same_ends = ch.closes ∙ append-nil ends;
    } in
    touch_reflects db s o (worked s act slot) done (done ++ act ∷ []) ends ends' acts acts' holding holding' m touch tracks v

pub Reflects-takes : (db : List Plain) (s number o : ℕ) (ends ends' : List Ended)
    (acts acts' : ℕ → Option (List Act)) (holding holding' : ℕ → ℕ → Bool) (m : Machine) → CanUse m s o →
    Changes (Takes o) s number ends ends' acts acts' holding holding' → Tracks acts' holding' (next m s (Takes o)) →
    Reflects db ends acts holding m → Reflects db ends' acts' holding' (next m s (Takes o))
Reflects-takes db s number o ends ends' acts acts' holding holding' m can ch tracks v =
    let open_acts = some_from (acts s) (v.tracks.active s ∙ can.active) in
    let done : List Act = open_acts.0 in
    let before : acts s ≡ Some done = open_acts.1 in
    let slot : Slot = slot_at m o in
    let replay = replay_before s o done slot
    (subst (λ (a : Option (List Act)). Stands s o a slot) before (v.stands s o)) (v.rests o) can.free in
    let touch : Touch s o (taken s slot) done done ends ends' acts acts' holding holding' m = record {
      usable = can;
      owned = refl;
      committed = refl;
      before = before;
      after = ch.own ∙ before;
      others = ch.others;
      here = replay;
      away = λ p away. refl;
      inside = subst (AreInsideOf (length m.slots)) before (v.inside s);
      same_ends = ch.closes ∙ append-nil ends;
    } in
    touch_reflects db s o (taken s slot) done done ends ends' acts acts' holding holding' m touch tracks v

-- Each answered line moves the lengths of objects alike in the machine and in the moment.
use Rattle.std.proofs.Common.{◌≡◌, ℕ, ◌<◌, List, [], ◌∷◌, Bool, true, false, cond, Option, Some, None, length}
use Rattle.std.proofs.Common.{get_or-set_same, get_or-set_other, refl, sym, ap, subst, ◌∙◌, inl, inr, arith}
use Rattle.std.proofs.lemmas.Bool.{cases_eq}
use Rattle.eos_ops.specs.declared.command.Command.{Command}
use Rattle.eos_ops.specs.declared.command.Command.TheVariants.{Begin, Create, Destroy, Length, Read, Append, Insert}
use Rattle.eos_ops.specs.declared.command.Command.TheVariants.{Delete, Replace, Commit, Abort, Status}
use Rattle.eos_ops.specs.declared.edit.Edit.{Edit}
use Rattle.eos_ops.specs.declared.plain.Plain.{Plain}
use Rattle.eos_ops.specs.declared.reply.Reply.{Reply}
use Rattle.eos_ops.specs.declared.reply.Reply.TheVariants as reply
use Rattle.eos_ops.specs.Edits.{edited}
use Rattle.eos_ops.specs.Objects.{object_of, edit_of, with_bytes, after_in}
use Rattle.eos_ops.proofs.EditLemmas.{after_in-edit, after_in-look, after_in-refused}
use Rattle.geometry_model.specs.Numbers.{Numbers, IsInRange}
use Rattle.history.specs.Event.{Event, Does, Takes, Closes, answered, bounded, is_done, deed, deed_of}
use Rattle.history.specs.Holding.{holds}
use Rattle.history.proofs.EventLaws.{after_in-with_bytes, reply_in-with_bytes}
use Rattle.layout_model.specs.Grants.{Answer}
use Rattle.layout_model.specs.Grants.Answer.{Got, Refused}
use Rattle.layout_model.specs.Layout.{Tree}
use Rattle.machine.specs.Machine.{Slot, Machine, slot_at, is_holder, with_slot}
use Rattle.machine.specs.Next.{next, May, CanDo, settled as let_go, stamp_of, taken, worked}
use Rattle.machine.specs.Runs.{IsEvent, IsRun, state_after}
use Rattle.machine.proofs.Places.{slot_at-same, slot_at-other, slot_at-settled, settled-held, settled-other}
use Rattle.machine.proofs.Replying.{May-replies, MayRun-from}
use Rattle.machine.proofs.Sizes.{slots-run}
use Rattle.machine.proofs.Soundness.{Sound-run}
use Rattle.moment_model.specs.Edit.{edited_length, settled, undone}
use Rattle.moment_model.specs.Moment.{ObjectSlot, Moment, absent_slot, object_slot, with_object_slot, free_of, IsSound}
use Rattle.moment_model.specs.Run.{Lays, start_space, changed_where, committed_by, aborted_by, answer_to, slot_got}
use Rattle.moment_model.specs.Run.{IsGot, after_edit, after_ok, is_ok_reply, moment_after, OkToEdit, Agrees}
use Rattle.moment_model.specs.Run.{AllAgree, moment_of}
use Rattle.moment_model.specs.Version.{version_bytes}
use Rattle.moment_laws.proofs.EndLemmas.{changed-cases}
use Rattle.moment_laws.proofs.GrantLemmas.{free_of-spaces}
use Rattle.soundness_laws.specs.Keeping.{KeepsSoundness}
use Rattle.change_laws.specs.Tail.{HaveTails}
use Rattle.effect_laws.specs.Lengths.{plain_length}
use Rattle.effect_laws.proofs.EffectLemmas.{edited-length}
use Rattle.length_laws.specs.KeepsLength.{KeepsLength}
use Rattle.soundness_laws.specs.InOrder.{is_held}
use Rattle.soundness_laws.proofs.RunLemmas.{same_test, run-sound, moment-length}
use Rattle.store_model.specs.Store.{Store, HoldsBy, AreToldSteps}
use Rattle.store_laws.specs.Lengths.{HasLengths}
use Rattle.store_laws.specs.Runs.{AllAskThresholds, IsSoundRest}
use Rattle.store_laws.proofs.SoundLemmas.{in_order}
use Rattle.store_laws.proofs.StepLemmas.{told-run}

-- one object has its lengths in both
record IsMeasured (slot : Slot) (object : ObjectSlot) : Type 0 where
  committed : version_bytes object.committed ≡ plain_length slot.committed
  working : version_bytes object.working ≡ plain_length slot.working

abbrev AreMeasured : Machine → Moment → Type 0
AreMeasured m w = (o : ℕ) → IsMeasured (slot_at m o) (object_slot w o)

-- one object more
measured-set : (m : Machine) (w : Moment) (o : ℕ) (slot : Slot) (object : ObjectSlot) → o < length m.slots →
    length w ≡ length m.slots → IsMeasured slot object → AreMeasured m w →
    AreMeasured (with_slot m o slot) (with_object_slot w o object)
measured-set m w o slot object below size one all p =
    elim (cases_eq p o) [
      | inl same ↦
          let there : o < length w = subst (λ n. o < n) (sym size) below in
          subst (λ q. IsMeasured (slot_at (with_slot m o slot) q) (object_slot (with_object_slot w o object) q)) (sym same)
          (subst (λ (x : Slot). IsMeasured x (object_slot (with_object_slot w o object) o)) (sym (slot_at-same m o slot below))
          (subst (λ (x : ObjectSlot). IsMeasured slot x) (sym (get_or-set_same w o object absent_slot there)) one))
      | inr other ↦
          subst (λ (x : Slot). IsMeasured x (object_slot (with_object_slot w o object) p)) (sym (slot_at-other m o p slot other))
          (subst (λ (x : ObjectSlot). IsMeasured (slot_at m p) x) (sym (get_or-set_other w o p object absent_slot other)) (all p))
    ]

-- an object that is written over in the machine alone, with the lengths that it had
measured-hold : (m : Machine) (w : Moment) (o : ℕ) (slot : Slot) → o < length m.slots →
    slot.committed ≡ (slot_at m o).committed → slot.working ≡ (slot_at m o).working → AreMeasured m w →
    AreMeasured (with_slot m o slot) w
measured-hold m w o slot below committed working all p =
    elim (cases_eq p o) [
      | inl same ↦
          subst (λ q. IsMeasured (slot_at (with_slot m o slot) q) (object_slot w q)) (sym same)
          (subst (λ (x : Slot). IsMeasured x (object_slot w o)) (sym (slot_at-same m o slot below))
          (record {
            committed = (all o).committed ∙ ap plain_length (sym committed);
            working = (all o).working
                ∙ ap plain_length (sym working);
          }))
      | inr other ↦ subst (λ (x : Slot). IsMeasured x (object_slot w p)) (sym (slot_at-other m o p slot other)) (all p)
    ]

after_ok-object : (laid : Lays) (n : Numbers) (past : List Event) (w : Moment) (s o : ℕ) (c : Command) →
    object_of c ≡ Some o → after_ok laid n past w s c ≡ after_edit laid n w s (Some o) (edit_of c)
after_ok-object laid n past w s o Begin on = absurd (cc)
after_ok-object laid n past w s o (Create p t) on = ap (λ (q : Option ℕ). after_edit laid n w s q (edit_of (Create p t))) on
after_ok-object laid n past w s o (Destroy p) on = ap (λ (q : Option ℕ). after_edit laid n w s q (edit_of (Destroy p))) on
after_ok-object laid n past w s o (Length p) on = ap (λ (q : Option ℕ). after_edit laid n w s q (edit_of (Length p))) on
after_ok-object laid n past w s o (Read p at k) on = ap (λ (q : Option ℕ). after_edit laid n w s q (edit_of (Read p at k))) on
after_ok-object laid n past w s o (Append p x) on = ap (λ (q : Option ℕ). after_edit laid n w s q (edit_of (Append p x))) on
after_ok-object laid n past w s o (Insert p at x) on = ap (λ (q : Option ℕ). after_edit laid n w s q (edit_of (Insert p at x))) on
after_ok-object laid n past w s o (Delete p at k) on = ap (λ (q : Option ℕ). after_edit laid n w s q (edit_of (Delete p at k))) on
after_ok-object laid n past w s o (Replace p at x) on = ap (λ (q : Option ℕ). after_edit laid n w s q (edit_of (Replace p at x))) on
after_ok-object laid n past w s o Commit on = absurd (cc)
after_ok-object laid n past w s o Abort on = absurd (cc)
after_ok-object laid n past w s o Status on = absurd (cc)

-- what stands before a line
record Before (laid : Lays) (good : Numbers → Tree → Type 0) (n : Numbers) (held : ℕ → Bool) (past : List Event)
    (m : Machine) (w : Moment) (s : ℕ) (c : Command) : Type 0 where
  keeps : KeepsLength laid good
  range : IsInRange n
  sound : IsSound good n held w
  tails : HaveTails n w
  size : length w ≡ length m.slots
  holds : HoldsBy s past m
  all : AreMeasured m w

-- an act whose reply isn't `ok`
measured-other : (m : Machine) (w : Moment) (s o : ℕ) (c : Command) (r : Reply) → (r ≡ reply.Ok → ⊥) →
    CanDo m s o (record { command = with_bytes c; reply = r }) → AreMeasured m w →
    AreMeasured (next m s (Does o (record { command = with_bytes c; reply = r }))) w
measured-other m w s o c r other can all =
    let now : Plain = (slot_at m o).working in
    let same : after_in (with_bytes c) now ≡ now =
    after_in-with_bytes c now ∙ after_in-refused c now (λ ok. other (sym (sym (reply_in-with_bytes c now) ∙ can.reply) ∙ ok)) in
    measured-hold m w o (worked s (record { command = with_bytes c; reply = r }) (slot_at m o)) can.usable.present refl same all

measured-takes : (m : Machine) (w : Moment) (s o : ℕ) → o < length m.slots → AreMeasured m w → AreMeasured (next m s (Takes o)) w
measured-takes m w s o below all = measured-hold m w o (taken s (slot_at m o)) below refl refl all

-- an edit that was granted what it asks for
measured-edit : (laid : Lays) (good : Numbers → Tree → Type 0) (n : Numbers) (held : ℕ → Bool) (past : List Event)
    (m : Machine) (w : Moment) (s o : ℕ) (c : Command) (e : Edit) (slot : Slot) →
    Before laid good n held past m w s c → o < length m.slots
    → slot.committed ≡ (slot_at m o).committed → slot.working ≡ edited e (slot_at m o).working → IsGot (answer_to laid n w s o e)
    → AreMeasured (with_slot m o slot) (with_object_slot w o (slot_got (answer_to laid n w s o e)))
measured-edit laid good n held past m w s o c e slot before below committed working got = by_answer (answer_to laid n w s o e) refl got
  where
    by_answer : (a : Answer ObjectSlot) → answer_to laid n w s o e ≡ a → IsGot a →
        AreMeasured (with_slot m o slot) (with_object_slot w o (slot_got a))
    by_answer (Refused pages) was got = absurd got
    by_answer (Got after left) was got =
        let lengths = before.keeps n (start_space n s)
        (free_of n w) left (object_slot w o) after e before.range (before.sound.kept o).working (before.tails o)
        (free_of-spaces n w) was in
        measured-set m w o slot after below before.size
        (record {
          committed = ap version_bytes lengths.0 ∙ (before.all o).committed ∙ ap plain_length (sym committed);
          working = lengths.1 ∙ ap (edited_length e) (before.all o).working
              ∙ sym (edited-length e (slot_at m o).working) ∙ ap plain_length (sym working);
        }) before.all

-- `ok` of an object
measured-ok : (laid : Lays) (good : Numbers → Tree → Type 0) (n : Numbers) (held : ℕ → Bool) (past : List Event)
    (m : Machine) (w : Moment) (s o : ℕ) (c : Command) → Before laid good n held past m w s c →
    object_of c ≡ Some o → CanDo m s o (record { command = with_bytes c; reply = reply.Ok }) →
    OkToEdit laid n w s (object_of c) (edit_of c)
    → AreMeasured (next m s (Does o (record { command = with_bytes c; reply = reply.Ok }))) (after_ok laid n past w s c)
measured-ok laid good n held past m w s o c before on can agrees =
    subst (AreMeasured (with_slot m o slot)) (sym (after_ok-object laid n past w s o c on))
    (by_edit (edit_of c) refl (subst (λ (q : Option ℕ). OkToEdit laid n w s q (edit_of c)) on agrees))
  where
    slot : Slot
    slot = worked s (record { command = with_bytes c; reply = reply.Ok }) (slot_at m o)

    by_edit : (t : Option Edit) → edit_of c ≡ t → OkToEdit laid n w s (Some o) t →
        AreMeasured (with_slot m o slot) (after_edit laid n w s (Some o) t)
    by_edit None is agrees = measured-hold m w o slot can.usable.present refl
        (after_in-with_bytes c (slot_at m o).working ∙ after_in-look c (slot_at m o).working is) before.all
    by_edit (Some e) is agrees =
        measured-edit laid good n held past m w s o c e slot before can.usable.present refl
        (after_in-with_bytes c (slot_at m o).working ∙ after_in-edit c e (slot_at m o).working is) agrees.1

-- a line on an object
measured-object : (laid : Lays) (good : Numbers → Tree → Type 0) (n : Numbers) (held : ℕ → Bool) (past : List Event)
    (m : Machine) (w : Moment) (s o : ℕ) (c : Command) (r : Reply) → Before laid good n held past m w s c →
    object_of c ≡ Some o → May m s (answered o (with_bytes c) r) → Agrees laid n w s c r
    → AreMeasured (next m s (answered o (with_bytes c) r)) (cond (is_ok_reply r) (after_ok laid n past w s c) w)
measured-object laid good n held past m w s o c reply.Ok before on may agrees =
    measured-ok laid good n held past m w s o c before on may agrees
measured-object laid good n held past m w s o c (reply.Length k) before on may agrees =
    measured-other m w s o c (reply.Length k) (λ e. cc) may before.all
measured-object laid good n held past m w s o c (reply.Bytes x) before on may agrees =
    measured-other m w s o c (reply.Bytes x) (λ e. cc) may before.all
measured-object laid good n held past m w s o c (reply.Range k) before on may agrees =
    measured-other m w s o c (reply.Range k) (λ e. cc) may before.all
measured-object laid good n held past m w s o c reply.Exists before on may agrees =
    measured-other m w s o c reply.Exists (λ e. cc) may before.all
measured-object laid good n held past m w s o c reply.Missing before on may agrees =
    measured-other m w s o c reply.Missing (λ e. cc) may before.all
measured-object laid good n held past m w s o c (reply.NoSpace k) before on may agrees = measured-takes m w s o may.present before.all
measured-object laid good n held past m w s o c reply.Fault before on may agrees = measured-takes m w s o may.present before.all
measured-object laid good n held past m w s o c reply.Busy before on may agrees = before.all
measured-object laid good n held past m w s o c reply.Full before on may agrees = before.all
measured-object laid good n held past m w s o c reply.NoObject before on may agrees = before.all
measured-object laid good n held past m w s o c reply.Memory before on may agrees = before.all
measured-object laid good n held past m w s o c reply.Idle before on may agrees = before.all
measured-object laid good n held past m w s o c reply.Active before on may agrees = before.all
measured-object laid good n held past m w s o c reply.TooLong before on may agrees = before.all
measured-object laid good n held past m w s o c reply.Worn before on may agrees = before.all
measured-object laid good n held past m w s o c (reply.Status f l h) before on may agrees = before.all
measured-object laid good n held past m w s o c reply.Again before on may agrees = before.all

-- an end: what the session holds is settled, or undone
measured-end : (past : List Event) (m : Machine) (w : Moment) (s : ℕ) (committed : Bool)
    (change : ObjectSlot → ObjectSlot) → HoldsBy s past m → change absent_slot ≡ absent_slot
    → ((slot : Slot) (object : ObjectSlot) → is_holder s slot.holder ≡ true → IsMeasured slot object →
    IsMeasured (let_go s committed (stamp_of m s) slot) (change object))
    → AreMeasured m w → AreMeasured (next m s (Closes committed)) (changed_where (λ o. holds s o past) change 0 w)
measured-end past m w s committed change holds_by none ends all o =
    subst (λ (x : Slot). IsMeasured x (object_slot (changed_where (λ p. holds s p past) change 0 w) o))
    (sym (slot_at-settled m.slots s (stamp_of m s) committed o))
    (elim (changed-cases (λ p. holds s p past) change none 0 w o o (omega arith)) [
      | inl own ↦ subst (λ (x : ObjectSlot). IsMeasured (let_go s committed (stamp_of m s) (slot_at m o)) x)
          (sym own.1) (ends (slot_at m o) (object_slot w o) (sym (holds_by o) ∙ own.0) (all o))
      | inr other ↦
          subst (λ (x : ObjectSlot). IsMeasured (let_go s committed (stamp_of m s) (slot_at m o)) x) (sym other.1)
          (subst (λ (x : Slot). IsMeasured x (object_slot w o))
          (sym (settled-other s (stamp_of m s) committed (slot_at m o) (sym (holds_by o) ∙ other.0))) (all o))
    ])

measured-commits : (s stamp : ℕ) (slot : Slot) (object : ObjectSlot) → is_holder s slot.holder ≡ true →
    IsMeasured slot object → IsMeasured (let_go s true stamp slot) (settled object)
measured-commits s stamp slot object held one =
    subst (λ (x : Slot). IsMeasured x (settled object)) (sym (settled-held s stamp true slot held))
    (record { committed = one.working; working = one.working })

measured-aborts : (s stamp : ℕ) (slot : Slot) (object : ObjectSlot) → is_holder s slot.holder ≡ true →
    IsMeasured slot object → IsMeasured (let_go s false stamp slot) (undone object)
measured-aborts s stamp slot object held one =
    subst (λ (x : Slot). IsMeasured x (undone object)) (sym (settled-held s stamp false slot held))
    (record { committed = one.committed; working = one.committed })

measured-begin : (m : Machine) (w : Moment) (s : ℕ) (b : Bool) → AreMeasured m w → AreMeasured (next m s (bounded Begin b)) (cond b w w)
measured-begin m w s true all = all
measured-begin m w s false all = all

measured-commit : (past : List Event) (m : Machine) (w : Moment) (s : ℕ) (b : Bool) → HoldsBy s past m →
    AreMeasured m w → AreMeasured (next m s (bounded Commit b)) (cond b (committed_by s past w) w)
measured-commit past m w s true holds_by all = measured-end past m w s true settled holds_by refl (measured-commits s (stamp_of m s)) all
measured-commit past m w s false holds_by all = all

measured-abort : (past : List Event) (m : Machine) (w : Moment) (s : ℕ) (b : Bool) → HoldsBy s past m →
    AreMeasured m w → AreMeasured (next m s (bounded Abort b)) (cond b (aborted_by s past w) w)
measured-abort past m w s true holds_by all = measured-end past m w s false undone holds_by refl (measured-aborts s (stamp_of m s)) all
measured-abort past m w s false holds_by all = all

measured-status : (m : Machine) (w : Moment) (s : ℕ) (b : Bool) → AreMeasured m w → AreMeasured (next m s (bounded Status b)) (cond b w w)
measured-status m w s true all = all
measured-status m w s false all = all

-- any line
measured-line : (laid : Lays) (good : Numbers → Tree → Type 0) (n : Numbers) (held : ℕ → Bool) (past : List Event)
    (m : Machine) (w : Moment) (s : ℕ) (c : Command) (r : Reply) → Before laid good n held past m w s c →
    May m s (deed c r) → Agrees laid n w s c r
    → AreMeasured (next m s (deed c r)) (cond (is_ok_reply r) (after_ok laid n past w s c) w)
measured-line laid good n held past m w s Begin r before may agrees =
    subst (λ b. AreMeasured (next m s (bounded Begin (is_done r))) (cond b w w)) (same_test r)
    (measured-begin m w s (is_done r) before.all)
measured-line laid good n held past m w s Commit r before may agrees =
    subst (λ b. AreMeasured (next m s (bounded Commit (is_done r))) (cond b (committed_by s past w) w))
    (same_test r) (measured-commit past m w s (is_done r) before.holds before.all)
measured-line laid good n held past m w s Abort r before may agrees =
    subst (λ b. AreMeasured (next m s (bounded Abort (is_done r))) (cond b (aborted_by s past w) w)) (same_test r)
    (measured-abort past m w s (is_done r) before.holds before.all)
measured-line laid good n held past m w s Status r before may agrees =
    subst (λ b. AreMeasured (next m s (bounded Status (is_done r))) (cond b w w)) (same_test r)
    (measured-status m w s (is_done r) before.all)
measured-line laid good n held past m w s (Create o t) r before may agrees =
    measured-object laid good n held past m w s o (Create o t) r before refl may agrees
measured-line laid good n held past m w s (Destroy o) r before may agrees =
    measured-object laid good n held past m w s o (Destroy o) r before refl may agrees
measured-line laid good n held past m w s (Length o) r before may agrees =
    measured-object laid good n held past m w s o (Length o) r before refl may agrees
measured-line laid good n held past m w s (Read o at k) r before may agrees =
    measured-object laid good n held past m w s o (Read o at k) r before refl may agrees
measured-line laid good n held past m w s (Append o p) r before may agrees =
    measured-object laid good n held past m w s o (Append o p) r before refl may agrees
measured-line laid good n held past m w s (Insert o at p) r before may agrees =
    measured-object laid good n held past m w s o (Insert o at p) r before refl may agrees
measured-line laid good n held past m w s (Delete o at k) r before may agrees =
    measured-object laid good n held past m w s o (Delete o at k) r before refl may agrees
measured-line laid good n held past m w s (Replace o at p) r before may agrees =
    measured-object laid good n held past m w s o (Replace o at p) r before refl may agrees

measured-step : (laid : Lays) (good : Numbers → Tree → Type 0) (n : Numbers) (held : ℕ → Bool) (past : List Event)
    (m : Machine) (w : Moment) (e : Event) → Before laid good n held past m w e.session e.command → IsEvent m e →
    Agrees laid n w e.session e.command e.reply
    → AreMeasured (next m e.session (deed_of e)) (moment_after laid n past w e)
unfolding moment_after
measured-step laid good n held past m w e before event agrees =
    measured-line laid good n held past m w e.session e.command e.reply before
    (May-replies m e.session e.command e.reply event.session event.reply) agrees

-- along the steps
pub steps-lengths : (laid : Lays) (good : Numbers → Tree → Type 0) (first last : Store) (past : List Event) →
    KeepsSoundness laid good → KeepsLength laid good → IsSoundRest good first → AllAskThresholds past →
    HasLengths first.machine first.moment → AreToldSteps laid first past last → HasLengths last.machine last.moment
steps-lengths laid good first last past sounds keeps rest asks lengths steps =
    let told = told-run laid first last past rest.rest steps in
    let all : AreMeasured last.machine last.moment =
    subst (λ (m : Machine). AreMeasured m last.moment) (sym told.machine)
    (subst (AreMeasured (state_after first.machine past)) (sym told.moment)
    (along past asks told.run told.agree)) in
    record {
      size =
          ap (λ (w : Moment). length w) told.moment ∙ moment-length laid first.numbers first.moment past ∙ lengths.size
          ∙ sym (ap (λ (m : Machine). length m.slots) told.machine ∙ slots-run first.machine past);
      committed = λ o. (all o).committed;
      working = λ o. (all o).working;
    }
  where
    along : (past : List Event) → AllAskThresholds past → IsRun first.machine past →
        AllAgree laid first.numbers first.moment past →
        AreMeasured (state_after first.machine past) (moment_of laid first.numbers first.moment past)
    along [] asks run agree = λ o. record { committed = lengths.committed o; working = lengths.working o }
    along (e ∷ past) asks run agree =
        let m : Machine = state_after first.machine past in
        let w : Moment = moment_of laid first.numbers first.moment past in
        let sessions : ℕ = length first.machine.seats in
        let sound = run-sound laid good first.numbers sessions first.moment past sounds rest.range rest.sound
        rest.tails (in_order first.machine past rest.rest run.0 asks.0) agree.0 in
        let before : Before laid good first.numbers (is_held sessions past) past m w e.session e.command = record {
          keeps = keeps;
          range = rest.range;
          sound = sound.0;
          tails = sound.1;
          size = moment-length laid first.numbers first.moment past ∙ lengths.size ∙ sym (slots-run first.machine past);
          holds = (Sound-run first.machine past rest.rest (MayRun-from first.machine past run.0)).tracks.held e.session;
          all = along past asks.0 run.0 agree.0;
        } in
        measured-step laid good first.numbers (is_held sessions past) past m w e before run.1 agree.1

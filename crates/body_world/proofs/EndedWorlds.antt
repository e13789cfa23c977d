-- A world after the end of a transaction.
use Rattle.std.proofs.Common.{◌≡◌, ℕ, suc, ◌+◌, ◌-◌, ◌<◌, ◌≤◌, Bool, true, false, List, [], ◌∷◌, length, set}
use Rattle.std.proofs.Common.{Option, Some, None, nat_eq, is_some}
use Rattle.std.proofs.Common.{refl, ap, sym, ◌∙◌, subst, arith, inl, inr, zero-add}
use Rattle.std.specs.Prelude.{IsTrue}
use Rattle.std.specs.Option.{option_map_or}
use Rattle.std.proofs.lemmas.Bool.{cases_eq, eq-eqb, eqb-true, ne_eqb, false≢true}
use Rattle.std.proofs.lemmas.List.{get_or-set_same, get_or-set_other, ext_get_or}
use Rattle.std.proofs.lemmas.Option.{slice_get_within}
use Rattle.base_laws.proofs.OptionLaws.{some-if, none-unless}
use Rattle.eos_ops.specs.declared.limits.TheConstants.{SESSIONS}
use Rattle.geometry_model.specs.Numbers.{Numbers}
use Rattle.history.specs.Event.{Event, Closes}
use Rattle.history.specs.Holding.{holds}
use Rattle.layout_model.specs.Layout.{Tree}
use Rattle.machine.specs.Machine.{is_holder, slot_at}
use Rattle.machine.specs.Next.{next}
use Rattle.moment_model.specs.Run.{changed_where}
use Rattle.change_laws.specs.Tail.{HaveTails}
use Rattle.moment_model.specs.Moment.{Moment, ObjectSlot, IsSound, object_slot, with_object_slot, absent_slot, free_of, locked_of}
use Rattle.moment_laws.proofs.EndLemmas.{sound-held_more, changed-cases}
use Rattle.object_body.specs.Form.{Form, Contents}
use Rattle.object_body.specs.Places.{IsStore}
use Rattle.shadow_txn.specs.declared.held.Held.{Held}
use Rattle.shadow_txn.specs.Held.{held_object, AreDistinct}
use Rattle.shadow_txn.specs.Transaction.{Transaction, end_stamp}
use Rattle.soundness_laws.proofs.RunLemmas.{changed-length}
use Rattle.store_model.specs.Store.{Store}
use Rattle.superdirectory.specs.Grants.{KeepsFrame}
use Rattle.body_txn.specs.Ending.{Standing, IsEndStep, EndInTurn, end_form, end_contents}
use Rattle.world.proofs.Readings.{below, number}
use Rattle.body_txn.proofs.EndingLemmas.{numbers_ended, rests_ended}
use Rattle.body_world.specs.Ending.{IsToldEnd, ended_by}
use Rattle.body_world.specs.Keeping.{IsAtWork, IsWorld, HaveRoles, is_taken}
use Rattle.body_world.specs.Served.{IsEnded, IsLeft, IsLeftBy, Works, IsOfStore}
use Rattle.body_world.specs.Session.{Shown, Seen, at_home, in_hand, seen_by}
use Rattle.body_world.specs.Ties.{txn_at, seen_at, pages_of, machine_seen, moment_seen, viewed, ShareObjects}
use Rattle.body_world.proofs.Endings.{machine-ended, in-hand}
use Rattle.body_world.proofs.Sights.{seen-held, seen-some, unseen-own}
use Rattle.body_world.proofs.Tied.{or_before, seen_at-seen, seen_at-set, tied-set}
use Rattle.body_world.proofs.Viewed.{as_slot, each-is, length-each, slot_at-seen, object_slot-seen}
use Rattle.body_world.proofs.Walk.{end_slot, ended_each, still_without, ended-other, length-ended, walk, slot-ended}

-- an end leaves the frame of the spaces, and none entered
pub turns-keep : {T : Type 0} (tells : Bool) (suits : Contents → Type 0) (committed : Bool) (form : T → Form) (contents : T → Contents)
    (held : List (Held T)) (before after : Standing) → before.rest.entered ≡ None
    → EndInTurn (λ x. IsEndStep tells suits committed (form x) (contents x)) held before after → KeepsFrame before.rest after.rest
turns-keep tells suits committed form contents [] before after none turns =
    record { frame = ap (λ s. s.rest.frame) turns; entered = ap (λ s. s.rest.entered) turns ∙ none }
turns-keep tells suits committed form contents (h ∷ held) before after none turns =
    let earlier = turns-keep tells suits committed form contents held before turns.0 none turns.1 in
    let last = turns.2.body.rest in
    record { frame = last.frame ∙ earlier.frame; entered = last.entered }

-- what is left of an object is of its store, and at rest
left-numbers : (tells committed : Bool) (at : ℕ) (holder : Option ℕ) (x y : Shown) → IsLeftBy tells committed at holder x y
    → y.form.numbers ≡ x.form.numbers
left-numbers tells committed at None x y left = ap (λ (z : Shown). z.form.numbers) left
left-numbers tells committed at (Some s) x y left = numbers_ended committed x.form y.form left.form

left-rests : (tells committed : Bool) (at : ℕ) (holder : Option ℕ) (x y : Shown) → IsLeftBy tells committed at holder x y
    → (holder ≡ None → x.form.is_resting ≡ true) → y.form.is_resting ≡ true
left-rests tells committed at None x y left rests = ap (λ (z : Shown). z.form.is_resting) left ∙ rests refl
left-rests tells committed at (Some s) x y left rests = rests_ended committed x.form y.form left.form

-- A property of each object before and after the end: of one that the session didn't see, which is as before, and of one that it saw,
-- which is on the shelf.
pub after-cases : {T : Type 0} (tells : Bool) (show : T → Shown) (last : T → ℕ) (committed : Bool)
    (shelf : List (Option T)) (txns : List (Transaction T)) (i : ℕ) (shelf' : List (Option T)) (txn' : Transaction T)
    → i < SESSIONS → ShareObjects shelf txns → IsEnded tells show last committed shelf (txn_at txns i) shelf' txn'
    → (P : ℕ → Option Seen → Option Seen → Type 0)
    → ((o : ℕ) → seen_by show shelf (txn_at txns i) o ≡ None → P o (seen_at show shelf txns o) (seen_at show shelf txns o))
    → ((o : ℕ) (was : Seen) (y : Shown) → seen_by show shelf (txn_at txns i) o ≡ Some was
    → IsLeftBy tells committed (end_stamp last (txn_at txns i)) was.holder was.object y → P o (Some was) (Some (at_home y)))
    → (o : ℕ) → P o (seen_at show shelf txns o) (seen_at show shelf' (set txns i txn') o)
after-cases tells show last committed shelf txns i shelf' txn' within tied end P unseen seen o =
    subst (P o (seen_at show shelf txns o)) (sym (seen_at-set show shelf txns i shelf' txn' within tied end.kept o))
    (by_sight (seen_by show shelf (txn_at txns i) o) refl (end.seen o))
  where
    by_sight : (sight : Option Seen) → seen_by show shelf (txn_at txns i) o ≡ sight
        → IsLeft tells committed (end_stamp last (txn_at txns i)) (seen_by show shelf (txn_at txns i) o) (seen_by show shelf' txn' o)
        → P o (seen_at show shelf txns o) (or_before (seen_by show shelf' txn' o) (seen_at show shelf txns o))
    by_sight None is fact =
        let gone : seen_by show shelf' txn' o ≡ None =
        subst (λ sight. IsLeft tells committed (end_stamp last (txn_at txns i)) sight (seen_by show shelf' txn' o)) is fact in
        subst (λ s. P o (seen_at show shelf txns o) (or_before s (seen_at show shelf txns o))) (sym gone) (unseen o is)
    by_sight (Some was) is fact =
        let back : IsLeft tells committed (end_stamp last (txn_at txns i)) (Some was) (seen_by show shelf' txn' o) =
        subst (λ sight. IsLeft tells committed (end_stamp last (txn_at txns i)) sight (seen_by show shelf' txn' o)) is fact in
        subst (λ s. P o (seen_at show shelf txns o) (or_before s (seen_at show shelf txns o))) (sym back.1)
        (subst (λ s. P o s (Some (at_home back.0))) (sym (seen_at-seen show shelf txns i o was within tied is))
        (seen o was back.0 is back.2))

-- over every device the world is at work still
pub work-ended : {T : Type 0} (tells : Bool) (show : T → Shown) (last : T → ℕ) (committed : Bool) (n : Numbers)
    (shelf : List (Option T)) (txns : List (Transaction T)) (i : ℕ) (shelf' : List (Option T)) (txn' : Transaction T)
    (before after : Standing) (page : ℕ)
    → i < SESSIONS → IsAtWork show n shelf txns before.rest page → IsEnded tells show last committed shelf (txn_at txns i) shelf' txn'
    → KeepsFrame before.rest after.rest → IsAtWork show n shelf' (set txns i txn') after.rest page
work-ended tells show last committed n shelf txns i shelf' txn' before after page within work end kept = record {
  range = work.range;
  shares = tied-set show shelf txns i shelf' txn' within work.shares end.kept;
  count = end.kept.size ∙ work.count;
  of_store = after-cases tells show last committed shelf txns i shelf' txn' within work.shares end
      (λ o before after. (seen : Seen) → after ≡ Some seen → seen.object.form.numbers ≡ n)
      (λ o none seen is. work.of_store o seen is)
      (λ o was y sees left seen is.
      let now : at_home y ≡ seen = cc in
      subst (λ (s : Seen). s.object.form.numbers ≡ n) now
      (left-numbers tells committed (end_stamp last (txn_at txns i)) was.holder was.object y left
      ∙ work.of_store o was (seen_at-seen show shelf txns i o was within work.shares sees)));
  resting = after-cases tells show last committed shelf txns i shelf' txn' within work.shares end
      (λ o before after. (seen : Seen) → after ≡ Some seen → seen.holder ≡ None → seen.object.form.is_resting ≡ true)
      (λ o none seen is. work.resting o seen is)
      (λ o was y sees left seen is free.
      let now : at_home y ≡ seen = cc in
      subst (λ (s : Seen). s.object.form.is_resting ≡ true) now
      (left-rests tells committed (end_stamp last (txn_at txns i)) was.holder was.object y left
      (work.resting o was (seen_at-seen show shelf txns i o was within work.shares sees))));
  ready = record { store = subst (λ f. IsStore n f) (sym kept.frame) work.ready.store; none = kept.entered };
  sized = work.sized;
}

-- what is held still isn't one of these
still-cases : {T : Type 0} (test : ℕ → Bool) (held : List (Held T)) (o : ℕ) → still_without test held o ≡ true
    → (test o ≡ true) × (held_object o held ≡ None)
still-cases test [] o still = (still, refl)
still-cases {T} test (h ∷ held) o still =
    by (still_without test held o) (nat_eq h.number o) refl refl (still-cases test held o) still
  where
    by : (s b : Bool) → still_without test held o ≡ s → nat_eq h.number o ≡ b
        → (still_without test held o ≡ true → (test o ≡ true) × (held_object o held ≡ None))
        → still_without test (h ∷ held) o ≡ true → (test o ≡ true) × (held_object o (h ∷ held) ≡ None)
    by true false is away rest still = let found = rest is in (found.0, rw away found.1)
    by true true is at rest still =
        let same : nat_eq o h.number ≡ true = eq-eqb o h.number (sym (eqb-true h.number o at)) in
        let wrong : false ≡ true = sym (rw (is, same) refl) ∙ still in absurd (false≢true wrong)
    by false b is at rest still = let wrong : false ≡ true = sym (rw is refl) ∙ still in absurd (false≢true wrong)

-- how the moment reads what is seen
abbrev as_pages : Option Seen → ObjectSlot
as_pages seen = option_map_or pages_of seen absent_slot

-- a held object has ended
ended-held : {T : Type 0} (committed : Bool) (held : List (Held T)) (moment : Moment) (o : ℕ) (x : T) → AreDistinct held
    → held_object o held ≡ Some x → o < length moment
    → object_slot (ended_each committed held moment) o ≡ end_slot committed (object_slot moment o)
ended-held committed [] moment o x apart found within = absurd cc
ended-held {T} committed (h ∷ held) moment o x apart found within = elim (cases_eq h.number o) [
  | inl this ↦
      let size = length-ended committed held moment in
      subst (λ q. object_slot (with_object_slot (ended_each committed held moment) q
      (end_slot committed (object_slot (ended_each committed held moment) q))) o ≡ end_slot committed (object_slot moment o)) (sym this)
      (get_or-set_same (ended_each committed held moment) o (end_slot committed (object_slot (ended_each committed held moment) o))
      absent_slot (omega (arith, within, size))
      ∙ ap (end_slot committed) (ended-other committed held moment o (subst (λ q. held_object q held ≡ None) this apart.0)))
  | inr other ↦
      let away : nat_eq h.number o ≡ false = ne_eqb h.number o other in
      let rest : held_object o held ≡ Some x = sym (rw away refl) ∙ found in
      get_or-set_other (ended_each committed held moment) h.number o
      (end_slot committed (object_slot (ended_each committed held moment) h.number)) absent_slot (λ e. other (sym e))
      ∙ ended-held committed held moment o x apart.1 rest within
]

left-pages_held : (tells committed : Bool) (at s : ℕ) (x y : Shown) → IsTrue tells → IsLeftBy tells committed at (Some s) x y
    → y.told.slot ≡ end_slot committed x.told.slot
left-pages_held tells committed at s x y tell left =
    ap (λ (t : Contents). t.slot) (left.told tell) ∙ slot-ended committed x.told

-- the moment is the one in which what was held has ended
pub moment-ended : {T : Type 0} (tells : Bool) (show : T → Shown) (last : T → ℕ) (committed : Bool)
    (shelf : List (Option T)) (txns : List (Transaction T)) (i : ℕ) (shelf' : List (Option T)) (txn' : Transaction T)
    → IsTrue tells → i < SESSIONS → ShareObjects shelf txns → IsEnded tells show last committed shelf (txn_at txns i) shelf' txn'
    → moment_seen show shelf' (set txns i txn') ≡ ended_each committed (txn_at txns i).held (moment_seen show shelf txns)
moment-ended {T} tells show last committed shelf txns i shelf' txn' tell within tied end =
    let held = (txn_at txns i).held in
    let moment : Moment = moment_seen show shelf txns in
    each-is as_pages show shelf' (set txns i txn') (ended_each committed held moment)
    (length-ended committed held moment ∙ length-each as_pages show shelf txns ∙ sym end.kept.size)
    (after-cases tells show last committed shelf txns i shelf' txn' within tied end
    (λ o before after. as_pages after ≡ object_slot (ended_each committed held moment) o)
    (λ o none. sym (ended-other committed held moment o (unseen-own show shelf
    (txn_at txns i) o none) ∙ object_slot-seen show shelf txns o))
    (λ o was y sees left. elim (seen-some show shelf (txn_at txns i) o was sees) [
      | inl own ↦
          let there : o < length shelf = slice_get_within shelf o None ((tied.sound i within).out o own.0 own.1) in
          let size = length-each as_pages show shelf txns in
          let own_left : IsLeftBy tells committed (end_stamp last (txn_at txns i)) (Some (txn_at txns i).session) (show own.0) y =
          subst (λ (s : Seen). IsLeftBy tells committed (end_stamp last (txn_at txns i)) s.holder s.object y) own.2 left in
          left-pages_held tells committed (end_stamp last (txn_at txns i)) (txn_at txns i).session (show own.0) y tell own_left
          ∙ ap (end_slot committed) (sym (object_slot-seen show shelf txns o
          ∙ ap as_pages (seen_at-seen show shelf txns i o was within tied sees ∙ ap (λ s. Some s) own.2)))
          ∙ sym (ended-held committed held moment o own.0 (tied.sound i within).distinct own.1 (omega (arith, there, size)))
      | inr home ↦
          let home_left : y ≡ show home.1.0 =
          subst (λ (s : Seen). IsLeftBy tells committed (end_stamp last (txn_at txns i)) s.holder s.object y) home.1.2 left in
          ap (λ (z : Shown). z.told.slot) home_left
          ∙ sym (ended-other committed held moment o home.0 ∙ object_slot-seen show shelf txns o
          ∙ ap as_pages (seen_at-seen show shelf txns i o was within tied sees ∙ ap (λ s. Some s) home.1.2))
    ]))

-- what is held still by another session is held
held-still : {T : Type 0} (tells : Bool) (show : T → Shown) (last : T → ℕ) (committed : Bool)
    (shelf : List (Option T)) (txns : List (Transaction T)) (i : ℕ) (shelf' : List (Option T)) (txn' : Transaction T)
    → i < SESSIONS → ShareObjects shelf txns → IsEnded tells show last committed shelf (txn_at txns i) shelf' txn'
    → (o : ℕ) → still_without (is_taken (machine_seen show shelf txns)) (txn_at txns i).held o ≡ true
    → is_taken (machine_seen show shelf' (set txns i txn')) o ≡ true
held-still {T} tells show last committed shelf txns i shelf' txn' within tied end o still =
    let cases = still-cases (is_taken (machine_seen show shelf txns)) (txn_at txns i).held o still in
    ap (λ slot. is_some slot.holder) (slot_at-seen show shelf' (set txns i txn') o)
    ∙ after-cases tells show last committed shelf txns i shelf' txn' within tied end
    (λ q before after. is_some (as_slot before).holder ≡ true → held_object q (txn_at txns i).held ≡ None
    → is_some (as_slot after).holder ≡ true)
    (λ q none taken free. taken)
    (λ q was y sees left taken free. elim (seen-some show shelf (txn_at txns i) q was sees) [
      | inl own ↦ let wrong : Some own.0 ≡ None = sym own.1 ∙ free in absurd cc
      | inr home ↦
          let wrong : false ≡ true = sym (ap (λ (s : Seen). is_some s.holder) home.1.2) ∙ taken in absurd (false≢true wrong)
    ]) o (sym (ap (λ slot. is_some slot.holder) (slot_at-seen show shelf txns o)) ∙ cases.0) cases.1

-- where bytes are told, the spaces have the pages of the moment after
pub roles-ended : {T : Type 0} (tells : Bool) (suits : Contents → Type 0) (good : Numbers → Tree → Type 0) (show : T → Shown) (last : T → ℕ)
    (committed : Bool) (n : Numbers) (shelf : List (Option T)) (txns : List (Transaction T)) (i : ℕ) (shelf' : List (Option T))
    (txn' : Transaction T) (before after : Standing) (page : ℕ)
    → IsTrue tells → i < SESSIONS → IsAtWork show n shelf txns before.rest page
    → IsEnded tells show last committed shelf (txn_at txns i) shelf' txn'
    → EndInTurn (λ x. IsEndStep tells suits committed (show x).form (show x).told) (txn_at txns i).held before after
    → HaveRoles good (viewed show n shelf txns) before.rest → HaveRoles good (viewed show n shelf' (set txns i txn')) after.rest
roles-ended {T} tells suits good show last committed n shelf txns i shelf' txn' before after page tell within work end turns roles =
    let held = (txn_at txns i).held in
    let moment : Moment = moment_seen show shelf txns in
    let tied = work.shares in
    let sees : (o : ℕ) (x : T) → held_object o held ≡ Some x → seen_at show shelf txns o ≡ Some (in_hand (txn_at txns i).session (show x)) =
    λ o x found. seen_at-seen show shelf txns i o (in_hand (txn_at txns i).session (show x)) within tied
    (seen-held show shelf (txn_at txns i) o x found) in
    let walked = walk tells suits (λ x. (show x).form) (λ x. (show x).told) good n (is_taken (machine_seen show shelf txns)) committed held
    moment before after tell (tied.sound i within).distinct
    (λ o x found. work.of_store o (in_hand (txn_at txns i).session (show x)) (sees o x found))
    (λ o x found. sym (object_slot-seen show shelf txns o ∙ ap as_pages (sees o x found)))
    (λ o x found.
    let there : o < length shelf = slice_get_within shelf o None ((tied.sound i within).out o x found) in
    let size = length-each as_pages show shelf txns in
    omega (arith, there, size))
    (record {
      views = roles.views;
      told = roles.told;
      home = roles.home;
      store = work.ready.store;
      sound = roles.sound;
      tails = roles.tails;
      has = record { free = roles.free; locked = roles.locked };
    }) turns in
    let same : moment_seen show shelf' (set txns i txn') ≡ ended_each committed held moment =
    moment-ended tells show last committed shelf txns i shelf' txn' tell within tied end in
    record {
      views = walked.views;
      told = walked.told;
      home = walked.home;
      sound = sound-held_more good n (still_without (is_taken (machine_seen show shelf txns)) held)
          (is_taken (machine_seen show shelf' (set txns i txn'))) (moment_seen show shelf' (set txns i txn'))
          (held-still tells show last committed shelf txns i shelf' txn' within tied end)
          (subst (λ w. IsSound good n (still_without (is_taken (machine_seen show shelf txns)) held) w) (sym same) walked.sound);
      tails = subst (HaveTails n) (sym same) walked.tails;
      free = walked.has.free ∙ ap (free_of n) (sym same);
      locked = walked.has.locked ∙ ap (locked_of n) (sym same);
    }

-- a world whose session ended is a world
pub world-ended : {T : Type 0} (tells : Bool) (suits : Contents → Type 0) (good : Numbers → Tree → Type 0) (show : T → Shown) (last : T → ℕ)
    (committed : Bool) (n : Numbers) (shelf : List (Option T)) (txns : List (Transaction T)) (i : ℕ) (shelf' : List (Option T))
    (txn' : Transaction T) (before after : Standing) (page : ℕ)
    → i < SESSIONS → IsWorld tells good show n shelf txns before.rest page
    → IsEnded tells show last committed shelf (txn_at txns i) shelf' txn'
    → EndInTurn (λ x. IsEndStep tells suits committed (show x).form (show x).told) (txn_at txns i).held before after
    → IsWorld tells good show n shelf' (set txns i txn') after.rest page
world-ended tells suits good show last committed n shelf txns i shelf' txn' before after page within world end turns = record {
  work = work-ended tells show last committed n shelf txns i shelf' txn' before after page within world.work end
      (turns-keep tells suits committed (λ x. (show x).form) (λ x. (show x).told)
      (txn_at txns i).held before after world.work.ready.none turns);
  roles = λ tell. roles-ended tells suits good show last committed n shelf txns i shelf' txn' before after page tell within world.work end
      turns (world.roles tell);
}

-- the objects that a session sees are of the store, and so are the spaces and the port
pub store-read : {T : Type 0} (show : T →
    Shown) (n : Numbers) (shelf : List (Option T)) (txns : List (Transaction T)) (i : ℕ) (works : Works)
    → i < SESSIONS → IsAtWork show n shelf txns works.spaces.rest works.meter.page → IsOfStore show n shelf (txn_at txns i) works
store-read show n shelf txns i works within work = record {
  objects = λ o seen sees. work.of_store o seen (seen_at-seen show shelf txns i o seen within work.shares sees);
  ready = work.ready;
  sized = work.sized;
}

change-absent : (committed : Bool) → end_slot committed absent_slot ≡ absent_slot
change-absent true = refl
change-absent false = refl

-- one after the other is all at once
ended-at_once : {T : Type 0} (committed : Bool) (held : List (Held T)) (moment : Moment) (test : ℕ → Bool) → AreDistinct held
    → ((o : ℕ) → test o ≡ is_some (held_object o held))
    → ended_each committed held moment ≡ changed_where test (λ slot. end_slot committed slot) 0 moment
ended-at_once {T} committed held moment test apart agree =
    let change : ObjectSlot → ObjectSlot = λ slot. end_slot committed slot in
    ext_get_or absent_slot (ended_each committed held moment) (changed_where test change 0 moment)
    (length-ended committed held moment ∙ sym (changed-length test change 0 moment))
    (λ o below.
    let within : o < length moment = omega (arith, below, length-ended committed held moment) in
    elim (changed-cases test change (change-absent committed) 0 moment o o (sym (zero-add o))) [
      | inl hit ↦
          let some = some-if (held_object o held) (sym (agree o) ∙ hit.0) in
          ended-held committed held moment o some.0 apart some.1 within ∙ sym hit.1
      | inr miss ↦
          ended-other committed held moment o (none-unless (held_object o held) (sym (agree o) ∙ miss.0)) ∙ sym miss.1
    ])

ended_by-once : (committed : Bool) (s : ℕ) (past : List Event) (moment : Moment)
    → changed_where (λ o. holds s o past) (λ slot. end_slot committed slot) 0 moment ≡ ended_by s committed past moment
ended_by-once true s past moment = refl
ended_by-once false s past moment = refl

-- the end where bytes are told
pub told-ended : {T : Type 0} (tells : Bool) (show : T → Shown) (last : T → ℕ) (committed : Bool) (n : Numbers)
    (shelf : List (Option T)) (txns : List (Transaction T)) (w : Store) (s : ℕ) (shelf' : List (Option T)) (txn' : Transaction T)
    → IsTrue tells → ((x : T) → (show x).stamp ≡ last x) → viewed show n shelf txns ≡ w → 0 < s → s ≤ SESSIONS → ShareObjects shelf txns
    → IsEnded tells show last committed shelf (txn_at txns (s - 1)) shelf' txn'
    → IsToldEnd s committed w (viewed show n shelf' (set txns (s - 1) txn'))
told-ended {T} tells show last committed n shelf txns w s shelf' txn' tell stamps view from_one upto tied end =
    let within : s - 1 < SESSIONS = below s from_one upto in
    let same : s - 1 + 1 ≡ s = omega (arith, from_one) in
    record {
      machine = machine-ended tells show last committed shelf txns (s - 1) shelf' txn' tell stamps within tied end
          ∙ ap (λ (v : Store). next v.machine (suc (s - 1)) (Closes committed)) view
          ∙ ap (λ t. next w.machine t (Closes committed)) (number s from_one);
      moment = λ past by.
          moment-ended tells show last committed shelf txns (s - 1) shelf' txn' tell within tied end
          ∙ ended-at_once committed (txn_at txns (s - 1)).held (moment_seen show shelf txns) (λ o. holds s o past)
          (tied.sound (s - 1) within).distinct
          (λ o. by o ∙ ap (λ (v : Store). is_holder s (slot_at v.machine o).holder) (sym view)
          ∙ ap (λ t. is_holder t (slot_at (machine_seen show shelf txns) o).holder) (sym same)
          ∙ in-hand show shelf txns (s - 1) o within tied)
          ∙ ended_by-once committed s past (moment_seen show shelf txns)
          ∙ ap (λ (v : Store). ended_by s committed past v.moment) view;
    }

-- A command that an object served, in the moment: the moment goes on by the reply, and the reply agrees with it.
use Rattle.std.proofs.Common.{◌≡◌, ℕ, ◌+◌, Bool, true, false, List, length, Option, Some, None, nat_le, refl, ap, sym, ◌∙◌, subst}
use Rattle.std.proofs.Common.{inl, inr, if◌then◌else◌}
use Rattle.std.specs.Prelude.{IsTrue}
use Rattle.std.proofs.lemmas.Bool.{false≢true}
use Rattle.std.proofs.lemmas.List.{set-get_or}
use Rattle.std.proofs.lemmas.Option.{same_Some}
use Rattle.base_laws.proofs.OptionLaws.{some-inner}
use Rattle.eos_ops.specs.declared.command.Command.{Command}
use Rattle.eos_ops.specs.declared.command.Command.TheVariants as command
use Rattle.eos_ops.specs.declared.edit.Edit.{Edit}
use Rattle.eos_ops.specs.declared.edit.Edit.TheVariants.{Create, Destroy, Append, Insert, Delete, Replace}
use Rattle.eos_ops.specs.declared.outcome.Outcome.{Outcome}
use Rattle.eos_ops.specs.declared.outcome.Outcome.TheVariants.{Done, Exists, Missing, Range}
use Rattle.eos_ops.specs.declared.reply.Reply.{Reply}
use Rattle.eos_ops.specs.declared.reply.Reply.TheVariants as reply
use Rattle.eos_ops.specs.Objects.{object_of, edit_of, reply_of}
use Rattle.geometry_model.specs.Numbers.{Numbers}
use Rattle.history.specs.Event.{Event}
use Rattle.layout_model.specs.Grants.{Spaces, Answer}
use Rattle.layout_model.specs.Grants.Answer.{Got, Refused}
use Rattle.moment_model.specs.Edit.{accepts}
use Rattle.moment_model.specs.Moment.{Moment, ObjectSlot, object_slot, with_object_slot, absent_slot, free_of}
use Rattle.moment_model.specs.Run.{Lays, start_space, answer_to, slot_got, IsGot, IsRefused, is_ok_reply, moment_after}
use Rattle.moment_model.specs.Run.{is_accepted, OkToEdit, NoSpaceToEdit, Agrees}
use Rattle.moment_model.specs.Version.{version_bytes}
use Rattle.object_body.specs.Calls.{slot_in, pages_in, RefusesTaken}
use Rattle.object_body.specs.Form.{NamesThreshold, HaveLengthsBy, AreTied, Contents}
use Rattle.object_body.specs.Lengths.{outcome_of, outcome_within}
use Rattle.object_body.proofs.LengthLemmas.{cases_done}
use Rattle.shadow_txn.specs.Acts.{is_objects_own}
use Rattle.soundness_laws.specs.Keeping.{AsksThreshold, got_slot}
use Rattle.space_directory.specs.SpaceView.{SpaceView}
use Rattle.store_model.specs.Store.{event_of}
use Rattle.superdirectory.specs.Grants.{AreTold, free_sets}
use Rattle.superdirectory.specs.Rest.{count}
use Rattle.body_world.specs.Served.{Works}
use Rattle.body_world.specs.Session.{Shown}
use Rattle.body_world.proofs.Made.{IsAtHand, WasRefused, IsStill, IsLaidOut, own-no_space, outcome-own}
use Rattle.body_world.proofs.Stepping.{unmoved}

-- the slot of an answer that gives one
got-slot : (a : Answer ObjectSlot) (slot : ObjectSlot) → slot_in a ≡ Some slot → slot_got a ≡ slot
got-slot (Got s left) slot is = some-inner s slot is
got-slot (Refused pages) slot is = absurd cc

got-is : (a : Answer ObjectSlot) (slot : ObjectSlot) → slot_in a ≡ Some slot → IsGot a
got-is (Got s left) slot is = tt
got-is (Refused pages) slot is = absurd cc

pub got-left : (a : Answer ObjectSlot) (slot : ObjectSlot) → slot_in a ≡ Some slot → (left : Spaces) × (a ≡ got_slot slot left)
got-left (Got s left) slot is = (left, ap (λ x. got_slot x left) (some-inner s slot is))
got-left (Refused pages) slot is = absurd cc

refused-is : (a : Answer ObjectSlot) (pages : ℕ) → pages_in a ≡ Some pages → IsRefused pages a
refused-is (Got s left) pages is = absurd cc
refused-is (Refused k) pages is = some-inner k pages is

-- a threshold that a command may name is one that may be asked for
pub names-asks : (e : Edit) → NamesThreshold e → AsksThreshold e
names-asks (Create None) names = tt
names-asks (Create (Some t)) names = names.0
names-asks Destroy names = tt
names-asks (Append p) names = tt
names-asks (Insert at p) names = tt
names-asks (Delete at n) names = tt
names-asks (Replace at p) names = tt

-- an edit that is done is one that the object takes
within-done : (end len : ℕ) → outcome_within end len ≡ Done → nat_le end len ≡ true
within-done end len done = by (nat_le end len) done
  where
    by : (b : Bool) → (if b then Done else Range len) ≡ Done → b ≡ true
    by true done = refl
    by false done = absurd cc

accepts-done : (e : Edit) (len : Option ℕ) → outcome_of e len ≡ Done → accepts len e ≡ true
accepts-done (Create t) None done = refl
accepts-done Destroy None done = absurd cc
accepts-done (Append p) None done = absurd cc
accepts-done (Insert at p) None done = absurd cc
accepts-done (Delete at n) None done = absurd cc
accepts-done (Replace at p) None done = absurd cc
accepts-done (Create t) (Some len) done = absurd cc
accepts-done Destroy (Some len) done = refl
accepts-done (Append p) (Some len) done = refl
accepts-done (Insert at p) (Some len) done = within-done at len done
accepts-done (Delete at n) (Some len) done = within-done (at + n) len done
accepts-done (Replace at p) (Some len) done = within-done (at + length p) len done

ok-slot : (laid : Lays) (n : Numbers) (moment : Moment) (s o p : ℕ) (f e : Edit) → p ≡ o → f ≡ e
    → with_object_slot moment o (slot_got (answer_to laid n moment s o e)) ≡ with_object_slot moment p (slot_got
    (answer_to laid n moment s p f))
ok-slot laid n moment s o p f e same edit =
    ap (λ q. with_object_slot moment q (slot_got (answer_to laid n moment s q e))) (sym same)
    ∙ ap (λ h. with_object_slot moment p (slot_got (answer_to laid n moment s p h))) (sym edit)

-- `ok` to an edit moves the moment to what is laid out
ok-moves : (laid : Lays) (n : Numbers) (past : List Event) (moment : Moment) (s o : ℕ) (c : Command) (e : Edit) → object_of c ≡ Some o
    → edit_of c ≡ Some e
    → with_object_slot moment o (slot_got (answer_to laid n moment s o e)) ≡ moment_after laid n past moment (event_of s c reply.Ok)
unfolding moment_after
ok-moves laid n past moment s o (command.Create p t) e on is = ok-slot laid n moment s o p (Create t) e (some-inner p o on) (some-inner
    (Create t) e is)
ok-moves laid n past moment s o (command.Destroy p) e on is = ok-slot laid n moment s o p Destroy e (some-inner p o on)
    (some-inner Destroy e is)
ok-moves laid n past moment s o (command.Append p b) e on is = ok-slot laid n moment s o p _ e (some-inner p o on) (same_Some _ e is)
ok-moves laid n past moment s o (command.Insert p at b) e on is = ok-slot laid n moment s o p _ e (some-inner p o on) (same_Some _ e is)
ok-moves laid n past moment s o (command.Delete p at k) e on is = ok-slot laid n moment s o p (Delete at k) e (some-inner p o on)
    (some-inner (Delete at k) e is)
ok-moves laid n past moment s o (command.Replace p at b) e on is = ok-slot laid n moment s o p _ e (some-inner p o on) (same_Some _ e is)
ok-moves laid n past moment s o (command.Length p) e on is = absurd cc
ok-moves laid n past moment s o (command.Read p at k) e on is = absurd cc
ok-moves laid n past moment s o command.Begin e on is = absurd cc
ok-moves laid n past moment s o command.Commit e on is = absurd cc
ok-moves laid n past moment s o command.Abort e on is = absurd cc
ok-moves laid n past moment s o command.Status e on is = absurd cc

-- a reply that isn't `ok`, to a command on an object at hand
agrees-hand : (laid : Lays) (n : Numbers) (moment : Moment) (s : ℕ) (c : Command) (r : Reply) → IsAtHand r → is_ok_reply r ≡ false
    → ((pages : ℕ) → r ≡ reply.NoSpace pages → NoSpaceToEdit laid n moment s pages (object_of c) (edit_of c)) → Agrees laid n moment s c r
agrees-hand laid n moment s c reply.Ok hand other space = absurd (false≢true (sym other))
agrees-hand laid n moment s c (reply.NoSpace pages) hand other space = space pages refl
agrees-hand laid n moment s c (reply.Length k) hand other space = tt
agrees-hand laid n moment s c (reply.Bytes x) hand other space = tt
agrees-hand laid n moment s c (reply.Range k) hand other space = tt
agrees-hand laid n moment s c reply.Exists hand other space = tt
agrees-hand laid n moment s c reply.Missing hand other space = tt
agrees-hand laid n moment s c reply.Fault hand other space = tt
agrees-hand laid n moment s c reply.Busy hand other space = tt
agrees-hand laid n moment s c reply.Full hand other space = tt
agrees-hand laid n moment s c reply.NoObject hand other space = tt
agrees-hand laid n moment s c reply.Memory hand other space = tt
agrees-hand laid n moment s c reply.Idle hand other space = tt
agrees-hand laid n moment s c reply.Active hand other space = tt
agrees-hand laid n moment s c reply.TooLong hand other space = tt
agrees-hand laid n moment s c reply.Worn hand other space = tt
agrees-hand laid n moment s c (reply.Status f l h) hand other space = elim hand [
  | inl memory ↦ absurd cc
  | inr some ↦ elim some [ inl own ↦ absurd (false≢true own) | inr takes ↦ absurd (false≢true takes) ]
]
agrees-hand laid n moment s c reply.Again hand other space = tt

-- on an object, an edit
to-edit : (laid : Lays) (n : Numbers) (moment : Moment) (s o : ℕ) (c : Command) (e : Edit) → object_of c ≡ Some o → edit_of c ≡ Some e
    → OkToEdit laid n moment s (Some o) (Some e) → OkToEdit laid n moment s (object_of c) (edit_of c)
to-edit laid n moment s o c e on is ok =
    subst (λ (q : Option ℕ). OkToEdit laid n moment s q (edit_of c)) (sym on)
    (subst (λ (t : Option Edit). OkToEdit laid n moment s (Some o) t) (sym is) ok)

to-refuse : (laid : Lays) (n : Numbers) (moment : Moment) (s pages o : ℕ) (c : Command) (e : Edit) → object_of c ≡ Some o
    → edit_of c ≡ Some e → NoSpaceToEdit laid n moment s pages (Some o) (Some e)
    → NoSpaceToEdit laid n moment s pages (object_of c) (edit_of c)
to-refuse laid n moment s pages o c e on is refused =
    subst (λ (q : Option ℕ). NoSpaceToEdit laid n moment s pages q (edit_of c)) (sym on)
    (subst (λ (t : Option Edit). NoSpaceToEdit laid n moment s pages (Some o) t) (sym is) refused)

-- The moment before the command, as the told spaces and the object show it.
pub record IsShown (n : Numbers) (start s o : ℕ) (moment : Moment) (views : List SpaceView) (x : Shown) (before : Works) : Type 0 where
  pub told : AreTold before.spaces.rest views
  pub many : length views ≡ count before.spaces.rest
  pub of_store : x.form.numbers ≡ n
  pub from : start ≡ start_space n s
  pub has_free : free_sets views ≡ free_of n moment
  pub has_slot : x.told.slot ≡ object_slot moment o

-- what the kind lays out there is what the moment answers
shown-answer : (laid : Lays) (n : Numbers) (start s o : ℕ) (moment : Moment) (views : List SpaceView) (x : Shown) (before : Works)
    (e : Edit)
    → IsShown n start s o moment views x before
    → laid x.form.numbers start (free_sets views) x.told.slot e ≡ answer_to laid n moment s o e
shown-answer laid n start s o moment views x before e shown =
    ap (λ m. laid m start (free_sets views) x.told.slot e) shown.of_store
    ∙ ap (λ k. laid n k (free_sets views) x.told.slot e) shown.from
    ∙ ap (λ f. laid n (start_space n s) f x.told.slot e) shown.has_free
    ∙ ap (λ t. laid n (start_space n s) (free_of n moment) t e) shown.has_slot

-- an object that stayed leaves the moment
pub moment-same : (o : ℕ) (moment : Moment) (x y : Contents) → y ≡ x → x.slot ≡ object_slot moment o
    → with_object_slot moment o y.slot ≡ moment
moment-same o moment x y same is =
    ap (with_object_slot moment o) (ap (λ (t : Contents). t.slot) same ∙ is) ∙ set-get_or moment o absent_slot

-- the moment goes on
pub moves-still : (laid : Lays) (n : Numbers) (start s o : ℕ) (past : List Event) (moment : Moment) (c : Command) (r : Reply) (x y : Shown)
    (before after : Works) → x.told.slot ≡ object_slot moment o → IsStill laid start c r x y before after
    → with_object_slot moment o y.told.slot ≡ moment_after laid n past moment (event_of s c r)
moves-still laid n start s o past moment c r x y before after is still =
    moment-same o moment x.told y.told still.same is ∙ unmoved laid n s past moment c r still.not_ok

pub agrees-still : (laid : Lays) (n : Numbers) (start s o : ℕ) (moment : Moment) (views : List SpaceView) (c : Command)
    (r : Reply) (x y : Shown) (before after : Works) → RefusesTaken laid → object_of c ≡ Some o
    → IsShown n start s o moment views x before → IsAtHand r → IsStill laid start c r x y before after → Agrees laid n moment s c r
agrees-still laid n start s o moment views c r x y before after refuses on shown hand still =
    agrees-hand laid n moment s c r hand still.not_ok (λ pages is.
    let was : WasRefused laid start c x before pages = still.refused pages is in
    let refused : pages_in (answer_to laid n moment s o was.edit) ≡ Some pages =
    ap pages_in (sym (shown-answer laid n start s o moment views x before was.edit shown)) ∙ was.refused views shown.told shown.many in
    to-refuse laid n moment s pages o c was.edit on was.is (
      refuses n (start_space n s) (free_of n moment) (object_slot moment o) was.edit pages refused,
      refused-is (answer_to laid n moment s o was.edit) pages refused,
    ))

-- an outcome that isn't `Done` isn't answered `ok`
not-ok : (outcome : Outcome) → (outcome ≡ Done → ⊥) → is_ok_reply (reply_of outcome) ≡ false
not-ok Done other = absurd (other refl)
not-ok Exists other = refl
not-ok Missing other = refl
not-ok (Range n) other = refl

-- what is laid out, as the moment answers it
pub laid-answer : (laid : Lays) (n : Numbers) (start s o : ℕ) (moment : Moment) (views : List SpaceView) (c : Command) (r : Reply)
    (x y : Shown) (before after : Works) → IsShown n start s o moment views x before
    → (out : IsLaidOut laid start c r x y before after) → slot_in (answer_to laid n moment s o out.edit) ≡ Some y.told.slot
laid-answer laid n start s o moment views c r x y before after shown out =
    ap slot_in (sym (shown-answer laid n start s o moment views x before out.edit shown)) ∙ out.slot views shown.told shown.many

pub moves-laid : (laid : Lays) (n : Numbers) (start s o : ℕ) (past : List Event) (moment : Moment) (views : List SpaceView) (c : Command)
    (r : Reply) (x y : Shown) (before after : Works) → object_of c ≡ Some o → IsShown n start s o moment views x before
    → IsLaidOut laid start c r x y before after
    → with_object_slot moment o y.told.slot ≡ moment_after laid n past moment (event_of s c r)
moves-laid laid n start s o past moment views c r x y before after on shown out = elim (cases_done out.outcome) [
  | inl done ↦
      ap (with_object_slot moment o) (sym (got-slot (answer_to laid n moment s o out.edit) y.told.slot
      (laid-answer laid n start s o moment views c r x y before after shown out)))
      ∙ ok-moves laid n past moment s o c out.edit on out.is
      ∙ ap (λ t. moment_after laid n past moment (event_of s c t)) (sym (out.reply ∙ ap reply_of done))
  | inr other ↦
      moment-same o moment x.told y.told (out.unmade other) shown.has_slot
      ∙ unmoved laid n s past moment c r (ap is_ok_reply out.reply ∙ not-ok out.outcome other)
]

pub agrees-laid : (laid : Lays) (suits : Contents → Type 0) (n : Numbers) (start s o : ℕ) (moment : Moment)
    (views : List SpaceView) (c : Command) (r : Reply) (x y : Shown) (before after : Works) → HaveLengthsBy suits
    → AreTied suits x.form x.told → object_of c ≡ Some o → IsShown n start s o moment views x before
    → IsLaidOut laid start c r x y before after → Agrees laid n moment s c r
agrees-laid laid suits n start s o moment views c r x y before after lengths tied on shown out = elim (cases_done out.outcome) [
  | inl done ↦
      let takes : accepts x.form.working out.edit ≡ true = accepts-done out.edit x.form.working (sym out.by_length ∙ done) in
      let long : version_bytes (object_slot moment o).working ≡ x.form.working =
      ap (λ (t : ObjectSlot). version_bytes t.working) (sym shown.has_slot) ∙ (lengths x.told tied.kind).working ∙ sym tied.working in
      let accepted : is_accepted moment o out.edit ≡ true = ap (λ len. accepts len out.edit) long ∙ takes in
      subst (Agrees laid n moment s c) (sym (out.reply ∙ ap reply_of done))
      (to-edit laid n moment s o c out.edit on out.is (
        accepted,
        got-is (answer_to laid n moment s o out.edit) y.told.slot
            (laid-answer laid n start s o moment views c r x y before after shown out),
      ))
  | inr other ↦
      let own : IsTrue (is_objects_own r) = subst (λ t. IsTrue (is_objects_own t)) (sym out.reply) (outcome-own out.outcome) in
      agrees-hand laid n moment s c r (inr (inl own)) (ap is_ok_reply out.reply ∙ not-ok out.outcome other)
      (λ pages is. absurd (own-no_space r pages own is))
]

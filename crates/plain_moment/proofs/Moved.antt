-- How a command moves the moment, where who holds what is known.
use Rattle.std.proofs.Common.{◌≡◌, ℕ, suc, Bool, true, false, List, [], ◌∷◌, Option, Some, None, IsTrue, map}
use Rattle.std.proofs.Common.{if◌then◌else◌, refl, sym, ap, subst, ◌∙◌}
use Rattle.geometry_model.specs.Numbers.{Numbers}
use Rattle.eos_ops.specs.declared.command.Command.{Command}
use Rattle.eos_ops.specs.declared.command.Command.TheVariants.{Begin, Create, Destroy, Length, Read, Append, Insert}
use Rattle.eos_ops.specs.declared.command.Command.TheVariants.{Delete, Replace, Commit, Abort, Status}
use Rattle.eos_ops.specs.declared.edit.Edit.{Edit}
use Rattle.eos_ops.specs.declared.reply.Reply.{Reply}
use Rattle.eos_ops.specs.declared.reply.Reply.TheVariants as reply
use Rattle.eos_ops.specs.Objects.{object_of, edit_of}
use Rattle.history.specs.Event.{Event}
use Rattle.history.specs.Holding.{holds}
use Rattle.layout_model.specs.Grants.{Spaces}
use Rattle.layout_model.specs.Grants.Answer.{Got, Refused}
use Rattle.machine.specs.Machine.{Machine, no_slot, is_holder}
use Rattle.machine.proofs.Places.{get_or_map}
use Rattle.moment_model.specs.Moment.{ObjectSlot, Moment, with_object_slot, object_slot}
use Rattle.moment_model.specs.Edit.{Effect, Refuses, Stays, Becomes, Changes, accepts, effect_on, after_effect}
use Rattle.moment_model.specs.Edit.{edited_slot, is_effective, settled, undone}
use Rattle.moment_model.specs.Version.{version_bytes}
use Rattle.moment_model.specs.Run.{changed_where, answer_to, slot_got, IsGot, IsRefused, after_edit, after_ok}
use Rattle.moment_model.specs.Run.{is_accepted, is_ok_reply, moment_after, OkToEdit, NoSpaceToEdit, Agrees}
use Rattle.effect_laws.proofs.EffectLemmas.{effect-accepted}
use Rattle.plain_moment.specs.Holders.{holder_of, ended_by}
use Rattle.plain_moment.specs.Stored.{holder_in, is_bare}
use Rattle.store_model.specs.Store.{HoldsBy, event_of}
use Rattle.base_laws.proofs.OptionLaws.{same_branches}

changed_same : (f g : ℕ → Bool) (change : ObjectSlot → ObjectSlot) → ((o : ℕ) → f o ≡ g o) →
    (from : ℕ) (slots : Moment) → changed_where f change from slots ≡ changed_where g change from slots
changed_same f g change same from [] = refl
changed_same f g change same from (slot ∷ rest) =
    ap (λ b. (if b then change slot else slot) ∷ changed_where f change (suc from) rest) (same from)
    ∙ ap (λ t. (if g from then change slot else slot) ∷ t) (changed_same f g change same (suc from) rest)

holder_same : (s : ℕ) (past : List Event) (m : Machine) → HoldsBy s past m → (o : ℕ) →
    is_holder s (holder_of (map holder_in m.slots) o) ≡ holds s o past
holder_same s past m by o = ap (is_holder s) (get_or_map holder_in m.slots o no_slot) ∙ sym (by o)

-- the end of a transaction, by the holders of the machine
pub committed_moved : (n : Numbers) (s : ℕ) (past : List Event) (m : Machine) (moment : Moment) → HoldsBy s past m →
    ended_by s true (map holder_in m.slots) moment ≡ moment_after edited_slot n past moment (event_of s Commit reply.Ok)
unfolding moment_after
committed_moved n s past m moment by = changed_same _ (λ o. holds s o past) settled (holder_same s past m by) 0 moment

pub aborted_moved : (n : Numbers) (s : ℕ) (past : List Event) (m : Machine) (moment : Moment) → HoldsBy s past m →
    ended_by s false (map holder_in m.slots) moment ≡ moment_after edited_slot n past moment (event_of s Abort reply.Ok)
unfolding moment_after
aborted_moved n s past m moment by = changed_same _ (λ o. holds s o past) undone (holder_same s past m by) 0 moment

-- a begin moves nothing, whatever it is answered
pub begun_moved : (n : Numbers) (s : ℕ) (past : List Event) (moment : Moment) (r : Reply) →
    moment ≡ moment_after edited_slot n past moment (event_of s Begin r)
unfolding moment_after
begun_moved n s past moment r = sym (same_branches (is_ok_reply r) moment)

-- nothing but `ok` moves the moment
pub unmoved : (n : Numbers) (s : ℕ) (past : List Event) (moment : Moment) (c : Command) (r : Reply) →
    is_ok_reply r ≡ false → moment ≡ moment_after edited_slot n past moment (event_of s c r)
unfolding moment_after
unmoved n s past moment c r other = sym (ap (λ b. if b then after_ok edited_slot n past moment s c else moment) other)

-- a command that edits nothing leaves its object where it stands
unedited_ok : (n : Numbers) (s : ℕ) (past : List Event) (moment : Moment) (c : Command) (o : ℕ) →
    object_of c ≡ Some o → edit_of c ≡ None → after_ok edited_slot n past moment s c ≡ moment
unedited_ok n s past moment Begin o on none = refl
unedited_ok n s past moment (Create p t) o on none = cc
unedited_ok n s past moment (Destroy p) o on none = cc
unedited_ok n s past moment (Length p) o on none = refl
unedited_ok n s past moment (Read p at k) o on none = refl
unedited_ok n s past moment (Append p q) o on none = cc
unedited_ok n s past moment (Insert p at q) o on none = cc
unedited_ok n s past moment (Delete p at k) o on none = cc
unedited_ok n s past moment (Replace p at q) o on none = cc
unedited_ok n s past moment Commit o on none = cc
unedited_ok n s past moment Abort o on none = cc
unedited_ok n s past moment Status o on none = refl

pub unedited_moved : (n : Numbers) (s : ℕ) (past : List Event) (moment : Moment) (c : Command) (r : Reply) (o : ℕ) →
    object_of c ≡ Some o → edit_of c ≡ None → moment ≡ moment_after edited_slot n past moment (event_of s c r)
unfolding moment_after
unedited_moved n s past moment c r o on none =
    sym (ap (λ t. if is_ok_reply r then t else moment) (unedited_ok n s past moment c o on none) ∙ same_branches (is_ok_reply r) moment)

-- an edit that is answered `ok` puts the object's slot where it was laid
edited_ok : (n : Numbers) (s : ℕ) (past : List Event) (moment : Moment) (c : Command) (e : Edit) →
    edit_of c ≡ Some e → after_ok edited_slot n past moment s c ≡ after_edit edited_slot n moment s (object_of c)
    (edit_of c)
edited_ok n s past moment Begin e is = cc
edited_ok n s past moment (Create p t) e is = refl
edited_ok n s past moment (Destroy p) e is = refl
edited_ok n s past moment (Length p) e is = refl
edited_ok n s past moment (Read p at k) e is = refl
edited_ok n s past moment (Append p q) e is = refl
edited_ok n s past moment (Insert p at q) e is = refl
edited_ok n s past moment (Delete p at k) e is = refl
edited_ok n s past moment (Replace p at q) e is = refl
edited_ok n s past moment Commit e is = cc
edited_ok n s past moment Abort e is = cc
edited_ok n s past moment Status e is = cc

pub edited_moved : (n : Numbers) (s : ℕ) (past : List Event) (moment : Moment) (c : Command) (o : ℕ) (e : Edit)
    (slot : ObjectSlot) (left : Spaces) →
    object_of c ≡ Some o → edit_of c ≡ Some e → Got slot left ≡ answer_to edited_slot n moment s o e →
    with_object_slot moment o slot ≡ moment_after edited_slot n past moment (event_of s c reply.Ok)
unfolding moment_after
edited_moved n s past moment c o e slot left on is got = sym (
    edited_ok n s past moment c e is
    ∙ (ap (λ t. after_edit edited_slot n moment s t (edit_of c)) on
    ∙ (ap (λ t. after_edit edited_slot n moment s (Some o) t) is
    ∙ ap (λ t. with_object_slot moment o (slot_got t)) (sym got))))

-- a reply that says nothing of the pages agrees with every moment, where an `ok` does
pub agrees_bare : (n : Numbers) (moment : Moment) (s : ℕ) (c : Command) (r : Reply) → IsTrue (is_bare r) →
    (is_ok_reply r ≡ true → OkToEdit edited_slot n moment s (object_of c) (edit_of c)) →
    Agrees edited_slot n moment s c r
agrees_bare n moment s c reply.Ok bare ok = ok refl
agrees_bare n moment s c (reply.Length k) bare ok = tt
agrees_bare n moment s c (reply.Bytes x) bare ok = tt
agrees_bare n moment s c (reply.Range k) bare ok = tt
agrees_bare n moment s c reply.Exists bare ok = tt
agrees_bare n moment s c reply.Missing bare ok = tt
agrees_bare n moment s c (reply.NoSpace k) bare ok = absurd (cc)
agrees_bare n moment s c reply.Fault bare ok = tt
agrees_bare n moment s c reply.Busy bare ok = tt
agrees_bare n moment s c reply.Full bare ok = tt
agrees_bare n moment s c reply.NoObject bare ok = tt
agrees_bare n moment s c reply.Memory bare ok = tt
agrees_bare n moment s c reply.Idle bare ok = tt
agrees_bare n moment s c reply.Active bare ok = tt
agrees_bare n moment s c reply.TooLong bare ok = tt
agrees_bare n moment s c reply.Worn bare ok = tt
agrees_bare n moment s c (reply.Status f l h) bare ok = absurd (cc)
agrees_bare n moment s c reply.Again bare ok = tt

pub ok_unedited : (n : Numbers) (moment : Moment) (s : ℕ) (t : Option ℕ) (e : Option Edit) → e ≡ None → OkToEdit edited_slot n moment s t e
ok_unedited n moment s None e none = tt
ok_unedited n moment s (Some o) None none = tt
ok_unedited n moment s (Some o) (Some e) none = absurd (cc)

pub ok_edited : (n : Numbers) (moment : Moment) (s o : ℕ) (e : Edit) (t : Option ℕ) (u : Option Edit)
    (slot : ObjectSlot) (left : Spaces) → t ≡ Some o → u ≡ Some e → is_accepted moment o e ≡ true →
    Got slot left ≡ answer_to edited_slot n moment s o e → OkToEdit edited_slot n moment s t u
ok_edited n moment s o e t u slot left on is accepted got =
    subst (λ x. OkToEdit edited_slot n moment s x u) (sym on)
    (subst (λ x. OkToEdit edited_slot n moment s (Some o) x) (sym is) (accepted, subst IsGot got tt))

-- what is refused pages is no refusal of the object
effective_by : (n : Numbers) (start : ℕ) (free : Spaces) (slot : ObjectSlot) (effect : Effect) (pages : ℕ) →
    Refused pages ≡ after_effect n start free slot effect → IsTrue (is_effective effect)
effective_by n start free slot Refuses pages denied = absurd (cc)
effective_by n start free slot Stays pages denied = refl
effective_by n start free slot (Becomes version) pages denied = refl
effective_by n start free slot (Changes tree change) pages denied = refl

effective : (n : Numbers) (start : ℕ) (free : Spaces) (slot : ObjectSlot) (e : Edit) (pages : ℕ) →
    Refused pages ≡ edited_slot n start free slot e → IsTrue (accepts (version_bytes slot.working) e)
unfolding edited_slot
effective n start free slot e pages denied =
    sym (effect-accepted n e slot.working) ∙ effective_by n start free slot (effect_on n e slot.working) pages denied

pub nospace_agrees : (n : Numbers) (moment : Moment) (s o : ℕ) (c : Command) (e : Edit) (pages : ℕ) →
    object_of c ≡ Some o → edit_of c ≡ Some e → Refused pages ≡ answer_to edited_slot n moment s o e →
    Agrees edited_slot n moment s c (reply.NoSpace pages)
nospace_agrees n moment s o c e pages on is denied =
    subst (λ x. NoSpaceToEdit edited_slot n moment s pages x (edit_of c)) (sym on)
    (subst (λ x. NoSpaceToEdit edited_slot n moment s pages (Some o) x) (sym is)
    (effective n _ _ (object_slot moment o) e pages denied, subst (IsRefused pages) denied refl))

-- The end of a transaction, walked object by object: the moment stays sound, and the spaces have its pages.
use Rattle.std.proofs.Common.{◌≡◌, ◌≢◌, ℕ, ◌<◌, Bool, true, false, List, [], ◌∷◌, length, Some, None, nat_eq}
use Rattle.std.proofs.Common.{refl, ap, sym, ◌∙◌, subst, arith, inl, inr}
use Rattle.std.specs.Prelude.{IsTrue}
use Rattle.std.proofs.lemmas.Bool.{cases_eq, eq-eqb, ne_eqb}
use Rattle.std.proofs.lemmas.List.{get_or-set_same, get_or-set_other, length-set}
use Rattle.change_laws.specs.Tail.{HaveTails, IsTail}
use Rattle.geometry_model.specs.Numbers.{Numbers}
use Rattle.layout_model.specs.Layout.{Tree}
use Rattle.moment_model.specs.Edit.{settled, undone}
use Rattle.moment_model.specs.Moment.{Moment, ObjectSlot, IsSound, object_slot, with_object_slot, absent_slot}
use Rattle.moment_laws.specs.Change.{held_without}
use Rattle.moment_laws.proofs.EndLemmas.{sound-settled_one, sound-undone_one}
use Rattle.object_body.specs.Form.{Form, Contents}
use Rattle.object_body.specs.Moves.{MovesTold}
use Rattle.object_body.specs.Places.{IsStore, AreHome}
use Rattle.shadow_txn.specs.declared.held.Held.{Held}
use Rattle.shadow_txn.specs.Held.{held_object, AreDistinct}
use Rattle.shadow_txn.proofs.EndingLemmas.{found_later}
use Rattle.space_directory.specs.SpaceView.{SpaceView}
use Rattle.superdirectory.specs.Grants.{AreTold}
use Rattle.superdirectory.specs.Rest.{Rest}
use Rattle.body_txn.specs.Ending.{Standing, IsEndStep, EndInTurn, end_contents}
use Rattle.body_world.proofs.SpaceSets.{HavePages, object-fits, moved-pages}

-- a slot at the end of its transaction
abbrev pub end_slot : Bool → ObjectSlot → ObjectSlot
end_slot true slot = settled slot
end_slot false slot = undone slot

-- the moment in which the held objects have ended one after the other, the last one first
abbrev pub ended_each : {T : Type 0} → Bool → List (Held T) → Moment → Moment
ended_each committed [] moment = moment
ended_each committed (h ∷ held) moment =
    with_object_slot (ended_each committed held moment) h.number
    (end_slot committed (object_slot (ended_each committed held moment) h.number))

-- what is held still, when these are let go
abbrev pub still_without : {T : Type 0} → (ℕ → Bool) → List (Held T) → ℕ → Bool
still_without test [] = test
still_without test (h ∷ held) = held_without (still_without test held) (λ q. nat_eq q h.number)

-- the moment is sound, and the told spaces of the store have its pages
pub record HasRoles (good : Numbers → Tree → Type 0) (n : Numbers) (still : ℕ → Bool) (moment : Moment) (rest : Rest) : Type 0 where
  pub views : List SpaceView
  pub told : AreTold rest views
  pub home : AreHome rest.frame views
  pub store : IsStore n rest.frame
  pub sound : IsSound good n still moment
  pub tails : HaveTails n moment
  pub has : HavePages n views moment

pub length-ended : {T : Type 0} (committed : Bool) (held : List (Held T)) (moment : Moment)
    → length (ended_each committed held moment) ≡ length moment
length-ended committed [] moment = refl
length-ended committed (h ∷ held) moment =
    length-set (ended_each committed held moment) h.number (end_slot committed (object_slot (ended_each committed held moment) h.number))
    ∙ length-ended committed held moment

-- what a longer list doesn't hold, the rest of it doesn't
not-held : {T : Type 0} (h : Held T) (held : List (Held T)) (o : ℕ) → held_object o (h ∷ held) ≡ None
    → (h.number ≢ o) × (held_object o held ≡ None)
not-held {T} h held o none = by (nat_eq h.number o) refl none
  where
    by : (b : Bool) → nat_eq h.number o ≡ b → held_object o (h ∷ held) ≡ None → (h.number ≢ o) × (held_object o held ≡ None)
    by true is none = let wrong : Some h.object ≡ None = sym (rw is refl) ∙ none in absurd cc
    by false is none = (
      λ e. let same : nat_eq h.number o ≡ true = eqb_of e in absurd cc,
      sym (rw is refl) ∙ none,
    )
      where
        eqb_of : h.number ≡ o → nat_eq h.number o ≡ true
        eqb_of e = eq-eqb h.number o e

-- an object that isn't held is as before
pub ended-other : {T : Type 0} (committed : Bool) (held : List (Held T)) (moment : Moment) (o : ℕ) → held_object o held ≡ None
    → object_slot (ended_each committed held moment) o ≡ object_slot moment o
ended-other committed [] moment o none = refl
ended-other committed (h ∷ held) moment o none =
    let away = not-held h held o none in
    get_or-set_other (ended_each committed held moment) h.number o
    (end_slot committed (object_slot (ended_each committed held moment) h.number)) absent_slot (λ e. away.0 (sym e))
    ∙ ended-other committed held moment o away.1

pub slot-ended : (committed : Bool) (told : Contents) → (end_contents committed told).slot ≡ end_slot committed told.slot
slot-ended true told = refl
slot-ended false told = refl

sound-ended_one : (good : Numbers → Tree → Type 0) (n : Numbers) (held : ℕ → Bool) (committed : Bool) (moment : Moment) (o : ℕ)
    → IsSound good n held moment
    → IsSound good n (held_without held (λ q. nat_eq q o)) (with_object_slot moment o (end_slot committed (object_slot moment o)))
sound-ended_one good n held true moment o sound = sound-settled_one good n held moment o sound
sound-ended_one good n held false moment o sound = sound-undone_one good n held moment o sound

tail-ended : (n : Numbers) (committed : Bool) (slot : ObjectSlot) →
    IsTail n (end_slot committed slot).working (end_slot committed slot).spare
tail-ended n true slot = tt
tail-ended n false slot = tt

tails-ended_one : (n : Numbers) (committed : Bool) (moment : Moment) (o : ℕ) → o < length moment → HaveTails n moment
    → HaveTails n (with_object_slot moment o (end_slot committed (object_slot moment o)))
tails-ended_one n committed moment o within tails q =
    elim (cases_eq q o) [
      | inl this ↦
          subst (λ (slot : ObjectSlot). IsTail n slot.working slot.spare)
          (sym (ap (object_slot (with_object_slot moment o (end_slot committed (object_slot moment o)))) this
          ∙ get_or-set_same moment o (end_slot committed (object_slot moment o)) absent_slot within))
          (tail-ended n committed (object_slot moment o))
      | inr other ↦
          subst (λ (slot : ObjectSlot). IsTail n slot.working slot.spare)
          (sym (get_or-set_other moment o q (end_slot committed (object_slot moment o)) absent_slot other)) (tails q)
    ]

-- one object ends
pub end-one : (tells : Bool) (suits : Contents → Type 0) (good : Numbers → Tree → Type 0) (n : Numbers) (still : ℕ →
    Bool) (committed : Bool)
    (form : Form) (told : Contents) (moment : Moment) (o : ℕ) (before after : Standing)
    → IsTrue tells → form.numbers ≡ n → told.slot ≡ object_slot moment o → o < length moment
    → HasRoles good n still moment before.rest → IsEndStep tells suits committed form told before after
    → HasRoles good n (held_without still (λ q. nat_eq q o)) (with_object_slot moment o (end_slot committed
    (object_slot moment o))) after.rest
end-one tells suits good n still committed form told moment o before after tell of is within roles step =
    let slot : ObjectSlot = end_slot committed (object_slot moment o) in
    let moves : MovesTold form.numbers before.rest.frame roles.views told.slot (end_contents committed told).slot after.rest =
    step.body.spaces tell roles.views roles.told roles.home in
    let moves_n : MovesTold n before.rest.frame roles.views (object_slot moment o) slot after.rest =
    subst (λ m. MovesTold m before.rest.frame roles.views (object_slot moment o) slot after.rest) of
    (subst (λ new. MovesTold form.numbers before.rest.frame roles.views (object_slot moment o) new after.rest)
    (slot-ended committed told ∙ ap (end_slot committed) is)
    (subst (λ old. MovesTold form.numbers before.rest.frame roles.views old (end_contents committed told).slot after.rest) is moves)) in
    let sound = sound-ended_one good n still committed moment o roles.sound in
    record {
      views = moves_n.after;
      told = moves_n.told;
      home = subst (λ frame. AreHome frame moves_n.after) (sym step.body.rest.frame) moves_n.home;
      store = subst (IsStore n) (sym step.body.rest.frame) roles.store;
      sound = sound;
      tails = tails-ended_one n committed moment o within roles.tails;
      has = moved-pages good n still (held_without still (λ q. nat_eq q o)) before.rest.frame moment roles.views moves_n.after o slot
          roles.store moves_n.home roles.sound sound within roles.has
          (moves_n.moves (object-fits good n still moment roles.views o roles.sound roles.has));
    }

-- and all that a transaction holds, one after the other
pub walk : {T : Type 0} (tells : Bool) (suits : Contents → Type 0) (form : T → Form) (contents : T → Contents)
    (good : Numbers → Tree → Type 0) (n : Numbers) (still : ℕ → Bool) (committed : Bool) (held : List (Held T)) (moment : Moment)
    (before after : Standing)
    → IsTrue tells → AreDistinct held
    → ((o : ℕ) (x : T) → held_object o held ≡ Some x → (form x).numbers ≡ n)
    → ((o : ℕ) (x : T) → held_object o held ≡ Some x → (contents x).slot ≡ object_slot moment o)
    → ((o : ℕ) (x : T) → held_object o held ≡ Some x → o < length moment)
    → HasRoles good n still moment before.rest
    → EndInTurn (λ x. IsEndStep tells suits committed (form x) (contents x)) held before after
    → HasRoles good n (still_without still held) (ended_each committed held moment) after.rest
walk tells suits form contents good n still committed [] moment before after tell apart of is within roles turns =
    subst (λ s. HasRoles good n still moment s.rest) (sym turns) roles
walk {T} tells suits form contents good n still committed (h ∷ held) moment before after tell apart of is within roles turns =
    let own : held_object h.number (h ∷ held) ≡ Some h.object = let at : nat_eq h.number h.number ≡ true = eq-eqb h.number h.number refl in
    rw at refl in
    let mid = walk tells suits form contents good n still committed held moment before turns.0 tell apart.1
    (λ o x found. of o x (found_later h held o x apart.0 found)) (λ o x found. is o x (found_later h held o x apart.0 found))
    (λ o x found. within o x (found_later h held o x apart.0 found)) roles turns.1 in
    let here : h.number < length moment = within h.number h.object own in
    end-one tells suits good n (still_without still held) committed (form h.object) (contents h.object) (ended_each committed held moment)
    h.number turns.0 after tell (of h.number h.object own)
    (is h.number h.object own ∙ sym (ended-other committed held moment h.number apart.0))
    (omega (arith, here, length-ended committed held moment)) mid turns.2

-- The end of one object, and of all that a transaction holds.
use Rattle.std.proofs.Common.{◌≡◌, ◌≢◌, ℕ, ◌-◌, ◌<◌, ◌≤◌, List, [], ◌∷◌, ◌++◌, Bool, true, false, refl, ap, sym, ◌∙◌, subst, arith}
use Rattle.std.proofs.Common.{append-nil, append_assoc, Option, Some, None, slice_index_or, if◌then◌else◌}
use Rattle.std.specs.Prelude.{All, IfSome, slice_get, IsSomeAnd, is_some}
use Rattle.std.specs.Option.{option_map}
use Rattle.eos_ops.specs.declared.act.Act.{Act}
use Rattle.eos_ops.specs.declared.end.End.{End}
use Rattle.eos_ops.specs.declared.plain.Plain.{Plain}
use Rattle.eos_ops.specs.Ends.{last_stamp_of}
use Rattle.history.specs.Annals.{IsLegal}
use Rattle.object_body.specs.Form.{Form, Contents}
use Rattle.object_body.specs.Object.{IsLegalBody}
use Rattle.object_body.specs.Places.{IsReady}
use Rattle.object_locks.specs.Shelving.{Shelving, IsPut}
use Rattle.shadow_txn.specs.declared.held.Held.{Held}
use Rattle.shadow_txn.specs.Acts.{Lead}
use Rattle.shadow_txn.specs.Ending.{IsEnding, MayEnd}
use Rattle.shadow_txn.specs.Held.{held_object, acts_in, AreDistinct}
use Rattle.shadow_txn.specs.Transaction.{Transaction, with_end, last_ended, greatest_last, end_stamp, IsSoundTxn}
use Rattle.shadow_txn.proofs.EndingLemmas.{lasts_below, each_held, greatest_below, legal-push, out_after}
use Rattle.shadow_txn.proofs.HalfwayLemmas.{IsHalfway, halfway-home}
use Rattle.shadow_txn.proofs.ServingLemmas.{if_some}
use Rattle.superdirectory.specs.Grants.{KeepsFrame}
use Rattle.superdirectory.specs.Rest.{Rest}
use Rattle.body_txn.specs.Acts.{IsLedBy}
use Rattle.body_txn.specs.Ending.{GotEnd, HasOneEndMore, EndsAreAdded, Standing, EndInTurn, AreReady, IsReadyToEnd, end_form, end_contents}
use Rattle.body_txn.specs.Serving.{CameFrom, ServesTxn}

pub has_ended : {T : Type 0} (tells : Bool) (form : T → Form) (contents : T → Contents) (told : T → Option (List End)) (last : T → ℕ)
    (e : End) (x y : T)
    → GotEnd tells form contents told last e x y → HasOneEndMore tells form contents told last e.stamp e.session e.number e.committed x y
has_ended tells form contents told last e x y got =
    record { end = e; stamped = refl; own = refl; numbered = refl; decided = refl; got = got }

-- an object that is home has the end, where it is told what is home
home_ends : {T : Type 0} (tells : Bool) (form : T → Form) (contents : T → Contents) (told : T → Option (List End)) (last : T → ℕ) (e : End)
    (o : ℕ) (x : T) (home : Option (List (Option T)))
    → IfSome home (λ xs. (y : T) → slice_get xs o ≡ Some (Some y) → GotEnd tells form contents told last e x y)
    → IfSome home (λ xs. (y : T) → slice_get xs o ≡ Some (Some y) → told y ≡ option_map (λ es. es ++ e ∷ []) (told x))
home_ends tells form contents told last e o x None got = tt
home_ends tells form contents told last e o x (Some xs) got = λ y here. (got y here).ends

-- all have gone home, each with the end that its acts make
pub have_ends : {T : Type 0} (tells : Bool) (form : T → Form) (contents : T → Contents) (told : T → Option (List End)) (last : T → ℕ)
    (end : List Act → End) (held : List (Held T)) (old now : Shelving T)
    → IsHalfway (λ o. GotEnd tells form contents told last (end (acts_in o held))) end held [] old now → EndsAreAdded told end held now
have_ends tells form contents told last end held old now half = λ o x found.
    home_ends tells form contents told last (end (acts_in o held)) o x now.home
    (halfway-home (λ q. GotEnd tells form contents told last (end (acts_in q held))) end held old now half o x found)

-- The shelf may take the ends of the transaction.
pub may_end : {T : Type 0} (told : T → Option (List End)) (last : T → ℕ) (t : Transaction T) (stamp : ℕ) (shelf : Shelving T)
    → ServesTxn told last t shelf → t.is_open ≡ true → 1 ≤ t.number → AreDistinct t.held → stamp ≡ end_stamp last t
    → MayEnd stamp t.session t.number shelf
may_end told last t stamp shelf s active number apart e = record {
  own = if_some shelf.session shelf.session refl (λ i own. sym own) s.session;
  past = if_some shelf.log shelf.log refl
      (λ g past.
      let before : last_ended t ≡ t.number - 1 = rw active refl in
      let seen : greatest_last last t.held ≤ g.reach = greatest_below last g.reach t.held
      (each_held (λ o x. last x ≤ g.reach) t.held apart past.seen) in
      (omega (arith, past.number), omega (arith, past.stamp, past.number)))
      s.past;
}

-- the shelf serves the session when its transaction is over
pub serves_ended : {T : Type 0} (told : T → Option (List End)) (last : T → ℕ) (Ended : T → T → Type 0) (t : Transaction T) (stamp : ℕ)
    (old new : Shelving T)
    → ServesTxn told last t old → IsEnding Ended t.held old new → MayEnd stamp t.session t.number new
    → ServesTxn told last (with_end t stamp) new
serves_ended told last Ended t stamp old new s end may = record {
  objects = end.same.objects ∙ s.objects;
  session = if_some old.session new.session end.same.session (λ i own. own) s.session;
  came = λ o x found. absurd cc;
  just = if_some old.session new.session end.same.session
      (λ i free o none. out_after Ended t.held old new o (held_object o t.held) refl (free o) (end.each o)) s.just;
  past = if_some new.log new.log refl (λ g past. record { seen = λ o x found. absurd cc; number = past.0; stamp = past.1 }) may.past;
}

-- an end leaves the numbers of the store, and an object at rest
numbers_same : (committed : Bool) (form : Form) → (end_form committed form).numbers ≡ form.numbers
numbers_same true form = refl
numbers_same false form = refl

rests_then : (committed : Bool) (form : Form) → (end_form committed form).is_resting ≡ true
rests_then true form = refl
rests_then false form = refl

pub numbers_ended : (committed : Bool) (old new : Form) → new ≡ end_form committed old → new.numbers ≡ old.numbers
numbers_ended committed old new is = ap (λ f. f.numbers) is ∙ numbers_same committed old

pub rests_ended : (committed : Bool) (old new : Form) → new ≡ end_form committed old → new.is_resting ≡ true
rests_ended committed old new is = ap (λ f. f.is_resting) is ∙ rests_then committed old

-- the committed bytes after an end
end_committed : (committed : Bool) (told : Contents)
    → (end_contents committed told).committed ≡ (if committed then told.working else told.committed)
end_committed true told = refl
end_committed false told = refl

-- An object whose ends are legal stays so with the end of its transaction.
pub legal_ended : {T : Type 0} (tells : Bool) (suits : Contents → Type 0) (form : T → Form) (contents : T → Contents) (keeps : Bool)
    (told : T → Option (List End)) (last : T → ℕ)
    (first : Plain) (x y : T) (e : End) (ends : Option (List End))
    → told x ≡ ends → is_some (told x) ≡ keeps → IsLegalBody tells (told x) first (contents x)
    → IsLedBy tells suits form contents keeps told last x e.acts → last x < e.stamp
    → GotEnd tells form contents told last e x y → IsLegalBody tells (told y) first (contents y)
legal_ended tells suits form contents keeps told last first x y e None is all legal led above got = λ tell. rw (got.ends, is) tt
legal_ended tells suits form contents keeps told last first x y e (Some es) is all legal led above got = λ tell.
    let yes : keeps ≡ true = sym all ∙ ap is_some is in
    let was : IsLegal first es (contents x).committed = subst (λ o. IfSome o (λ fs. IsLegal first fs (contents x).committed)) is
    (legal tell) in
    let age : last x ≡ last_stamp_of es = subst (λ o. IfSome o (λ fs. last x ≡ last_stamp_of fs)) is led.ages in
    let lead : Lead true (contents x).committed e.acts
    (contents x).working = subst (λ b. Lead b (contents x).committed e.acts (contents x).working) yes (led.lead tell) in
    let kept : (contents y).committed ≡ (if e.committed then (contents x).working else (contents x).committed) =
    ap (λ c. c.committed) (got.bytes tell) ∙ end_committed e.committed (contents x) in
    subst (λ o. IfSome o (λ fs. IsLegal first fs (contents y).committed)) (sym (got.ends ∙ ap (option_map (λ fs. fs ++ e ∷ [])) is))
    (legal-push first (contents x).committed (contents x).working (contents y).committed es e was lead kept (omega (arith, age, above)))

-- the spaces stay those of a store
pub ready_kept : (old new : Rest) (form : Form) → KeepsFrame old new → IsReady form.numbers old → IsReady form.numbers new
ready_kept old new form kept ready = record { store = rw kept.frame ready.store; none = kept.entered }

-- an object waits while another goes home
pub can_wait : {T : Type 0} (ends : Option (List End)) (Made : T → List Act → Type 0) (form : T → Form) (told : T → Option (List End))
    (last spare : T → ℕ) (stamp o : ℕ) (y : T) (h : Held T)
    (before after : Shelving T) (old new : Rest)
    → IsPut ends o y before after → KeepsFrame old new → h.number ≢ o
    → IsReadyToEnd Made form told last spare stamp before old h → IsReadyToEnd Made form told last spare stamp after new h
can_wait ends Made form told last spare stamp o y h before after old new put kept other can = record {
  room = can.room;
  above = can.above;
  present = subst (λ n. h.number < n) (sym put.same.objects) can.present;
  came = subst (λ out. IsSomeAnd out (λ known. IfSome known (λ was. told h.object ≡ Some was))) (sym (put.others h.number other)) can.came;
  led = can.led;
  ready = ready_kept old new (form h.object) kept can.ready;
}

-- all held objects can go home
pub can_end : {T : Type 0} (Made : T → List Act → Type 0) (form : T → Form) (told : T → Option (List End)) (last spare : T → ℕ)
    (capacity stamp : ℕ) (t : Transaction T) (shelf : Shelving T) (rest : Rest)
    → IsSoundTxn spare last Made capacity t → ServesTxn told last t shelf → AreReady form t.held rest
    → stamp ≡ end_stamp last t → All (IsReadyToEnd Made form told last spare stamp shelf rest) t.held
can_end Made form told last spare capacity stamp t shelf rest s serves ready e =
    let came = each_held (λ o x. CameFrom told shelf o x) t.held s.distinct serves.came in
    let there = each_held (λ o x. IsReady (form x).numbers rest) t.held s.distinct ready in
    λ k d within. record {
      room = s.room k d within;
      above = lasts_below last t.stamp stamp t.held e k d within;
      present = subst (λ n. (slice_index_or t.held k d).number < n) (sym serves.objects) (s.present k d within);
      came = came k d within;
      led = s.made k d within;
      ready = there k d within;
    }

-- Those of the held objects that have gone, all but `rest`, took their steps.
pub record HaveGone {T : Type 0} (Step : T → Standing → Standing → Type 0) (held rest : List (Held T)) (old now : Standing) : Type 0 where
  pub gone : List (Held T)
  pub whole : held ≡ rest ++ gone
  pub steps : EndInTurn Step gone old now

pub gone-none : {T : Type 0} (Step : T → Standing → Standing → Type 0) (held : List (Held T)) (s : Standing) → HaveGone Step held held s s
gone-none Step held s = record { gone = []; whole = sym (append-nil held); steps = refl }

pub gone-more : {T : Type 0} (Step : T → Standing → Standing → Type 0) (held rest : List (Held T)) (h : Held T) (old now next : Standing)
    → HaveGone Step held (rest ++ h ∷ []) old now → Step h.object now next → HaveGone Step held rest old next
gone-more Step held rest h old now next gone step = record {
  gone = h ∷ gone.gone;
  whole = gone.whole ∙ append_assoc rest (h ∷ []) gone.gone;
  steps = (now, gone.steps, step);
}

pub gone-all : {T : Type 0} (Step : T → Standing → Standing → Type 0) (held : List (Held T)) (old now : Standing)
    → HaveGone Step held [] old now → EndInTurn Step held old now
gone-all Step held old now gone = subst (λ hs. EndInTurn Step hs old now) (sym gone.whole) gone.steps

-- an end leaves the frame of the spaces
pub turns-keep : {T : Type 0} (Step : T → Standing → Standing → Type 0) (held : List (Held T)) (before after : Standing)
    → ((x : T) (old new : Standing) → Step x old new → KeepsFrame old.rest new.rest) → before.rest.entered ≡ None
    → EndInTurn Step held before after → KeepsFrame before.rest after.rest
turns-keep Step [] before after each none turns =
    record { frame = ap (λ s. s.rest.frame) turns; entered = ap (λ s. s.rest.entered) turns ∙ none }
turns-keep Step (h ∷ held) before after each none turns =
    let earlier = turns-keep Step held before turns.0 each none turns.1 in
    let last = each h.object turns.0 after turns.2 in
    record { frame = last.frame ∙ earlier.frame; entered = last.entered }

-- The end of one object, and the stamp of the end.
use Rattle.std.proofs.Common.{◌≡◌, ◌≢◌, ℕ, ◌+◌, ◌-◌, ◌<◌, ◌≤◌, max, List, [], ◌∷◌, ◌++◌, length, take, Bool, true}
use Rattle.std.proofs.Common.{false, refl, ap, sym, ◌∙◌, subst, arith, Option, Some, None, slice_index_or, nat_eq}
use Rattle.std.proofs.Common.{eq-eqb, if◌then◌else◌}
use Rattle.std.specs.Prelude.{◌==◌, All, IfSome, IsSomeAnd, MatchOption, is_some}
use Rattle.std.specs.Option.{option_map, option_map_or, option_flatten}
use Rattle.std.proofs.Math.Seq.{drop-append_seam}
use Rattle.std.proofs.lemmas.Bool.{ne_eqb}
use Rattle.std.proofs.lemmas.List.{take_more}
use Rattle.std.proofs.lemmas.List.Elements.{All-head, All-tail, All-nil, All-cons, All-pop}
use Rattle.eos_ops.specs.declared.end.End.{End}
use Rattle.eos_ops.specs.declared.plain.Plain.{Plain}
use Rattle.eos_ops.specs.Ends.{last_stamp_of}
use Rattle.history.specs.Annals.{IsLegal, Replays, Rises, after_entry}
use Rattle.history.specs.Serial.{RightAt}
use Rattle.object_locks.specs.Shelving.{Shelving, Log, IsPut, MayReturn, MayAdd, with_put, added_ends}
use Rattle.shadow_txn.specs.declared.held.Held.{Held}
use Rattle.shadow_txn.specs.declared.plain_object.PlainObject.{PlainObject}
use Rattle.shadow_txn.specs.Ending.{HasEnded, IsEnding, IsSameAt, IsEndedAt, HasGot, CanEnd, MayEnd}
use Rattle.shadow_txn.specs.Acts.{Lead, IsLed}
use Rattle.shadow_txn.specs.Held.{held_object, AreDistinct}
use Rattle.shadow_txn.specs.Objects.{working_of, IsLegalObject}
use Rattle.shadow_txn.specs.Serving.{Serves}
use Rattle.shadow_txn.specs.Transaction.{Transaction, with_end, last_ended, greatest_last, end_stamp, IsSoundTxn}
use Rattle.shadow_txn.proofs.ServingLemmas.{if_some}

-- an object whose annals have got an end
pub has_got : {H : Type 0} (told : H → Option (List End)) (last : H → ℕ) (e : End) (x y : PlainObject H) (between : H)
    → y.committed ≡ (if e.committed then working_of x else x.committed) → y.working ≡ None → last y.annals ≡ e.stamp
    → told y.annals ≡ option_map (λ es. es ++ e ∷ []) (told between) → between ≡ x.annals → HasGot told last e x y
has_got told last e x y between kept rests at ends same =
    record { kept = kept; rests = rests; at = at; ends = ends ∙ ap (λ h. option_map (λ es. es ++ e ∷ []) (told h)) same }

pub has_ended : {H : Type 0} (told : H → Option (List End)) (last : H → ℕ) (e : End) (x y : PlainObject H) → HasGot told last e x y
    → HasEnded told last e.stamp e.session e.number e.committed x y
has_ended told last e x y got = record {
  kept = got.kept;
  rests = got.rests;
  at = got.at;
  end = e;
  stamped = refl;
  own = refl;
  numbered = refl;
  decided = refl;
  ends = got.ends;
}

pub greatest_last-push : {T : Type 0} (last : T → ℕ) (held : List (Held T)) (h : Held T) →
    greatest_last last (held ++ h ∷ []) ≡ max (greatest_last last held) (last h.object)
greatest_last-push last [] h = omega arith
greatest_last-push last (k ∷ held) h = omega (arith, greatest_last-push last held h)

-- one object more
pub greatest_last-more : {T : Type 0} (last : T → ℕ) (held : List (Held T)) (i : ℕ) (h : Held T) → i < length held →
    h ≡ slice_index_or held i h
    → greatest_last last (take (i + 1) held) ≡ max (greatest_last last (take i held)) (last h.object)
greatest_last-more last held i h within is =
    ap (greatest_last last) (take_more held i h within ∙ ap (λ k. take i held ++ k ∷ []) (sym is)) ∙ greatest_last-push last (take i held) h

-- each last stamp is below the stamp of the end
pub lasts_below : {T : Type 0} (last : T → ℕ) (own stamp : ℕ) (held : List (Held T)) →
    stamp ≡ max own (greatest_last last held) + 1 → All (λ (h : Held T). last h.object < stamp) held
lasts_below last own stamp [] e = All-nil (λ (h : Held _). last h.object < stamp)
lasts_below last own stamp (k ∷ held) e =
    All-cons (λ (h : Held _). last h.object < stamp) k held (omega arith)
    (lasts_below last (max own (last k.object)) stamp held (omega arith))

pub found_first : {T : Type 0} (k : Held T) (held : List (Held T)) → held_object k.number (k ∷ held) ≡ Some k.object
found_first k held = let same : nat_eq k.number k.number ≡ true = eq-eqb k.number k.number refl in rw same refl

pub found_later : {T : Type 0} (k : Held T) (held : List (Held T)) (o : ℕ) (x : T) → held_object k.number held ≡ None →
    held_object o held ≡ Some x → held_object o (k ∷ held) ≡ Some x
found_later k held o x apart found =
    let other : nat_eq k.number o ≡ false = ne_eqb k.number o (λ e. let at = ap (λ n. held_object n held) e in cc) in rw other found

-- what came of each object is said by place too
pub each_held : {T : Type 0} (P : ℕ → T → Type 0) (held : List (Held T)) → AreDistinct held →
    ((o : ℕ) (x : T) → held_object o held ≡ Some x → P o x) → All (λ (h : Held T). P h.number h.object) held
each_held P [] apart each = All-nil (λ (h : Held _). P h.number h.object)
each_held P (k ∷ held) apart each =
    All-cons (λ (h : Held _). P h.number h.object) k held (each k.number k.object (found_first k held))
    (each_held P held apart.1 (λ o x found. each o x (found_later k held o x apart.0 found)))

found_in : {T : Type 0} (Q : T → Type 0) (b : Bool) (x y : T) (r : Option T) → Q x → (r ≡ Some y → Q y) →
    (if b then Some x else r) ≡ Some y → Q y
found_in Q true x y r here later found = let same : x ≡ y = cc in subst Q same here
found_in Q false x y r here later found = later found

-- what holds of each holds of one that is found
pub found_All : {T : Type 0} (Q : T → Type 0) (held : List (Held T)) (o : ℕ) (x : T) →
    All (λ (h : Held T). Q h.object) held → held_object o held ≡ Some x → Q x
found_All Q [] o x all found = absurd cc
found_All Q (k ∷ held) o x all found =
    found_in Q (k.number == o) k.object x (held_object o held) (All-head (λ (h : Held _). Q h.object) k held all)
    (λ later. found_All Q held o x (All-tail (λ (h : Held _). Q h.object) k held all) later) found

pub greatest_below : {T : Type 0} (last : T → ℕ) (n : ℕ) (held : List (Held T)) →
    All (λ (h : Held T). last h.object ≤ n) held → greatest_last last held ≤ n
greatest_below last n [] all = omega arith
greatest_below last n (k ∷ held) all =
    omega (
      arith,
      All-head (λ (h : Held _). last h.object ≤ n) k held all,
      greatest_below last n held (All-tail (λ (h : Held _). last h.object ≤ n) k held all),
    )

-- The shelf may take the ends of the transaction.
pub may_end : {H : Type 0} (told : H → Option (List End)) (last : H → ℕ) (t : Transaction (PlainObject H))
    (stamp : ℕ) (shelf : Shelving (PlainObject H))
    → Serves told last t shelf → t.is_open ≡ true → 1 ≤ t.number → AreDistinct t.held →
    stamp ≡ end_stamp (λ x. last x.annals) t → MayEnd stamp t.session t.number shelf
may_end told last t stamp shelf s active number apart e = record {
  own = if_some shelf.session shelf.session refl (λ i own. sym own) s.session;
  past = if_some shelf.log shelf.log refl
      (λ g past.
      let before : last_ended t ≡ t.number - 1 = rw active refl in
      let seen : greatest_last (λ x. last x.annals) t.held ≤ g.reach =
      greatest_below (λ x. last x.annals) g.reach t.held
      (each_held (λ o x. last x.annals ≤ g.reach) t.held apart past.seen) in
      (omega (arith, past.number), omega (arith, past.stamp, past.number)))
      s.past;
}

pub out_after : {T : Type 0} (Ended : T → T → Type 0) (held : List (Held T)) (old new : Shelving T) (o : ℕ)
    (r : Option T) → held_object o held ≡ r
    → (held_object o held ≡ None → old.out o ≡ None) → MatchOption r (IsSameAt o old new) (λ x. IsEndedAt Ended o x new) → new.out o ≡ None
out_after Ended held old new o None e free same = same.out ∙ free e
out_after Ended held old new o (Some x) e free end = end.out

-- the shelf serves the session when its transaction is over
pub serves_ended : {H : Type 0} (told : H → Option (List End)) (last : H → ℕ)
    (Ended : PlainObject H → PlainObject H → Type 0) (t : Transaction (PlainObject H)) (stamp : ℕ)
    (old new : Shelving (PlainObject H))
    → Serves told last t old → IsEnding Ended t.held old new → MayEnd stamp t.session t.number new → Serves told last (with_end t stamp) new
serves_ended told last Ended t stamp old new s end may = record {
  objects = end.same.objects ∙ s.objects;
  session = if_some old.session new.session end.same.session (λ i own. own) s.session;
  came = λ o x found. absurd cc;
  just = if_some old.session new.session end.same.session
      (λ i free o none. out_after Ended t.held old new o (held_object o t.held) refl (free o) (end.each o)) s.just;
  past = if_some new.log new.log refl (λ g past. record { seen = λ o x found. absurd cc; number = past.0; stamp = past.1 }) may.past;
}

-- all but the last of a list, and the last
pub popped : {T : Type 0} (P : T → Type 0) (all rest : List T) (h : T) → all ≡ rest ++ h ∷ [] → All P all → All P rest × P h
popped P all rest h e each = All-pop P all rest (Some h) e each

-- the end is the one that an object has more than it came with, where the shelf knows that
pub one_added : (out : Option (Option (List End))) (was now : Option (List End)) (e : End) →
    IsSomeAnd out (λ known. IfSome known (λ ends. was ≡ Some ends))
    → now ≡ option_map (λ es. es ++ e ∷ []) was → added_ends (option_flatten out) now ≡ option_map_or (λ _. e ∷ []) (option_flatten out) []
one_added None was now e came is = absurd came
one_added (Some None) was now e came is = refl
one_added (Some (Some ends)) was now e came is = rw (is, came) (drop-append_seam ends (e ∷ []))

may_add : {T : Type 0} (shelf : Shelving T) (e : End) → MayEnd e.stamp e.session e.number shelf → MayAdd shelf e
may_add shelf e may = record {
  own = may.own;
  number = if_some shelf.log shelf.log refl (λ g past. past.0) may.past;
  stamp = if_some shelf.log shelf.log refl (λ g past. past.1) may.past;
}

-- an object may go back with one end more
pub may_return-one : {T : Type 0} (out : Option (Option (List End))) (was now : Option (List End)) (e : End) (shelf : Shelving T)
    → IsSomeAnd out (λ known. IfSome known (λ ends. was ≡ Some ends)) → now ≡ option_map (λ es. es ++ e ∷ []) was →
    MayEnd e.stamp e.session e.number shelf
    → IsSomeAnd out (MayReturn now shelf)
may_return-one None was now e shelf came is may = came
may_return-one (Some None) was now e shelf came is may = tt
may_return-one (Some (Some ends)) was now e shelf came is may = record {
  added = e ∷ [];
  grown = is ∙ ap (option_map (λ es. es ++ e ∷ [])) came;
  one = omega arith;
  each = All-cons (MayAdd shelf) e [] (may_add shelf e may) (All-nil (MayAdd shelf));
}

past_kept : (known : Option (List End)) (n : ℕ) (e : End) (added : List End) (g : Log) → added ≡ option_map_or (λ _. e ∷ []) known []
    → (g.count ≤ e.number) × (e.stamp ≤ g.reach + (e.number - g.count))
    → ((with_put n added g).count ≤ e.number) × (e.stamp ≤ (with_put n added g).reach + (e.number - (with_put n added g).count))
past_kept None n e added g is past = rw is past
past_kept (Some ends) n e added g is past = rw is (omega arith, omega arith)

log_next : (known : Option (List End)) (n : ℕ) (e : End) (added : List End) (before after : Option Log) →
    added ≡ option_map_or (λ _. e ∷ []) known []
    → after ≡ option_map (with_put n added) before
    → IfSome before (λ g. (g.count ≤ e.number) × (e.stamp ≤ g.reach + (e.number - g.count))) →
    IfSome after (λ g. (g.count ≤ e.number) × (e.stamp ≤ g.reach + (e.number - g.count)))
log_next known n e added None after one is past = rw is tt
log_next known n e added (Some g) after one is past = rw is (past_kept known n e added g one past)

-- and the shelf may take the next ones
pub may_next : {T : Type 0} (ends : Option (List End)) (o : ℕ) (y : T) (e : End) (old new : Shelving T) → IsPut ends o y old new
    → added_ends (option_flatten (old.out o)) ends ≡ option_map_or (λ _. e ∷ []) (option_flatten (old.out o)) []
    → MayEnd e.stamp e.session e.number old → MayEnd e.stamp e.session e.number new
may_next ends o y e old new put added may = record {
  own = if_some old.session new.session put.same.session (λ s own. own) may.own;
  past = log_next (option_flatten (old.out o)) o e _ old.log new.log added put.log may.past;
}

rises_below : (low : ℕ) (f : End) (ends : List End) → Rises low (f ∷ ends) → low < last_stamp_of (f ∷ ends)
rises_below low f [] rises = rises.0
rises_below low f (g ∷ ends) rises = omega (arith, rises.0, rises_below f.stamp g ends rises.1)

rises-push : (low : ℕ) (ends : List End) (e : End) → Rises low ends → low < e.stamp → last_stamp_of ends < e.stamp →
    Rises low (ends ++ e ∷ [])
rises-push low [] e rises above last = (above, tt)
rises-push low (f ∷ []) e rises above last = (rises.0, (last, tt))
rises-push low (f ∷ g ∷ ends) e rises above last =
    (rises.0, rises-push f.stamp (g ∷ ends) e rises.1 (omega (arith, rises_below f.stamp g ends rises.1, last)) last)

replays-push : (x y : Plain) (ends : List End) (e : End) → Replays x ends y → RightAt y e.acts →
    Replays x (ends ++ e ∷ []) (after_entry y e)
replays-push x y [] e replays right = subst (λ z. RightAt z e.acts × (after_entry y e ≡ after_entry z e)) replays (right, refl)
replays-push x y (f ∷ ends) e replays right = (replays.0, replays-push (after_entry x f) y ends e replays.1 right)

-- a legal list with the end of acts that lead to the working version
pub legal-push : (first committed working after : Plain) (ends : List End) (e : End) → IsLegal first ends committed →
    Lead true committed e.acts working
    → after ≡ (if e.committed then working else committed) → last_stamp_of ends < e.stamp → IsLegal first (ends ++ e ∷ []) after
legal-push first committed working after ends e legal lead is above = record {
  stamps = rises-push 0 ends e legal.stamps (omega arith) above;
  replays =
      subst (Replays first (ends ++ e ∷ [])) (ap (λ w. if e.committed then w else committed) lead.1 ∙ sym is)
      (replays-push first committed ends e legal.replays lead.0);
}

-- An object whose ends are legal stays so with the end of its transaction.
pub legal_ended : {H : Type 0} (tells : Bool) (told : H → Option (List End)) (last : H → ℕ) (first : Plain)
    (x y : PlainObject H) (e : End) (ends : Option (List End))
    → told x.annals ≡ ends → is_some (told x.annals) ≡ tells → IsLegalObject told first x →
    IsLed tells told last x e.acts → last x.annals < e.stamp
    → HasGot told last e x y → IsLegalObject told first y
legal_ended tells told last first x y e None is all legal led above got = rw (got.ends, is) tt
legal_ended tells told last first x y e (Some es) is all legal led above got =
    let yes : tells ≡ true = sym all ∙ ap is_some is in
    let was : IsLegal first es x.committed = subst (λ o. IfSome o (λ fs. IsLegal first fs x.committed)) is legal in
    let age : last x.annals ≡ last_stamp_of es = subst (λ o. IfSome o (λ fs. last x.annals ≡ last_stamp_of fs)) is led.ages in
    let lead : Lead true x.committed e.acts (working_of x) = subst (λ b. Lead b x.committed e.acts (working_of x)) yes led.lead in
    subst (λ o. IfSome o (λ fs. IsLegal first fs y.committed)) (sym (got.ends ∙ ap (option_map (λ fs. fs ++ e ∷ [])) is))
    (legal-push first x.committed (working_of x) y.committed es e was lead got.kept (omega (arith, age, above)))

-- an object waits while another goes home
pub can_wait : {H : Type 0} (ends : Option (List End)) (tells : Bool) (told : H → Option (List End))
    (last spare : H → ℕ) (stamp o : ℕ) (y : PlainObject H) (h : Held (PlainObject H))
    (before after : Shelving (PlainObject H))
    → IsPut ends o y before after → h.number ≢ o → CanEnd tells told last spare stamp before h → CanEnd tells told last spare stamp after h
can_wait ends tells told last spare stamp o y h before after put other can = record {
  room = can.room;
  above = can.above;
  present = subst (λ n. h.number < n) (sym put.same.objects) can.present;
  came = subst (λ out. IsSomeAnd out (λ known. IfSome known (λ was. told h.object.annals ≡ Some was)))
      (sym (put.others h.number other)) can.came;
  led = can.led;
}

-- all held objects can go home
pub can_end : {H : Type 0} (tells : Bool) (told : H → Option (List End)) (last spare : H → ℕ) (capacity stamp : ℕ)
    (t : Transaction (PlainObject H)) (shelf : Shelving (PlainObject H))
    → IsSoundTxn (λ x. spare x.annals) (λ x. last x.annals) (IsLed tells told last) capacity t → Serves told last t shelf
    → stamp ≡ end_stamp (λ x. last x.annals) t → All (CanEnd tells told last spare stamp shelf) t.held
can_end tells told last spare capacity stamp t shelf s serves e =
    let came = each_held (λ o x. IsSomeAnd (shelf.out o)
    (λ known. IfSome known (λ was. told x.annals ≡ Some was))) t.held s.distinct serves.came in
    λ k d within. record {
      room = s.room k d within;
      above = lasts_below (λ x. last x.annals) t.stamp stamp t.held e k d within;
      present = subst (λ n. (slice_index_or t.held k d).number < n) (sym serves.objects) (s.present k d within);
      came = came k d within;
      led = s.made k d within;
    }

-- An object that is let go without an end.
use Rattle.std.proofs.Common.{◌≡◌, ℕ, ◌≤◌, ◌<◌, ◌^◌, List, [], append-nil, Bool, refl, ap, sym, ◌∙◌, subst, arith}
use Rattle.std.proofs.Common.{⊎_elim, Option, Some, None}
use Rattle.std.specs.Prelude.{IfSome, IsSomeAnd}
use Rattle.std.specs.Option.{option_map, option_flatten}
use Rattle.std.proofs.Math.Seq.{drop-length}
use Rattle.std.proofs.lemmas.List.Elements.{All-nil}
use Rattle.eos_ops.specs.declared.act.Act.{Act}
use Rattle.eos_ops.specs.declared.end.End.{End}
use Rattle.object_locks.specs.Shelving.{Shelving, Terms, IsPut, MayReturn, MayAdd, with_put, added_ends}
use Rattle.shadow_txn.specs.declared.held.Held.{Held}
use Rattle.shadow_txn.specs.declared.plain_object.PlainObject.{PlainObject}
use Rattle.shadow_txn.specs.Held.{held_object, without_held, AreDistinct}
use Rattle.shadow_txn.specs.Serving.{Serves, Agree}
use Rattle.shadow_txn.specs.Transaction.{Transaction, holding, IsSoundTxn}
use Rattle.shadow_txn.proofs.HalfwayLemmas.{log_kept}
use Rattle.shadow_txn.proofs.HeldLemmas.{held_object-without_held, held_object-without_none}
use Rattle.shadow_txn.proofs.HeldLemmas.{AreDistinct-without_held, length-without_held, All-without_held}
use Rattle.shadow_txn.proofs.ServingLemmas.{if_some, agree-kept}

pub sound-without_held : {T : Type 0} (spare last : T → ℕ) (Made : T → List Act → Type 0) (capacity : ℕ) (t : Transaction T) (o : ℕ)
    → IsSoundTxn spare last Made capacity t → IsSoundTxn spare last Made capacity (holding t (without_held o t.held))
sound-without_held spare last Made capacity t o s = record {
  session = s.session;
  places = s.places;
  few = omega (arith, length-without_held o t.held, s.few);
  idle = λ idle. rw (s.idle idle) refl;
  begun = s.begun;
  number = s.number;
  stamp = s.stamp;
  left = s.left;
  room = All-without_held (λ (h : Held _). 1 ≤ spare h.object) o t.held s.room;
  lasts = All-without_held (λ (h : Held _). last h.object < 2 ^ 62) o t.held s.lasts;
  present = All-without_held (λ (h : Held _). h.number < t.objects) o t.held s.present;
  distinct = AreDistinct-without_held o t.held s.distinct;
  made = All-without_held (λ (h : Held _). Made h.object h.acts) o t.held s.made;
}

-- the ends that an object came with are no new ones
pub none_added : (out : Option (Option (List End))) (ends : Option (List End)) →
    IsSomeAnd out (λ known. IfSome known (λ was. ends ≡ Some was))
    → added_ends (option_flatten out) ends ≡ []
none_added None ends came = absurd came
none_added (Some None) ends came = refl
none_added (Some (Some was)) ends came = rw came (drop-length was)

pub may_return : {T : Type 0} (out : Option (Option (List End))) (ends : Option (List End)) (shelf : Shelving T) →
    IsSomeAnd out (λ known. IfSome known (λ was. ends ≡ Some was))
    → IsSomeAnd out (MayReturn ends shelf)
may_return None ends shelf came = came
may_return (Some None) ends shelf came = tt
may_return (Some (Some was)) ends shelf came = record {
  added = [];
  grown = came ∙ ap Some (sym (append-nil was));
  one = omega arith;
  each = All-nil (MayAdd shelf);
}

pub serves-without_held : {H : Type 0} (told : H → Option (List End)) (last : H → ℕ)
    (t : Transaction (PlainObject H)) (o : ℕ) (x : PlainObject H) (old new : Shelving (PlainObject H))
    → Serves told last t old → held_object o t.held ≡ Some x → AreDistinct t.held → IsPut (told x.annals) o x old new
    → Serves told last (holding t (without_held o t.held)) new
serves-without_held told last t o x old new s held apart put =
    let log : new.log ≡ old.log =
    put.log
    ∙ ap (λ added. option_map (with_put o added) old.log) (none_added (old.out o) (told x.annals) (s.came o x held))
    ∙ log_kept o old.log in
    record {
      objects = put.same.objects ∙ s.objects;
      session = if_some old.session new.session put.same.session (λ i own. own) s.session;
      came = λ q z found.
          let was = held_object-without_held o q z t.held apart found in
          subst (λ out. IsSomeAnd out (λ known. IfSome known (λ ends. told z.annals ≡ Some ends)))
          (sym (put.others q was.0)) (s.came q z was.1);
      just = if_some old.session new.session put.same.session
          (λ i free q gone.
          ⊎_elim
          (λ (same : q ≡ o). ap new.out same ∙ put.gone)
          (λ (was : held_object q t.held ≡ None). put.others q (λ same. let e = ap (λ n. held_object n t.held) same in cc) ∙ free q was)
          (held_object-without_none o q t.held gone))
          s.just;
      past = if_some old.log new.log log
          (λ g past. record {
            seen = λ q z found. past.seen q z (held_object-without_held o q z t.held apart found).1;
            number = past.number;
            stamp = past.stamp;
          })
          s.past;
    }

-- the terms are kept
pub agree-without_held : {H : Type 0} (tells : Bool) (told : H → Option (List End)) (terms : Terms) (o : ℕ)
    (held : List (Held (PlainObject H)))
    → AreDistinct held → Agree tells told terms held → Agree tells told terms (without_held o held)
agree-without_held tells told terms o held apart fits =
    agree-kept tells told terms held (without_held o held)
    (λ q y found. (y, (held_object-without_held o q y held apart found).1, refl, refl)) fits

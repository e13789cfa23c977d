-- The end of a transaction, at each object of the shelf.
use Rattle.std.proofs.Common.{◌≡◌, ℕ, ◌<◌, Bool, List, [], length, Option, Some, None, is_some, slice_get}
use Rattle.std.proofs.Common.{refl, ap, sym, ◌∙◌, subst, arith}
use Rattle.std.specs.Prelude.{MatchOption}
use Rattle.std.proofs.lemmas.Option.{slice_get_within, slice_get-get_or}
use Rattle.object_body.specs.declared.object.Object.{Object}
use Rattle.object_body.specs.Form.{Form, Contents}
use Rattle.object_locks.specs.Solo.{solo_shelving}
use Rattle.shadow_txn.specs.Ending.{IsSameAt, IsEndedAt, IsEnding}
use Rattle.shadow_txn.specs.Held.{held_object}
use Rattle.shadow_txn.specs.Transaction.{Transaction, with_end, end_stamp}
use Rattle.body_txn.specs.Ending.{HasOneEndMore, end_form, end_contents}
use Rattle.body_txn.specs.Fields.{at_annals, at_body}
use Rattle.body_world.specs.Served.{IsEnded, IsLeft, IsLetGo}
use Rattle.body_world.specs.Session.{Shown, Seen, shown_by, stamp_of_object, home_seen, own_seen, seen_by, IsSoundSession}
use Rattle.body_world.proofs.Terms.{untold}

-- the end of an object whose annals keep the last stamp alone
abbrev HasEnd : {B : Type 0} → Bool → (B → Form) → (B → Contents) → ℕ → ℕ → ℕ → Bool → Object B ℕ → Object B ℕ → Type 0
HasEnd tells form contents at session number committed =
    HasOneEndMore tells (at_body form) (at_body contents) (at_annals untold) stamp_of_object at session number committed

-- an object that has ended is let go
let-go : {B : Type 0} (tells : Bool) (form : B → Form) (contents : B → Contents) (at session number : ℕ) (committed : Bool)
    (x y : Object B ℕ) → HasEnd tells form contents at session number committed x y
    → IsLetGo tells committed at (shown_by form contents x) (shown_by form contents y)
let-go tells form contents at session number committed x y end = record {
  form = end.got.lengths ∙ ap (λ c. end_form c (form x.body)) end.decided;
  told = λ tell. end.got.bytes tell ∙ ap (λ c. end_contents c (contents x.body)) end.decided;
  at = end.got.at ∙ end.stamped;
}

-- an object on the shelf is left there
left-home : {T : Type 0} (show : T → Shown) (tells committed : Bool) (at : ℕ) (place : Option (Option T))
    → IsLeft tells committed at (home_seen show place) (home_seen show place)
left-home show tells committed at None = refl
left-home show tells committed at (Some None) = refl
left-home show tells committed at (Some (Some x)) = (show x, refl, refl)

-- what the session sees of an object after the end
seen-ended : {B : Type 0} (tells : Bool) (form : B → Form) (contents : B → Contents) (committed : Bool) (at session number : ℕ)
    (shelf shelf' : List (Option (Object B ℕ))) (txn : Transaction (Object B ℕ)) → IsSoundSession shelf txn
    → IsEnding (HasEnd tells form contents at session number committed) txn.held (solo_shelving shelf) (solo_shelving shelf')
    → length shelf' ≡ length shelf
    → (o : ℕ) → IsLeft tells committed at (seen_by (shown_by form contents) shelf txn o)
    (home_seen (shown_by form contents) (slice_get shelf' o))
seen-ended {B} tells form contents committed at session number shelf shelf' txn sound ending size o =
    by_hand (held_object o txn.held) refl (ending.each o)
  where
    by_hand : (own : Option (Object B ℕ)) → held_object o txn.held ≡ own
        → MatchOption (held_object o txn.held) (IsSameAt o (solo_shelving shelf) (solo_shelving shelf'))
        (λ x. IsEndedAt (HasEnd tells form contents at session number committed) o x (solo_shelving shelf'))
        → IsLeft tells committed at (seen_by (shown_by form contents) shelf txn o) (home_seen (shown_by form contents) (slice_get shelf' o))
    by_hand None is fact =
        let same : IsSameAt o (solo_shelving shelf) (solo_shelving shelf') =
        subst (λ own. MatchOption own (IsSameAt o (solo_shelving shelf) (solo_shelving shelf'))
        (λ x. IsEndedAt (HasEnd tells form contents at session number committed) o x (solo_shelving shelf'))) is fact in
        let home : Some (slice_get shelf' o) ≡ Some (slice_get shelf o) = same.home in
        let place : slice_get shelf' o ≡ slice_get shelf o = cc in
        subst (λ own. IsLeft tells committed at (own_seen (shown_by form contents) txn.session own
        (home_seen (shown_by form contents) (slice_get shelf o))) (home_seen (shown_by form contents) (slice_get shelf' o))) (sym is)
        (subst (λ now. IsLeft tells committed at (home_seen (shown_by form contents) (slice_get shelf o))
        (home_seen (shown_by form contents) now)) (sym place)
        (left-home (shown_by form contents) tells committed at (slice_get shelf o)))
    by_hand (Some x) is fact =
        let gone : IsEndedAt (HasEnd tells form contents at session number committed) o x (solo_shelving shelf') =
        subst (λ own. MatchOption own (IsSameAt o (solo_shelving shelf) (solo_shelving shelf'))
        (λ x. IsEndedAt (HasEnd tells form contents at session number committed) o x (solo_shelving shelf'))) is fact in
        let below : o < length shelf = slice_get_within shelf o None (sound.out o x is) in
        let there = slice_get-get_or shelf' o None (omega (arith, below, size)) in
        let back = gone.home _ there in
        subst (λ own. IsLeft tells committed at (own_seen (shown_by form contents) txn.session own
        (home_seen (shown_by form contents) (slice_get shelf o))) (home_seen (shown_by form contents) (slice_get shelf' o))) (sym is) (
          shown_by form contents back.0,
          ap (home_seen (shown_by form contents)) (there ∙ ap (λ place. Some place) back.1),
          let-go tells form contents at session number committed x back.0 back.2,
        )

-- what is left is seen where it was
left-sides : (tells committed : Bool) (at : ℕ) (before after : Option Seen) → IsLeft tells committed at before after
    → is_some after ≡ is_some before
left-sides tells committed at None after left = ap is_some left
left-sides tells committed at (Some seen) after left = ap is_some left.1

-- the session has let all go
pub ended-all : {B : Type 0} (tells : Bool) (form : B → Form) (contents : B → Contents) (committed : Bool) (at session number : ℕ)
    (shelf shelf' : List (Option (Object B ℕ))) (txn txn' : Transaction (Object B ℕ)) → IsSoundSession shelf txn
    → at ≡ end_stamp stamp_of_object txn → txn' ≡ with_end txn at
    → IsEnding (HasEnd tells form contents at session number committed) txn.held (solo_shelving shelf) (solo_shelving shelf')
    → IsEnded tells (shown_by form contents) stamp_of_object committed shelf txn shelf' txn'
ended-all {B} tells form contents committed at session number shelf shelf' txn txn' sound is closed ending =
    let count : Some (length shelf') ≡ Some (length shelf) = ending.count in
    let size : length shelf' ≡ length shelf = cc in
    let seen : (o : ℕ) → IsLeft tells committed at (seen_by (shown_by form contents) shelf txn o)
    (home_seen (shown_by form contents) (slice_get shelf' o)) =
    seen-ended tells form contents committed at session number shelf shelf' txn sound ending size in
    subst (IsEnded tells (shown_by form contents) stamp_of_object committed shelf txn shelf') (sym closed) (record {
      kept = record {
        session = refl;
        size = size;
        sides = λ o. left-sides tells committed at _ _ (seen o);
        sound = record {
          objects = sound.objects ∙ sym size;
          few = omega arith;
          distinct = tt;
          idle = λ idle. refl;
          out = λ o x found. let wrong : held_object {T = Object B ℕ} o [] ≡ Some x = found in absurd cc;
        };
      };
      closed = ap (with_end txn) is;
      seen = λ o. subst (λ k. IsLeft tells committed k (seen_by (shown_by form contents) shelf txn o)
          (home_seen (shown_by form contents) (slice_get shelf' o))) is (seen o);
    })

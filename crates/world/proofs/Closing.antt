-- The end of a transaction, at each object of the shelf.
use Rattle.std.proofs.Common.{◌≡◌, ℕ, ◌<◌, Bool, true, false, List, length, Option, Some, None, is_some, slice_get}
use Rattle.std.proofs.Common.{refl, ap, sym, ◌∙◌, subst, arith}
use Rattle.std.specs.Prelude.{MatchOption}
use Rattle.std.specs.Option.{option_map}
use Rattle.std.proofs.lemmas.Bool.{eq-eqb}
use Rattle.std.proofs.lemmas.Option.{slice_get_within, slice_get-get_or}
use Rattle.machine.specs.Machine.{is_holder}
use Rattle.machine.specs.Next.{settled, released}
use Rattle.object_locks.specs.Solo.{solo_shelving}
use Rattle.shadow_txn.specs.Ending.{HasEnded, IsSameAt, IsEndedAt, IsEnding}
use Rattle.shadow_txn.specs.Held.{held_object}
use Rattle.shadow_txn.specs.Objects.{working_of}
use Rattle.shadow_txn.specs.Transaction.{with_end, end_stamp}
use Rattle.world.specs.Served.{IsEnded}
use Rattle.world.specs.Session.{Object, Session, home_slot, held_slot, home_seen, own_seen, seen_by, IsSoundSession}
use Rattle.world.proofs.Taking.{untold, stamp}

-- an object that has ended is home as it was let go
home-released : (committed : Bool) (s at session number : ℕ) (x y : Object) →
    HasEnded untold stamp at session number committed x y → home_slot y ≡ released committed at (held_slot s x)
home-released true s at session number x y end =
    ap (λ z. record { committed = z; working = z; holder = None; stamp = y.annals }) end.kept
    ∙ ap (λ n. record { committed = working_of x; working = working_of x; holder = None; stamp = n }) end.at
home-released false s at session number x y end =
    ap (λ z. record { committed = z; working = z; holder = None; stamp = y.annals }) end.kept
    ∙ ap (λ n. record { committed = x.committed; working = x.committed; holder = None; stamp = n }) end.at

-- an object on the shelf isn't settled
settled-home : (s : ℕ) (committed : Bool) (at : ℕ) (place : Option (Option Object)) →
    option_map (settled s committed at) (home_seen place) ≡ home_seen place
settled-home s committed at None = refl
settled-home s committed at (Some None) = refl
settled-home s committed at (Some (Some x)) = refl

settled-own : (s : ℕ) (committed : Bool) (at : ℕ) (x : Object) →
    settled s committed at (held_slot s x) ≡ released committed at (held_slot s x)
settled-own s committed at x = let own : is_holder s (Some s) ≡ true = eq-eqb s s refl in rw own refl

-- what the session sees of an object after the end
seen-ended : (committed : Bool) (at session number : ℕ) (shelf shelf' : List (Option Object)) (txn : Session) → IsSoundSession shelf txn
    → IsEnding (HasEnded untold stamp at session number committed) txn.held (solo_shelving shelf)
    (solo_shelving shelf') → length shelf' ≡ length shelf
    → (o : ℕ) → home_seen (slice_get shelf' o) ≡ option_map (settled txn.session committed at) (seen_by shelf txn o)
seen-ended committed at session number shelf shelf' txn sound ending size o = by_hand (held_object o txn.held) refl (ending.each o)
  where
    by_hand : (own : Option Object) → held_object o txn.held ≡ own
        → MatchOption (held_object o txn.held) (IsSameAt o (solo_shelving shelf) (solo_shelving shelf'))
        (λ x. IsEndedAt (HasEnded untold stamp at session number committed) o x (solo_shelving shelf'))
        → home_seen (slice_get shelf' o) ≡ option_map (settled txn.session committed at) (seen_by shelf txn o)
    by_hand None is fact =
        let same : IsSameAt o (solo_shelving shelf) (solo_shelving shelf') =
        subst (λ own. MatchOption own (IsSameAt o (solo_shelving shelf) (solo_shelving shelf'))
        (λ x. IsEndedAt (HasEnded untold stamp at session number committed) o x (solo_shelving shelf'))) is
        fact in
        let home : Some (slice_get shelf' o) ≡ Some (slice_get shelf o) = same.home in
        let place : slice_get shelf' o ≡ slice_get shelf o = cc in
        ap home_seen place ∙ sym (settled-home txn.session committed at (slice_get shelf o))
        ∙ sym (ap (λ own. option_map (settled txn.session committed at) (own_seen txn.session own (home_seen (slice_get shelf o)))) is)
    by_hand (Some x) is fact =
        let gone : IsEndedAt (HasEnded untold stamp at session number committed) o x (solo_shelving shelf') =
        subst (λ own. MatchOption own (IsSameAt o (solo_shelving shelf) (solo_shelving shelf'))
        (λ x. IsEndedAt (HasEnded untold stamp at session number committed) o x (solo_shelving shelf'))) is
        fact in
        let below : o < length shelf = slice_get_within shelf o None (sound.out o x is) in
        let there = slice_get-get_or shelf' o None (omega (arith, below, size)) in
        let back = gone.home _ there in
        ap home_seen (there ∙ ap Some back.1) ∙ ap Some
        (home-released committed txn.session at session number x back.0 back.2
        ∙ sym (settled-own txn.session committed at x))
        ∙ sym (ap (λ own. option_map (settled txn.session committed at) (own_seen txn.session own (home_seen (slice_get shelf o)))) is)

map-is_some : {A B : Type 0} (f : A → B) (o : Option A) → is_some (option_map f o) ≡ is_some o
map-is_some f None = refl
map-is_some f (Some a) = refl

-- the session has let all go
pub ended-all : (committed : Bool) (at session number : ℕ) (shelf shelf' : List (Option Object))
    (txn txn' : Session) → IsSoundSession shelf txn → at ≡ end_stamp (λ x. x.annals) txn → txn' ≡ with_end txn at
    → IsEnding (HasEnded untold stamp at session number committed) txn.held (solo_shelving shelf)
    (solo_shelving shelf') → IsEnded committed shelf txn shelf' txn'
ended-all committed at session number shelf shelf' txn txn' sound is closed ending =
    let count : Some (length shelf') ≡ Some (length shelf) = ending.count in
    let size : length shelf' ≡ length shelf = cc in
    let seen : (o : ℕ) → home_seen (slice_get shelf' o) ≡ option_map (settled txn.session committed at) (seen_by shelf txn o) =
    seen-ended committed at session number shelf shelf' txn sound ending size in
    subst (IsEnded committed shelf txn shelf') (sym closed) (record {
      kept = record {
        session = refl;
        size = size;
        sides = λ o. ap is_some (seen o) ∙ map-is_some (settled txn.session committed at) (seen_by shelf txn o);
        sound = record {
          objects = sound.objects ∙ sym size;
          few = omega arith;
          distinct = tt;
          idle = λ idle. refl;
          out = λ o x found. absurd cc;
        };
      };
      closed = ap (with_end txn) is;
      seen = λ o. seen o ∙ ap (λ n. option_map (settled txn.session committed n) (seen_by shelf txn o)) is;
    })

-- A command on an object that a session holds, or has just taken: what the session and the shelf are after it.
use Rattle.std.proofs.Common.{◌≡◌, ◌≢◌, ℕ, ◌⊎◌, ◌+◌, ◌<◌, ◌≤◌, ◌^◌, Bool, true, false, List, [], ◌∷◌, ◌++◌, length}
use Rattle.std.proofs.Common.{length-append, set, Option, Some, None, IsSome, is_some, slice_get, nat_eq, Ok, refl}
use Rattle.std.proofs.Common.{ap, sym, ◌∙◌, subst, arith, inl, inr}
use Rattle.std.proofs.lemmas.Bool.{cases_eq, cases_Bool, false≢true}
use Rattle.std.proofs.lemmas.List.{length-set}
use Rattle.std.proofs.lemmas.Option.{slice_get_within}
use Rattle.base_laws.proofs.ListLaws.{slice_get-set_same, slice_get-set_other}
use Rattle.base_laws.proofs.OptionLaws.{some-inner, some-if, none-of}
use Rattle.eos_ops.specs.declared.command.Command.{Command}
use Rattle.eos_ops.specs.declared.limits.TheConstants.{MAX_HELD}
use Rattle.eos_ops.specs.declared.reply.Reply.{Reply}
use Rattle.eos_ops.specs.declared.reply.Reply.TheVariants as reply
use Rattle.object_body.specs.declared.object.Object.{Object}
use Rattle.object_body.specs.Form.{Form, Contents}
use Rattle.object_locks.specs.Solo.{solo_shelving}
use Rattle.shadow_txn.specs.declared.held.Held.{Held}
use Rattle.shadow_txn.specs.Held.{held_object, with_object, without_held}
use Rattle.shadow_txn.specs.Transaction.{Transaction, holding}
use Rattle.shadow_txn.proofs.HeldLemmas.{AreDistinct-push, AreDistinct-with_object, held_object-push, held_object-with_object}
use Rattle.world.proofs.HeldLists.{held_object-with_same, held_object-with_other, length-with_object}
use Rattle.world.proofs.HeldLists.{held_object-more_same, held_object-more_other, without_held-more}
use Rattle.body_txn.specs.Fields.{body_of, at_annals, RestsBy}
use Rattle.body_txn.specs.Serving.{ServesTxn}
use Rattle.body_txn.specs.Taking.{HoldsMore, IsHold, HasHoldCause}
use Rattle.body_world.specs.Served.{is_memory, holder_after, FitsObject, IsServed, IsWorked}
use Rattle.body_world.specs.Session.{Shown, Seen, at_home, in_hand, shown_by, stamp_of_object, home_seen, own_seen, seen_by}
use Rattle.body_world.specs.Session.{refused_by, IsSoundSession}
use Rattle.body_world.proofs.Sights.{seen-some, seen-held, seen-home}
use Rattle.body_world.proofs.Taking.{home-same, same-object, taken-shelf, refused-away, place-free}
use Rattle.body_world.proofs.Terms.{untold}

-- The session has object o in hand, as it saw it before.
pub record IsReady {T : Type 0} (show : T → Shown) (o : ℕ) (x : T) (shelf : List (Option T)) (txn : Transaction T)
    (shelf' : List (Option T)) (txn' : Transaction T) : Type 0 where
  pub was : Seen
  pub seen : seen_by show shelf txn o ≡ Some was
  pub object : was.object ≡ show x
  pub free : refused_by show shelf txn o ≡ None
  pub found : held_object o txn'.held ≡ Some x
  pub others : (p : ℕ) → p ≢ o → seen_by show shelf' txn' p ≡ seen_by show shelf txn p
  pub session : txn'.session ≡ txn.session
  pub size : length shelf' ≡ length shelf
  pub sound : IsSoundSession shelf' txn'
  pub is_open : txn'.is_open ≡ txn.is_open
  pub stamp : txn'.stamp ≡ txn.stamp

-- it held the object already
pub ready-held : {T : Type 0} (show : T → Shown) (o : ℕ) (x : T) (shelf : List (Option T)) (txn : Transaction T)
    → IsSoundSession shelf txn → held_object o txn.held ≡ Some x → IsReady show o x shelf txn shelf txn
ready-held show o x shelf txn sound found = record {
  was = in_hand txn.session (show x);
  seen = seen-held show shelf txn o x found;
  object = refl;
  free = rw found refl;
  found = found;
  others = λ p other. refl;
  session = refl;
  size = refl;
  sound = sound;
  is_open = refl;
  stamp = refl;
}

-- what a hold has taken, in plain words
pub record IsGot {T : Type 0} (show : T → Shown) (o : ℕ) (x : T) (shelf : List (Option T)) (txn : Transaction T)
    (shelf' : List (Option T)) (txn' : Transaction T) : Type 0 where
  pub away : held_object o txn.held ≡ None
  pub home : slice_get shelf o ≡ Some (Some x)
  pub rests : (show x).form.is_resting ≡ true
  pub left : (show x).stamp < 2 ^ 62
  pub place : length txn.held < MAX_HELD
  pub emptied : shelf' ≡ set shelf o None
  pub longer : txn' ≡ holding txn (txn.held ++ record { number = o; object = x; acts = [] } ∷ [])

-- a hold that succeeded took the object as it stood on the shelf
got : {B : Type 0} (form : B → Form) (contents : B → Contents) (o : ℕ) (spare : ℕ → ℕ) (shelf shelf' : List (Option (Object B ℕ)))
    (txn txn' : Transaction (Object B ℕ)) → held_object o txn.held ≡ None → length txn.held < MAX_HELD
    → HoldsMore body_of (at_annals untold) stamp_of_object (at_annals spare) (RestsBy form) o txn txn'
    (solo_shelving shelf) (solo_shelving shelf') → (x : Object B ℕ) × IsGot (shown_by form contents) o x shelf txn shelf' txn'
got {B} form contents o spare shelf shelf' txn txn' away place holds =
    let object : Object B ℕ = holds.object in
    let same : object ≡ holds.taken.was = same-object holds.taken.was object holds.taken.same in (
      object,
      record {
        away = away;
        home = subst (λ x. slice_get shelf o ≡ Some (Some x)) (sym same) holds.taken.take.was_home;
        rests = holds.taken.at_rest;
        left = holds.taken.left;
        place = place;
        emptied = taken-shelf shelf shelf' o holds.taken.was None (solo_shelving shelf') refl holds.taken.take;
        longer = holds.held;
      },
    )

ready-more : {T : Type 0} (show : T → Shown) (o : ℕ) (x : T) (shelf : List (Option T)) (txn : Transaction T) → IsSoundSession shelf txn
    → txn.is_open ≡ true → held_object o txn.held ≡ None → slice_get shelf o ≡ Some (Some x) → (show x).stamp < 2 ^ 62
    → length txn.held < MAX_HELD
    → IsReady show o x shelf txn (set shelf o None) (holding txn (txn.held ++ record { number = o; object = x; acts = [] } ∷ []))
ready-more {T} show o x shelf txn sound active away home left place =
    let within : o < length shelf = slice_get_within shelf o (Some x) home in
    let size : length (set shelf o None) ≡ length shelf = length-set shelf o None in
    record {
      was = at_home (show x);
      seen = seen-home show shelf txn o x away home;
      object = refl;
      free = refused-away show shelf txn o away within place ∙ place-free show shelf o x home left;
      found = held_object-more_same o x txn.held away;
      others = λ p other.
          let held : held_object p (txn.held ++ record { number = o; object = x; acts = [] } ∷ [])
          ≡ held_object p txn.held = held_object-more_other o p x txn.held other in
          let stands : slice_get (set shelf o None) p ≡ slice_get shelf p = slice_get-set_other shelf o p None other in
          rw (held, stands) refl;
      session = refl;
      size = size;
      sound = record {
        objects = sound.objects ∙ sym size;
        few = let longer : length (txn.held ++ record { number = o; object = x; acts = [] } ∷ [])
            ≡ length txn.held + 1 = length-append txn.held (record { number = o; object = x; acts = [] } ∷ []) in
            omega (arith, longer, place);
        distinct = AreDistinct-push txn.held (record { number = o; object = x; acts = [] }) sound.distinct away;
        idle = λ idle. absurd (false≢true (sym idle ∙ active));
        out = λ p y found. out p y (held_object-push p txn.held (record { number = o; object = x; acts = [] }) y
            (held_object p txn.held) refl found);
      };
      is_open = refl;
      stamp = refl;
    }
  where
    out : (p : ℕ) (y : T) → ((held_object p txn.held ≡ Some y)
        ⊎ ((held_object p txn.held ≡ None) × (o ≡ p) × (x ≡ y))) → slice_get (set shelf o None) p ≡ Some None
    out p y (inl before) =
        let other : p ≢ o = λ e. let lost : held_object o txn.held ≡ Some y =
        subst (λ q. held_object q txn.held ≡ Some y) e before in absurd cc in
        slice_get-set_other shelf o p None other ∙ sound.out p y before
    out p y (inr new) =
        subst (λ q. slice_get (set shelf o None) q
        ≡ Some None) new.1 (slice_get-set_same shelf o None (slice_get_within shelf o (Some x) home))

-- it has just taken the object
pub ready-taken : {T : Type 0} (show : T → Shown) (o : ℕ) (x : T) (shelf shelf' : List (Option T)) (txn txn' : Transaction T)
    → IsSoundSession shelf txn → txn.is_open ≡ true → IsGot show o x shelf txn shelf' txn' → IsReady show o x shelf txn shelf' txn'
ready-taken show o x shelf shelf' txn txn' sound active g =
    subst (λ t. IsReady show o x shelf txn shelf' t) (sym g.longer)
    (subst (λ s. IsReady show o x shelf txn s (holding txn (txn.held ++ record { number = o; object = x; acts = [] } ∷ [])))
    (sym g.emptied) (ready-more show o x shelf txn sound active g.away g.home g.left g.place))

-- After a hold that wasn't refused the session held the object before, and nothing has changed, or it has taken it.
abbrev pub HasIt : {T : Type 0} → (T → Shown) → ℕ → Bool → List (Option T) → Transaction T → List (Option T) → Transaction T → Type 0
HasIt {T} show o false shelf txn shelf' txn' = (x : T) × (held_object o txn.held ≡ Some x) × (shelf' ≡ shelf) × (txn' ≡ txn)
HasIt {T} show o true shelf txn shelf' txn' = (x : T) × IsGot show o x shelf txn shelf' txn'

pub has-it : {B : Type 0} (form : B → Form) (contents : B → Contents) (o : ℕ) (spare : ℕ → ℕ) (keeps took : Bool)
    (shelf shelf' : List (Option (Object B ℕ))) (txn txn' : Transaction (Object B ℕ)) → IsSoundSession shelf txn
    → IsHold body_of (at_annals untold) stamp_of_object (at_annals spare) (RestsBy form) o (Ok took) txn txn'
    (solo_shelving shelf) (solo_shelving shelf')
    → HasHoldCause {A = Bool} keeps o txn (solo_shelving shelf) (Ok took)
    → HasIt (shown_by form contents) o took shelf txn shelf' txn'
has-it form contents o spare keeps false shelf shelf' txn txn' sound hold cause =
    let held = some-if (held_object o txn.held) (hold.again.0 refl) in
    let same = hold.same refl in
    (held.0, held.1, home-same shelf' shelf same.1, same.0)
has-it {B} form contents o spare keeps true shelf shelf' txn txn' sound hold cause =
    let away : held_object o txn.held ≡ None = none-of (held_object o txn.held) (λ some. let same = hold.again.1 some in absurd cc) in
    let holds = hold.took refl in
    let there : o < length shelf = slice_get_within shelf o (Some holds.taken.was) holds.taken.take.was_home in
    let differs : length txn.held ≢ MAX_HELD = λ many. let full = cause.full.1 (
      away,
      subst (λ n. o < n)
          (sym sound.objects) there,
      many,
    ) in absurd cc in
    let place : length txn.held < MAX_HELD = omega (arith, sound.few, differs) in
    got form contents o spare shelf shelf' txn txn' away place holds

pub ready-from : {T : Type 0} (show : T → Shown) (o : ℕ) (took : Bool) (shelf shelf' : List (Option T)) (txn txn' : Transaction T)
    → IsSoundSession shelf txn → txn.is_open ≡ true → HasIt show o took shelf txn shelf' txn'
    → (x : T) × IsReady show o x shelf txn shelf' txn'
ready-from show o false shelf shelf' txn txn' sound active own = (
  own.0,
  subst (λ t. IsReady show o own.0 shelf txn shelf' t) (sym own.3)
      (subst (λ s. IsReady show o own.0 shelf txn s txn) (sym own.2) (ready-held show o own.0 shelf txn sound own.1)),
)
ready-from show o true shelf shelf' txn txn' sound active new =
    (new.0, ready-taken show o new.0 shelf shelf' txn txn' sound active new.1)

-- the shelf serves a sound session
pub serves-session : {T : Type 0} (last : T → ℕ) (shelf : List (Option T)) (txn : Transaction T) → IsSoundSession shelf txn
    → ServesTxn (λ x. None) last txn (solo_shelving shelf)
serves-session last shelf txn sound = record {
  objects = sym sound.objects;
  session = tt;
  came = λ o x found. rw (sound.out o x found) tt;
  just = tt;
  past = tt;
}

-- want of memory
pub memory-is : (r : Reply) → is_memory r ≡ true → r ≡ reply.Memory
memory-is reply.Memory is = refl
memory-is reply.Ok is = absurd (false≢true is)
memory-is (reply.Length k) is = absurd (false≢true is)
memory-is (reply.Bytes x) is = absurd (false≢true is)
memory-is (reply.Range k) is = absurd (false≢true is)
memory-is reply.Exists is = absurd (false≢true is)
memory-is reply.Missing is = absurd (false≢true is)
memory-is (reply.NoSpace k) is = absurd (false≢true is)
memory-is reply.Fault is = absurd (false≢true is)
memory-is reply.Busy is = absurd (false≢true is)
memory-is reply.Full is = absurd (false≢true is)
memory-is reply.NoObject is = absurd (false≢true is)
memory-is reply.Idle is = absurd (false≢true is)
memory-is reply.Active is = absurd (false≢true is)
memory-is reply.TooLong is = absurd (false≢true is)
memory-is reply.Worn is = absurd (false≢true is)
memory-is (reply.Status f l k) is = absurd (false≢true is)
memory-is reply.Again is = absurd (false≢true is)

-- who holds an object that the session has in hand already
pub holder-held : {T : Type 0} (show : T → Shown) (shelf : List (Option T)) (txn : Transaction T) (o : ℕ) (was : Seen)
    → seen_by show shelf txn o ≡ Some was → IsSome (held_object o txn.held) → was.holder ≡ Some txn.session
holder-held show shelf txn o was sees held = elim (seen-some show shelf txn o was sees) [
  | inl own ↦ ap (λ (t : Seen). t.holder) own.2
  | inr home ↦ absurd (false≢true (sym (ap is_some home.0) ∙ held))
]

-- and who holds it after the command
pub holder-kept : (r : Reply) (s : ℕ) (was : Option ℕ) → (is_memory r ≡ true → was ≡ Some s) → holder_after s r was ≡ Some s
holder-kept r s was own = elim (cases_Bool (is_memory r)) [
  | inl memory ↦ rw memory (own memory)
  | inr other ↦ rw other refl
]

-- the session after the command, which still holds the object
pub sound-worked : {T : Type 0} (o : ℕ) (y : T) (shelf : List (Option T)) (txn : Transaction T) → IsSoundSession shelf txn
    → txn.is_open ≡ true → IsSome (held_object o txn.held) → IsSoundSession shelf (holding txn (with_object o y txn.held))
sound-worked {T} o y shelf txn sound active held = record {
  objects = sound.objects;
  few = subst (λ n. n ≤ MAX_HELD) (sym (length-with_object o y txn.held)) sound.few;
  distinct = AreDistinct-with_object o y txn.held sound.distinct;
  idle = λ idle. absurd (false≢true (sym idle ∙ active));
  out = λ p z found. out p z (held_object-with_object o p y z txn.held found);
}
  where
    held-out : (own : Option T) → held_object o txn.held ≡ own → IsSome own → slice_get shelf o ≡ Some None
    held-out None is some = absurd (false≢true some)
    held-out (Some x) is some = sound.out o x is

    out : (p : ℕ) (z : T) → ((p ≡ o) × (z ≡ y)) ⊎ (held_object p txn.held ≡ Some z) → slice_get shelf p ≡ Some None
    out p z (inl this) = ap (slice_get shelf) this.0 ∙ held-out (held_object o txn.held) refl held
    out p z (inr before) = sound.out p z before

-- the object in hand is worked on, and the session holds it from then on
pub served-kept : {T : Type 0} (tells : Bool) (suits : Contents → Type 0) (show : T → Shown) (Makes : Shown → Shown → Type 0)
    (c : Command) (o : ℕ) (r : Reply) (x : T) (shelf shelf' : List (Option T)) (txn txn' txn'' : Transaction T)
    (ready : IsReady show o x shelf txn shelf' txn') → txn.is_open ≡ true
    → holder_after txn.session r ready.was.holder ≡ Some txn.session
    → IsWorked tells suits show Makes c o r txn' txn'' → IsServed tells suits show Makes c o r shelf txn shelf' txn''
served-kept {T} tells suits show Makes c o r x shelf shelf' txn txn' txn'' ready active holds worked =
    subst (IsServed tells suits show Makes c o r shelf txn shelf') (sym worked.txn) (record {
      was = ready.was;
      now = show worked.now;
      seen = ready.seen;
      makes = subst (λ z. Makes z (show worked.now)) (sym object) worked.makes;
      fits = subst (λ z. FitsObject tells suits c r z) (sym object) worked.fits;
      left = now ∙ ap (λ holder. Some (record { holder = holder; object = show worked.now })) (sym holds);
      others = others;
      kept = record {
        session = ready.session;
        size = ready.size;
        sides = λ p. elim (cases_eq p o) [
          | inl this ↦ ap is_some (ap (seen_by show shelf' (holding txn' (with_object o worked.now txn'.held))) this
              ∙ now) ∙ sym (ap is_some (ap (seen_by show shelf txn) this ∙ ready.seen))
          | inr other ↦ ap is_some (others p other)
        ];
        sound = sound-worked o worked.now shelf' txn' ready.sound (ready.is_open ∙ active) (ap is_some ready.found);
      };
      is_open = ready.is_open;
      stamp = ready.stamp;
    })
  where
    own : ℕ → Option T → Option Seen
    own p held = own_seen show txn'.session held (home_seen show (slice_get shelf' p))

    object : ready.was.object ≡ show worked.was
    object = ready.object ∙ ap show (some-inner x worked.was (sym ready.found ∙ worked.held))

    now : seen_by show shelf' (holding txn' (with_object o worked.now txn'.held)) o ≡ Some (in_hand txn.session (show worked.now))
    now = ap (λ held. own o held) (held_object-with_same o worked.was worked.now txn'.held worked.held)
        ∙ ap (λ s. Some (in_hand s (show worked.now))) ready.session

    others : (p : ℕ) → p ≢ o
        → seen_by show shelf' (holding txn' (with_object o worked.now txn'.held)) p ≡ seen_by show shelf txn p
    others p other = ap (λ held. own p held) (held_object-with_other o p worked.now txn'.held other) ∙ ready.others p other

-- an object that is worked on and then isn't held
without_held-with : {T : Type 0} (o : ℕ) (y : T) (held : List (Held T)) → without_held o (with_object o y held) ≡ without_held o held
without_held-with o y [] = refl
without_held-with o y (h ∷ held) = elim (cases_Bool (nat_eq h.number o)) [
  | inl here ↦ rw here (rw here refl)
  | inr away ↦ rw away (rw away (ap (λ rest. h ∷ rest) (without_held-with o y held)))
]

-- the object that was taken is worked on, and goes back to the shelf
pub served-back : {T : Type 0} (tells : Bool) (suits : Contents → Type 0) (show : T → Shown) (Makes : Shown → Shown → Type 0)
    (c : Command) (o : ℕ) (x : T) (shelf shelf' shelf'' : List (Option T)) (txn txn' txn'' txn''' : Transaction T)
    → IsSoundSession shelf txn → IsGot show o x shelf txn shelf' txn'
    → (worked : IsWorked tells suits show Makes c o reply.Memory txn' txn'')
    → shelf'' ≡ set shelf' o (Some worked.now) → txn''' ≡ holding txn'' (without_held o txn''.held)
    → IsServed tells suits show Makes c o reply.Memory shelf txn shelf'' txn'''
served-back {T} tells suits show Makes c o x shelf shelf' shelf'' txn txn' txn'' txn''' sound g worked put less =
    subst (IsServed tells suits show Makes c o reply.Memory shelf txn shelf'') (sym same)
    (subst (λ xs. IsServed tells suits show Makes c o reply.Memory shelf txn xs txn)
    (sym (put ∙ ap (λ xs. set xs o (Some worked.now)) g.emptied)) (record {
      was = at_home (show x);
      now = show worked.now;
      seen = seen-home show shelf txn o x g.away g.home;
      makes = subst (λ z. Makes z (show worked.now)) (sym object) worked.makes;
      fits = subst (λ z. FitsObject tells suits c reply.Memory z) (sym object) worked.fits;
      left = now;
      others = others;
      kept = record {
        session = refl;
        size = size;
        sides = λ p. elim (cases_eq p o) [
          | inl this ↦ ap is_some (ap (seen_by show back txn) this ∙ now)
              ∙ sym (ap is_some (ap (seen_by show shelf txn) this ∙ seen-home show shelf txn o x g.away g.home))
          | inr other ↦ ap is_some (others p other)
        ];
        sound = record {
          objects = sound.objects ∙ sym size;
          few = sound.few;
          distinct = sound.distinct;
          idle = sound.idle;
          out = λ p y found.
              let other : p ≢ o = λ e. let lost : held_object o txn.held ≡ Some y =
              subst (λ q. held_object q txn.held ≡ Some y) e found in absurd cc in
              stands p other ∙ sound.out p y found;
        };
      };
      is_open = refl;
      stamp = refl;
    }))
  where
    back : List (Option T)
    back = set (set shelf o None) o (Some worked.now)

    size : length back ≡ length shelf
    size = length-set (set shelf o None) o (Some worked.now) ∙ length-set shelf o None

    within : o < length (set shelf o None)
    within =
        let below : o < length shelf = slice_get_within shelf o (Some x) g.home in
        let longer : length (set shelf o None) ≡ length shelf = length-set shelf o None in
        omega (arith, below, longer)

    stands : (p : ℕ) → p ≢ o → slice_get back p ≡ slice_get shelf p
    stands p other = slice_get-set_other (set shelf o None) o p (Some worked.now) other ∙ slice_get-set_other shelf o p None other

    object : show x ≡ show worked.was
    object =
        let found : held_object o txn'.held ≡ Some x =
        ap (λ (t : Transaction T). held_object o t.held) g.longer ∙ held_object-more_same o x txn.held g.away in
        ap show (some-inner x worked.was (sym found ∙ worked.held))

    now : seen_by show back txn o ≡ Some (at_home (show worked.now))
    now = seen-home show back txn o worked.now g.away (slice_get-set_same (set shelf o None) o (Some worked.now) within)

    others : (p : ℕ) → p ≢ o → seen_by show back txn p ≡ seen_by show shelf txn p
    others p other = ap (λ place. own_seen show txn.session (held_object p txn.held) (home_seen show place)) (stands p other)

    same : txn''' ≡ txn
    same =
        less ∙ ap (λ (t : Transaction T). holding t (without_held o t.held)) worked.txn
        ∙ ap (holding txn') (without_held-with o worked.now txn'.held)
        ∙ ap (λ (t : Transaction T). holding t (without_held o t.held)) g.longer
        ∙ ap (holding txn) (without_held-more o x txn.held g.away)

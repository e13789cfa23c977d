-- A command on an object that a session holds, or has just taken.
use Rattle.std.proofs.Common.{◌≡◌, ◌≢◌, ℕ, ◌⊎◌, ◌+◌, ◌<◌, ◌≤◌, ◌^◌, true, false, List, [], ◌∷◌, ◌++◌, length}
use Rattle.std.proofs.Common.{length-append, set, Option, Some, None, IsSome, is_some, slice_get, unwrap_or, refl}
use Rattle.std.proofs.Common.{ap, sym, ◌∙◌, subst, arith, inl, inr}
use Rattle.std.specs.Prelude.{IfSome, IsSomeAnd}
use Rattle.std.specs.Option.{option_map_or}
use Rattle.std.proofs.lemmas.Bool.{cases_eq, false≢true}
use Rattle.std.proofs.lemmas.List.{length-set}
use Rattle.std.proofs.lemmas.Option.{slice_get_within}
use Rattle.base_laws.proofs.ListLaws.{slice_get-set_same, slice_get-set_other}
use Rattle.eos_ops.specs.declared.command.Command.{Command}
use Rattle.eos_ops.specs.declared.plain.Plain.TheVariants.{Absent}
use Rattle.eos_ops.specs.declared.limits.TheConstants.{MAX_HELD}
use Rattle.eos_ops.specs.declared.reply.Reply.{Reply}
use Rattle.eos_ops.specs.declared.reply.Reply.TheVariants as reply
use Rattle.eos_ops.specs.Memory.{TakesMemory}
use Rattle.eos_ops.specs.Objects.{reply_in, after_in}
use Rattle.machine.specs.Machine.{Slot}
use Rattle.object_locks.specs.Shelving.{IsPut}
use Rattle.object_locks.specs.Solo.{solo_shelving}
use Rattle.shadow_txn.specs.Held.{held_object, with_object, without_held}
use Rattle.shadow_txn.specs.Objects.{working_of}
use Rattle.shadow_txn.specs.Replies.{working_in}
use Rattle.shadow_txn.specs.Taking.{Holds}
use Rattle.shadow_txn.specs.Transaction.{holding}
use Rattle.shadow_txn.proofs.HeldLemmas.{AreDistinct-push, AreDistinct-with_object, held_object-push, held_object-with_object}
use Rattle.world.specs.Served.{served, HasServed, IsAnswer}
use Rattle.world.specs.Session.{Object, Session, home_slot, held_slot, home_seen, own_seen, seen_by, refused_by, IsSoundSession, IsWorked}
use Rattle.world.proofs.HeldLists.{held_object-with_same, held_object-with_other, length-with_object}
use Rattle.world.proofs.HeldLists.{held_object-more_same, held_object-more_other, without_held-more}
use Rattle.world.proofs.Sights.{seen-held, seen-home}
use Rattle.world.proofs.Taking.{untold, stamp, home-same, same-object, taken-shelf, put-shelf, put-back, refused-away, place-free}

-- The session has object o in hand, as it saw it before.
pub record IsReady (o : ℕ) (x : Object) (shelf : List (Option Object)) (txn : Session)
    (shelf' : List (Option Object)) (txn' : Session) : Type 0 where
  pub slot : Slot
  pub seen : seen_by shelf txn o ≡ Some slot
  pub committed : x.committed ≡ slot.committed
  pub working : working_of x ≡ slot.working
  pub last : x.annals ≡ slot.stamp
  pub free : refused_by shelf txn o ≡ None
  pub found : held_object o txn'.held ≡ Some x
  pub others : (p : ℕ) → p ≢ o → seen_by shelf' txn' p ≡ seen_by shelf txn p
  pub session : txn'.session ≡ txn.session
  pub size : length shelf' ≡ length shelf
  pub sound : IsSoundSession shelf' txn'
  pub is_open : txn'.is_open ≡ txn.is_open
  pub stamp : txn'.stamp ≡ txn.stamp

-- it held the object already
pub ready-held : (o : ℕ) (x : Object) (shelf : List (Option Object)) (txn : Session) → IsSoundSession shelf txn →
    held_object o txn.held ≡ Some x → IsReady o x shelf txn shelf txn
ready-held o x shelf txn sound found = record {
  slot = held_slot txn.session x;
  seen = seen-held shelf txn o x found;
  committed = refl;
  working = refl;
  last = refl;
  free = rw found refl;
  found = found;
  others = λ p other. refl;
  session = refl;
  size = refl;
  sound = sound;
  is_open = refl;
  stamp = refl;
}

-- what a hold has taken, in plain words
pub record IsGot (o : ℕ) (x : Object) (shelf : List (Option Object)) (txn : Session) (shelf' : List (Option Object))
    (txn' : Session) : Type 0 where
  pub away : held_object o txn.held ≡ None
  pub home : slice_get shelf o ≡ Some (Some x)
  pub rests : x.working ≡ None
  pub left : x.annals < 2 ^ 62
  pub place : length txn.held < MAX_HELD
  pub emptied : shelf' ≡ set shelf o None
  pub longer : txn' ≡ holding txn (txn.held ++ record { number = o; object = x; acts = [] } ∷ [])

-- a hold that succeeded took the object as it stood on the shelf
pub got : (o : ℕ) (spare : ℕ → ℕ) (shelf shelf' : List (Option Object)) (txn txn' : Session) →
    held_object o txn.held ≡ None → length txn.held < MAX_HELD
    → Holds untold stamp spare o txn txn' (solo_shelving shelf) (solo_shelving shelf') → (x : Object) × IsGot o x shelf txn shelf' txn'
got o spare shelf shelf' txn txn' away place holds =
    let object : Object = holds.object in
    let same : object ≡ holds.taken.was = same-object holds.taken.was object holds.taken.same in (
      object,
      record {
        away = away;
        home = subst (λ x. slice_get shelf o ≡ Some (Some x)) (sym same) holds.taken.take.was_home;
        rests = holds.taken.rests;
        left = holds.taken.left;
        place = place;
        emptied = taken-shelf shelf shelf' o holds.taken.was None (solo_shelving shelf') refl holds.taken.take;
        longer = holds.held;
      },
    )

ready-more : (o : ℕ) (x : Object) (shelf : List (Option Object)) (txn : Session) → IsSoundSession shelf txn → txn.is_open ≡ true
    → held_object o txn.held ≡ None → slice_get shelf o ≡ Some (Some x) → x.working ≡ None → x.annals < 2 ^ 62 → length txn.held < MAX_HELD
    → IsReady o x shelf txn (set shelf o None) (holding txn (txn.held ++ record { number = o; object = x; acts = [] } ∷ []))
ready-more o x shelf txn sound active away home rests left place =
    let within : o < length shelf = slice_get_within shelf o (Some x) home in
    let size : length (set shelf o None) ≡ length shelf = length-set shelf o None in
    record {
      slot = home_slot x;
      seen = seen-home shelf txn o x away home;
      committed = refl;
      working = ap (λ w. unwrap_or w x.committed) rests;
      last = refl;
      free = refused-away shelf txn o away within place ∙ place-free shelf o x home left;
      found = held_object-more_same o x txn.held away;
      others = λ p other.
          let held : held_object p (txn.held ++ record { number = o; object = x; acts = [] } ∷ [])
          ≡ held_object p txn.held = held_object-more_other o p x txn.held other in
          let stands : slice_get (set shelf o None) p ≡ slice_get shelf p = slice_get-set_other shelf o p None other in
          rw (held, stands) refl;
      session = refl;
      size = size;
      sound = record {
        objects = sound.objects ∙ sym size;
        few = let longer : length (txn.held ++ record { number = o; object = x; acts = [] } ∷ [])
            ≡ length txn.held + 1 = length-append txn.held (record { number = o; object = x; acts = [] } ∷ []) in
            omega (arith, longer, place);
        distinct = AreDistinct-push txn.held (record { number = o; object = x; acts = [] }) sound.distinct away;
        idle = λ idle. absurd cc;
        out = λ p y found. out p y (held_object-push p txn.held (record { number = o; object = x; acts = [] }) y
            (held_object p txn.held) refl found);
      };
      is_open = refl;
      stamp = refl;
    }
  where
    out : (p : ℕ) (y : Object) → ((held_object p txn.held ≡ Some y)
        ⊎ ((held_object p txn.held ≡ None) × (o ≡ p) × (x ≡ y))) → slice_get (set shelf o None) p ≡ Some None
    out p y (inl before) =
        let other : p ≢ o = λ e. let lost : held_object o txn.held ≡ Some y =
        subst (λ q. held_object q txn.held ≡ Some y) e before in absurd cc in
        slice_get-set_other shelf o p None other ∙ sound.out p y before
    out p y (inr new) =
        subst (λ q. slice_get (set shelf o None) q
        ≡ Some None) new.1 (slice_get-set_same shelf o None (slice_get_within shelf o (Some x) home))

-- it has just taken the object
pub ready-taken : (o : ℕ) (x : Object) (shelf shelf' : List (Option Object)) (txn txn' : Session) →
    IsSoundSession shelf txn → txn.is_open ≡ true → IsGot o x shelf txn shelf' txn' →
    IsReady o x shelf txn shelf' txn'
ready-taken o x shelf shelf' txn txn' sound active g =
    subst (λ t. IsReady o x shelf txn shelf' t) (sym g.longer)
    (subst (λ s. IsReady o x shelf txn s (holding txn (txn.held ++ record { number = o; object = x; acts = [] } ∷ []))) (sym g.emptied)
    (ready-more o x shelf txn sound active g.away g.home g.rests g.left g.place))

-- an object that was taken and is put back without an end leaves nothing changed
pub let-go : (o : ℕ) (x : Object) (shelf shelf' shelf'' : List (Option Object)) (txn txn' txn'' : Session) → IsGot o x shelf txn shelf' txn'
    → txn'' ≡ holding txn' (without_held o txn'.held) →
    IfSome (held_object o txn'.held) (λ y. IsPut None o y (solo_shelving shelf') (solo_shelving shelf'')) →
    (shelf'' ≡ shelf) × (txn'' ≡ txn)
let-go o x shelf shelf' shelf'' txn txn' txn'' g less put =
    let found : held_object o txn'.held ≡ Some x = ap (λ (t : Session). held_object o t.held) g.longer
    ∙ held_object-more_same o x txn.held g.away in
    let was_put : IsPut None o x (solo_shelving shelf') (solo_shelving shelf'') =
    subst (λ found. IfSome found (λ y. IsPut None o y (solo_shelving shelf')
    (solo_shelving shelf''))) found put in
    let put : shelf'' ≡ set shelf' o (Some x) = put-shelf shelf' shelf'' o x None (solo_shelving shelf') refl was_put in (
      put-back shelf shelf' shelf'' o x x g.home g.emptied put refl,
      less ∙ ap (λ (t : Session). holding t (without_held o t.held)) g.longer ∙ ap (holding txn) (without_held-more o x txn.held g.away),
    )

-- what the session has in hand is what it saw
working-ready : (o : ℕ) (x : Object) (shelf shelf' : List (Option Object)) (txn txn' : Session) →
    IsReady o x shelf txn shelf' txn' → (slot : Slot) × (seen_by shelf txn o ≡ Some slot)
    × (working_in o txn'.held ≡ slot.working)
working-ready o x shelf shelf' txn txn' ready =
    (ready.slot, ready.seen, ap (λ held. option_map_or working_of held Absent) ready.found ∙ ready.working)

-- so its answer takes memory as that of the object that it saw
takes-ready : (c : Command) (o : ℕ) (x : Object) (shelf shelf' : List (Option Object)) (txn txn' : Session) →
    IsReady o x shelf txn shelf' txn' → TakesMemory c (working_in o txn'.held) →
    IsSomeAnd (seen_by shelf txn o) (λ slot. TakesMemory c slot.working)
takes-ready c o x shelf shelf' txn txn' ready takes =
    let same = working-ready o x shelf shelf' txn txn' ready in
    subst (λ t. IsSomeAnd t (λ slot. TakesMemory c slot.working)) (sym same.1) (subst (TakesMemory c) same.2 takes)

-- the object in hand answers, and is worked on
pub served-ready : (c : Command) (o : ℕ) (r : Reply) (x : Object) (shelf shelf' : List (Option Object))
    (txn txn' txn'' : Session) → IsReady o x shelf txn shelf' txn' → txn.is_open ≡ true
    → r ≡ reply_in c (working_in o txn'.held) → IsWorked (after_in c (working_in o txn'.held)) o txn' txn'' →
    HasServed c o r shelf txn shelf' txn''
served-ready c o r x shelf shelf' txn txn' txn'' ready active answer worked =
    subst (HasServed c o r shelf txn shelf') (sym worked.txn) (record {
      slot = ready.slot;
      seen = ready.seen;
      reply = answer ∙ ap (reply_in c) seen;
      now = now;
      others = λ p other. ap (λ held. own p held) (held_object-with_other o p worked.now txn'.held other) ∙ ready.others p other;
      kept = record {
        session = ready.session;
        size = ready.size;
        sides = λ p. elim (cases_eq p o) [
          | inl this ↦ ap is_some (ap (seen_by shelf' (holding txn' (with_object o worked.now txn'.held))) this
              ∙ now) ∙ sym (ap is_some (ap (seen_by shelf txn) this ∙ ready.seen))
          | inr other ↦ ap is_some (ap (λ held. own p held) (held_object-with_other o p worked.now txn'.held other) ∙ ready.others p other)
        ];
        sound = record {
          objects = ready.sound.objects;
          few = subst (λ n. n ≤ MAX_HELD) (sym (length-with_object o worked.now txn'.held)) ready.sound.few;
          distinct = AreDistinct-with_object o worked.now txn'.held ready.sound.distinct;
          idle = λ idle. absurd (false≢true (sym idle ∙ ready.is_open ∙ active));
          out = λ p y found. out p y (held_object-with_object o p worked.now y txn'.held found);
        };
      };
      is_open = ready.is_open;
      stamp = ready.stamp;
    })
  where
    own : ℕ → Option Object → Option Slot
    own p held = own_seen txn'.session held (home_seen (slice_get shelf' p))

    same : worked.was ≡ x
    same = let both : Some worked.was ≡ Some x = sym worked.held ∙ ready.found in cc

    seen : working_in o txn'.held ≡ ready.slot.working
    seen = ap (λ held. option_map_or working_of held Absent) ready.found ∙ ready.working

    now : seen_by shelf' (holding txn' (with_object o worked.now txn'.held)) o ≡ Some (served txn.session c ready.slot)
    now =
        ap (λ held. own o held) (held_object-with_same o worked.was worked.now txn'.held worked.held)
        ∙ ap (λ s. Some (held_slot s worked.now)) ready.session
        ∙ ap (λ committed. Some (record {
          committed = committed;
          working = working_of worked.now;
          holder =
              Some txn.session;
          stamp = worked.now.annals;
        }))
        (worked.committed ∙ ap (λ y. y.committed) same ∙ ready.committed)
        ∙ ap (λ working. Some (record {
          committed = ready.slot.committed;
          working = working;
          holder =
              Some txn.session;
          stamp = worked.now.annals;
        })) (worked.working ∙ ap (after_in c) seen)
        ∙ ap (λ last. Some (record {
          committed = ready.slot.committed;
          working = after_in c ready.slot.working;
          holder = Some txn.session;
          stamp = last;
        })) (worked.annals ∙ ap (λ y. y.annals) same ∙ ready.last)

    out : (p : ℕ) (y : Object) → ((p ≡ o) × (y ≡ worked.now)) ⊎ (held_object p txn'.held ≡ Some y) → slice_get shelf' p ≡ Some None
    out p y (inl this) = ap (slice_get shelf') this.0 ∙ ready.sound.out o x ready.found
    out p y (inr before) = ready.sound.out p y before

-- After a hold that wasn't refused the session held the object before, and nothing has changed, or it has got it.
abbrev pub HasIt : ℕ → List (Option Object) → Session → List (Option Object) → Session → Type 0
HasIt o shelf txn shelf' txn' =
    ((x : Object) × (held_object o txn.held ≡ Some x) × (shelf' ≡ shelf) × (txn' ≡ txn)) ⊎ ((x : Object) × IsGot o x shelf txn shelf' txn')

pub has-it : (o : ℕ) (spare : ℕ → ℕ) (shelf shelf' : List (Option Object)) (txn txn' : Session) → IsSoundSession shelf txn
    → (IsSome (held_object o txn.held) → (txn' ≡ txn) × (solo_shelving shelf' ≡ solo_shelving shelf))
    → (held_object o txn.held ≡ None → Holds untold stamp spare o txn txn' (solo_shelving shelf) (solo_shelving shelf'))
    → ((held_object o txn.held ≡ None) × (o < txn.objects) × (length txn.held ≡ MAX_HELD) → ⊥) → HasIt o shelf txn shelf' txn'
has-it o spare shelf shelf' txn txn' sound held took not_full = by_hand (held_object o txn.held) refl
  where
    by_hand : (own : Option Object) → held_object o txn.held ≡ own → HasIt o shelf txn shelf' txn'
    by_hand (Some x) is = let same = held (ap is_some is) in inl (x, is, home-same shelf' shelf same.1, same.0)
    by_hand None is =
        let holds = took is in
        let there : o < length shelf = slice_get_within shelf o (Some holds.taken.was) holds.taken.take.was_home in
        let differs : length txn.held ≢ MAX_HELD = λ many. not_full (is, subst (λ n. o < n) (sym sound.objects) there, many) in
        let place : length txn.held < MAX_HELD = omega (arith, sound.few, differs) in
        inr (got o spare shelf shelf' txn txn' is place holds)

pub ready-from : (o : ℕ) (shelf shelf' : List (Option Object)) (txn txn' : Session) → IsSoundSession shelf txn →
    txn.is_open ≡ true → HasIt o shelf txn shelf' txn' → (x : Object) × IsReady o x shelf txn shelf' txn'
ready-from o shelf shelf' txn txn' sound active (inl own) = (
  own.0,
  subst (λ t. IsReady o own.0 shelf txn shelf' t) (sym own.3)
      (subst (λ s. IsReady o own.0 shelf txn s txn) (sym own.2) (ready-held o own.0 shelf txn sound own.1)),
)
ready-from o shelf shelf' txn txn' sound active (inr new) = (new.0, ready-taken o new.0 shelf shelf' txn txn' sound active new.1)

-- the object answers
pub answer-served : (c : Command) (o : ℕ) (r : Reply) (shelf shelf' : List (Option Object))
    (txn txn' txn'' : Session) → IsSoundSession shelf txn → txn.is_open ≡ true → HasIt o shelf txn shelf' txn'
    → r ≡ reply_in c (working_in o txn'.held) → IsWorked (after_in c (working_in o txn'.held)) o txn' txn'' →
    IsAnswer c o r shelf txn shelf' txn''
answer-served c o r shelf shelf' txn txn' txn'' sound active has reply worked =
    let ready = ready-from o shelf shelf' txn txn' sound active has in
    inr (inr (ready.1.free, served-ready c o r ready.0 shelf shelf' txn txn' txn'' ready.1 active reply worked))

-- there is no memory, and the session held the object before
pub answer-memory_held : (c : Command) (o : ℕ) (shelf shelf' : List (Option Object)) (txn txn' txn'' : Session) →
    IsSoundSession shelf txn → txn.is_open ≡ true → HasIt o shelf txn shelf' txn'
    → TakesMemory c (working_in o txn'.held) → IsSome (held_object o txn.held) → txn'' ≡ txn' →
    IsAnswer c o reply.Memory shelf txn shelf' txn''
answer-memory_held c o shelf shelf' txn txn' txn'' sound active has takes held same = by_case has
  where
    seen : IsSomeAnd (seen_by shelf txn o) (λ slot. TakesMemory c slot.working)
    seen = let ready = ready-from o shelf shelf' txn txn' sound active has in takes-ready c o ready.0 shelf shelf' txn txn' ready.1 takes

    by_case : HasIt o shelf txn shelf' txn' → IsAnswer c o reply.Memory shelf txn shelf' txn''
    by_case (inl own) = inr (inl (rw held refl, refl, own.2, same ∙ own.3, seen))
    by_case (inr new) = absurd (false≢true (sym (ap is_some new.1.away) ∙ held))

-- there is no memory, and what was taken is put back
pub answer-memory_new : (c : Command) (o : ℕ) (shelf shelf' shelf'' : List (Option Object))
    (txn txn' txn'' : Session) → IsSoundSession shelf txn → txn.is_open ≡ true → HasIt o shelf txn shelf' txn'
    → TakesMemory c (working_in o txn'.held) → is_some (held_object o txn.held) ≡ false →
    txn'' ≡ holding txn' (without_held o txn'.held) →
    IfSome (held_object o txn'.held) (λ y. IsPut None o y (solo_shelving shelf') (solo_shelving shelf''))
    → IsAnswer c o reply.Memory shelf txn shelf'' txn''
answer-memory_new c o shelf shelf' shelf'' txn txn' txn'' sound active has takes away less put = by_case has
  where
    by_case : HasIt o shelf txn shelf' txn' → IsAnswer c o reply.Memory shelf txn shelf'' txn''
    by_case (inl own) = absurd (false≢true (sym away ∙ ap is_some own.1))
    by_case (inr new) =
        let back = let-go o new.0 shelf shelf' shelf'' txn txn' txn'' new.1 less put in
        let ready = ready-taken o new.0 shelf shelf' txn txn' sound active new.1 in
        inr (inl (ready.free, refl, back.0, back.1, takes-ready c o new.0 shelf shelf' txn txn' ready takes))

-- what was taken rests
pub rests-new : (o : ℕ) (shelf shelf' : List (Option Object)) (txn txn' : Session) → HasIt o shelf txn shelf' txn' →
    is_some (held_object o txn.held) ≡ false
    → (x : Object) × (held_object o txn'.held ≡ Some x) × (x.working ≡ None)
rests-new o shelf shelf' txn txn' (inl own) away = absurd (false≢true (sym away ∙ ap is_some own.1))
rests-new o shelf shelf' txn txn' (inr new) away =
    (new.0, ap (λ (t : Session). held_object o t.held) new.1.longer ∙ held_object-more_same o new.0 txn.held new.1.away, new.1.rests)

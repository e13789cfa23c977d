-- A session takes an object from the shelf, is refused, or puts it back as it came.
use Rattle.std.proofs.Common.{◌≡◌, ◌≢◌, ℕ, zero, suc, ◌<◌, ◌≤◌, ◌^◌, ◌↔◌, nat_eq, nat_le, true, false, List, []}
use Rattle.std.proofs.Common.{◌∷◌, length, set, Option, Some, None, slice_get, refl, ap, sym, ◌∙◌, subst, arith}
use Rattle.std.proofs.Common.{inl}
use Rattle.std.specs.Prelude.{slice_set}
use Rattle.std.specs.Option.{option_map}
use Rattle.std.proofs.lemmas.Bool.{eq-eqb, ne_eqb, le-leb, lt-leb}
use Rattle.std.proofs.lemmas.Option.{slice_get_within}
use Rattle.eos_ops.specs.declared.command.Command.{Command}
use Rattle.eos_ops.specs.declared.end.End.{End}
use Rattle.eos_ops.specs.declared.limits.TheConstants.{MAX_HELD, LAST_STAMP}
use Rattle.eos_ops.specs.declared.reply.Reply.TheVariants as reply
use Rattle.object_locks.specs.Shelving.{Shelving, IsTake, IsPut}
use Rattle.object_locks.specs.Solo.{solo_shelving}
use Rattle.shadow_txn.specs.declared.fails.HoldFail.{HoldFail}
use Rattle.shadow_txn.specs.declared.fails.HoldFail.TheVariants.{NoObject, Full, Busy, Worn, Memory}
use Rattle.shadow_txn.specs.Held.{held_object}
use Rattle.shadow_txn.specs.Taking.{IsSameObject, IsReturned, Leaves, CanAsk}
use Rattle.world.specs.Served.{IsAnswer}
use Rattle.world.specs.Session.{Object, Session, hold_reply, place_refused, refused_by, IsSoundSession}

-- the annals of a session's objects tell no ends
abbrev pub untold : ℕ → Option (List End)
untold n = None

abbrev pub stamp : ℕ → ℕ
stamp n = n

-- the same home is the same shelf
pub home-same : (xs ys : List (Option Object)) → solo_shelving xs ≡ solo_shelving ys → xs ≡ ys
home-same xs ys same = let home : Some xs ≡ Some ys = ap (λ (s : Shelving Object). s.home) same in cc

-- the same object
pub same-object : (x y : Object) → IsSameObject untold stamp x y → y ≡ x
same-object x y same =
    ap (λ committed. record { committed = committed; working = y.working; annals = y.annals }) same.committed
    ∙ ap (λ working. record { committed = x.committed; working = working; annals = y.annals }) same.working
    ∙ ap (λ annals. record { committed = x.committed; working = x.working; annals = annals }) same.stamp

-- the place of an object that was taken is empty
pub taken-shelf : (xs ys : List (Option Object)) (o : ℕ) (x : Object) (ends : Option (List End))
    (now : Shelving Object) → now.home ≡ Some ys → IsTake ends o x (solo_shelving xs) now → ys ≡ set xs o None
taken-shelf xs ys o x ends now is take = let home : Some ys ≡ Some (set xs o None) = sym is ∙ take.home in cc

-- what is put stands at its place
pub put-shelf : (xs ys : List (Option Object)) (o : ℕ) (x : Object) (ends : Option (List End))
    (old : Shelving Object) → old.home ≡ Some xs → IsPut ends o x old (solo_shelving ys) → ys ≡ set xs o (Some x)
put-shelf xs ys o x ends old is put =
    let home : Some ys ≡ Some (set xs o (Some x)) = put.home ∙ ap (λ h. option_map (λ zs. slice_set zs o (Some x)) h) is in cc

pub set-back : {A : Type 0} (xs : List A) (o : ℕ) (x y : A) → slice_get xs o ≡ Some x → set (set xs o y) o x ≡ xs
set-back [] o x y found = absurd cc
set-back (z ∷ xs) zero x y found = let same : z ≡ x = cc in ap (λ first. first ∷ xs) (sym same)
set-back (z ∷ xs) (suc o) x y found = ap (λ rest. z ∷ rest) (set-back xs o x y found)

-- an object that was taken and put back
pub put-back : (xs ys zs : List (Option Object)) (o : ℕ) (x y : Object) → slice_get xs o ≡ Some (Some x) →
    ys ≡ set xs o None → zs ≡ set ys o (Some y) → y ≡ x → zs ≡ xs
put-back xs ys zs o x y home taken put same =
    put ∙ ap (λ shelf. set shelf o (Some y)) taken ∙ ap (λ object. set (set xs o None) o (Some object)) same
    ∙ set-back xs o (Some x) None home

returned : (xs ys : List (Option Object)) (o at : ℕ) → IsReturned untold stamp o at (solo_shelving xs) (solo_shelving ys)
    → (ys ≡ xs) × ((x : Object) × (slice_get xs o ≡ Some (Some x)) × (x.annals ≡ at))
returned xs ys o at r =
    let home : slice_get xs o ≡ Some (Some r.was) = r.take.was_home in
    let between : r.between.home ≡ Some (set xs o None) = r.take.home in
    let put : ys ≡ set (set xs o None) o (Some r.back) = put-shelf (set xs o None) ys o r.back None r.between between r.put in
    (put-back xs (set xs o None) ys o r.was r.back home refl put (same-object r.was r.back r.same), (r.was, home, r.stamp))

-- how an object that isn't held is refused
pub refused-away : (shelf : List (Option Object)) (txn : Session) (o : ℕ) → held_object o txn.held ≡ None →
    o < length shelf → length txn.held < MAX_HELD → refused_by shelf txn o ≡ place_refused (slice_get shelf o)
refused-away shelf txn o none there place =
    let present : nat_le (length shelf) o ≡ false = lt-leb (length shelf) o there in
    let few : nat_le MAX_HELD (length txn.held) ≡ false = lt-leb MAX_HELD (length txn.held) place in
    rw (none, present, few) refl

refused-past : (shelf : List (Option Object)) (txn : Session) (o : ℕ) → held_object o txn.held ≡ None →
    length shelf ≤ o → refused_by shelf txn o ≡ Some reply.NoObject
refused-past shelf txn o none past = let absent : nat_le (length shelf) o ≡ true = le-leb (length shelf) o past in rw (none, absent) refl

refused-full : (shelf : List (Option Object)) (txn : Session) (o : ℕ) → held_object o txn.held ≡ None →
    o < length shelf → length txn.held ≡ MAX_HELD → refused_by shelf txn o ≡ Some reply.Full
refused-full shelf txn o none there many =
    let present : nat_le (length shelf) o ≡ false = lt-leb (length shelf) o there in
    let full : nat_le MAX_HELD (length txn.held) ≡ true = le-leb MAX_HELD (length txn.held) (omega (arith, many)) in
    rw (none, present, full) refl

-- an object at home is refused by its stamp alone
pub place-worn : (shelf : List (Option Object)) (o : ℕ) (x : Object) → slice_get shelf o ≡ Some (Some x) →
    x.annals ≡ 2 ^ 62 → place_refused (slice_get shelf o) ≡ Some reply.Worn
place-worn shelf o x home last = let worn : nat_eq x.annals LAST_STAMP ≡ true = eq-eqb x.annals LAST_STAMP last in rw (home, worn) refl

pub place-free : (shelf : List (Option Object)) (o : ℕ) (x : Object) → slice_get shelf o ≡ Some (Some x) →
    x.annals < 2 ^ 62 → place_refused (slice_get shelf o) ≡ None
place-free shelf o x home below = let left : nat_eq x.annals LAST_STAMP ≡ false =
    ne_eqb x.annals LAST_STAMP (λ e. absurd (omega (arith, e, below))) in rw (home, left) refl

-- what a refused hold says of the session, beside what it leaves of the shelf
pub record IsRefused (fail : HoldFail) (o : ℕ) (shelf : List (Option Object)) (txn : Session) : Type 0 where
  pub away : held_object o txn.held ≡ None
  pub no_object : (fail ≡ NoObject) ↔ (txn.objects ≤ o)
  pub full : (fail ≡ Full) ↔ ((o < txn.objects) × (length txn.held ≡ MAX_HELD))
  pub busy : fail ≡ Busy → CanAsk o txn × (slice_get shelf o ≡ Some None)
  pub plenty : fail ≢ Memory

-- there is a place, where the transaction isn't full
has-place : (fail : HoldFail) (o : ℕ) (shelf : List (Option Object)) (txn : Session) → IsSoundSession shelf txn →
    IsRefused fail o shelf txn → fail ≢ Full → o < length shelf → length txn.held < MAX_HELD
has-place fail o shelf txn sound refused not_full there =
    let differs : length txn.held ≢ MAX_HELD = λ many. not_full (refused.full.1 (subst (λ n. o < n) (sym sound.objects) there, many)) in
    omega (arith, sound.few, differs)

-- a refused hold changes nothing, and is the refusal that is due
pub answer-refused : (c : Command) (o : ℕ) (fail : HoldFail) (shelf shelf' : List (Option Object)) (txn : Session) →
    IsSoundSession shelf txn → IsRefused fail o shelf txn
    → Leaves untold stamp fail o (solo_shelving shelf) (solo_shelving shelf') → IsAnswer c o (hold_reply fail) shelf txn shelf' txn
answer-refused c o NoObject shelf shelf' txn sound refused leaves =
    inl (
      refused-past shelf txn o refused.away (subst (λ n. n ≤ o) sound.objects (refused.no_object.0 refl)),
      home-same shelf' shelf leaves,
      refl,
    )
answer-refused c o Full shelf shelf' txn sound refused leaves =
    let why = refused.full.0 refl in
    inl (refused-full shelf txn o refused.away (subst (λ n. o < n) sound.objects why.0) why.1, home-same shelf' shelf leaves, refl)
answer-refused c o Busy shelf shelf' txn sound refused leaves =
    let why = refused.busy refl in
    let home : Some shelf' ≡ Some shelf = ap (λ (s : Shelving Object). s.home) leaves in
    inl (refused-away shelf txn o refused.away (slice_get_within shelf o None why.1) why.0.place ∙ ap place_refused why.1, cc, refl)
answer-refused c o Worn shelf shelf' txn sound refused leaves =
    let back = returned shelf shelf' o (2 ^ 62) leaves in
    let there : o < length shelf = slice_get_within shelf o (Some back.1.0) back.1.1 in
    inl (
      refused-away shelf txn o refused.away there (has-place Worn o shelf txn sound refused (λ e. cc) there)
          ∙ place-worn shelf o back.1.0 back.1.1 back.1.2,
      back.0,
      refl,
    )
answer-refused c o Memory shelf shelf' txn sound refused leaves = absurd (refused.plenty refl)

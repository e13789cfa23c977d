-- A hold that is refused changes nothing, and is the refusal that is due.
use Rattle.std.proofs.Common.{◌≡◌, ◌≢◌, ℕ, ◌<◌, ◌≤◌, ◌^◌, ◌↔◌, nat_eq, nat_le, Bool, true, false, List}
use Rattle.std.proofs.Common.{length, set, Option, Some, None, slice_get, refl, ap, sym, ◌∙◌, subst, arith}
use Rattle.std.proofs.Common.{inl}
use Rattle.std.specs.Prelude.{slice_set}
use Rattle.std.specs.Option.{option_map}
use Rattle.std.proofs.lemmas.Bool.{eq-eqb, ne_eqb, le-leb, lt-leb}
use Rattle.std.proofs.lemmas.Option.{slice_get_within}
use Rattle.eos_ops.specs.declared.command.Command.{Command}
use Rattle.eos_ops.specs.declared.end.End.{End}
use Rattle.eos_ops.specs.declared.limits.TheConstants.{MAX_HELD, LAST_STAMP}
use Rattle.eos_ops.specs.declared.reply.Reply.TheVariants as reply
use Rattle.object_body.specs.declared.object.Object.{Object}
use Rattle.object_body.specs.Form.{Form, Contents}
use Rattle.object_locks.specs.Shelving.{Shelving, IsTake, IsPut}
use Rattle.object_locks.specs.Solo.{solo_shelving}
use Rattle.shadow_txn.specs.declared.fails.HoldFail.{HoldFail}
use Rattle.shadow_txn.specs.declared.fails.HoldFail.TheVariants.{NoObject, Full, Busy, Worn, Memory}
use Rattle.shadow_txn.specs.Held.{held_object}
use Rattle.shadow_txn.specs.Taking.{CanAsk}
use Rattle.shadow_txn.specs.Transaction.{Transaction}
use Rattle.body_txn.specs.Fields.{at_annals, body_of}
use Rattle.body_txn.specs.Taking.{IsSame, WasReturned, RefusalLeaves}
use Rattle.world.specs.Session.{hold_reply}
use Rattle.world.proofs.Taking.{set-back}
use Rattle.body_world.specs.Served.{IsAnswer, Works}
use Rattle.body_world.specs.Session.{Shown, shown_by, stamp_of_object, place_refused, refused_by, IsSoundSession}
use Rattle.body_world.proofs.Terms.{untold}

-- the same home is the same shelf
pub home-same : {T : Type 0} (xs ys : List (Option T)) → solo_shelving xs ≡ solo_shelving ys → xs ≡ ys
home-same {T} xs ys same = let home : Some xs ≡ Some ys = ap (λ (s : Shelving T). s.home) same in cc

-- the same object
pub same-object : {B : Type 0} (x y : Object B ℕ) → IsSame body_of (at_annals untold) stamp_of_object x y → y ≡ x
same-object x y same =
    ap (λ body. record { body = body; annals = y.annals }) same.versions
    ∙ ap (λ annals. record { body = x.body; annals = annals }) same.stamp

-- the place of an object that was taken is empty
pub taken-shelf : {T : Type 0} (xs ys : List (Option T)) (o : ℕ) (x : T) (ends : Option (List End))
    (now : Shelving T) → now.home ≡ Some ys → IsTake ends o x (solo_shelving xs) now → ys ≡ set xs o None
taken-shelf xs ys o x ends now is take = let home : Some ys ≡ Some (set xs o None) = sym is ∙ take.home in cc

-- what is put stands at its place
pub put-shelf : {T : Type 0} (xs ys : List (Option T)) (o : ℕ) (x : T) (ends : Option (List End))
    (old : Shelving T) → old.home ≡ Some xs → IsPut ends o x old (solo_shelving ys) → ys ≡ set xs o (Some x)
put-shelf xs ys o x ends old is put =
    let home : Some ys ≡ Some (set xs o (Some x)) = put.home ∙ ap (λ h. option_map (λ zs. slice_set zs o (Some x)) h) is in cc

-- an object that was taken and put back
returned : {B : Type 0} (xs ys : List (Option (Object B ℕ))) (o at : ℕ)
    → WasReturned body_of (at_annals untold) stamp_of_object o at (solo_shelving xs) (solo_shelving ys)
    → (ys ≡ xs) × ((x : Object B ℕ) × (slice_get xs o ≡ Some (Some x)) × (x.annals ≡ at))
returned xs ys o at r =
    let home : slice_get xs o ≡ Some (Some r.was) = r.take.was_home in
    let between : r.between.home ≡ Some (set xs o None) = r.take.home in
    let put : ys ≡ set (set xs o None) o (Some r.back) = put-shelf (set xs o None) ys o r.back None r.between between r.put in (
      put ∙ ap (λ object. set (set xs o None) o (Some object)) (same-object r.was r.back r.same) ∙ set-back xs o (Some r.was) None home,
      (r.was, home, r.stamp),
    )

-- how an object that isn't held is refused
pub refused-away : {T : Type 0} (show : T → Shown) (shelf : List (Option T)) (txn : Transaction T) (o : ℕ) → held_object o txn.held ≡ None
    → o < length shelf → length txn.held < MAX_HELD → refused_by show shelf txn o ≡ place_refused show (slice_get shelf o)
refused-away show shelf txn o none there place =
    let present : nat_le (length shelf) o ≡ false = lt-leb (length shelf) o there in
    let few : nat_le MAX_HELD (length txn.held) ≡ false = lt-leb MAX_HELD (length txn.held) place in
    rw (none, present, few) refl

refused-past : {T : Type 0} (show : T → Shown) (shelf : List (Option T)) (txn : Transaction T) (o : ℕ) → held_object o txn.held ≡ None
    → length shelf ≤ o → refused_by show shelf txn o ≡ Some reply.NoObject
refused-past show shelf txn o none past =
    let absent : nat_le (length shelf) o ≡ true = le-leb (length shelf) o past in rw (none, absent) refl

refused-full : {T : Type 0} (show : T → Shown) (shelf : List (Option T)) (txn : Transaction T) (o : ℕ) → held_object o txn.held ≡ None
    → o < length shelf → length txn.held ≡ MAX_HELD → refused_by show shelf txn o ≡ Some reply.Full
refused-full show shelf txn o none there many =
    let present : nat_le (length shelf) o ≡ false = lt-leb (length shelf) o there in
    let full : nat_le MAX_HELD (length txn.held) ≡ true = le-leb MAX_HELD (length txn.held) (omega (arith, many)) in
    rw (none, present, full) refl

-- an object at home is refused by its stamp alone
pub place-worn : {T : Type 0} (show : T → Shown) (shelf : List (Option T)) (o : ℕ) (x : T) → slice_get shelf o ≡ Some (Some x)
    → (show x).stamp ≡ 2 ^ 62 → place_refused show (slice_get shelf o) ≡ Some reply.Worn
place-worn show shelf o x home last =
    let worn : nat_eq (show x).stamp LAST_STAMP ≡ true = eq-eqb (show x).stamp LAST_STAMP last in rw (home, worn) refl

pub place-free : {T : Type 0} (show : T → Shown) (shelf : List (Option T)) (o : ℕ) (x : T) → slice_get shelf o ≡ Some (Some x)
    → (show x).stamp < 2 ^ 62 → place_refused show (slice_get shelf o) ≡ None
place-free show shelf o x home below = let left : nat_eq (show x).stamp LAST_STAMP ≡ false =
    ne_eqb (show x).stamp LAST_STAMP (λ e. absurd (omega (arith, e, below))) in rw (home, left) refl

-- what a refused hold says of the session, beside what it leaves of the shelf
pub record IsRefused {T : Type 0} (fail : HoldFail) (o : ℕ) (shelf : List (Option T)) (txn : Transaction T) : Type 0 where
  pub away : held_object o txn.held ≡ None
  pub no_object : (fail ≡ NoObject) ↔ (txn.objects ≤ o)
  pub full : (fail ≡ Full) ↔ ((o < txn.objects) × (length txn.held ≡ MAX_HELD))
  pub busy : fail ≡ Busy → CanAsk o txn × (slice_get shelf o ≡ Some None)
  pub plenty : fail ≢ Memory

-- there is a place, where the transaction isn't full
has-place : {T : Type 0} (fail : HoldFail) (o : ℕ) (shelf : List (Option T)) (txn : Transaction T) → IsSoundSession shelf txn
    → IsRefused fail o shelf txn → fail ≢ Full → o < length shelf → length txn.held < MAX_HELD
has-place fail o shelf txn sound refused not_full there =
    let differs : length txn.held ≢ MAX_HELD = λ many. not_full (refused.full.1 (subst (λ n. o < n) (sym sound.objects) there, many)) in
    omega (arith, sound.few, differs)

pub answer-refused : {B : Type 0} (tells : Bool) (suits : Contents → Type 0) (form : B → Form) (contents : B → Contents)
    (Makes : Shown → Shown → Works → Works → Type 0) (c : Command) (o : ℕ) (fail : HoldFail)
    (shelf shelf' : List (Option (Object B ℕ))) (txn : Transaction (Object B ℕ)) (works : Works) → IsSoundSession shelf txn
    → IsRefused fail o shelf txn
    → RefusalLeaves body_of (at_annals untold) stamp_of_object fail o (solo_shelving shelf) (solo_shelving shelf')
    → IsAnswer tells suits (shown_by form contents) Makes c o (hold_reply fail) shelf txn works shelf' txn works
answer-refused tells suits form contents Makes c o NoObject shelf shelf' txn works sound refused leaves =
    inl (
      refused-past (shown_by form contents) shelf txn o refused.away (subst (λ n. n ≤ o) sound.objects (refused.no_object.0 refl)),
      home-same shelf' shelf leaves,
      refl,
      refl,
    )
answer-refused tells suits form contents Makes c o Full shelf shelf' txn works sound refused leaves =
    let why = refused.full.0 refl in
    inl (
      refused-full (shown_by form contents) shelf txn o refused.away (subst (λ n. o < n) sound.objects why.0) why.1,
      home-same shelf' shelf leaves,
      refl,
      refl,
    )
answer-refused {B} tells suits form contents Makes c o Busy shelf shelf' txn works sound refused leaves =
    let why = refused.busy refl in
    let home : Some shelf' ≡ Some shelf = ap (λ (s : Shelving (Object B ℕ)). s.home) leaves in
    inl (
      refused-away (shown_by form contents) shelf txn o refused.away (slice_get_within shelf o None why.1) why.0.place
          ∙ ap (place_refused (shown_by form contents)) why.1,
      cc,
      refl,
      refl,
    )
answer-refused tells suits form contents Makes c o Worn shelf shelf' txn works sound refused leaves =
    let back = returned shelf shelf' o (2 ^ 62) leaves in
    let there : o < length shelf = slice_get_within shelf o (Some back.1.0) back.1.1 in
    inl (
      refused-away (shown_by form contents) shelf txn o refused.away there (has-place Worn o shelf txn sound refused (λ e. cc) there)
          ∙ place-worn (shown_by form contents) shelf o back.1.0 back.1.1 back.1.2,
      back.0,
      refl,
      refl,
    )
answer-refused tells suits form contents Makes c o Memory shelf shelf' txn works sound refused leaves = absurd (refused.plenty refl)

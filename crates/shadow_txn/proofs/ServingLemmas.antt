-- What holds of a shelf and a transaction after a take.
use Rattle.std.proofs.Common.{◌≡◌, ◌≢◌, ℕ, ◌<◌, ◌≤◌, ◌^◌, List, [], ◌∷◌, ◌++◌, length, Bool, true, false, refl, ap}
use Rattle.std.proofs.Common.{sym, ◌∙◌, subst, arith, Option, Some, None, slice_index_or, slice_set, ⊎_elim}
use Rattle.std.specs.Prelude.{IfSome, IsSome, OnSome, IsSomeAnd, is_some, All}
use Rattle.std.specs.Option.{option_map}
use Rattle.std.proofs.lemmas.List.Elements.{All-push, All-set}
use Rattle.std.proofs.lemmas.List.{length_push, length-set}
use Rattle.eos_ops.specs.declared.act.Act.{Act}
use Rattle.eos_ops.specs.declared.end.End.{End}
use Rattle.eos_ops.specs.declared.plain.Plain.TheVariants.{Absent}
use Rattle.eos_ops.specs.Ends.{last_stamp_of}
use Rattle.eos_ops.specs.declared.limits.TheConstants.{MAX_HELD}
use Rattle.object_locks.specs.Shelving.{Shelving, Terms, Log, with_take, last_told}
use Rattle.shadow_txn.specs.declared.held.Held.{Held}
use Rattle.shadow_txn.specs.declared.plain_object.PlainObject.{PlainObject}
use Rattle.shadow_txn.specs.Held.{held_object, with_object, with_acts, IsFirstAt, AreDistinct, done_to}
use Rattle.history.specs.Annals.{IsLegal}
use Rattle.shadow_txn.specs.Objects.{IsLegalObject}
use Rattle.shadow_txn.specs.Serving.{IsPast, Serves, AreLegal, Agree}
use Rattle.shadow_txn.specs.Taking.{HasTaken}
use Rattle.shadow_txn.specs.Transaction.{Transaction, holding, noting, IsSoundTxn}
use Rattle.shadow_txn.proofs.HeldLemmas.{held_object-push, held_object-push_none, AreDistinct-push, done_to-at}
use Rattle.shadow_txn.proofs.HeldLemmas.{held_object-with_acts, AreDistinct-with_acts, AreDistinct-with_object}
use Rattle.shadow_txn.proofs.HeldLemmas.{held_object-with_object, held_object-none_before}

-- a place keeps its invariant when it holds one object more
pub sound-push : {T : Type 0} (spare last : T → ℕ) (Made : T → List Act → Type 0) (capacity : ℕ) (t : Transaction T) (h : Held T)
    → IsSoundTxn spare last Made capacity t → t.is_open ≡ true → held_object h.number t.held ≡ None →
    h.number < t.objects → length t.held < MAX_HELD
    → 1 ≤ spare h.object → last h.object < 2 ^ 62 → Made h.object h.acts →
    IsSoundTxn spare last Made capacity (holding t (t.held ++ h ∷ []))
sound-push spare last Made capacity t h s active away present place room left made = record {
  session = s.session;
  places = s.places;
  few = omega (arith, length_push t.held h);
  idle = λ idle. absurd cc;
  begun = s.begun;
  number = s.number;
  stamp = s.stamp;
  left = s.left;
  room = All-push (λ (k : Held _). 1 ≤ spare k.object) t.held h s.room room;
  lasts = All-push (λ (k : Held _). last k.object < 2 ^ 62) t.held h s.lasts left;
  present = All-push (λ (k : Held _). k.number < t.objects) t.held h s.present present;
  distinct = AreDistinct-push t.held h s.distinct away;
  made = All-push (λ (k : Held _). Made k.object k.acts) t.held h s.made made;
}

-- a fact for the value of an option goes over to an equal option
pub if_some : {A : Type 0} {P Q : A → Type 0} (o o' : Option A) → o' ≡ o → ((a : A) → P a → Q a) → IfSome o P → IfSome o' Q
if_some None None e step fact = tt
if_some None (Some b) e step fact = absurd cc
if_some (Some a) None e step fact = tt
if_some {A} {P} {Q} (Some a) (Some b) e step fact = let same : a ≡ b = cc in subst Q same (step a fact)

-- a shelf that tells its past has seen the object that it hands out
pub past-push : {H : Type 0} (told : H → Option (List End)) (last : H → ℕ) (t : Transaction (PlainObject H)) (o : ℕ)
    (was object : PlainObject H) (g : Log)
    → last object.annals ≡ last_told (told was.annals)
    → IsPast (λ x. last x.annals) t g → IsPast (λ x. last x.annals)
    (holding t (t.held ++ record { number = o; object = object; acts = [] } ∷ []))
    (with_take o (told was.annals) g)
past-push told last t o was object g stamp past = record {
  seen = λ q x found.
      ⊎_elim
      (λ (held : held_object q t.held ≡ Some x). omega (arith, past.seen q x held))
      (λ (new : (held_object q t.held ≡ None) × (o ≡ q) × (object ≡ x)). let at : last x.annals
      ≡ last_told (told was.annals) = ap (λ (y : PlainObject _). last y.annals) (sym new.2) ∙ stamp in
      omega arith)
      (held_object-push q t.held (record { number = o; object = object; acts = [] }) x (held_object q t.held) refl found);
  number = past.number;
  stamp = omega (arith, past.stamp);
}

seen_stamp : {H : Type 0} (told : H → Option (List End)) (last : H → ℕ) (was object : PlainObject H)
    → (ends : Option (List End)) → told was.annals ≡ ends → IsSome ends → told object.annals ≡ told was.annals
    → IfSome (told object.annals) (λ es. last object.annals ≡ last_stamp_of es) → last object.annals ≡ last_told (told was.annals)
seen_stamp told last was object None e some same ages = absurd cc
seen_stamp told last was object (Some es) e some same ages =
    let at : IfSome (Some es) (λ fs. last object.annals ≡ last_stamp_of fs) =
    subst (λ o. IfSome o (λ fs. last object.annals ≡ last_stamp_of fs)) (same ∙ e) ages in
    rw e at

past_taken : {H : Type 0} (told : H → Option (List End)) (last : H → ℕ) (t : Transaction (PlainObject H)) (o : ℕ)
    (was object : PlainObject H) (before after : Option Log)
    → after ≡ option_map (with_take o (told was.annals)) before
    → OnSome before (IsSome (told was.annals))
    → (IsSome (told was.annals) → last object.annals ≡ last_told (told was.annals))
    → IfSome before (IsPast (λ x. last x.annals) t)
    → IfSome after (IsPast (λ x. last x.annals) (holding t (t.held ++ record { number = o; object = object; acts = [] } ∷ [])))
past_taken told last t o was object None None e some stamp past = tt
past_taken told last t o was object None (Some h) e some stamp past = absurd cc
past_taken told last t o was object (Some g) None e some stamp past = tt
past_taken told last t o was object (Some g) (Some h) e some stamp past =
    let same : with_take o (told was.annals) g ≡ h = cc in
    subst (IsPast (λ x. last x.annals) (holding t (t.held ++ record { number = o; object = object; acts = [] } ∷ []))) same
    (past-push told last t o was object g (stamp some) past)

-- the shelf serves the transaction with the object that was taken
pub serves-push : {H : Type 0} (told : H → Option (List End)) (last spare : H → ℕ) (t : Transaction (PlainObject H))
    (o : ℕ) (object : PlainObject H) (old new : Shelving (PlainObject H))
    → Serves told last t old → HasTaken told last spare o object old new → held_object o t.held ≡ None
    → Serves told last (holding t (t.held ++ record { number = o; object = object; acts = [] } ∷ [])) new
serves-push told last spare t o object old new serves taken away =
    let h : Held (PlainObject _) = record { number = o; object = object; acts = [] } in
    let take = taken.take in
    let differs : (q : ℕ) (x : PlainObject _) → held_object q t.held ≡ Some x → q ≢ o = λ q x found same. let e =
    ap (λ n. held_object n t.held) same in cc in
    record {
      objects = take.same.objects ∙ serves.objects;
      session = if_some old.session new.session take.same.session (λ s own. own) serves.session;
      came = λ q x found.
          ⊎_elim
          (λ (held : held_object q t.held ≡ Some x).
          subst (λ out. IsSomeAnd out (λ known. IfSome known (λ ends. told x.annals ≡ Some ends)))
          (sym (take.others q (differs q x held))) (serves.came q x held))
          (λ (one : (held_object q t.held ≡ None) × (o ≡ q) × (object ≡ x)).
          let here : IsSomeAnd (new.out o) (λ known. IfSome known (λ ends. told object.annals ≡ Some ends)) =
          rw taken.same.ends take.out in
          subst (λ n. IsSomeAnd (new.out n) (λ known. IfSome known (λ ends. told x.annals ≡ Some ends))) one.1
          (subst (λ (y : PlainObject _). IsSomeAnd (new.out o) (λ known. IfSome known (λ ends. told y.annals ≡ Some ends))) one.2 here))
          (held_object-push q t.held h x (held_object q t.held) refl found);
      just = if_some old.session new.session take.same.session
          (λ s free q none. let apart = held_object-push_none q t.held h (held_object q t.held) refl none in
          take.others q apart.1 ∙ free q apart.0)
          serves.just;
      past = past_taken told last t o taken.was object old.log new.log take.log take.told
          (λ some. seen_stamp told last taken.was object (told taken.was.annals) refl some taken.same.ends taken.ages)
          serves.past;
    }

-- a place keeps its invariant when a held object changes and its annals don't
pub sound-set : {T : Type 0} (spare last : T → ℕ) (Made : T → List Act → Type 0) (capacity : ℕ) (t : Transaction T)
    (o i : ℕ) (h : Held T) (x : T) (acts : List Act)
    → IsSoundTxn spare last Made capacity t → IsFirstAt t.held o i → h ≡ slice_index_or t.held i h →
    spare x ≡ spare h.object → last x ≡ last h.object
    → (Made h.object h.acts → Made x (h.acts ++ acts)) →
    IsSoundTxn spare last Made capacity (holding t (slice_set t.held i (done_to h x acts)))
sound-set spare last Made capacity t o i h x acts s place is same_spare same_last made =
    let one : Held _ = done_to h x acts in
    let own : (P : Held _ → Type 0) → All P t.held → P h = λ P all. subst P (sym is) (all i h place.within) in
    record {
      session = s.session;
      places = s.places;
      few = omega (arith, length-set t.held i one, s.few);
      idle = λ idle. rw (s.idle idle) refl;
      begun = s.begun;
      number = s.number;
      stamp = s.stamp;
      left = s.left;
      room = All-set (λ (k : Held _). 1 ≤ spare k.object) t.held i one (rw same_spare (own (λ k. 1 ≤ spare k.object) s.room)) s.room;
      lasts = All-set (λ (k : Held _). last k.object < 2 ^ 62) t.held i one
          (rw same_last (own (λ k. last k.object < 2 ^ 62) s.lasts)) s.lasts;
      present = All-set (λ (k : Held _). k.number < t.objects) t.held i one (own (λ k. k.number < t.objects) s.present) s.present;
      distinct = subst AreDistinct (sym (done_to-at t.held o i h x acts place is))
          (AreDistinct-with_acts o acts (with_object o x t.held) (AreDistinct-with_object o x t.held s.distinct));
      made = All-set (λ (k : Held _). Made k.object k.acts) t.held i one (made (own (λ k. Made k.object k.acts) s.made)) s.made;
    }

-- a shelf goes on to serve a transaction of which a held object changes, but not its annals
pub serves-with_object : {H : Type 0} (told : H → Option (List End)) (last : H → ℕ)
    (t : Transaction (PlainObject H)) (o : ℕ) (x y : PlainObject H) (shelf : Shelving (PlainObject H))
    → held_object o t.held ≡ Some x → y.annals ≡ x.annals → Serves told last t shelf →
    Serves told last (holding t (with_object o y t.held)) shelf
serves-with_object told last t o x y shelf held same s = record {
  objects = s.objects;
  session = s.session;
  came = λ q z found.
      ⊎_elim
      (λ (new : (q ≡ o) × (z ≡ y)).
      let here : IsSomeAnd (shelf.out o) (λ known. IfSome known (λ was. told y.annals ≡ Some was)) = rw same (s.came o x held) in
      subst (λ n. IsSomeAnd (shelf.out n) (λ known. IfSome known (λ was. told z.annals ≡ Some was))) (sym new.0)
      (subst (λ (w : PlainObject _). IsSomeAnd (shelf.out o) (λ known. IfSome known (λ was. told w.annals ≡ Some was))) (sym new.1) here))
      (λ (was : held_object q t.held ≡ Some z). s.came q z was)
      (held_object-with_object o q y z t.held found);
  just = if_some shelf.session shelf.session refl (λ i free q none. free q (held_object-none_before o q y t.held none)) s.just;
  past = if_some shelf.log shelf.log refl
      (λ g past. record {
        seen = λ q z found.
            ⊎_elim
            (λ (new : (q ≡ o) × (z ≡ y)). let at : last z.annals ≡ last x.annals =
            ap (λ (w : PlainObject _). last w.annals) new.1 ∙ ap last same in omega (arith, past.seen o x held))
            (λ (was : held_object q t.held ≡ Some z). past.seen q z was)
            (held_object-with_object o q y z t.held found);
        number = past.number;
        stamp = past.stamp;
      })
      s.past;
}

-- a shelf goes on to serve a transaction for which acts are noted
pub serves-noting : {H : Type 0} (told : H → Option (List End)) (last : H → ℕ) (t : Transaction (PlainObject H))
    (o : ℕ) (acts : List Act) (shelf : Shelving (PlainObject H))
    → Serves told last t shelf → Serves told last (noting o acts t) shelf
serves-noting told last t o [] shelf s = s
serves-noting told last t o (a ∷ acts) shelf s =
    let same : (q : ℕ) → held_object q (with_acts o (a ∷ acts) t.held) ≡ held_object q t.held =
    λ q. held_object-with_acts o q (a ∷ acts) t.held in
    record {
      objects = s.objects;
      session = s.session;
      came = λ q x found. s.came q x (sym (same q) ∙ found);
      just = if_some shelf.session shelf.session refl (λ i free q none. free q (sym (same q) ∙ none)) s.just;
      past = if_some shelf.log shelf.log refl
          (λ g past. record { seen = λ q x found. past.seen q x (sym (same q) ∙ found); number = past.number; stamp = past.stamp })
          s.past;
    }

untold_legal : (P : List End → Type 0) (ends : Option (List End)) → is_some ends ≡ false → IfSome ends P
untold_legal P None none = tt
untold_legal P (Some es) none = absurd cc

-- what the terms ask of each held object, told or not
pub agreed : {H : Type 0} (tells : Bool) (told : H → Option (List End)) (t : Terms)
    (held : List (Held (PlainObject H))) → ((h : H) → is_some (told h) ≡ tells)
    → Agree tells told t held → (t.frame ≡ []) × AreLegal told t held
agreed false told t held all agree = (agree, λ o x found. untold_legal _ (told x.annals) (all x.annals))
agreed true told t held all agree = agree

-- the same of the transaction when its fields are open
pub agreed_inside : {H : Type 0} (tells : Bool) (told : H → Option (List End)) (t : Terms)
    (inside now : Transaction (PlainObject H)) → inside ≡ now → ((h : H) → is_some (told h) ≡ tells)
    → Agree tells told t now.held → (t.frame ≡ []) × AreLegal told t inside.held
agreed_inside tells told t inside now is all agree =
    agreed tells told t inside.held all (subst (λ (x : Transaction (PlainObject _)). Agree tells told t x.held) (sym is) agree)

-- the terms are kept where each held object was held before, in the same committed version
pub agree-kept : {H : Type 0} (tells : Bool) (told : H → Option (List End)) (t : Terms) (old new : List (Held (PlainObject H)))
    → ((o : ℕ) (y : PlainObject H) → held_object o new ≡ Some y → (x : PlainObject H) × (held_object o old ≡ Some x)
    × (y.committed ≡ x.committed) × (y.annals ≡ x.annals))
    → Agree tells told t old → Agree tells told t new
agree-kept false told t old new was agree = agree
agree-kept true told t old new was agree = (
  agree.0,
  λ o y found.
      let x = was o y found in
      subst (λ c. IfSome (told y.annals) (λ ends. IsLegal (slice_index_or t.opened o Absent) ends c)) (sym x.2)
      (subst (λ h. IfSome (told h) (λ ends. IsLegal (slice_index_or t.opened o Absent) ends x.0.committed)) (sym x.3) (agree.1 o x.0 x.1)),
)

pub agree-noting : {H : Type 0} (tells : Bool) (told : H → Option (List End)) (terms : Terms)
    (t : Transaction (PlainObject H)) (o : ℕ) (acts : List Act)
    → Agree tells told terms t.held → Agree tells told terms (noting o acts t).held
agree-noting tells told terms t o [] fits = fits
agree-noting tells told terms t o (a ∷ acts) fits =
    agree-kept tells told terms t.held (with_acts o (a ∷ acts) t.held)
    (λ q y found. (y, sym (held_object-with_acts o q (a ∷ acts) t.held) ∙ found, refl, refl)) fits

pub agree-object : {H : Type 0} (tells : Bool) (told : H → Option (List End)) (terms : Terms) (o : ℕ)
    (x y : PlainObject H) (held : List (Held (PlainObject H)))
    → held_object o held ≡ Some x → y.committed ≡ x.committed → y.annals ≡ x.annals → Agree tells told terms held →
    Agree tells told terms (with_object o y held)
agree-object tells told terms o x y held here committed annals fits =
    agree-kept tells told terms held (with_object o y held)
    (λ q z found.
    ⊎_elim
    (λ (new : (q ≡ o) × (z ≡ y)). (
      x,
      ap (λ n. held_object n held) new.0 ∙ here,
      ap (λ (w : PlainObject _). w.committed) new.1 ∙ committed,
      ap (λ (w : PlainObject _). w.annals) new.1 ∙ annals,
    ))
    (λ (was : held_object q held ≡ Some z). (z, was, refl, refl))
    (held_object-with_object o q y z held found))
    fits

-- one object more, which keeps the terms too
pub agree-push : {H : Type 0} (tells : Bool) (told : H → Option (List End)) (terms : Terms)
    (h : Held (PlainObject H)) (held : List (Held (PlainObject H)))
    → IsLegalObject told (slice_index_or terms.opened h.number Absent) h.object → Agree tells told terms held →
    Agree tells told terms (held ++ h ∷ [])
agree-push false told terms h held legal fits = fits
agree-push true told terms h held legal fits = (
  fits.0,
  λ q x found.
      ⊎_elim
      (λ (was : held_object q held ≡ Some x). fits.1 q x was)
      (λ (new : (held_object q held ≡ None) × (h.number ≡ q) × (h.object ≡ x)).
      subst (λ n. IsLegalObject told (slice_index_or terms.opened n Absent) x) new.1
      (subst (IsLegalObject told (slice_index_or terms.opened h.number Absent)) new.2 legal))
      (held_object-push q held h x (held_object q held) refl found),
)

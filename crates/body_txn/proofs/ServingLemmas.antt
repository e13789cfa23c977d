-- What holds of a shelf and a transaction whose held objects change, or of which there is one more.
use Rattle.std.proofs.Common.{◌≡◌, ◌≢◌, ℕ, Bool, false, List, [], ◌∷◌, ◌++◌, refl, ap, sym, ◌∙◌, subst, arith, Option, Some, None}
use Rattle.std.proofs.Common.{⊎_elim}
use Rattle.std.specs.Prelude.{IfSome, IsSome, OnSome, IsSomeAnd, IsTrue, slice_index_or}
use Rattle.std.specs.Option.{option_map}
use Rattle.eos_ops.specs.declared.act.Act.{Act}
use Rattle.eos_ops.specs.declared.end.End.{End}
use Rattle.eos_ops.specs.declared.plain.Plain.{Plain}
use Rattle.eos_ops.specs.declared.plain.Plain.TheVariants.{Absent}
use Rattle.eos_ops.specs.Ends.{last_stamp_of}
use Rattle.history.specs.Annals.{IsLegal}
use Rattle.geometry_model.specs.Numbers.{Numbers}
use Rattle.object_body.specs.declared.object.Object.{Object}
use Rattle.object_body.specs.Form.{Form, Contents, listed}
use Rattle.object_locks.specs.Shelving.{Shelving, Terms, Log, Suits, with_take, last_told}
use Rattle.shadow_txn.specs.declared.held.Held.{Held}
use Rattle.shadow_txn.specs.Held.{held_object, with_object, with_acts}
use Rattle.shadow_txn.specs.Serving.{IsPast}
use Rattle.shadow_txn.specs.Transaction.{Transaction, holding, noting, with_begin, last_ended}
use Rattle.shadow_txn.proofs.HeldLemmas.{held_object-push, held_object-push_none, held_object-with_acts, held_object-with_object}
use Rattle.shadow_txn.proofs.HeldLemmas.{held_object-none_before}
use Rattle.shadow_txn.proofs.ServingLemmas.{if_some}
use Rattle.body_txn.specs.Fields.{frame_by, LegalBy}
use Rattle.body_txn.specs.Serving.{ServesTxn, KeepTerms, GoesOn}
use Rattle.body_txn.specs.Taking.{TookObject}

-- a shelf that tells its past has seen the object that it hands out
past-push : {T : Type 0} (told : T → Option (List End)) (last : T → ℕ) (t : Transaction T) (o : ℕ) (was object : T) (g : Log)
    → last object ≡ last_told (told was)
    → IsPast last t g → IsPast last (holding t (t.held ++ record { number = o; object = object; acts = [] } ∷ []))
    (with_take o (told was) g)
past-push told last t o was object g stamp past = record {
  seen = λ q x found.
      ⊎_elim
      (λ (held : held_object q t.held ≡ Some x). omega (arith, past.seen q x held))
      (λ (new : (held_object q t.held ≡ None) × (o ≡ q) × (object ≡ x)). let at : last x ≡ last_told (told was) = ap (λ y. last y)
      (sym new.2) ∙ stamp in omega arith)
      (held_object-push q t.held (record { number = o; object = object; acts = [] }) x (held_object q t.held) refl found);
  number = past.number;
  stamp = omega (arith, past.stamp);
}

seen_stamp : {T : Type 0} (told : T → Option (List End)) (last : T → ℕ) (was object : T)
    → (ends : Option (List End)) → told was ≡ ends → IsSome ends → told object ≡ told was
    → IfSome (told object) (λ es. last object ≡ last_stamp_of es) → last object ≡ last_told (told was)
seen_stamp told last was object None e some same ages = absurd cc
seen_stamp told last was object (Some es) e some same ages =
    let at : IfSome (Some es) (λ fs. last object ≡ last_stamp_of fs) = subst (λ o. IfSome o (λ fs. last object ≡ last_stamp_of fs))
    (same ∙ e) ages in
    rw e at

past_taken : {T : Type 0} (told : T → Option (List End)) (last : T → ℕ) (t : Transaction T) (o : ℕ) (was object : T)
    (before after : Option Log)
    → after ≡ option_map (with_take o (told was)) before
    → OnSome before (IsSome (told was))
    → (IsSome (told was) → last object ≡ last_told (told was))
    → IfSome before (IsPast last t)
    → IfSome after (IsPast last (holding t (t.held ++ record { number = o; object = object; acts = [] } ∷ [])))
past_taken told last t o was object None None e some stamp past = tt
past_taken told last t o was object None (Some h) e some stamp past = absurd cc
past_taken told last t o was object (Some g) None e some stamp past = tt
past_taken told last t o was object (Some g) (Some h) e some stamp past =
    let same : with_take o (told was) g ≡ h = cc in
    subst (IsPast last (holding t (t.held ++ record { number = o; object = object; acts = [] } ∷ []))) same
    (past-push told last t o was object g (stamp some) past)

-- the shelf serves the transaction with the object that was taken
pub serves-push : {T C : Type 0} (body : T → C) (told : T → Option (List End)) (last spare : T → ℕ) (rests : T → Type 0)
    (t : Transaction T) (o : ℕ) (object : T) (old new : Shelving T)
    → ServesTxn told last t old → TookObject body told last spare rests o object old new → held_object o t.held ≡ None
    → ServesTxn told last (holding t (t.held ++ record { number = o; object = object; acts = [] } ∷ [])) new
serves-push body told last spare rests t o object old new serves taken away =
    let h : Held _ = record { number = o; object = object; acts = [] } in
    let take = taken.take in
    let differs : (q : ℕ) (x : _) → held_object q t.held ≡ Some x
    → q ≢ o = λ q x found same. let e = ap (λ n. held_object n t.held) same in cc in
    record {
      objects = take.same.objects ∙ serves.objects;
      session = if_some old.session new.session take.same.session (λ s own. own) serves.session;
      came = λ q x found.
          ⊎_elim
          (λ (held : held_object q t.held ≡ Some x). subst (λ out. IsSomeAnd out (λ known. IfSome known (λ ends. told x ≡ Some ends)))
          (sym (take.others q (differs q x held))) (serves.came q x held))
          (λ (one : (held_object q t.held ≡ None) × (o ≡ q) × (object ≡ x)).
          let here : IsSomeAnd (new.out o) (λ known. IfSome known (λ ends. told object ≡ Some ends)) =
          rw taken.same.ends take.out in
          subst (λ n. IsSomeAnd (new.out n) (λ known. IfSome known (λ ends. told x ≡ Some ends))) one.1
          (subst (λ y. IsSomeAnd (new.out o) (λ known. IfSome known (λ ends. told y ≡ Some ends))) one.2 here))
          (held_object-push q t.held h x (held_object q t.held) refl found);
      just = if_some old.session new.session take.same.session
          (λ s free q none. let apart = held_object-push_none q t.held h (held_object q t.held) refl none in take.others q apart.1
          ∙ free q apart.0)
          serves.just;
      past = past_taken told last t o taken.was object old.log new.log take.log take.told
          (λ some. seen_stamp told last taken.was object (told taken.was) refl some taken.same.ends taken.ages)
          serves.past;
    }

-- a shelf goes on to serve a transaction of which a held object changes, but not its annals
pub serves-with_object : {T : Type 0} (told : T → Option (List End)) (last : T → ℕ) (t : Transaction T) (o : ℕ) (x y : T)
    (shelf : Shelving T)
    → held_object o t.held ≡ Some x → told y ≡ told x → last y ≡ last x → ServesTxn told last t shelf
    → ServesTxn told last (holding t (with_object o y t.held)) shelf
serves-with_object told last t o x y shelf held same stamp s = record {
  objects = s.objects;
  session = s.session;
  came = λ q z found.
      ⊎_elim
      (λ (new : (q ≡ o) × (z ≡ y)).
      let here : IsSomeAnd (shelf.out o) (λ known. IfSome known (λ was. told y ≡ Some was)) = rw same (s.came o x held) in
      subst (λ n. IsSomeAnd (shelf.out n) (λ known. IfSome known (λ was. told z ≡ Some was))) (sym new.0)
      (subst (λ w. IsSomeAnd (shelf.out o) (λ known. IfSome known (λ was. told w ≡ Some was))) (sym new.1) here))
      (λ (was : held_object q t.held ≡ Some z). s.came q z was)
      (held_object-with_object o q y z t.held found);
  just = if_some shelf.session shelf.session refl (λ i free q none. free q (held_object-none_before o q y t.held none)) s.just;
  past = if_some shelf.log shelf.log refl
      (λ g past. record {
        seen = λ q z found.
            ⊎_elim
            (λ (new : (q ≡ o) × (z ≡ y)). let at : last z ≡ last x = ap last new.1 ∙ stamp in omega (arith, past.seen o x held))
            (λ (was : held_object q t.held ≡ Some z). past.seen q z was)
            (held_object-with_object o q y z t.held found);
        number = past.number;
        stamp = past.stamp;
      })
      s.past;
}

-- a shelf goes on to serve a transaction for which acts are noted
pub serves-noting : {T : Type 0} (told : T → Option (List End)) (last : T → ℕ) (t : Transaction T) (o : ℕ) (acts : List Act)
    (shelf : Shelving T)
    → ServesTxn told last t shelf → ServesTxn told last (noting o acts t) shelf
serves-noting told last t o [] shelf s = s
serves-noting told last t o (a ∷ acts) shelf s =
    let same : (q : ℕ) → held_object q (with_acts o (a ∷ acts) t.held) ≡ held_object q t.held = λ q. held_object-with_acts o q
    (a ∷ acts) t.held in
    record {
      objects = s.objects;
      session = s.session;
      came = λ q x found. s.came q x (sym (same q) ∙ found);
      just = if_some shelf.session shelf.session refl (λ i free q none. free q (sym (same q) ∙ none)) s.just;
      past = if_some shelf.log shelf.log refl
          (λ g past. record { seen = λ q x found. past.seen q x (sym (same q) ∙ found); number = past.number; stamp = past.stamp })
          s.past;
    }

-- the terms are kept where each held object was held before, or keeps what an object of this number kept
pub agree-kept : {T : Type 0} (frame : T → List ℕ) (legal : Plain → T → Type 0) (t : Terms) (old new : List (Held T))
    → ((o : ℕ) (y : T) → held_object o new ≡ Some y → (x : T) × (held_object o old ≡ Some x)
    × (Suits frame legal t o x → Suits frame legal t o y))
    → KeepTerms frame legal t old → KeepTerms frame legal t new
agree-kept frame legal t old new was agree = λ o y found. let x = was o y found in x.2 (agree o x.0 x.1)

pub agree-noting : {T : Type 0} (frame : T → List ℕ) (legal : Plain → T → Type 0) (terms : Terms) (t : Transaction T) (o : ℕ)
    (acts : List Act)
    → KeepTerms frame legal terms t.held → KeepTerms frame legal terms (noting o acts t).held
agree-noting frame legal terms t o [] fits = fits
agree-noting frame legal terms t o (a ∷ acts) fits = λ q y found. fits q y (sym (held_object-with_acts o q (a ∷ acts) t.held) ∙ found)

pub agree-object : {T : Type 0} (frame : T → List ℕ) (legal : Plain → T → Type 0) (terms : Terms) (o : ℕ) (x y : T) (held : List (Held T))
    → held_object o held ≡ Some x → (Suits frame legal terms o x → Suits frame legal terms o y)
    → KeepTerms frame legal terms held → KeepTerms frame legal terms (with_object o y held)
agree-object frame legal terms o x y held here step fits = λ q z found.
    ⊎_elim
    (λ (new : (q ≡ o) × (z ≡ y)).
    subst (λ n. Suits frame legal terms n z) (sym new.0) (subst (Suits frame legal terms o) (sym new.1) (step (fits o x here))))
    (λ (was : held_object q held ≡ Some z). fits q z was)
    (held_object-with_object o q y z held found)

-- one object more, which keeps the terms too
pub agree-push : {T : Type 0} (frame : T → List ℕ) (legal : Plain → T → Type 0) (terms : Terms) (h : Held T) (held : List (Held T))
    → Suits frame legal terms h.number h.object → KeepTerms frame legal terms held → KeepTerms frame legal terms (held ++ h ∷ [])
agree-push frame legal terms h held suits fits = λ q x found.
    ⊎_elim
    (λ (was : held_object q held ≡ Some x). fits q x was)
    (λ (new : (held_object q held ≡ None) × (h.number ≡ q) × (h.object ≡ x)).
    subst (λ n. Suits frame legal terms n x) new.1 (subst (Suits frame legal terms h.number) new.2 suits))
    (held_object-push q held h x (held_object q held) refl found)

-- numbers that are listed alike are the same
pub listed-one : (m n : Numbers) → listed m ≡ listed n → m ≡ n
listed-one m n same =
    let page : m.page ≡ n.page = cc in
    let order : m.order ≡ n.order = cc in
    let spaces : m.spaces ≡ n.spaces = cc in
    let catalog : m.catalog ≡ n.catalog = cc in
    let threshold : m.threshold ≡ n.threshold = cc in
    let whole : m ≡ record { page = m.page; order = m.order; spaces = m.spaces; catalog = m.catalog; threshold = m.threshold } = refl in
    whole ∙ rw (page, order, spaces, catalog, threshold) refl

-- an object of the same store, with the same annals and the same committed bytes, keeps the terms
pub suits-kept : {B H : Type 0} (tells : Bool) (form : B → Form) (contents : B → Contents) (told : H → Option (List End)) (terms : Terms)
    (o : ℕ) (x y : Object B H)
    → (form y.body).numbers ≡ (form x.body).numbers → y.annals ≡ x.annals
    → (IsTrue tells → (contents y.body).committed ≡ (contents x.body).committed)
    → Suits (frame_by form) (LegalBy tells told contents) terms o x → Suits (frame_by form) (LegalBy tells told contents) terms o y
suits-kept tells form contents told terms o x y numbers annals committed was = record {
  framed = ap listed numbers ∙ was.framed;
  history = λ tell.
      subst (λ h. IfSome (told h) (λ ends. IsLegal (slice_index_or terms.opened o Absent) ends (contents y.body).committed)) (sym annals)
      (subst (λ c. IfSome (told x.annals) (λ ends. IsLegal (slice_index_or terms.opened o Absent) ends c)) (sym (committed tell))
      (was.history tell));
}

-- A command on one held object, which leaves its annals and the terms that it keeps, with its acts noted.
pub goes-on : {T : Type 0} (told : T → Option (List End)) (last : T → ℕ) (frame : T → List ℕ) (legal : Plain → T → Type 0)
    (t new : Transaction T) (o : ℕ) (x y : T) (acts : List Act)
    → held_object o t.held ≡ Some x → told y ≡ told x → last y ≡ last x
    → ((terms : Terms) → Suits frame legal terms o x → Suits frame legal terms o y)
    → new ≡ noting o acts (holding t (with_object o y t.held)) → GoesOn told last frame legal t new
goes-on told last frame legal t new o x y acts found same stamp step is = record {
  serves = λ shelf s.
      subst (λ n. ServesTxn told last n shelf) (sym is)
      (serves-noting told last (holding t (with_object o y t.held)) o acts shelf
      (serves-with_object told last t o x y shelf found same stamp s));
  agree = λ terms fits.
      subst (λ n. KeepTerms frame legal terms n.held) (sym is)
      (agree-noting frame legal terms (holding t (with_object o y t.held)) o acts
      (agree-object frame legal terms o x y t.held found (step terms) fits));
}

-- the same where the object stays as it was
pub goes-on-noted : {T : Type 0} (told : T → Option (List End)) (last : T → ℕ) (frame : T → List ℕ) (legal : Plain → T → Type 0)
    (t new : Transaction T) (o : ℕ) (acts : List Act) → new ≡ noting o acts t → GoesOn told last frame legal t new
goes-on-noted told last frame legal t new o acts is = record {
  serves = λ shelf s. subst (λ n. ServesTxn told last n shelf) (sym is) (serves-noting told last t o acts shelf s);
  agree = λ terms fits. subst (λ n. KeepTerms frame legal terms n.held) (sym is) (agree-noting frame legal terms t o acts fits);
}

-- a transaction that begins
pub goes-on-begun : {T : Type 0} (told : T → Option (List End)) (last : T → ℕ) (frame : T → List ℕ) (legal : Plain → T → Type 0)
    (t : Transaction T) → t.is_open ≡ false → GoesOn told last frame legal t (with_begin t)
goes-on-begun told last frame legal t idle = record {
  serves = λ shelf s.
      let before : last_ended t ≡ t.number = rw idle refl in
      record {
        objects = s.objects;
        session = s.session;
        came = s.came;
        just = s.just;
        past = if_some shelf.log shelf.log refl
            (λ g past. record {
              seen = past.seen;
              number = omega (arith, before, past.number);
              stamp = omega (arith, before, past.stamp);
            }) s.past;
      };
  agree = λ terms fits. fits;
}

-- nothing happened
pub goes-on-same : {T : Type 0} (told : T → Option (List End)) (last : T → ℕ) (frame : T → List ℕ) (legal : Plain → T → Type 0)
    (t : Transaction T) → GoesOn told last frame legal t t
goes-on-same told last frame legal t = record { serves = λ shelf s. s; agree = λ terms fits. fits }

-- Objects that go home one after the other, from the last on.
use Rattle.std.proofs.Common.{◌≡◌, ◌≢◌, append-nil, append_assoc, ℕ, ◌<◌, List, [], ◌∷◌, ◌++◌, length, refl, ap}
use Rattle.std.proofs.Common.{sym, ◌∙◌, subst, arith, ⊎_elim, Option, Some, None, slice_get, slice_set}
use Rattle.std.specs.Prelude.{IfSome, MatchOption}
use Rattle.std.specs.Option.{option_map, option_map_or, option_flatten}
use Rattle.std.proofs.lemmas.Bool.{cases_eq}
use Rattle.std.proofs.lemmas.List.{length-set}
use Rattle.std.proofs.lemmas.Option.{slice_get_within}
use Rattle.base_laws.proofs.ListLaws.{slice_get-set_same, slice_get-set_other}
use Rattle.eos_ops.specs.declared.act.Act.{Act}
use Rattle.eos_ops.specs.declared.end.End.{End}
use Rattle.object_locks.specs.Shelving.{Shelving, Log, IsSameShelf, IsPut, with_put, added_ends}
use Rattle.shadow_txn.specs.declared.held.Held.{Held}
use Rattle.shadow_txn.specs.Ending.{IsSameAt, IsEndedAt, IsEnding, made_ends, with_puts}
use Rattle.shadow_txn.specs.Held.{held_object, acts_in, AreDistinct}
use Rattle.shadow_txn.proofs.HeldLemmas.{held_object-append, held_object-append_some, held_object-one}
use Rattle.shadow_txn.proofs.HeldLemmas.{held_object-self, acts_in-last, AreDistinct-pop}
use Rattle.shadow_txn.proofs.ServingLemmas.{if_some}

-- What stands of the objects when all but `rest` are home: those that have gone, with their ends.
pub record IsHalfway {T : Type 0} (Ended : ℕ → T → T → Type 0) (end : List Act → End) (held rest : List (Held T))
    (old now : Shelving T) : Type 0 where
  pub same : IsSameShelf old now
  pub left : (q : ℕ) (x : T) → held_object q rest ≡ Some x → IsSameAt q old now × (held_object q held ≡ Some x)
  pub done : (q : ℕ) → held_object q rest ≡ None → MatchOption (held_object q held) (IsSameAt q old now) (λ x. IsEndedAt (Ended q) q x now)
  pub count : option_map length now.home ≡ option_map length old.home
  pub gone : List (Held T)
  pub whole : held ≡ rest ++ gone
  pub log : now.log ≡ option_map (with_puts (made_ends old.out end gone)) old.log

pub match_step : {A : Type 0} {P P' : Type 0} {Q Q' : A → Type 0} (o : Option A) → (P → P') →
    ((a : A) → Q a → Q' a) → MatchOption o P Q → MatchOption o P' Q'
match_step None f g fact = f fact
match_step (Some a) f g fact = g a fact

same_here : {T : Type 0} (q : ℕ) (s : Shelving T) → IsSameAt q s s
same_here q s = record { out = refl; home = refl }

pub same_shelf : {T : Type 0} (s : Shelving T) → IsSameShelf s s
same_shelf s = record { objects = refl; session = refl; table = refl }

log_same : (log : Option Log) → log ≡ option_map (with_puts []) log
log_same None = refl
log_same (Some g) = refl

-- nothing was put yet
pub halfway-start : {T : Type 0} (Ended : ℕ → T → T → Type 0) (end : List Act → End) (held : List (Held T))
    (s : Shelving T) → IsHalfway Ended end held held s s
halfway-start Ended end held s = record {
  same = same_shelf s;
  left = λ q x found. (same_here q s, found);
  done = λ q none. rw none (same_here q s);
  count = refl;
  gone = [];
  whole = sym (append-nil held);
  log = log_same s.log;
}

ended_as : {T : Type 0} (A B : T → T → Type 0) (o : ℕ) (x : T) (new : Shelving T) → ((y : T) → A x y → B x y) →
    IsEndedAt A o x new → IsEndedAt B o x new
ended_as A B o x new step at = record {
  out = at.out;
  home = if_some new.home new.home refl (λ xs slots slot found. let y = slots slot found in (y.0, y.1, step y.0 y.2)) at.home;
}

-- all were put
pub halfway-end : {T : Type 0} (Ended : ℕ → T → T → Type 0) (As : T → T → Type 0) (end : List Act → End)
    (held : List (Held T)) (old now : Shelving T)
    → ((q : ℕ) (x y : T) → Ended q x y → As x y) → IsHalfway Ended end held [] old now → IsEnding As held old now
halfway-end Ended As end held old now step h = record {
  same = h.same;
  each = λ q. match_step (held_object q held) (λ same. same) (λ x at. ended_as (Ended q) As q x now (step q x) at) (h.done q refl);
  count = h.count;
}

-- with their ends
pub halfway-log : {T : Type 0} (Ended : ℕ → T → T → Type 0) (end : List Act → End) (held : List (Held T)) (old now : Shelving T)
    → IsHalfway Ended end held [] old now → now.log ≡ option_map (with_puts (made_ends old.out end held)) old.log
halfway-log Ended end held old now h = h.log ∙ ap (λ gone. option_map (with_puts (made_ends old.out end gone)) old.log) (sym h.whole)

matched : {A : Type 0} (P : Type 0) (Q : A → Type 0) (r : Option A) (x : A) → r ≡ Some x → MatchOption r P Q → Q x
matched P Q r x e fact = subst (λ o. MatchOption o P Q) e fact

-- each that is home has ended
pub halfway-home : {T : Type 0} (Ended : ℕ → T → T → Type 0) (end : List Act → End) (held : List (Held T)) (old now : Shelving T)
    → IsHalfway Ended end held [] old now → (o : ℕ) (x : T) → held_object o held ≡ Some x →
    IfSome now.home (λ xs. (y : T) → slice_get xs o ≡ Some (Some y) → Ended o x y)
halfway-home Ended end held old now h o x found =
    let at = matched (IsSameAt o old now) (λ y. IsEndedAt (Ended o) o y now) (held_object o held) x found (h.done o refl) in
    if_some now.home now.home refl
    (λ xs slots y here. let z = slots (Some y) here in let same : y ≡ z.0 = cc in subst (Ended o x) (sym same) z.2)
    at.home

trans_at : {T : Type 0} (q : ℕ) (old now next : Shelving T) → IsSameAt q old now → IsSameAt q now next → IsSameAt q old next
trans_at q old now next a b = record { out = b.out ∙ a.out; home = b.home ∙ a.home }

home_other : {T : Type 0} (q o : ℕ) (v : Option T) (home : Option (List (Option T))) → q ≢ o
    → option_map (λ xs. slice_get xs q) (option_map (λ xs. slice_set xs o v) home) ≡ option_map (λ xs. slice_get xs q) home
home_other q o v None other = refl
home_other q o v (Some xs) other = ap Some (slice_get-set_other xs o q v other)

-- a put leaves the other objects alone
put_other : {T : Type 0} (ends : Option (List End)) (o q : ℕ) (y : T) (now next : Shelving T) →
    IsPut ends o y now next → q ≢ o → IsSameAt q now next
put_other ends o q y now next put other = record {
  out = put.others q other;
  home = rw put.home (home_other q o (Some y) now.home other);
}

home_put : {T : Type 0} (Ended : T → T → Type 0) (o : ℕ) (x y : T) (home : Option (List (Option T))) → Ended x y
    → IfSome (option_map (λ xs. slice_set xs o (Some y)) home)
    (λ xs. (slot : Option T) → slice_get xs o ≡ Some slot → (z : T) × (slot ≡ Some z) × Ended x z)
home_put Ended o x y None end = tt
home_put Ended o x y (Some xs) end = λ slot found.
    let within : o < length (slice_set xs o (Some y)) = slice_get_within (slice_set xs o (Some y)) o slot found in
    let at : slice_get (slice_set xs o (Some y)) o ≡ Some (Some y) =
    slice_get-set_same xs o (Some y) (omega (arith, length-set xs o (Some y))) in
    (y, cc, end)

put_here : {T : Type 0} (Ended : T → T → Type 0) (ends : Option (List End)) (o : ℕ) (x y : T)
    (now next : Shelving T) → IsPut ends o y now next → Ended x y → IsEndedAt Ended o x next
put_here Ended ends o x y now next put end = record { out = put.gone; home = rw put.home (home_put Ended o x y now.home end) }

home_ended : {T : Type 0} (Ended : T → T → Type 0) (q : ℕ) (x : T) (now next : Option (List (Option T)))
    → option_map (λ xs. slice_get xs q) next ≡ option_map (λ xs. slice_get xs q) now
    → IfSome now (λ xs. (slot : Option T) → slice_get xs q ≡ Some slot → (y : T) × (slot ≡ Some y) × Ended x y)
    → IfSome next (λ xs. (slot : Option T) → slice_get xs q ≡ Some slot → (y : T) × (slot ≡ Some y) × Ended x y)
home_ended Ended q x now None e was = tt
home_ended Ended q x None (Some ys) e was = absurd cc
home_ended Ended q x (Some xs) (Some ys) e was = λ slot found. let same : slice_get ys q ≡ slice_get xs q = cc in
    was slot (sym same ∙ found)

ended_stays : {T : Type 0} (Ended : T → T → Type 0) (q : ℕ) (x : T) (now next : Shelving T) → IsSameAt q now next →
    IsEndedAt Ended q x now → IsEndedAt Ended q x next
ended_stays Ended q x now next same was =
    record { out = same.out ∙ was.out; home = home_ended Ended q x now.home next.home same.home was.home }

pub log_kept : (o : ℕ) (log : Option Log) → option_map (with_put o []) log ≡ log
log_kept o None = refl
log_kept o (Some g) = refl

count_kept : {T : Type 0} (o : ℕ) (v : Option T) (home : Option (List (Option T))) →
    option_map length (option_map (λ xs. slice_set xs o v) home) ≡ option_map length home
count_kept o v None = refl
count_kept o v (Some xs) = ap Some (length-set xs o v)

with_puts-push : (made : List (ℕ × End)) (n : ℕ) (e : End) (g : Log) →
    with_put n (e ∷ []) (with_puts made g) ≡ with_puts (made ++ (n, e) ∷ []) g
with_puts-push [] n e g = refl
with_puts-push (one ∷ made) n e g = with_puts-push made n e (with_put one.0 (one.1 ∷ []) g)

-- the past with one put more, of an object whose ends are known or not
log_put : (known : Option (List End)) (n : ℕ) (e : End) (added : List End) (made : List (ℕ × End)) (log : Option Log)
    → added ≡ option_map_or (λ _. e ∷ []) known []
    → option_map (with_put n added) (option_map (with_puts made) log)
    ≡ option_map (with_puts (made ++ option_map_or (λ _. (n, e) ∷ []) known [])) log
log_put known n e added made None is = refl
log_put None n e added made (Some g) is = rw (is, append-nil made) refl
log_put (Some was) n e added made (Some g) is = rw is (ap Some (with_puts-push made n e g))

-- one object more goes home
pub halfway-put : {T : Type 0} (Ended : ℕ → T → T → Type 0) (end : List Act → End) (ends : Option (List End))
    (held rest : List (Held T)) (h : Held T) (y : T) (old now next : Shelving T)
    → IsHalfway Ended end held (rest ++ h ∷ []) old now → AreDistinct (rest ++ h ∷ []) → IsPut ends h.number y now next
    → added_ends (option_flatten (now.out h.number)) ends ≡ option_map_or (λ _. end h.acts ∷ []) (option_flatten (now.out h.number)) []
    → Ended h.number h.object y → IsHalfway Ended end held rest old next
halfway-put Ended end ends held rest h y old now next half apart put added ended =
    let none : held_object h.number rest ≡ None = (AreDistinct-pop rest h apart).1 in
    let mine : held_object h.number (rest ++ h ∷ []) ≡ Some h.object =
    held_object-append h.number rest (h ∷ []) none ∙ held_object-self h in
    let others : (q : ℕ) → q ≢ h.number → IsSameAt q now next = λ q other. put_other ends h.number q y now next put other in
    let known : now.out h.number ≡ old.out h.number = (half.left h.number h.object mine).0.out in
    record {
      same = record {
        objects = put.same.objects ∙ half.same.objects;
        session = put.same.session
            ∙ half.same.session;
        table = put.same.table ∙ half.same.table;
      };
      left = λ q x found.
          let other : q ≢ h.number = λ e. let at = ap (λ n. held_object n rest) e in cc in
          let was = half.left q x (held_object-append_some q rest (h ∷ []) x found) in
          (trans_at q old now next was.0 (others q other), was.1);
      done = λ q gone.
          ⊎_elim
          (λ (e : q ≡ h.number).
          let was = half.left h.number h.object mine in
          let here : MatchOption (held_object h.number held) (IsSameAt h.number old next)
          (λ x. IsEndedAt (Ended h.number) h.number x next) =
          rw was.1 (put_here (Ended h.number) ends h.number h.object y now next put ended) in
          subst (λ n. MatchOption (held_object n held) (IsSameAt n old next) (λ x. IsEndedAt (Ended n) n x next)) (sym e) here)
          (λ (other : q ≡ h.number → ⊥).
          let last : held_object q (rest ++ h ∷ []) ≡ None = held_object-append q rest (h ∷ []) gone
          ∙ held_object-one q h (λ e. other (sym e)) in
          match_step (held_object q held)
          (λ was. trans_at q old now next was (others q other))
          (λ x was. ended_stays (Ended q) q x now next (others q other) was)
          (half.done q last))
          (cases_eq q h.number);
      count = rw put.home (count_kept h.number (Some y) now.home) ∙ half.count;
      gone = h ∷ half.gone;
      whole = half.whole ∙ append_assoc rest (h ∷ []) half.gone;
      log =
          put.log ∙ ap (option_map (with_put h.number (added_ends (option_flatten (now.out h.number)) ends))) half.log
          ∙ log_put (option_flatten (now.out h.number)) h.number (end h.acts) _ (made_ends old.out end half.gone) old.log added
          ∙ ap (λ out. option_map (with_puts (made_ends old.out end half.gone
          ++ option_map_or (λ _. (h.number, end h.acts) ∷ []) (option_flatten out) [])) old.log) known;
    }

-- the last of those that are left, as it was held
pub halfway-found : {T : Type 0} (Ended : ℕ → T → T → Type 0) (end : List Act → End) (held rest : List (Held T))
    (h : Held T) (old now : Shelving T)
    → IsHalfway Ended end held (rest ++ h ∷ []) old now → AreDistinct (rest ++ h ∷ []) → held_object h.number held ≡ Some h.object
halfway-found Ended end held rest h old now half apart =
    (half.left h.number h.object (held_object-append h.number rest (h ∷ []) (AreDistinct-pop rest h apart).1 ∙ held_object-self h)).1

-- and the acts on it
pub halfway-acts : {T : Type 0} (Ended : ℕ → T → T → Type 0) (end : List Act → End) (held rest : List (Held T))
    (h : Held T) (old now : Shelving T)
    → IsHalfway Ended end held (rest ++ h ∷ []) old now → AreDistinct (rest ++ h ∷ []) → acts_in h.number held ≡ h.acts
halfway-acts Ended end held rest h old now half apart =
    ap (acts_in h.number) half.whole ∙ acts_in-last rest half.gone h (AreDistinct-pop rest h apart).1

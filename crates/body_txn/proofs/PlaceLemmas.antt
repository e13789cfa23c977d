-- The held object at its place, and the transaction after a command on it.
use Rattle.std.proofs.Common.{◌≡◌, ℕ, List, [], ◌++◌, append-nil, refl, ap, sym, ◌∙◌, subst, Option, Some, slice_index_or, slice_set}
use Rattle.std.specs.Prelude.{IfSome}
use Rattle.eos_ops.specs.declared.end.End.{End}
use Rattle.eos_ops.specs.declared.plain.Plain.{Plain}
use Rattle.object_locks.specs.Shelving.{Terms, Suits}
use Rattle.eos_ops.specs.declared.act.Act.{Act}
use Rattle.shadow_txn.specs.declared.held.Held.{Held}
use Rattle.shadow_txn.specs.Held.{held_object, with_object, IsFirstAt, done_to}
use Rattle.shadow_txn.specs.Transaction.{Transaction, holding, noting, IsSoundTxn}
use Rattle.shadow_txn.proofs.HeldLemmas.{at_place, held_object-at, noting-same, noting-object}

-- This is the held object o, with the acts that made it.
pub record IsAt {T : Type 0} (Made : T → List Act → Type 0) (t : Transaction T) (o : ℕ) (h : Held T) : Type 0 where
  pub number : h.number ≡ o
  pub found : held_object o t.held ≡ Some h.object
  pub made : Made h.object h.acts

-- it stands at the place that was found; `inside` is the transaction with its fields open
pub is-at : {T : Type 0} (spare last : T → ℕ) (Made : T → List Act → Type 0) (capacity : ℕ)
    (inside now : Transaction T) (o i : ℕ) (h : Held T)
    → inside ≡ now → IsSoundTxn spare last Made capacity inside → IsFirstAt inside.held o i →
    h ≡ slice_index_or inside.held i h → IsAt Made now o h
is-at spare last Made capacity inside now o i h view sound place value = record {
  number = (at_place inside.held o i h place value).1;
  found = sym (ap (λ t. held_object o t.held) view) ∙ held_object-at inside.held o i h place value;
  made = subst (λ k. Made k.object k.acts) (sym value) (sound.made i h place.within);
}

-- what is known of the held object o is known of it
pub at-found : {T : Type 0} (inside now : Transaction T) (o i : ℕ) (h : Held T) (P : T → Type 0)
    → inside ≡ now → IsFirstAt inside.held o i → h ≡ slice_index_or inside.held i h → IfSome (held_object o now.held) P → P h.object
at-found inside now o i h P view place value some =
    subst (λ r. IfSome r P) (sym (ap (λ t. held_object o t.held) view) ∙ held_object-at inside.held o i h place value) some

-- it became another one, and acts were noted
pub call-held : {T : Type 0} (inside now : Transaction T) (o i : ℕ) (h new : Held T) (x : T) (acts : ℕ → List Act)
    → inside ≡ now → IsFirstAt inside.held o i → h ≡ slice_index_or inside.held i h → new ≡ done_to h x (acts h.number)
    → holding inside (slice_set inside.held i new) ≡ noting o (acts o) (holding now (with_object o x now.held))
call-held inside now o i h new x acts view place value is =
    ap (λ k. holding inside (slice_set inside.held i k)) is
    ∙ noting-object inside o i h x (acts h.number) place value
    ∙ ap (λ t. noting o (acts h.number) (holding t (with_object o x t.held))) view
    ∙ ap (λ n. noting o (acts n) (holding now (with_object o x now.held))) (at_place inside.held o i h place value).1

-- it stayed as it was, and acts were noted
pub call-noted : {T : Type 0} (inside now : Transaction T) (o i : ℕ) (h new : Held T) (acts : ℕ → List Act)
    → inside ≡ now → IsFirstAt inside.held o i → h ≡ slice_index_or inside.held i h → new ≡ done_to h h.object (acts h.number)
    → holding inside (slice_set inside.held i new) ≡ noting o (acts o) now
call-noted inside now o i h new acts view place value is =
    ap (λ k. holding inside (slice_set inside.held i k)) is
    ∙ noting-same inside o i h (acts h.number) place value
    ∙ ap (noting o (acts h.number)) view
    ∙ ap (λ n. noting o (acts n) now) (at_place inside.held o i h place value).1

-- nothing was done, and no act noted
pub done-none : {T : Type 0} (h new : Held T) → new ≡ h → new ≡ done_to h h.object []
done-none h new same = same ∙ ap (λ acts. record { number = h.number; object = h.object; acts = acts }) (sym (append-nil h.acts))

-- What a command left of a held object, whatever came of it: with its annals and its terms kept, and acts that lead on.
pub record Turned {T : Type 0} (told : T → Option (List End)) (last spare : T → ℕ) (frame : T → List ℕ)
    (legal : Plain → T → Type 0) (Made : T → List Act → Type 0) (h new : Held T) : Type 0 where
  pub now : T
  pub more : ℕ → List Act
  pub is : new ≡ done_to h now (more h.number)
  pub ends : told now ≡ told h.object
  pub stamp : last now ≡ last h.object
  pub room : spare now ≡ spare h.object
  pub made : Made now (h.acts ++ more h.number)
  pub suits : (t : Terms) (o : ℕ) → Suits frame legal t o h.object → Suits frame legal t o now

pub turned-not : {T : Type 0} (told : T → Option (List End)) (last spare : T → ℕ) (frame : T → List ℕ)
    (legal : Plain → T → Type 0) (Made : T → List Act → Type 0) (h new : Held T)
    → Made h.object h.acts → new ≡ h → Turned told last spare frame legal Made h new
turned-not told last spare frame legal Made h new made same = record {
  now = h.object;
  more = λ n. [];
  is = done-none h new same;
  ends = refl;
  stamp = refl;
  room = refl;
  made = subst (Made h.object) (sym (append-nil h.acts)) made;
  suits = λ t o was. was;
}

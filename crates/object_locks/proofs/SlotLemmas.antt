-- Which slots keep the terms after a take or a put, and what a take answers.
use Rattle.std.proofs.Common.{◌≡◌, ℕ, ◌<◌, List, length, refl, slice_get, slice_set, Some, None, Option, sym, ◌∙◌, subst, inl, inr}
use Rattle.std.proofs.lemmas.Bool.{cases_eq}
use Rattle.std.specs.Option.{ok_or}
use Rattle.std.specs.Prelude.{IfOk, IsErr, ◌↔◌}
use Rattle.base_laws.proofs.ListLaws.{slice_get-set_same, slice_get-set_other}
use Rattle.eos_ops.specs.declared.plain.Plain.{Plain}
use Rattle.object_locks.specs.Shelving.{Terms, Suits}
use Rattle.object_locks.specs.Solo.{AreSuited}

-- a write of a slot keeps the terms where what is written keeps them
pub AreSuited-set : {T : Type 0} (frame : T → List ℕ) (legal : Plain → T → Type 0) (slots : List (Option T))
    (t : Terms) (o : ℕ) (slot : Option T)
    → AreSuited frame legal slots t → o < length slots → ((value : T) → slot ≡ Some value → Suits frame legal t o value)
    → AreSuited frame legal (slice_set slots o slot) t
AreSuited-set frame legal slots t o slot each within here q value found =
    elim (cases_eq q o) [
      | inl same ↦
          let at_o : Suits frame legal t o value = here value (cc (slice_get-set_same slots o slot within)) in
          subst (λ n. Suits frame legal t n value) (sym same) at_o
      | inr other ↦ each q value (sym (slice_get-set_other slots o q slot other) ∙ found)
    ]

-- an empty slot asks nothing
pub AreSuited-take : {T : Type 0} (frame : T → List ℕ) (legal : Plain → T → Type 0) (slots : List (Option T)) (t : Terms) (o : ℕ)
    → AreSuited frame legal slots t → o < length slots → AreSuited frame legal (slice_set slots o None) t
AreSuited-take frame legal slots t o each within = AreSuited-set frame legal slots t o None each within (λ value e. cc)

-- a value that keeps the terms may lie in its slot
pub AreSuited-put : {T : Type 0} (frame : T → List ℕ) (legal : Plain → T → Type 0) (slots : List (Option T)) (t : Terms) (o : ℕ) (value : T)
    → AreSuited frame legal slots t → o < length slots → Suits frame legal t o value →
    AreSuited frame legal (slice_set slots o (Some value)) t
AreSuited-put frame legal slots t o value each within suits =
    AreSuited-set frame legal slots t o (Some value) each within
    (λ v e. let same : value ≡ v = cc in subst (Suits frame legal t o) same suits)

-- what a take answers, of a slot that holds `found`: a value that keeps the terms
pub taken-suits : {T E : Type 0} (frame : T → List ℕ) (legal : Plain → T → Type 0) (slots : List (Option T)) (o : ℕ)
    (found : Option T) (e : E)
    → slice_get slots o ≡ Some found
    → IfOk (ok_or found e) (λ value. (t : Terms) → AreSuited frame legal slots t → Suits frame legal t o value)
taken-suits frame legal slots o (Some value) e in_slot = λ t each. each o value in_slot
taken-suits frame legal slots o None e in_slot = tt

-- or a refusal, just where the slot is empty
pub refused-exact : {T E : Type 0} (slots : List (Option T)) (o : ℕ) (found : Option T) (e : E)
    → slice_get slots o ≡ Some found → IsErr (ok_or found e) ↔ (slice_get slots o ≡ Some None)
refused-exact slots o (Some value) e in_slot = (λ err. absurd (cc), λ empty. absurd (cc))
refused-exact slots o None e in_slot = (λ err. in_slot, λ empty. refl)

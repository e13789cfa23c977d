-- The slots of a run, one slot more at either end.
use Rattle.std.proofs.Common.{inl, inr, ◌≡◌, ℕ, suc, ◌+◌, ◌<◌, true, List, ◌∷◌, ◌++◌, length, take, drop, set}
use Rattle.std.proofs.Common.{Option, Some, None, refl, sym, ap, ◌∙◌, subst, arith}
use Rattle.std.specs.Prelude.{is_some}
use Rattle.std.proofs.lemmas.List.{length-set, get_or-set_same, get_or-set_other}
use Rattle.std.proofs.lemmas.Bool.{cases_eq}
use Rattle.page_port.specs.Pages.{run}
use Rattle.space_directory.specs.Slots.{span_in, IsPage, IsPageOf, page_held, pages_held, KeepsSlots, IsEmptied, AreSpread}
use Rattle.space_directory.proofs.HeldLaws.{one_page, run_held-more}

-- one slot more before the run is emptied
pub emptied_before : {X : Type 0} (slots : List (Option X)) (i m : ℕ) → i < length slots →
    IsEmptied slots (suc i) m → IsEmptied (set slots i None) i (suc m)
emptied_before slots i m within e = record {
  each = λ j from to. elim (cases_eq j i) [
    | inl same ↦ subst (λ (k : ℕ). span_in (set slots i None) k ≡ None) (sym same) (get_or-set_same slots i None None within)
    | inr other ↦ get_or-set_other slots i j None None other ∙ e.each j (omega arith) (omega arith)
  ];
}

pub keeps_before : {X : Type 0} (old slots : List (Option X)) (i m : ℕ) (o : Option X) →
    KeepsSlots old slots (suc i) m → KeepsSlots old (set slots i o) i (suc m)
keeps_before old slots i m o k = record {
  size = length-set slots i o ∙ k.size;
  before = λ j less. get_or-set_other slots i j o None (omega arith) ∙ k.before j (omega arith);
  behind = λ j more. get_or-set_other slots i j o None (omega arith) ∙ k.behind j (omega arith);
}

pub keeps_none : {X : Type 0} (slots : List (Option X)) (i : ℕ) → KeepsSlots slots slots i 0
keeps_none slots i = record { size = refl; before = λ j _. refl; behind = λ j _. refl }

pub keeps_behind : {X : Type 0} (old slots : List (Option X)) (at n : ℕ) (o : Option X) →
    KeepsSlots old slots at n → KeepsSlots old (set slots (at + n) o) at (n + 1)
keeps_behind old slots at n o k = record {
  size = length-set slots (at + n) o ∙ k.size;
  before = λ j less. get_or-set_other slots (at + n) j o None (omega arith) ∙ k.before j less;
  behind = λ j more. get_or-set_other slots (at + n) j o None (omega arith) ∙ k.behind j (omega arith);
}

pub filled_none : {X : Type 0} (start : X → ℕ) (contents : X → List (List ℕ)) (first : ℕ) (pages : List (List ℕ))
    (slots : List (Option X)) (at : ℕ) → AreSpread start contents first pages slots at 0
filled_none start contents first pages slots at = record { each = λ i less. absurd (omega arith) }

-- one slot more behind it is filled
pub filled_behind : {X : Type 0} (start : X → ℕ) (contents : X → List (List ℕ)) (first : ℕ) (pages : List (List ℕ))
    (slots : List (Option X)) (at n : ℕ) (page : X) → at + n < length slots → start page ≡ first + n →
    contents page ≡ take 1 (drop n pages) →
    AreSpread start contents first pages slots at n → AreSpread start contents first pages (set slots (at + n) (Some page)) at (n + 1)
filled_behind start contents first pages slots at n page within from held f = record {
  each = λ i less. elim (cases_eq i n) [
    | inl same ↦
        let here : span_in (set slots (at + n) (Some page)) (at + n) ≡ Some page = get_or-set_same slots (at + n) (Some page) None within in
        subst (λ (k : ℕ). IsPageOf start contents (first + k) (take 1 (drop k pages))
        (span_in (set slots (at + n) (Some page)) (at + k))) (sym same)
        (subst (λ (o : Option _). IsPageOf start contents (first + n) (take 1 (drop n pages)) o) (sym here) (from, held))
    | inr other ↦
        subst (λ (o : Option _). IsPageOf start contents (first + i) (take 1 (drop i pages)) o)
        (sym (get_or-set_other slots (at + n) (at + i) (Some page) None (omega arith))) (f.each i (omega arith))
  ];
}

-- the page of a slot that has one
pub page_of : {X : Type 0} (start : X → ℕ) (contents : X → List (List ℕ)) (page : ℕ) (o : Option X) (x : X) →
    IsPage start contents page o → o ≡ Some x → (start x ≡ page) × (length (contents x) ≡ 1)
page_of start contents page o x h e = subst (λ (p : Option _). IsPage start contents page p) e h

pub is_some_page : {X : Type 0} (start : X → ℕ) (contents : X → List (List ℕ)) (page : ℕ) (o : Option X) →
    IsPage start contents page o → is_some o ≡ true
is_some_page start contents page None h = absurd h
is_some_page start contents page (Some x) h = refl

-- the same where the slot and the count are told by other numbers
pub filled_next : {X : Type 0} (start : X → ℕ) (contents : X → List (List ℕ)) (first : ℕ) (pages : List (List ℕ))
    (slots : List (Option X)) (at n to more : ℕ) (page : X) → to ≡ at + n → more ≡ n + 1 → to < length slots →
    start page ≡ first + n → contents page ≡ take 1 (drop n pages) →
    AreSpread start contents first pages slots at n →
    AreSpread start contents first pages (set slots to (Some page)) at more
filled_next start contents first pages slots at n to more page e f within from held h =
    subst (λ (k : ℕ). AreSpread start contents first pages (set slots to (Some page)) at k) (sym f)
    (subst (λ (k : ℕ). AreSpread start contents first pages (set slots k (Some page)) at (n + 1)) (sym e)
    (filled_behind start contents first pages slots at n page (omega arith) from held h))

pub keeps_next : {X : Type 0} (old slots : List (Option X)) (at n to more : ℕ) (o : Option X) → to ≡ at + n →
    more ≡ n + 1 → KeepsSlots old slots at n → KeepsSlots old (set slots to o) at more
keeps_next old slots at n to more o e f h =
    subst (λ (k : ℕ). KeepsSlots old (set slots to o) at k) (sym f)
    (subst (λ (k : ℕ). KeepsSlots old (set slots k o) at (n + 1)) (sym e) (keeps_behind old slots at n o h))

pub emptied_earlier : {X : Type 0} (slots : List (Option X)) (i from m more : ℕ) → from ≡ suc i → more ≡ suc m →
    i < length slots → IsEmptied slots from m → IsEmptied (set slots i None) i more
emptied_earlier slots i from m more e f within h =
    subst (λ (k : ℕ). IsEmptied (set slots i None) i k) (sym f)
    (emptied_before slots i m within (subst (λ (k : ℕ). IsEmptied slots k m) e h))

pub keeps_earlier : {X : Type 0} (old slots : List (Option X)) (i from m more : ℕ) → from ≡ suc i → more ≡ suc m →
    KeepsSlots old slots from m → KeepsSlots old (set slots i None) i more
keeps_earlier old slots i from m more e f h =
    subst (λ (k : ℕ). KeepsSlots old (set slots i None) i k) (sym f)
    (keeps_before old slots i m None (subst (λ (k : ℕ). KeepsSlots old slots k m) e h))

pub run_held-earlier : {X : Type 0} (contents : X → List (List ℕ)) (slots : List (Option X)) (i from m more : ℕ)
    (x : X) (held : List (List ℕ)) → from ≡ suc i → more ≡ suc m → i < length slots → span_in slots i ≡ Some x →
    length (contents x) ≡ 1 →
    held ≡ run from m (pages_held contents slots) → contents x ++ held ≡ run i more (pages_held contents slots)
run_held-earlier contents slots i from m more x held e f within at one h =
    ap (λ (pages : List (List ℕ)). pages ++ held) (one_page (contents x) one)
    ∙ ap (λ (rest : List (List ℕ)). page_held contents (Some x) ∷ rest) (h ∙ ap (λ (k : ℕ). run k m (pages_held contents slots)) e)
    ∙ ap (λ (o : Option _). page_held contents o ∷ run (suc i) m (pages_held contents slots)) (sym at)
    ∙ sym (ap (λ (k : ℕ). run i k (pages_held contents slots)) f ∙ run_held-more contents slots i m within)

-- A list of slots, one a page of a space, each with the span of its page while that page is free.
use Rattle.std.specs.Prelude.{◌≡◌, ℕ, ◌+◌, ◌<◌, ◌≤◌, List, [], length, map, take, drop}
use Rattle.std.specs.Prelude.{slice_index_or, Option, Some, None}

-- the span in a slot
abbrev pub span_in : {X : Type 0} → List (Option X) → ℕ → Option X
span_in slots at = slice_index_or slots at None

-- the slot has the span of one page, the one with this number
abbrev pub IsPage : {X : Type 0} → (X → ℕ) → (X → List (List ℕ)) → ℕ → Option X → Type 0
IsPage start contents page None = ⊥
IsPage start contents page (Some span) = (start span ≡ page) × (length (contents span) ≡ 1)

-- the n slots from `at` on have the spans of pages in a row; the slot at 0 stands for page `base`
pub record IsRow {X : Type 0} (start : X → ℕ) (contents : X → List (List ℕ)) (base : ℕ)
    (slots : List (Option X)) (at n : ℕ) : Type 0 where
  pub each : (i : ℕ) → at ≤ i → i < at + n → IsPage start contents (base + i) (span_in slots i)

-- what the page of a slot holds, and nothing where the slot is empty
abbrev pub page_held : {X : Type 0} → (X → List (List ℕ)) → Option X → List ℕ
page_held contents None = []
page_held contents (Some span) = slice_index_or (contents span) 0 []

-- what the page of each slot holds
abbrev pub pages_held : {X : Type 0} → (X → List (List ℕ)) → List (Option X) → List (List ℕ)
pages_held contents slots = map (page_held contents) slots

-- all slots outside of a run are as before
pub record KeepsSlots {X : Type 0} (old new : List (Option X)) (at n : ℕ) : Type 0 where
  pub size : length new ≡ length old
  pub before : (i : ℕ) → i < at → span_in new i ≡ span_in old i
  pub behind : (i : ℕ) → at + n ≤ i → span_in new i ≡ span_in old i

-- the slots of a run are empty
pub record IsEmptied {X : Type 0} (slots : List (Option X)) (at n : ℕ) : Type 0 where
  pub each : (i : ℕ) → at ≤ i → i < at + n → span_in slots i ≡ None

-- the slot has the span of one page, the one with this number, which holds these bytes
abbrev pub IsPageOf : {X : Type 0} → (X → ℕ) → (X → List (List ℕ)) → ℕ → List (List ℕ) →
    Option X → Type 0
IsPageOf start contents page held None = ⊥
IsPageOf start contents page held (Some span) = (start span ≡ page) × (contents span ≡ held)

-- the slots from `at` on have one page each, in order, of pages in a row from page `first` on
pub record AreSpread {X : Type 0} (start : X → ℕ) (contents : X → List (List ℕ)) (first : ℕ)
    (pages : List (List ℕ)) (slots : List (Option X)) (at n : ℕ) : Type 0 where
  pub each : (i : ℕ) → i < n → IsPageOf start contents (first + i) (take 1 (drop i pages))
      (span_in slots (at + i))

-- What the pages of slots hold, page by page, and after a run of them was emptied or filled.
use Rattle.std.proofs.Common.{inl, inr, ◌≡◌, ℕ, zero, suc, ◌+◌, ◌-◌, ◌<◌, ◌≤◌, Bool, true, false, List, [], ◌∷◌}
use Rattle.std.proofs.Common.{length, take, drop, replicate, Option, Some, None, refl, sym, ap, ◌∙◌, arith}
use Rattle.std.proofs.Common.{drop-cons}
use Rattle.std.proofs.Math.ListN.{get_or, get_or-map}
use Rattle.std.proofs.lemmas.List.{places, ext_get_or, length-map, length-replicate}
use Rattle.std.proofs.lemmas.Bool.{cases_lt}
use Rattle.std.specs.Prelude.{slice_index_or}
use Rattle.page_port.specs.Pages.{run}
use Rattle.block_model.specs.Block.{has_page}
use Rattle.space_directory.specs.Slots.{span_in, page_held, pages_held, IsPageOf, KeepsSlots, IsEmptied, AreSpread}
use Rattle.space_directory.specs.SpaceView.{with_pages}
use Rattle.space_directory.specs.Opening.{held_where}

-- what the page of one slot holds
pub held_at : {X : Type 0} (contents : X → List (List ℕ)) (slots : List (Option X)) (i : ℕ) →
    get_or (pages_held contents slots) i [] ≡ page_held contents (span_in slots i)
held_at contents slots i = get_or-map (page_held contents) slots i None

-- one slot more in front of a run
pub run_held-more : {X : Type 0} (contents : X → List (List ℕ)) (slots : List (Option X)) (i m : ℕ) → i < length slots →
    run i (suc m) (pages_held contents slots) ≡ page_held contents (span_in slots i) ∷ run (suc i) m (pages_held contents slots)
run_held-more contents slots i m within =
    let count : i < length (pages_held contents slots) = omega (arith, length-map slots (page_held contents)) in
    rw (drop-cons (pages_held contents slots) i []) (ap (λ (p : List ℕ). p ∷ run (suc i) m (pages_held contents slots))
    (held_at contents slots i))

-- a list of one page
pub one_page : (pages : List (List ℕ)) → length pages ≡ 1 → pages ≡ slice_index_or pages 0 [] ∷ []
one_page [] e = absurd (omega arith)
one_page (page ∷ []) e = refl
one_page (page ∷ next ∷ pages) e = absurd (omega arith)

-- ---- a run of pages that hold these contents

pub length-with_pages : (held : List (List ℕ)) (at : ℕ) (pages : List (List ℕ)) → at + length pages ≤ length held →
    length (with_pages held at pages) ≡ length held
length-with_pages held at pages fits = search (arith, places)

pub with_pages-below : (held : List (List ℕ)) (at : ℕ) (pages : List (List ℕ)) (p : ℕ) → at + length pages ≤ length held → p < at →
    get_or (with_pages held at pages) p [] ≡ get_or held p []
with_pages-below held at pages p fits below = grind (arith, places)

pub with_pages-inside : (held : List (List ℕ)) (at : ℕ) (pages : List (List ℕ)) (p : ℕ) → at + length pages ≤ length held → at ≤ p →
    p < at + length pages → get_or (with_pages held at pages) p [] ≡ get_or pages (p - at) []
with_pages-inside held at pages p fits from to = grind (arith, places)

pub with_pages-above : (held : List (List ℕ)) (at : ℕ) (pages : List (List ℕ)) (p : ℕ) → at + length pages ≤ length held →
    at + length pages ≤ p → get_or (with_pages held at pages) p [] ≡ get_or held p []
with_pages-above held at pages p fits above = grind (arith, places)

page_of_run : (held : List (List ℕ)) (at n i : ℕ) → i < n → get_or (run at n held) i [] ≡ get_or held (at + i) []
page_of_run held at n i less = grind (arith, places)

-- pages that were taken and put back with what they held
pub with_pages-again : (held : List (List ℕ)) (at : ℕ) (blank pages : List (List ℕ)) → length blank ≡ length pages →
    at + length pages ≤ length held → pages ≡ run at (length pages) held → with_pages (with_pages held at blank) at pages ≡ held
with_pages-again held at blank pages same fits taken =
    let room : at + length blank ≤ length held = omega arith in
    let middle : length (with_pages held at blank) ≡ length held = length-with_pages held at blank room in
    let room' : at + length pages ≤ length (with_pages held at blank) = omega arith in
    ext_get_or [] (with_pages (with_pages held at blank) at pages) held
    (length-with_pages (with_pages held at blank) at pages room' ∙ middle)
    (λ p less. elim (cases_lt p at) [
      | inl below ↦ with_pages-below (with_pages held at blank) at pages p room' below ∙ with_pages-below held at blank p room below
      | inr from ↦ elim (cases_lt p (at + length pages)) [
        | inl inside ↦
            let here : at + (p - at) ≡ p = omega arith in
            with_pages-inside (with_pages held at blank) at pages p room' from inside
            ∙ ap (λ (ps : List (List ℕ)). get_or ps (p - at) []) taken
            ∙ page_of_run held at (length pages) (p - at) (omega arith) ∙ ap (λ (k : ℕ). get_or held k []) here
        | inr above ↦ with_pages-above (with_pages held at blank) at pages p room' above
            ∙ with_pages-above held at blank p room (omega arith)
      ]
    ])

-- n pages that hold nothing
pub nothing_at : (n i : ℕ) → get_or (replicate {A = List ℕ} n []) i [] ≡ []
nothing_at zero i = refl
nothing_at (suc n) zero = refl
nothing_at (suc n) (suc i) = nothing_at n i

-- ---- slots after a change

pub emptied_held : {X : Type 0} (contents : X → List (List ℕ)) (old new : List (Option X)) (at n : ℕ) → at + n ≤ length old →
    IsEmptied new at n → KeepsSlots old new at n →
    with_pages (pages_held contents old) at (replicate n []) ≡ pages_held contents new
emptied_held contents old new at n fits emptied others =
    let was : length (pages_held contents old) ≡ length old = length-map old (page_held contents) in
    let now : length (pages_held contents new) ≡ length new = length-map new (page_held contents) in
    let count : length (replicate {A = List ℕ} n []) ≡ n = length-replicate {A = List ℕ} n [] in
    let room : at + length (replicate {A = List ℕ} n []) ≤ length (pages_held contents old) = omega arith in
    ext_get_or [] (with_pages (pages_held contents old) at (replicate n [])) (pages_held contents new)
    (omega (arith, length-with_pages (pages_held contents old) at (replicate n []) room, others.size))
    (λ p less. elim (cases_lt p at) [
      | inl below ↦ with_pages-below (pages_held contents old) at (replicate n []) p room below ∙ held_at contents old p
          ∙ ap (page_held contents) (sym (others.before p below)) ∙ sym (held_at contents new p)
      | inr from ↦ elim (cases_lt p (at + n)) [
        | inl inside ↦ with_pages-inside (pages_held contents old) at (replicate n []) p room from (omega arith) ∙ nothing_at n (p - at)
            ∙ ap (page_held contents) (sym (emptied.each p from inside)) ∙ sym (held_at contents new p)
        | inr above ↦ with_pages-above (pages_held contents old) at (replicate n []) p room (omega arith) ∙ held_at contents old p
            ∙ ap (page_held contents) (sym (others.behind p above)) ∙ sym (held_at contents new p)
      ]
    ])

-- the page of a slot that has one of pages in a row
first_of : (pages : List (List ℕ)) (i : ℕ) → slice_index_or (take 1 (drop i pages)) 0 [] ≡ get_or pages i []
first_of [] zero = refl
first_of [] (suc i) = refl
first_of (page ∷ pages) zero = refl
first_of (page ∷ pages) (suc i) = first_of pages i

spread_held : {X : Type 0} (start : X → ℕ) (contents : X → List (List ℕ)) (page : ℕ) (held : List (List ℕ)) (o : Option X) →
    IsPageOf start contents page held o → page_held contents o ≡ slice_index_or held 0 []
spread_held start contents page held None h = absurd h
spread_held start contents page held (Some span) h = ap (λ (pages : List (List ℕ)). slice_index_or pages 0 []) h.1

pub spread_at : {X : Type 0} (start : X → ℕ) (contents : X → List (List ℕ)) (first : ℕ) (pages : List (List ℕ)) (slots : List (Option X))
    (at n p : ℕ) → AreSpread start contents first pages slots at n → at ≤ p → p < at + n →
    page_held contents (span_in slots p) ≡ get_or pages (p - at) []
spread_at start contents first pages slots at n p spread from to =
    let here : at + (p - at) ≡ p = omega arith in
    ap (λ (k : ℕ). page_held contents (span_in slots k)) (sym here)
    ∙ spread_held start contents (first + (p - at)) (take 1 (drop (p - at) pages)) (span_in slots (at + (p - at)))
    (spread.each (p - at) (omega arith)) ∙ first_of pages (p - at)

pub filled_held : {X : Type 0} (start : X → ℕ) (contents : X → List (List ℕ)) (first : ℕ) (old new : List (Option X)) (at : ℕ)
    (pages : List (List ℕ)) → at + length pages ≤ length old →
    AreSpread start contents first pages new at (length pages) → KeepsSlots old new at (length pages) →
    with_pages (pages_held contents old) at pages ≡ pages_held contents new
filled_held start contents first old new at pages fits spread others =
    let was : length (pages_held contents old) ≡ length old = length-map old (page_held contents) in
    let now : length (pages_held contents new) ≡ length new = length-map new (page_held contents) in
    let room : at + length pages ≤ length (pages_held contents old) = omega arith in
    ext_get_or [] (with_pages (pages_held contents old) at pages) (pages_held contents new)
    (omega (arith, length-with_pages (pages_held contents old) at pages room, others.size))
    (λ p less. elim (cases_lt p at) [
      | inl below ↦ with_pages-below (pages_held contents old) at pages p room below ∙ held_at contents old p
          ∙ ap (page_held contents) (sym (others.before p below)) ∙ sym (held_at contents new p)
      | inr from ↦ elim (cases_lt p (at + length pages)) [
        | inl inside ↦ with_pages-inside (pages_held contents old) at pages p room from inside
            ∙ sym (spread_at start contents first pages new at (length pages) p spread from inside) ∙ sym (held_at contents new p)
        | inr above ↦ with_pages-above (pages_held contents old) at pages p room above ∙ held_at contents old p
            ∙ ap (page_held contents) (sym (others.behind p above)) ∙ sym (held_at contents new p)
      ]
    ])

-- ---- the free pages of a row

pub length-held_where : (free : List Bool) (pages : List (List ℕ)) → length free ≡ length pages →
    length (held_where free pages) ≡ length free
length-held_where [] pages e = refl
length-held_where (f ∷ free) [] e = absurd (omega arith)
length-held_where (f ∷ free) (held ∷ pages) e = ap suc (length-held_where free pages (omega arith))

pub held_where-free : (free : List Bool) (pages : List (List ℕ)) (p : ℕ) → length free ≡ length pages → has_page free p ≡ true →
    get_or (held_where free pages) p [] ≡ get_or pages p []
held_where-free [] pages p e h = absurd cc
held_where-free (f ∷ free) [] p e h = absurd (omega arith)
held_where-free (true ∷ free) (held ∷ pages) zero e h = refl
held_where-free (false ∷ free) (held ∷ pages) zero e h = absurd cc
held_where-free (f ∷ free) (held ∷ pages) (suc p) e h = held_where-free free pages p (omega arith) h

pub held_where-used : (free : List Bool) (pages : List (List ℕ)) (p : ℕ) → length free ≡ length pages → has_page free p ≡ false →
    get_or (held_where free pages) p [] ≡ []
held_where-used [] pages p e h = refl
held_where-used (f ∷ free) [] p e h = absurd (omega arith)
held_where-used (true ∷ free) (held ∷ pages) zero e h = absurd cc
held_where-used (false ∷ free) (held ∷ pages) zero e h = refl
held_where-used (f ∷ free) (held ∷ pages) (suc p) e h = held_where-used free pages p (omega arith) h

-- The two sides of a change: what is kept of the entries in front of a place and behind one, cut where the place lies
-- inside an entry.
use Rattle.std.proofs.Common.{◌≡◌, ℕ, suc, ◌+◌, ◌-◌, ◌*◌, ◌<◌, ◌≤◌, min, true, false, List, [], ◌∷◌, ◌++◌, length}
use Rattle.std.proofs.Common.{take, drop, refl, sym, ap, arith, ◌∙◌, inl, inr, nat_eq}
use Rattle.std.specs.Prelude.{nat_le, if◌then◌else◌}
use Rattle.std.proofs.lemmas.Bool.{cases_Bool, cases_lt, leb-true, leb-false, eqb-true, eqb-false, ne_eqb}
use Rattle.std.proofs.lemmas.List.Sums.{sum_by-cons}
use Rattle.tree_model.specs.declared.entry.Pair.{Pair}
use Rattle.tree_model.specs.Tree.{bytes_of, page_count}
use Rattle.layout_model.specs.Parts.{count_ended, count_begun, left_of, head_of, without_pages, right_of}
use Rattle.content_laws.specs.Spelling.{HaveBytes}

-- the entries before a place, the last of them cut short
abbrev pub front : ℕ → List Pair → List Pair
front at [] = []
front at (p ∷ ps) =
    if nat_le p.bytes at then p ∷ front (at - p.bytes) ps
    else (if nat_eq at 0 then [] else record { bytes = at; page = p.page } ∷ [])

-- the entries behind a place, the first of them without the pages up to the next border
abbrev pub back : ℕ → ℕ → List Pair → List Pair
back size at [] = []
back size at (p ∷ ps) =
    if nat_le p.bytes at then back size (at - p.bytes) ps
    else (if nat_eq at 0 then p ∷ ps else without_pages size (page_count size at) p ++ ps)

-- a place is behind an entry, at its start, or inside it
pub data Lies (at : ℕ) (p : Pair) : Type 0 where
  Behind : nat_le p.bytes at ≡ true → p.bytes ≤ at → Lies at p
  Before : nat_le p.bytes at ≡ false → nat_eq at 0 ≡ true → at ≡ 0 → 0 < p.bytes → Lies at p
  Inside : nat_le p.bytes at ≡ false → nat_eq at 0 ≡ false → 0 < at → at < p.bytes → Lies at p

pub lies : (at : ℕ) (p : Pair) → Lies at p
lies at p =
    elim (cases_Bool (nat_le p.bytes at)) [
      | inl behind ↦ Behind behind (leb-true p.bytes at behind)
      | inr within ↦
          let less = leb-false p.bytes at within in
          elim (cases_Bool (nat_eq at 0)) [
            | inl start ↦ let none = eqb-true at 0 start in Before within start none (omega (arith, none, less))
            | inr inside ↦
                let some = eqb-false at 0 inside in
                Inside within inside (elim (cases_lt 0 at) [
                  | inl more ↦ more
                  | inr none ↦ absurd (some (omega (arith, none)))
                ]) less
          ]
    ]

-- what each function is at each of these
pub front-behind : (at : ℕ) (p : Pair) (ps : List Pair) → nat_le p.bytes at ≡ true → front at (p ∷ ps) ≡ p ∷ front (at - p.bytes) ps
front-behind at p ps h = rw (h, front)

pub front-before : (at : ℕ) (p : Pair) (ps : List Pair) → nat_le p.bytes at ≡ false → nat_eq at 0 ≡ true → front at (p ∷ ps) ≡ []
front-before at p ps h k = rw (h, k, front)

pub front-inside : (at : ℕ) (p : Pair) (ps : List Pair) → nat_le p.bytes at ≡ false → nat_eq at 0 ≡ false →
    front at (p ∷ ps) ≡ record { bytes = at; page = p.page } ∷ []
front-inside at p ps h k = rw (h, k, front)

pub back-behind : (size at : ℕ) (p : Pair) (ps : List Pair) → nat_le p.bytes at ≡ true → back size at (p ∷ ps) ≡ back size (at - p.bytes) ps
back-behind size at p ps h = rw (h, back)

pub back-before : (size at : ℕ) (p : Pair) (ps : List Pair) → nat_le p.bytes at ≡ false → nat_eq at 0 ≡ true →
    back size at (p ∷ ps) ≡ p ∷ ps
back-before size at p ps h k = rw (h, k, back)

pub back-inside : (size at : ℕ) (p : Pair) (ps : List Pair) → nat_le p.bytes at ≡ false → nat_eq at 0 ≡ false →
    back size at (p ∷ ps) ≡ without_pages size (page_count size at) p ++ ps
back-inside size at p ps h k = rw (h, k, back)

pub head-behind : (size at : ℕ) (p : Pair) (ps : List Pair) → nat_le p.bytes at ≡ true →
    head_of size at (p ∷ ps) ≡ head_of size (at - p.bytes) ps
head-behind size at p ps h = rw (h, head_of)

pub head-within : (size at : ℕ) (p : Pair) (ps : List Pair) → nat_le p.bytes at ≡ false →
    head_of size at (p ∷ ps) ≡ min (page_count size at * size) p.bytes - at
head-within size at p ps h = rw (h, head_of)

pub count_ended-behind : (at : ℕ) (p : Pair) (ps : List Pair) → nat_le p.bytes at ≡ true →
    count_ended at (p ∷ ps) ≡ suc (count_ended (at - p.bytes) ps)
count_ended-behind at p ps h = rw (h, count_ended)

pub count_ended-within : (at : ℕ) (p : Pair) (ps : List Pair) → nat_le p.bytes at ≡ false → count_ended at (p ∷ ps) ≡ 0
count_ended-within at p ps h = rw (h, count_ended)

pub count_begun-before : (at : ℕ) (p : Pair) (ps : List Pair) → nat_eq at 0 ≡ true → count_begun at (p ∷ ps) ≡ 0
count_begun-before at p ps h = rw (h, count_begun)

pub count_begun-more : (at : ℕ) (p : Pair) (ps : List Pair) → nat_eq at 0 ≡ false →
    count_begun at (p ∷ ps) ≡ suc (count_begun (at - p.bytes) ps)
count_begun-more at p ps h = rw (h, count_begun)

pub left-behind : (at : ℕ) (p : Pair) (ps : List Pair) → nat_le p.bytes at ≡ true → left_of at (p ∷ ps) ≡ left_of (at - p.bytes) ps
left-behind at p ps h = rw (h, left_of)

pub left-before : (at : ℕ) (p : Pair) (ps : List Pair) → nat_le p.bytes at ≡ false → nat_eq at 0 ≡ true → left_of at (p ∷ ps) ≡ []
left-before at p ps h k = rw (h, k, left_of)

pub left-inside : (at : ℕ) (p : Pair) (ps : List Pair) → nat_le p.bytes at ≡ false → nat_eq at 0 ≡ false →
    left_of at (p ∷ ps) ≡ record { bytes = at; page = p.page } ∷ []
left-inside at p ps h k = rw (h, k, left_of)

pub right-behind : (size at : ℕ) (p : Pair) (ps : List Pair) → nat_le p.bytes at ≡ true →
    right_of size at (p ∷ ps) ≡ right_of size (at - p.bytes) ps
right-behind size at p ps h = rw (h, right_of)

pub right-before : (size at : ℕ) (p : Pair) (ps : List Pair) → nat_le p.bytes at ≡ false → nat_eq at 0 ≡ true →
    right_of size at (p ∷ ps) ≡ []
right-before size at p ps h k = rw (h, k, right_of)

pub right-inside : (size at : ℕ) (p : Pair) (ps : List Pair) → nat_le p.bytes at ≡ false → nat_eq at 0 ≡ false →
    right_of size at (p ∷ ps) ≡ without_pages size (page_count size at) p
right-inside size at p ps h k = rw (h, k, right_of)

-- the front is the entries that end at the place or before it, and what is left of the one that it lies in
pub front-is : (at : ℕ) (entries : List Pair) → front at entries ≡ take (count_ended at entries) entries ++ left_of at entries
front-is at [] = refl
front-is at (p ∷ ps) =
    let P : ℕ → List Pair → List Pair → Type 0 = λ k left all. all ≡ take k (p ∷ ps) ++ left in
    elim (lies at p) [
      | Behind h le ↦
          let more = front-is (at - p.bytes) ps in
          front-behind at p ps h
          ∙ (ap (λ (xs : List Pair). p ∷ xs) more
          ∙ (ap (λ (xs : List Pair). (p ∷ take (count_ended (at - p.bytes) ps) ps) ++ xs) (sym (left-behind at p ps h))
          ∙ ap (λ (k : ℕ). take k (p ∷ ps) ++ left_of at (p ∷ ps)) (sym (count_ended-behind at p ps h))))
      | Before h k none some ↦
          front-before at p ps h k
          ∙ (sym (left-before at p ps h k) ∙ ap (λ (j : ℕ). take j (p ∷ ps) ++ left_of at (p ∷ ps)) (sym (count_ended-within at p ps h)))
      | Inside h k some less ↦
          front-inside at p ps h k
          ∙ (sym (left-inside at p ps h k) ∙ ap (λ (j : ℕ). take j (p ∷ ps) ++ left_of at (p ∷ ps)) (sym (count_ended-within at p ps h)))
    ]

-- none begins before the start
count_begun-none : (entries : List Pair) → count_begun 0 entries ≡ 0
count_begun-none [] = refl
count_begun-none (p ∷ ps) = refl

-- the back is what is left of the entry that the place lies in, and the entries that begin at the place or behind it
pub back-is : (size at : ℕ) (entries : List Pair) → HaveBytes entries →
    back size at entries ≡ right_of size at entries ++ drop (count_begun at entries) entries
back-is size at [] have = refl
back-is size at (p ∷ ps) have =
    elim (lies at p) [
      | Behind h le ↦
          let byte = have.0 in
          let k : nat_eq at 0 ≡ false = ne_eqb at 0 (λ none. omega (arith, none, le, byte)) in
          back-behind size at p ps h
          ∙ (back-is size (at - p.bytes) ps have.1
          ∙ (ap (λ (xs : List Pair). xs ++ drop (count_begun (at - p.bytes) ps) ps) (sym (right-behind size at p ps h))
          ∙ ap (λ (j : ℕ). right_of size at (p ∷ ps) ++ drop j (p ∷ ps)) (sym (count_begun-more at p ps k))))
      | Before h k none some ↦
          back-before size at p ps h k
          ∙ (ap (λ (j : ℕ). drop j (p ∷ ps)) (sym (count_begun-before at p ps k))
          ∙ ap (λ (xs : List Pair). xs ++ drop (count_begun at (p ∷ ps)) (p ∷ ps)) (sym (right-before size at p ps h k)))
      | Inside h k some less ↦
          let spent : at - p.bytes ≡ 0 = omega (arith, less) in
          let none : count_begun (at - p.bytes) ps ≡ 0 = ap (λ (j : ℕ). count_begun j ps) spent ∙ count_begun-none ps in
          let one : count_begun at (p ∷ ps) ≡ 1 = count_begun-more at p ps k ∙ ap suc none in
          back-inside size at p ps h k
          ∙ (ap (λ (xs : List Pair). xs ++ ps) (sym (right-inside size at p ps h k))
          ∙ ap (λ (j : ℕ). right_of size at (p ∷ ps) ++ drop j (p ∷ ps)) (sym one))
    ]

-- no more entries end before a place than begin before it or a later one
pub count_ended-count_begun : (a e : ℕ) (entries : List Pair) → a ≤ e → HaveBytes entries → count_ended a entries ≤ count_begun e entries
count_ended-count_begun a e [] le have = let none : 0 ≤ 0 = omega arith in none
count_ended-count_begun a e (p ∷ ps) le have =
    elim (cases_Bool (nat_le p.bytes a)) [
      | inr h ↦ let none = count_ended-within a p ps h in omega (arith, none)
      | inl h ↦
          let behind = leb-true p.bytes a h in
          let byte = have.0 in
          let k : nat_eq e 0 ≡ false = ne_eqb e 0 (λ none. omega (arith, none, le, behind, byte)) in
          let more = count_ended-count_begun (a - p.bytes) (e - p.bytes) ps (omega (arith, le)) have.1 in
          let one = count_ended-behind a p ps h in
          let two = count_begun-more e p ps k in
          omega (arith, more, one, two)
    ]

-- as many entries as the list has
pub count_ended-within_list : (at : ℕ) (entries : List Pair) → count_ended at entries ≤ length entries
count_ended-within_list at [] = let none : 0 ≤ 0 = omega arith in none
count_ended-within_list at (p ∷ ps) =
    elim (cases_Bool (nat_le p.bytes at)) [
      | inr h ↦ let none = count_ended-within at p ps h in omega (arith, none)
      | inl h ↦ let more = count_ended-within_list (at - p.bytes) ps in let one = count_ended-behind at p ps h in omega (arith, more, one)
    ]

pub count_begun-within_list : (at : ℕ) (entries : List Pair) → count_begun at entries ≤ length entries
count_begun-within_list at [] = let none : 0 ≤ 0 = omega arith in none
count_begun-within_list at (p ∷ ps) =
    elim (cases_Bool (nat_eq at 0)) [
      | inl k ↦ let none = count_begun-before at p ps k in omega (arith, none)
      | inr k ↦ let more = count_begun-within_list (at - p.bytes) ps in let one = count_begun-more at p ps k in omega (arith, more, one)
    ]

-- the head ends within the entries
pub head-ends : (size at : ℕ) (entries : List Pair) → 0 < size → at ≤ bytes_of entries → at + head_of size at entries ≤ bytes_of entries
head-ends size at [] some within = let none : at ≤ 0 = within in let fits : at + 0 ≤ 0 = omega (arith, none) in fits
head-ends size at (p ∷ ps) some within =
    let all = sum_by-cons (λ (q : Pair). q.bytes) p ps in
    elim (cases_Bool (nat_le p.bytes at)) [
      | inl h ↦
          let behind = leb-true p.bytes at h in
          let more = head-ends size (at - p.bytes) ps some (omega (arith, all, within)) in
          let step = head-behind size at p ps h in
          omega (arith, more, step, all, behind)
      | inr h ↦
          let inside = leb-false p.bytes at h in
          let step = head-within size at p ps h in
          omega (arith, step, all, inside)
    ]

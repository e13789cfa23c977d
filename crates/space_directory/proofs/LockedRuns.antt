-- The locked pages after a lock of a run, page by page, and one page more of the run.
use Rattle.std.proofs.Common.{inl, inr, ◌≡◌, ℕ, zero, suc, ◌+◌, ◌-◌, ◌<◌, ◌≤◌, Bool, true, false, not, ◌||◌, List}
use Rattle.std.proofs.Common.{[], ◌∷◌, ◌++◌, length, take, drop, refl, sym, ap, ◌∙◌, subst, arith, length-append}
use Rattle.std.proofs.Common.{length-drop}
use Rattle.std.proofs.lemmas.List.{places, length-take, ext_get_or}
use Rattle.std.proofs.lemmas.Bool.{cases_eq, cases_lt, or_right}
use Rattle.block_model.specs.Block.{has_page, with_run}
use Rattle.block_model.proofs.Changes.{length-with_run, with_run-below, with_run-inside, with_run-above}
use Rattle.space_directory.specs.SpaceView.{kept_back, locked_with}

pub length-kept_back : (free locked : List Bool) → length free ≡ length locked → length (kept_back free locked) ≡ length locked
length-kept_back [] locked e = refl
length-kept_back (f ∷ free) [] e = refl
length-kept_back (f ∷ free) (l ∷ locked) e = ap suc (length-kept_back free locked (omega arith))

pub kept_back-page : (free locked : List Bool) (i : ℕ) → length free ≡ length locked → i < length locked →
    has_page (kept_back free locked) i ≡ (has_page locked i || not (has_page free i))
kept_back-page [] [] i e less = absurd (omega arith)
kept_back-page [] (l ∷ locked) i e less = absurd (omega arith)
kept_back-page (f ∷ free) [] i e less = absurd (omega arith)
kept_back-page (f ∷ free) (l ∷ locked) zero e less = refl
kept_back-page (f ∷ free) (l ∷ locked) (suc i) e less = kept_back-page free locked i (omega arith) (omega arith)

cut_length : (xs : List Bool) (at n : ℕ) → at + n ≤ length xs → length (take n (drop at xs)) ≡ n
cut_length xs at n fits = omega (arith, length-take n (drop at xs), length-drop at xs)

middle_length : (free locked : List Bool) (at n : ℕ) → at + n ≤ length free → length locked ≡ length free →
    length (kept_back (take n (drop at free)) (take n (drop at locked))) ≡ n
middle_length free locked at n fits e =
    let left : length (take n (drop at free)) ≡ n = cut_length free at n fits in
    let right : length (take n (drop at locked)) ≡ n = cut_length locked at n (omega arith) in
    length-kept_back (take n (drop at free)) (take n (drop at locked)) (left ∙ sym right) ∙ right

pub length-locked_with : (free locked : List Bool) (at n : ℕ) → at + n ≤ length free → length locked ≡ length free →
    length (locked_with free locked at n) ≡ length locked
length-locked_with free locked at n fits e =
    let middle : length (kept_back (take n (drop at free)) (take n (drop at locked))) ≡ n = middle_length free locked at n fits e in
    omega (
      arith,
      length-append (take at locked)
          (kept_back (take n (drop at free)) (take n (drop at locked)) ++ drop (at + n) locked),
      length-append (kept_back (take n (drop at free)) (take n (drop at locked))) (drop (at + n) locked),
      length-take at locked,
      length-drop (at + n) locked,
    )

-- a list in three parts, read in each
read_below : (xs middle : List Bool) (at n p : ℕ) → at + n ≤ length xs → length middle ≡ n → p < at →
    has_page (take at xs ++ (middle ++ drop (at + n) xs)) p ≡ has_page xs p
read_below xs middle at n p fits e less = grind (arith, places)

read_inside : (xs middle : List Bool) (at n i : ℕ) → at + n ≤ length xs → length middle ≡ n → i < n →
    has_page (take at xs ++ (middle ++ drop (at + n) xs)) (at + i) ≡ has_page middle i
read_inside xs middle at n i fits e less = grind (arith, places)

read_above : (xs middle : List Bool) (at n p : ℕ) → at + n ≤ length xs → length middle ≡ n → at + n ≤ p →
    has_page (take at xs ++ (middle ++ drop (at + n) xs)) p ≡ has_page xs p
read_above xs middle at n p fits e more = grind (arith, places)

-- a page of a cut of a list, in the list
pub read_cut : (xs : List Bool) (at n i : ℕ) → i < n → has_page (take n (drop at xs)) i ≡ has_page xs (at + i)
read_cut xs at n i less = grind (arith, places)

pub locked_with-below : (free locked : List Bool) (at n p : ℕ) → at + n ≤ length free →
    length locked ≡ length free → p < at → has_page (locked_with free locked at n) p ≡ has_page locked p
locked_with-below free locked at n p fits e less =
    read_below locked (kept_back (take n (drop at free)) (take n (drop at locked))) at n p (omega arith)
    (middle_length free locked at n fits e) less

pub locked_with-above : (free locked : List Bool) (at n p : ℕ) → at + n ≤ length free →
    length locked ≡ length free → at + n ≤ p → has_page (locked_with free locked at n) p ≡ has_page locked p
locked_with-above free locked at n p fits e more =
    read_above locked (kept_back (take n (drop at free)) (take n (drop at locked))) at n p (omega arith)
    (middle_length free locked at n fits e) more

inside_at : (free locked : List Bool) (at n i : ℕ) → at + n ≤ length free → length locked ≡ length free → i < n →
    has_page (locked_with free locked at n) (at + i) ≡ (has_page locked (at + i) || not (has_page free (at + i)))
inside_at free locked at n i fits e less =
    let left : length (take n (drop at free)) ≡ n = cut_length free at n fits in
    let right : length (take n (drop at locked)) ≡ n = cut_length locked at n (omega arith) in
    read_inside locked (kept_back (take n (drop at free)) (take n (drop at locked))) at n i (omega arith)
    (middle_length free locked at n fits e) less
    ∙ kept_back-page (take n (drop at free)) (take n (drop at locked)) i (left ∙ sym right) (omega arith)
    ∙ ap (λ (b : Bool). b || not (has_page (take n (drop at free)) i)) (read_cut locked at n i less)
    ∙ ap (λ (b : Bool). has_page locked (at + i) || not b) (read_cut free at n i less)

pub locked_with-inside : (free locked : List Bool) (at n p : ℕ) → at + n ≤ length free →
    length locked ≡ length free → at ≤ p → p < at + n →
    has_page (locked_with free locked at n) p ≡ (has_page locked p || not (has_page free p))
locked_with-inside free locked at n p fits e from to =
    let same : at + (p - at) ≡ p = omega arith in
    subst (λ (k : ℕ). has_page (locked_with free locked at n) k
    ≡ (has_page locked k || not (has_page free k))) same
    (inside_at free locked at n (p - at) fits e (omega arith))

or_false : (b : Bool) → (b || false) ≡ b
or_false true = refl
or_false false = refl

same_sets : (xs ys : List Bool) → length xs ≡ length ys → ((p : ℕ) → p < length xs → has_page xs p ≡ has_page ys p) → xs ≡ ys
same_sets xs ys e h = ext_get_or false xs ys e h

pub locked_with-none : (free locked : List Bool) (at : ℕ) → at ≤ length free → length locked ≡ length free →
    locked_with free locked at 0 ≡ locked
locked_with-none free locked at fits e = same_sets (locked_with free locked at 0) locked
    (length-locked_with free locked at 0 (omega arith) e) (λ p _. elim (cases_lt p at) [
      | inl less ↦ locked_with-below free locked at 0 p (omega arith) e less
      | inr more ↦ locked_with-above free locked at 0 p (omega arith) e (omega arith)
    ])

free_at : (free locked : List Bool) (at n p : ℕ) → at + n < length free → length locked ≡ length free →
    has_page free (at + n) ≡ true → has_page (locked_with free locked at (n + 1)) p
    ≡ has_page (locked_with free locked at n) p
free_at free locked at n p fits e is_free = elim (cases_lt p at) [
  | inl below ↦ locked_with-below free locked at (n + 1) p (omega arith) e below
      ∙ sym (locked_with-below free locked at n p (omega arith) e below)
  | inr from ↦ elim (cases_lt p (at + n)) [
    | inl inside ↦ locked_with-inside free locked at (n + 1) p (omega arith) e from (omega arith)
        ∙ sym (locked_with-inside free locked at n p (omega arith) e from inside)
    | inr behind ↦ elim (cases_eq p (at + n)) [
      | inl here ↦
          let f : has_page free p ≡ true = ap (λ (k : ℕ). has_page free k) here ∙ is_free in
          locked_with-inside free locked at (n + 1) p (omega arith) e from (omega arith)
          ∙ ap (λ (b : Bool). has_page locked p || not b) f ∙ or_false (has_page locked p)
          ∙ sym (locked_with-above free locked at n p (omega arith) e behind)
      | inr other ↦ locked_with-above free locked at (n + 1) p (omega arith) e (omega arith)
          ∙ sym (locked_with-above free locked at n p (omega arith) e behind)
    ]
  ]
]

-- one page more, where it is free
pub locked_with-free : (free locked : List Bool) (at n : ℕ) → at + n < length free → length locked ≡ length free →
    has_page free (at + n) ≡ true → locked_with free locked at (n + 1) ≡ locked_with free locked at n
locked_with-free free locked at n fits e is_free = same_sets (locked_with free locked at (n + 1)) (locked_with free locked at n)
    (length-locked_with free locked at (n + 1) (omega arith) e
    ∙ sym (length-locked_with free locked at n (omega arith) e))
    (λ p _. free_at free locked at n p fits e is_free)

held_at : (free locked : List Bool) (at n p : ℕ) → at + n < length free → length locked ≡ length free →
    has_page free (at + n) ≡ false → has_page (locked_with free locked at (n + 1)) p
    ≡ has_page (with_run (locked_with free locked at n) (at + n) 1 true) p
held_at free locked at n p fits e held =
    let size : length (locked_with free locked at n) ≡ length locked = length-locked_with free locked at n (omega arith) e in
    elim (cases_lt p (at + n)) [
      | inl before ↦ elim (cases_lt p at) [
        | inl below ↦ locked_with-below free locked at (n + 1) p (omega arith) e below
            ∙ sym (locked_with-below free locked at n p (omega arith) e below)
            ∙ sym (with_run-below (locked_with free locked at n) (at + n) 1 true p (omega arith) before)
        | inr from ↦ locked_with-inside free locked at (n + 1) p (omega arith) e from (omega arith)
            ∙ sym (locked_with-inside free locked at n p (omega arith) e from before)
            ∙ sym (with_run-below (locked_with free locked at n) (at + n) 1 true p (omega arith) before)
      ]
      | inr behind ↦ elim (cases_eq p (at + n)) [
        | inl here ↦
            let f : has_page free p ≡ false = ap (λ (k : ℕ). has_page free k) here ∙ held in
            locked_with-inside free locked at (n + 1) p (omega arith) e (omega arith) (omega arith)
            ∙ ap (λ (b : Bool). has_page locked p || not b) f ∙ or_right (has_page locked p) true refl
            ∙ sym (with_run-inside (locked_with free locked at n) (at + n) 1 true p (omega arith) behind (omega arith))
        | inr other ↦ locked_with-above free locked at (n + 1) p (omega arith) e (omega arith)
            ∙ sym (locked_with-above free locked at n p (omega arith) e behind)
            ∙ sym (with_run-above (locked_with free locked at n) (at + n) 1 true p (omega arith) (omega arith))
      ]
    ]

-- one page more, where it is not
pub locked_with-held : (free locked : List Bool) (at n : ℕ) → at + n < length free → length locked ≡ length free →
    has_page free (at + n) ≡ false → locked_with free locked at (n + 1) ≡ with_run (locked_with free locked at n)
    (at + n) 1 true
locked_with-held free locked at n fits e held =
    let size : length (locked_with free locked at n) ≡ length locked = length-locked_with free locked at n (omega arith) e in
    same_sets (locked_with free locked at (n + 1)) (with_run (locked_with free locked at n) (at + n) 1 true)
    (length-locked_with free locked at (n + 1) (omega arith) e
    ∙ sym (length-with_run (locked_with free locked at n) (at + n) 1 true (omega arith) ∙ size))
    (λ p _. held_at free locked at n p fits e held)

-- the step of a loop over the pages of a run
pub held_step : (free locked now next : List Bool) (at page : ℕ) → at ≤ page → page < length free →
    length locked ≡ length free → now ≡ locked_with free locked at (page - at) → has_page free page ≡ false →
    next ≡ with_run now page 1 true → next ≡ locked_with free locked at (page + 1 - at)
held_step free locked now next at page from fits e h held step =
    let here : page ≡ at + (page - at) = omega arith in
    let more : page - at + 1 ≡ page + 1 - at = omega arith in
    step ∙ ap (λ (l : List Bool). with_run l page 1 true) h
    ∙ ap (λ (k : ℕ). with_run (locked_with free locked at (page - at)) k 1 true) here
    ∙ sym (locked_with-held free locked at (page - at) (omega arith) e (ap (λ (k : ℕ). has_page free k) (sym here) ∙ held))
    ∙ ap (λ (k : ℕ). locked_with free locked at k) more

pub free_step : (free locked now next : List Bool) (at page : ℕ) → at ≤ page → page < length free →
    length locked ≡ length free → now ≡ locked_with free locked at (page - at) → has_page free page ≡ true →
    next ≡ now → next ≡ locked_with free locked at (page + 1 - at)
free_step free locked now next at page from fits e h is_free step =
    let here : page ≡ at + (page - at) = omega arith in
    let more : page - at + 1 ≡ page + 1 - at = omega arith in
    step ∙ h ∙ sym (locked_with-free free locked at (page - at)
    (omega arith) e (ap (λ (k : ℕ). has_page free k) (sym here) ∙ is_free))
    ∙ ap (λ (k : ℕ). locked_with free locked at k) more

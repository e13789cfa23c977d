-- What each call of a space makes of one of its pages: whether it is free afterwards, and whether it is locked, from
-- whether it was, and from whether it lies in the run of the call.
use Rattle.std.proofs.Common.{inl, inr, ◌≡◌, ℕ, ◌+◌, ◌<◌, ◌≤◌, Bool, true, false, not, ◌&&◌, ◌||◌, List, length}
use Rattle.std.proofs.Common.{nat_le, nat_lt, refl, sym, ap, ◌∙◌, subst, arith}
use Rattle.std.proofs.lemmas.Bool.{cases_lt, lt-ltb, le-ltb, le-leb, lt-leb}
use Rattle.block_model.specs.Block.{has_page, with_run}
use Rattle.block_model.proofs.Changes.{with_run-below, with_run-inside, with_run-above}
use Rattle.space_directory.specs.SpaceView.{SpaceView, IsSpace, after_grant, after_give, after_lock, after_unlock}
use Rattle.space_directory.proofs.LockedRuns.{locked_with-below, locked_with-inside, locked_with-above}

-- does the page lie in the run of n pages from `at` on?
abbrev pub in_run : ℕ → ℕ → ℕ → Bool
in_run at n page = nat_le at page && nat_lt page (at + n)

pub in_run-inside : (at n page : ℕ) → at ≤ page → page < at + n → in_run at n page ≡ true
in_run-inside at n page from to = ap (λ (b : Bool). b && nat_lt page (at + n)) (le-leb at page from) ∙ lt-ltb page (at + n) to

pub in_run-below : (at n page : ℕ) → page < at → in_run at n page ≡ false
in_run-below at n page below = ap (λ (b : Bool). b && nat_lt page (at + n)) (lt-leb at page below)

pub in_run-above : (at n page : ℕ) → at + n ≤ page → in_run at n page ≡ false
in_run-above at n page above = ap (λ (b : Bool). b && nat_lt page (at + n)) (le-leb at page (omega arith)) ∙ le-ltb page (at + n) above

-- by cases on where the page lies
by_place : (P : Bool → Type 0) (at n page : ℕ) → ((page < at) → P false) → ((at + n ≤ page) → P false) →
    (at ≤ page → page < at + n → P true) → P (in_run at n page)
by_place P at n page below above inside = elim (cases_lt page at) [
  | inl less ↦ subst P (sym (in_run-below at n page less)) (below less)
  | inr from ↦ elim (cases_lt page (at + n)) [
    | inl to ↦ subst P (sym (in_run-inside at n page from to)) (inside from to)
    | inr past ↦ subst P (sym (in_run-above at n page past)) (above past)
  ]
]

-- a set of which a run was taken out, or into which one was put
taken_page : (pages : List Bool) (at n page : ℕ) → at + n ≤ length pages →
    has_page (with_run pages at n false) page ≡ (not (in_run at n page) && has_page pages page)
taken_page pages at n page fits = by_place (λ is_in. has_page (with_run pages at n false) page ≡ (not is_in && has_page pages page)) at n
    page
    (with_run-below pages at n false page fits) (with_run-above pages at n false page fits) (with_run-inside pages at n false page fits)

put_page : (pages : List Bool) (at n page : ℕ) → at + n ≤ length pages →
    has_page (with_run pages at n true) page ≡ (in_run at n page || has_page pages page)
put_page pages at n page fits = by_place (λ is_in. has_page (with_run pages at n true) page ≡ (is_in || has_page pages page)) at n page
    (with_run-below pages at n true page fits) (with_run-above pages at n true page fits) (with_run-inside pages at n true page fits)

-- after a grant: free where it was and lies outside of the run; locked as before
pub free-granted : (v : SpaceView) (at n page : ℕ) → at + n ≤ length v.free →
    has_page (after_grant v at n).free page ≡ (not (in_run at n page) && has_page v.free page)
free-granted v at n page fits = taken_page v.free at n page fits

pub locked-granted : (v : SpaceView) (at n page : ℕ) → has_page (after_grant v at n).locked page ≡ has_page v.locked page
locked-granted v at n page = refl

-- after a give: free where it was or lies in the run; locked where it was and lies outside of it
pub free-given : (v : SpaceView) (at : ℕ) (pages : List (List ℕ)) (page : ℕ) → at + length pages ≤ length v.free →
    has_page (after_give v at pages).free page ≡ (in_run at (length pages) page || has_page v.free page)
free-given v at pages page fits = put_page v.free at (length pages) page fits

pub locked-given : (v : SpaceView) (at : ℕ) (pages : List (List ℕ)) (page : ℕ) → IsSpace v → at + length pages ≤ length v.free →
    has_page (after_give v at pages).locked page ≡ (not (in_run at (length pages) page) && has_page v.locked page)
locked-given v at pages page s fits = taken_page v.locked at (length pages) page (omega (arith, s.locks))

-- after a lock: free as before; locked where it was, or lies in the run and isn't free
pub free-locked : (v : SpaceView) (at n page : ℕ) → has_page (after_lock v at n).free page ≡ has_page v.free page
free-locked v at n page = refl

or_swapped : (a b : Bool) → (a || b) ≡ (b || a)
or_swapped true true = refl
or_swapped true false = refl
or_swapped false true = refl
or_swapped false false = refl

pub locked-locked : (v : SpaceView) (at n page : ℕ) → IsSpace v → at + n ≤ length v.free →
    has_page (after_lock v at n).locked page ≡ ((in_run at n page && not (has_page v.free page)) || has_page v.locked page)
locked-locked v at n page s fits = by_place (λ is_in. has_page (after_lock v at n).locked
    page ≡ ((is_in && not (has_page v.free page)) || has_page v.locked page)) at n page
    (locked_with-below v.free v.locked at n page fits s.locks) (locked_with-above v.free v.locked at n page fits s.locks)
    (λ from to. locked_with-inside v.free v.locked at n page fits s.locks from to
    ∙ or_swapped (has_page v.locked page) (not (has_page v.free page)))

-- after an unlock: free as before; locked where it was and lies outside of the run
pub free-unlocked : (v : SpaceView) (at n page : ℕ) → has_page (after_unlock v at n).free page ≡ has_page v.free page
free-unlocked v at n page = refl

pub locked-unlocked : (v : SpaceView) (at n page : ℕ) → IsSpace v → at + n ≤ length v.free →
    has_page (after_unlock v at n).locked page ≡ (not (in_run at n page) && has_page v.locked page)
locked-unlocked v at n page s fits = taken_page v.locked at n page (omega (arith, s.locks))

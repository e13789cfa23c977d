-- What a grant says to the crates above: where the first place lies, which run of the rule it is, and that a run
-- which is given back as it was granted leaves the space as it was.
use Rattle.std.proofs.Common.{inl, inr, ◌≡◌, ℕ, ◌+◌, ◌<◌, ◌≤◌, Bool, true, false, List, [], ◌∷◌, length, replicate}
use Rattle.std.proofs.Common.{Option, Some, None, refl, sym, ap, ◌∙◌, subst, arith}
use Rattle.std.proofs.lemmas.List.{length-map, length-replicate, ext_get_or}
use Rattle.std.proofs.lemmas.Bool.{cases_lt}
use Rattle.std.specs.Prelude.{IsTrue}
use Rattle.geometry_model.specs.Numbers.{Numbers}
use Rattle.geometry_model.specs.Pages.{data_page}
use Rattle.page_port.specs.Pages.{run}
use Rattle.block_model.specs.Block.{has_page, with_run, HasRun}
use Rattle.block_model.specs.Place.{place}
use Rattle.block_model.proofs.Runs.{HasRun-within}
use Rattle.block_model.proofs.Changes.{length-with_run, with_run-below, with_run-inside, with_run-above}
use Rattle.layout_model.specs.Grants.{Spaces, Spot, Got, Refused, run_of, spot_in, around, space_at, without}
use Rattle.space_directory.specs.SpaceView.{SpaceView, IsSpace, with_pages, after_grant, after_give}
use Rattle.space_directory.proofs.HeldLaws.{with_pages-again}
use Rattle.superdirectory.specs.Rest.{Frame, Rest, count}
use Rattle.superdirectory.specs.Grants.{IsGrantFrom, free_sets}

-- ---- what may be asked for

-- after calls that keep the frame, from any space, no more pages may be asked for
pub asked_again : (old new : Rest) (start other n m : ℕ) → new.frame ≡ old.frame → new.entered ≡ None → other < count old →
    1 ≤ m → m ≤ n → IsGrantFrom old start n → IsGrantFrom new other m
asked_again old new start other n m same none there some fewer from = record {
  there = subst (λ (f : Frame). other < length f.firsts) (sym same) there;
  none = none;
  some = some;
  fits = subst (λ (f : Frame). m ≤ f.pages) (sym same) (omega (arith, fewer, from.fits));
}

-- ---- a run that was granted and given back

not_true : (b : Bool) → (IsTrue b → ⊥) → false ≡ b
not_true true never = absurd (never refl)
not_true false never = refl

same_pages : (xs ys : List Bool) → length xs ≡ length ys → ((i : ℕ) → has_page xs i ≡ has_page ys i) → xs ≡ ys
same_pages xs ys long each = ext_get_or false xs ys long (λ i less. each i)

free_again : (free : List Bool) (at n : ℕ) → HasRun free at n → at + n ≤ length free → with_run (with_run free at n false) at n true ≡ free
free_again free at n run fits =
    let taken = with_run free at n false in
    let long : length taken ≡ length free = length-with_run free at n false fits in
    same_pages (with_run taken at n true) free (length-with_run taken at n true (omega arith) ∙ long) (λ i. elim (cases_lt i at) [
      | inl below ↦ with_run-below taken at n true i (omega arith) below ∙ with_run-below free at n false i fits below
      | inr from ↦ elim (cases_lt i (at + n)) [
        | inl to ↦ with_run-inside taken at n true i (omega arith) from to ∙ sym (run.each i from to)
        | inr above ↦ with_run-above taken at n true i (omega arith) above ∙ with_run-above free at n false i fits above
      ]
    ])

locked_still : (locked : List Bool) (at n : ℕ) → at + n ≤ length locked →
    ((i : ℕ) → at ≤ i → i < at + n → IsTrue (has_page locked i) → ⊥) → with_run locked at n false ≡ locked
locked_still locked at n fits none = same_pages (with_run locked at n false) locked
    (length-with_run locked at n false fits) (λ i. elim (cases_lt i at) [
      | inl below ↦ with_run-below locked at n false i fits below
      | inr from ↦ elim (cases_lt i (at + n)) [
        | inl to ↦ with_run-inside locked at n false i fits from to ∙ not_true (has_page locked i) (none i from to)
        | inr above ↦ with_run-above locked at n false i fits above
      ]
    ])

pub given_back : (v : SpaceView) (at : ℕ) (pages : List (List ℕ)) → IsSpace v → HasRun v.free at (length pages) →
    1 ≤ length pages → pages ≡ run at (length pages) v.held →
    after_give (after_grant v at (length pages)) at pages ≡ v
given_back v at pages sound found some taken =
    let fits : at + length pages ≤ length v.free = HasRun-within v.free at (length pages) (omega arith) found in
    let free = free_again v.free at (length pages) found fits in
    let locked = locked_still v.locked at (length pages) (omega (arith, sound.locks)) (λ i from to. sound.apart i (found.each i from to)) in
    let held = with_pages-again v.held at (replicate (length pages) []) pages (length-replicate {A = List ℕ}
    (length pages) []) (omega (arith, sound.holds)) taken in
    let made : List Bool → List Bool → List (List ℕ) → SpaceView = λ f l h. record v { free = f; locked = l; held = h } in
    ap (λ (f : List Bool). made f (with_run v.locked at (length pages) false)
    (with_pages (with_pages v.held at (replicate (length pages) [])) at pages)) free
    ∙ ap (λ (l : List Bool). made v.free l (with_pages (with_pages v.held at (replicate (length pages) [])) at pages)) locked
    ∙ ap (λ (h : List (List ℕ)). made v.free v.locked h) held

-- ---- the place that is found

pub spot_placed : (spaces : List (List Bool)) (n : ℕ) (visits : List ℕ) (spot : Spot) →
    spot_in spaces n visits ≡ Some spot → place (space_at spaces spot.space) n ≡ Some spot.at
spot_placed spaces n [] spot e = cc
spot_placed spaces n (s ∷ rest) spot e = by_place (place (space_at spaces s) n) refl (spot_placed spaces n rest spot)
  where
    by_place : (o : Option ℕ) → place (space_at spaces s) n ≡ o →
        (spot_in spaces n rest ≡ Some spot → place (space_at spaces spot.space) n ≡ Some spot.at) →
        place (space_at spaces spot.space) n ≡ Some spot.at
    by_place (Some at) f more =
        let here : spot_in spaces n (s ∷ rest) ≡ Some (record { space = s; at = at }) = rw (f, spot_in) refl in
        let same : record { space = s; at = at } ≡ spot = cc in
        subst (λ (x : Spot). place (space_at spaces x.space) n ≡ Some x.at) same f
    by_place None f more =
        let gone : spot_in spaces n (s ∷ rest) ≡ spot_in spaces n rest = rw (f, spot_in) refl in more (sym gone ∙ e)

pub run_some : (numbers : Numbers) (start n : ℕ) (spaces : Spaces) (spot : Spot) →
    spot_in spaces n (around start (length spaces)) ≡ Some spot →
    run_of numbers start n spaces ≡ Got (record { page = data_page numbers spot.space spot.at; pages = n }) (without spaces spot n)
run_some numbers start n spaces spot e = rw (e, run_of) refl

pub run_none : (numbers : Numbers) (start n : ℕ) (spaces : Spaces) →
    spot_in spaces n (around start (length spaces)) ≡ None → run_of numbers start n spaces ≡ Refused n
run_none numbers start n spaces e = rw (e, run_of) refl

pub around_all : (views : List SpaceView) (frame : Frame) (start n : ℕ) (o : Option Spot) →
    length views ≡ length frame.firsts → spot_in (free_sets views) n (around start (length frame.firsts)) ≡ o →
    spot_in (free_sets views) n (around start (length (free_sets views))) ≡ o
around_all views frame start n o same e =
    ap (λ (k : ℕ). spot_in (free_sets views) n (around start k)) (length-map views (λ (v : SpaceView). v.free) ∙ same) ∙ e

-- What each call of a space leaves, from what the calls of its maps and slots leave.
use Rattle.std.proofs.Common.{inl, inr, ◌≡◌, ℕ, suc, ◌+◌, ◌-◌, ◌*◌, ◌/◌, ◌^◌, ◌<◌, ◌≤◌, Bool, true, false, List}
use Rattle.std.proofs.Common.{◌++◌, length, take, drop, Option, Some, refl, sym, ap, ◌∙◌, subst, arith}
use Rattle.std.proofs.lemmas.Nat.{pow-add}
use Rattle.std.proofs.lemmas.List.{take_at, get_or_past}
use Rattle.std.proofs.lemmas.Bool.{cases_lt}
use Rattle.page_port.specs.Pages.{run}
use Rattle.block_model.specs.Block.{has_page, HasRun, with_run, IsPlace}
use Rattle.block_model.proofs.Changes.{with_run-below, with_run-inside, with_run-above}
use Rattle.block_model.specs.Place.{place}
use Rattle.block_model.proofs.Laws.{IsPlace-free}
use Rattle.space_directory.specs.Slots.{IsRow, pages_held, KeepsSlots, IsEmptied, AreSpread}
use Rattle.space_directory.specs.SpaceView.{SpaceView, IsSpace, IsRunOf, IsSegmentOf, IsGrant, IsAnyGrant}
use Rattle.space_directory.specs.SpaceView.{after_grant, after_give, locked_with}
use Rattle.space_directory.specs.Held.{OwnsFree, HasNoneBefore}
use Rattle.space_directory.proofs.Spaces.{row_of, sized_of, granted_whole, given_whole, locked_whole}

-- a list that was written as a whole behind a vector
pub written : {X : Type 0} (len : ℕ) (items new : List X) → len ≡ length new → take len (new ++ drop (length new) items) ≡ new
written len items new e = take_at new (drop (length new) items) len (sym e)

pub grant_row : {X : Type 0} (start : X → ℕ) (contents : X → List (List ℕ)) (tells : Bool) (v : SpaceView) (slots : List (Option X))
    (n at : ℕ) → OwnsFree start contents tells v slots → HasRun v.free at n → IsRow start contents v.first slots at n
grant_row start contents tells v slots n at w found = row_of start contents tells v.page v.first v.free slots at n w.holds found

pub grant_whole : {X : Type 0} (start : X → ℕ) (contents : X → List (List ℕ)) (tells : Bool) (v : SpaceView) (old new : List (Option X))
    (n at : ℕ) (free : List Bool) → OwnsFree start contents tells v old → at + n ≤ length v.free →
    free ≡ with_run v.free at n false → IsEmptied new at n → KeepsSlots old new at n →
    OwnsFree start contents tells (record v { free = free; held = pages_held contents new }) new
grant_whole start contents tells v old new n at free w fits e emptied others =
    let after : OwnsFree start contents tells (after_grant v at n) new =
    granted_whole start contents tells v old new at n w fits emptied others in
    subst (λ (f : List Bool). OwnsFree start contents tells (record v { free = f; held = pages_held contents new }) new) (sym e)
    (subst (λ (held : List (List ℕ)). OwnsFree start contents tells (record v { free = with_run v.free at n false; held = held }) new)
    after.told after)

-- the view after a grant, as the space tells it
pub grant_view : {X : Type 0} (start : X → ℕ) (contents : X → List (List ℕ)) (tells : Bool) (v : SpaceView) (old new : List (Option X))
    (n at : ℕ) (free : List Bool) → OwnsFree start contents tells v old → at + n ≤ length v.free →
    free ≡ with_run v.free at n false → IsEmptied new at n → KeepsSlots old new at n →
    record v { free = free; held = pages_held contents new } ≡ after_grant v at n
grant_view start contents tells v old new n at free w fits e emptied others =
    let after : OwnsFree start contents tells (after_grant v at n) new =
    granted_whole start contents tells v old new at n w fits emptied others in
    ap (λ (f : List Bool). record v { free = f; held = pages_held contents new }) e
    ∙ ap (λ (held : List (List ℕ)). record v { free = with_run v.free at n false; held = held }) (sym after.told)

pub grant_made : {X : Type 0} (start : X → ℕ) (contents : X → List (List ℕ)) (tells : Bool) (v w new : SpaceView)
    (slots : List (Option X)) (n at : ℕ) (span : X) → v ≡ w → OwnsFree start contents tells v slots → IsPlace v.free n (Some at) →
    Some at ≡ place v.free n →
    new ≡ after_grant v at n → start span ≡ v.first + at → length (contents span) ≡ n →
    contents span ≡ run at n (pages_held contents slots) → IsGrant w new n v.number (start span) (contents span) tells
grant_made start contents tells v w new slots n at span same whole best computed e from count pages =
    let here : at ≡ start span - v.first = omega arith in
    subst (λ (x : SpaceView). IsGrant x new n v.number (start span) (contents span) tells) same (record {
      named = refl;
      from = omega arith;
      placed = sym computed ∙ ap (λ (k : ℕ). Some k) here;
      count = count;
      sized = sized_of start contents tells v.page v.first v.free slots at n (contents span) whole.holds (IsPlace-free v.free n at best)
          pages;
      held = pages ∙ ap (λ (k : ℕ). run k n (pages_held contents slots)) here
          ∙ ap (λ (held : List (List ℕ)). run (start span - v.first) n held) (sym whole.told);
      after = e ∙ ap (λ (k : ℕ). after_grant v k n) here;
    })

-- a whole run that was taken out
pub any_made : {X : Type 0} (start : X → ℕ) (contents : X → List (List ℕ)) (tells : Bool) (v w new : SpaceView) (slots : List (Option X))
    (n at : ℕ) (span : X) → v ≡ w → OwnsFree start contents tells v slots → 1 ≤ n → HasRun v.free at n →
    ((page : ℕ) → suc page ≡ at → has_page v.free page ≡ false) → has_page v.free (at + n) ≡ false →
    new ≡ after_grant v at n → start span ≡ v.first + at → length (contents span) ≡ n →
    contents span ≡ run at n (pages_held contents slots) → IsAnyGrant w new (start span) (contents span) tells
any_made start contents tells v w new slots n at span same whole some found before behind e from count pages =
    let here : at ≡ start span - v.first = omega arith in
    let many : n ≡ length (contents span) = sym count in
    subst (λ (x : SpaceView). IsAnyGrant x new (start span) (contents span) tells) same (record {
      from = omega arith;
      some = omega arith;
      free = subst (λ (k : ℕ). HasRun v.free k (length (contents span))) here (subst (λ (k : ℕ). HasRun v.free at k) many found);
      before = λ page next. before page (next ∙ sym here);
      behind = subst (λ (k : ℕ). has_page v.free (k + length (contents span)) ≡ false) here
          (subst (λ (k : ℕ). has_page v.free (at + k) ≡ false) many behind);
      sized = sized_of start contents tells v.page v.first v.free slots at n (contents span) whole.holds found pages;
      held = pages ∙ ap (λ (k : ℕ). run k n (pages_held contents slots)) here
          ∙ ap (λ (k : ℕ). run (start span - v.first) k (pages_held contents slots)) many
          ∙ ap (λ (held : List (List ℕ)). run (start span - v.first) (length (contents span)) held) (sym whole.told);
      after = e ∙ ap (λ (k : ℕ). after_grant v k n) here ∙ ap (λ (k : ℕ). after_grant v (start span - v.first) k) many;
    })

-- a page that is not as a free one is not free
not_free : (b c : Bool) → (b ≡ c → ⊥) → c ≡ true → b ≡ false
not_free true true other e = absurd (other refl)
not_free true false other e = cc
not_free false c other e = refl

-- behind the end of a run that reaches as far as the pages are alike, no page is free
pub ended_run : (free : List Bool) (at n end : ℕ) → end ≡ at + n → (end < length free → has_page free end ≡ has_page free at → ⊥) →
    has_page free at ≡ true → has_page free (at + n) ≡ false
ended_run free at n end e other first = elim (cases_lt end (length free)) [
  | inl within ↦ ap (λ (k : ℕ). has_page free k) (sym e) ∙ not_free (has_page free end) (has_page free at) (other within) first
  | inr past ↦ get_or_past free (at + n) false (omega arith)
]

-- ---- the place below which no page is free

pub none_before_taken : (free : List Bool) (at n low : ℕ) → at + n ≤ length free → HasNoneBefore free low →
    HasNoneBefore (with_run free at n false) low
none_before_taken free at n low fits none page below = elim (cases_lt page at) [
  | inl left ↦ with_run-below free at n false page fits left ∙ none page below
  | inr from ↦ elim (cases_lt page (at + n)) [
    | inl inside ↦ with_run-inside free at n false page fits from inside
    | inr right ↦ with_run-above free at n false page fits right ∙ none page below
  ]
]

pub none_before_given : (free : List Bool) (at n low less : ℕ) → at + n ≤ length free → less ≤ low → less ≤ at → HasNoneBefore free low →
    HasNoneBefore (with_run free at n true) less
none_before_given free at n low less fits lower left none page below = with_run-below free at n true page fits (omega arith)
    ∙ none page (omega arith)

-- all pages before the first free one
pub none_before : (free : List Bool) (at low : ℕ) → HasNoneBefore free low →
    ((page : ℕ) → low ≤ page → page < at → has_page free page ≡ false) → HasNoneBefore free at
none_before free at low none passed page below = elim (cases_lt page low) [
  | inl left ↦ none page left
  | inr from ↦ passed page from below
]

-- all pages before the end of the first free run, once it was taken
pub none_before_end : (free : List Bool) (at n low end : ℕ) → at + n ≤ length free → end ≡ at + n → HasNoneBefore free low →
    ((page : ℕ) → low ≤ page → page < at → has_page free page ≡ false) → HasNoneBefore (with_run free at n false) end
none_before_end free at n low end fits e none passed page below = elim (cases_lt page at) [
  | inl left ↦ with_run-below free at n false page fits left ∙ none_before free at low none passed page left
  | inr from ↦ with_run-inside free at n false page fits from (omega arith)
]

-- what a give leaves, at the place of the span
given_fits : (v : SpaceView) (space start at : ℕ) (pages : List (List ℕ)) (tells : Bool) → at ≡ start - v.first →
    IsSegmentOf v space start pages tells → at + length pages ≤ length v.free
given_fits v space start at pages tells e s = omega (arith, s.inside.from, s.inside.to)

pub give_fits : (v w : SpaceView) (space start at n : ℕ) (pages : List (List ℕ)) (tells : Bool) → v ≡ w →
    IsSegmentOf w space start pages tells → at ≡ start - v.first → n ≡ length pages → at + n ≤ length v.free
give_fits v w space start at n pages tells same segment e f =
    let s : IsSegmentOf v space start pages tells = subst (λ (x : SpaceView). IsSegmentOf x space start pages tells) (sym same) segment in
    omega (arith, given_fits v space start at pages tells e s)

pub give_whole : {X : Type 0} (start : X → ℕ) (contents : X → List (List ℕ)) (tells : Bool) (v w : SpaceView) (old new : List (Option X))
    (space at : ℕ) (span : X) → v ≡ w → OwnsFree start contents tells v old → IsSegmentOf w space (start span) (contents span) tells →
    at ≡ start span - v.first → AreSpread start contents (start span) (contents span) new at (length (contents span)) →
    KeepsSlots old new at (length (contents span)) → OwnsFree start contents tells (after_give v at (contents span)) new
give_whole start contents tells v w old new space at span same whole segment e filled others =
    let s : IsSegmentOf v space (start span) (contents span) tells =
    subst (λ (x : SpaceView). IsSegmentOf x space (start span) (contents span) tells) (sym same) segment in
    let first : start span ≡ v.first + at = omega (arith, s.inside.from) in
    given_whole start contents tells v old new at (contents span) whole (given_fits v space (start span) at (contents span) tells e s)
    s.sized
    (subst (λ (k : ℕ). AreSpread start contents k (contents span) new at (length (contents span))) first filled) others

-- the view after a give, as the space tells it
pub give_view : {X : Type 0} (start : X → ℕ) (contents : X → List (List ℕ)) (tells : Bool) (v : SpaceView) (new : List (Option X))
    (at n : ℕ) (pages : List (List ℕ)) (free locked : List Bool) → OwnsFree start contents tells (after_give v at pages) new →
    n ≡ length pages →
    free ≡ with_run v.free at n true → locked ≡ with_run v.locked at n false →
    record v { free = free; locked = locked; held = pages_held contents new } ≡ after_give v at pages
give_view start contents tells v new at n pages free locked after f a b =
    ap (λ (x : List Bool). record v { free = x; locked = locked; held = pages_held contents new })
    (a ∙ ap (λ (k : ℕ). with_run v.free at k true) f)
    ∙ ap (λ (x : List Bool). record v { free = with_run v.free at (length pages) true; locked = x; held = pages_held contents new })
    (b ∙ ap (λ (k : ℕ). with_run v.locked at k false) f)
    ∙ ap (λ (held : List (List ℕ)). record v {
      free = with_run v.free at (length pages) true;
      locked =
          with_run v.locked at (length pages) false;
      held = held;
    }) (sym after.told)

pub lock_whole : {X : Type 0} (start : X → ℕ) (contents : X → List (List ℕ)) (tells : Bool) (v w : SpaceView) (slots : List (Option X))
    (first n : ℕ) (locked : List Bool) → v ≡ w → OwnsFree start contents tells v slots → IsRunOf w first n →
    locked ≡ locked_with v.free v.locked (first - v.first) n → OwnsFree start contents tells (record v { locked = locked }) slots
lock_whole start contents tells v w slots first n locked same whole run e =
    let r : IsRunOf v first n = subst (λ (x : SpaceView). IsRunOf x first n) (sym same) run in
    subst (λ (x : List Bool). OwnsFree start contents tells (record v { locked = x }) slots) (sym e)
    (locked_whole start contents tells v slots (first - v.first) n whole (omega (arith, r.from, r.to)))

-- a space's pages are whole bytes of its bitmap
pub whole_bytes : (v : SpaceView) (n : ℕ) → IsSpace v → n ≡ length v.free → 8 * (n / 8) ≡ n
whole_bytes v n s e =
    let split : 2 ^ (s.order - 3 + 3) ≡ 2 ^ (s.order - 3) * 2 ^ 3 = pow-add 2 (s.order - 3) 3 in
    let same : s.order - 3 + 3 ≡ s.order = omega (arith, s.order_low) in
    let size : n ≡ 2 ^ (s.order - 3) * 8 = e ∙ s.size ∙ ap (λ (k : ℕ). 2 ^ k) (sym same) ∙ split in omega arith

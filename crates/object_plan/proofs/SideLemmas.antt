-- The entries at the sides of a window: what code tests of them, and the plan that is left between them.
use Rattle.std.proofs.Common.{◌≡◌, ℕ, zero, suc, ◌+◌, ◌-◌, ◌<◌, ◌≤◌, Bool, true, false, ◌&&◌, List, [], ◌∷◌, length}
use Rattle.std.proofs.Common.{take, drop, get_or, refl, sym, ap, subst, arith, ◌∙◌, inl, inr, nat_eq, nat_lt}
use Rattle.std.proofs.lemmas.Bool.{cases_Bool, eqb-true, le-ltb, lt-ltb}
use Rattle.std.proofs.lemmas.List.{length-drop}
use Rattle.std.proofs.lemmas.List.Sums.{sum_by-cons}
use Rattle.std.proofs.Math.Seq.{take-length}
use Rattle.tree_model.specs.declared.entry.Pair.{Pair}
use Rattle.tree_model.specs.declared.entry.Placed.{Placed}
use Rattle.tree_model.specs.Range.{pairs_of, start_of}
use Rattle.tree_model.specs.Tree.{bytes_of}
use Rattle.tree_model.proofs.RangeLemmas.{no_segment}
use Rattle.layout_model.specs.declared.change.Change.{Change}
use Rattle.layout_model.specs.declared.part.Part.{Part}
use Rattle.layout_model.specs.Parts.{count_begun, count_ended, one_after, one_before}
use Rattle.layout_model.specs.Plan.{Plan, begins_kept, ends_kept, fit_made, made_part_bytes, merged_one, plan_packed}
use Rattle.content_laws.proofs.SideLemmas.{count_begun-before, count_begun-more, count_begun-within_list, count_ended-within_list}
use Rattle.content_laws.proofs.PlanLemmas.{first_of_list, last_of}
use Rattle.moment_model.specs.Moment.{count_true}
use Rattle.window_laws.proofs.CountLemmas.{count_begun-start}
use Rattle.edit_plan.specs.Planned.{IsTight}
use Rattle.edit_plan.proofs.SpotLemmas.{next-bytes, pairs-length, spot-within}
use Rattle.object_plan.specs.Sides.{count_sides, sides_of, trimmed}
use Rattle.object_plan.specs.Window.{change_on}

-- ---- how many entries begin before a place

-- no more than the first ones, where these have the bytes up to the place
pub begun-short : (e k : ℕ) (ps : List Pair) → e ≤ bytes_of (take k ps) → count_begun e ps ≤ k
begun-short e zero ps reach =
    let nothing : bytes_of (take 0 ps) ≡ 0 = refl in
    let none : 0 ≡ e = omega (arith, reach, nothing) in
    let start = count_begun-start ps in
    subst (λ (j : ℕ). count_begun j ps ≤ 0) none (omega (arith, start))
begun-short e (suc k) [] reach =
    let none : count_begun e [] ≡ 0 = refl in
    omega (arith, none)
begun-short e (suc k) (p ∷ ps) reach =
    elim (cases_Bool (nat_eq e 0)) [
      | inl none ↦ let step = count_begun-before e p ps none in omega (arith, step)
      | inr some ↦
          let step = count_begun-more e p ps some in
          let sum = sum_by-cons (λ (q : Pair). q.bytes) p (take k ps) in
          let less = begun-short (e - p.bytes) k ps (omega (arith, reach, sum)) in
          omega (arith, step, less)
    ]

-- and more than the first ones, where the place lies behind their bytes
pub begun-long : (e k : ℕ) (ps : List Pair) → bytes_of (take k ps) < e → k < length ps → k < count_begun e ps
begun-long e k [] past fits = let none : k < 0 = fits in absurd (omega (arith, none))
begun-long e zero (p ∷ ps) past fits =
    let nothing : bytes_of (take 0 (p ∷ ps)) ≡ 0 = refl in
    elim (cases_Bool (nat_eq e 0)) [
      | inl none ↦ let zero_is = eqb-true e 0 none in absurd (omega (arith, zero_is, past, nothing))
      | inr some ↦ let step = count_begun-more e p ps some in omega (arith, step)
    ]
begun-long e (suc k) (p ∷ ps) past fits =
    let sum = sum_by-cons (λ (q : Pair). q.bytes) p (take k ps) in
    let long : suc k < suc (length ps) = fits in
    elim (cases_Bool (nat_eq e 0)) [
      | inl none ↦ let zero_is = eqb-true e 0 none in absurd (omega (arith, zero_is, past))
      | inr some ↦
          let step = count_begun-more e p ps some in
          let more = begun-long (e - p.bytes) k ps (omega (arith, past, sum)) (omega (arith, long)) in
          omega (arith, step, more)
    ]

-- ---- the bytes before the last ones

pub last-bytes : (window : List Placed) → 0 < length window →
    bytes_of (pairs_of window)
    ≡ bytes_of (take (length window - 1) (pairs_of window)) + (get_or window (length window - 1) no_segment).pair.bytes
last-bytes window some =
    let n = length window in
    let long = pairs-length window in
    let next = next-bytes window (n - 1) (omega (arith, some)) in
    let reach : n - 1 + 1 ≡ length (pairs_of window) = omega (arith, some, long) in
    let all : take (n - 1 + 1) (pairs_of window) ≡ pairs_of window =
    ap (λ (k : ℕ). take k (pairs_of window)) reach ∙ take-length (pairs_of window) in
    let same = ap bytes_of all in
    omega (arith, next, same)

pub second-bytes : (window : List Placed) → 2 ≤ length window →
    bytes_of (take (length window - 1) (pairs_of window))
    ≡ bytes_of (take (length window - 2) (pairs_of window)) + (get_or window (length window - 2) no_segment).pair.bytes
second-bytes window some =
    let n = length window in
    let next = next-bytes window (n - 2) (omega (arith, some)) in
    let reach : n - 2 + 1 ≡ n - 1 = omega (arith, some) in
    let same = ap (λ (k : ℕ). bytes_of (take k (pairs_of window))) reach in
    omega (arith, next, same)

-- ---- what code tests

-- an entry begins at the place or behind it where the last one does
pub after-tested : (window : List Placed) (place : ℕ) → 0 < length window →
    place ≤ bytes_of (pairs_of window) - (get_or window (length window - 1) no_segment).pair.bytes →
    nat_lt (count_begun place (pairs_of window)) (length (pairs_of window)) ≡ true
after-tested window place some reach =
    let last = last-bytes window some in
    let long = pairs-length window in
    let few = begun-short place (length window - 1) (pairs_of window) (omega (arith, last, reach)) in
    lt-ltb (count_begun place (pairs_of window)) (length (pairs_of window)) (omega (arith, few, long, some))

pub after-none : (window : List Placed) (place : ℕ) → 0 < length window →
    bytes_of (pairs_of window) - (get_or window (length window - 1) no_segment).pair.bytes < place →
    nat_lt (count_begun place (pairs_of window)) (length (pairs_of window)) ≡ false
after-none window place some past =
    let last = last-bytes window some in
    let long = pairs-length window in
    let many = begun-long place (length window - 1) (pairs_of window) (omega (arith, last, past)) (omega (arith, long, some)) in
    le-ltb (count_begun place (pairs_of window)) (length (pairs_of window)) (omega (arith, many, long))

-- at most one begins there, where the last but one doesn't
pub behind-tight : (window : List Placed) (bytes place : ℕ) → bytes ≡ bytes_of (pairs_of window) → 2 ≤ length window →
    bytes - (get_or window (length window - 1) no_segment).pair.bytes - (get_or window (length window - 2) no_segment).pair.bytes < place →
    length (pairs_of window) ≤ count_begun place (pairs_of window) + 1
behind-tight window bytes place is some past =
    let last = last-bytes window (omega (arith, some)) in
    let second = second-bytes window some in
    let long = pairs-length window in
    let many = begun-long place (length window - 2) (pairs_of window) (omega (arith, last, second, past, is)) (omega (arith, long, some)) in
    omega (arith, many, long, some)

pub behind-loose : (window : List Placed) (bytes place : ℕ) → bytes ≡ bytes_of (pairs_of window) → 2 ≤ length window →
    place ≤ bytes - (get_or window (length window - 1) no_segment).pair.bytes - (get_or window (length window - 2) no_segment).pair.bytes →
    length (pairs_of window) ≤ count_begun place (pairs_of window) + 1 → ⊥
behind-loose window bytes place is some reach tight =
    let last = last-bytes window (omega (arith, some)) in
    let second = second-bytes window some in
    let long = pairs-length window in
    let few = begun-short place (length window - 2) (pairs_of window) (omega (arith, last, second, reach, is)) in
    omega (arith, few, long, some, tight)

pub before-few : (window : List Placed) (place : ℕ) → length window < 2 → count_ended place (pairs_of window) ≤ 1
before-few window place few =
    let long = pairs-length window in
    let within = count_ended-within_list place (pairs_of window) in
    omega (arith, few, long, within)

pub before-none : (window : List Placed) (place : ℕ) → place < (get_or window 0 no_segment).pair.bytes →
    count_ended place (pairs_of window) ≡ 0
before-none [] place within = refl
before-none (s ∷ rest) place within = spot-within place s.pair (pairs_of rest) within

-- ---- the plan between the sides

abbrev front_family : Bool → List Pair → ℕ → Type 0
front_family kept before k =
    (length before - merged_one before kept ≡ count_true (nat_lt 0 k && kept))
    × (k - merged_one before kept ≡ count_true (nat_lt 0 k && kept))

front_one : (p : Pair) (kept : Bool) → front_family kept (p ∷ []) 1
front_one p true = (refl, refl)
front_one p false = (refl, refl)

-- the entry before the place, where at most one ends there or before
pub front-side : (at : ℕ) (ps : List Pair) (kept : Bool) → count_ended at ps ≤ 1 →
    (length (one_before at ps) - merged_one (one_before at ps) kept ≡ count_true (nat_lt 0 (count_ended at ps) && kept))
    × (count_ended at ps - merged_one (one_before at ps) kept ≡ count_true (nat_lt 0 (count_ended at ps) && kept))
front-side at ps kept few =
    elim (last_of (count_ended at ps) ps (count_ended-within_list at ps)) [
      | inl none ↦
          subst (λ (before : List Pair). front_family kept before (count_ended at ps)) (sym none.1)
          (subst (λ (k : ℕ). front_family kept [] k) (sym none.0) (refl, refl))
      | inr one ↦
          let some = one.1 in
          let is : 1 ≡ count_ended at ps = omega (arith, few, some) in
          subst (λ (before : List Pair). front_family kept before (count_ended at ps)) (sym one.2)
          (subst (λ (k : ℕ). front_family kept (one.0 ∷ []) k) is (front_one one.0 kept))
    ]

abbrev back_family : Bool → List Pair → ℕ → ℕ → Bool → Type 0
back_family kept after begun long test =
    (length after - merged_one after kept ≡ count_true (test && kept))
    × (begun + merged_one after kept ≡ long - count_true (test && kept))

back_none : (kept : Bool) (begun long : ℕ) → begun ≡ long → back_family kept [] begun long false
back_none kept begun long end = (refl, omega (arith, end))

back_one : (p : Pair) (kept : Bool) (begun long : ℕ) → begun + 1 ≡ long → back_family kept (p ∷ []) begun long true
back_one p true begun long end =
    let one : count_true (true && true) ≡ 1 = refl in
    let none : merged_one (p ∷ []) true ≡ 0 = refl in
    (refl, omega (arith, end, one, none))
back_one p false begun long end =
    let none : count_true (true && false) ≡ 0 = refl in
    let one : merged_one (p ∷ []) false ≡ 1 = refl in
    (refl, omega (arith, end, one, none))

-- the entry behind the cut, where at most one begins there or behind
pub back-side : (e : ℕ) (ps : List Pair) (kept : Bool) → length ps ≤ count_begun e ps + 1 →
    (length (one_after e ps) - merged_one (one_after e ps) kept ≡ count_true (nat_lt (count_begun e ps) (length ps) && kept))
    × (count_begun e ps + merged_one (one_after e ps) kept ≡ length ps - count_true (nat_lt (count_begun e ps) (length ps) && kept))
back-side e ps kept tight =
    let begun = count_begun e ps in
    let within = count_begun-within_list e ps in
    let rest = length-drop begun ps in
    elim (first_of_list (drop begun ps)) [
      | inl none ↦
          let gone = ap length none.0 in
          let zero_is : length {A = Pair} [] ≡ 0 = refl in
          let end : begun ≡ length ps = omega (arith, within, rest, gone, zero_is) in
          let test : false ≡ nat_lt begun (length ps) = sym (le-ltb begun (length ps) (omega (arith, end))) in
          subst (λ (after : List Pair). back_family kept after begun (length ps) (nat_lt begun (length ps))) (sym none.1)
          (subst (λ (t : Bool). back_family kept [] begun (length ps) t) test (back_none kept begun (length ps) end))
      | inr one ↦
          let some = ap length one.2 in
          let more : length (one.0 ∷ one.1) ≡ suc (length one.1) = refl in
          let below : begun < length ps = omega (arith, rest, some, more) in
          let test : true ≡ nat_lt begun (length ps) = sym (lt-ltb begun (length ps) below) in
          subst (λ (after : List Pair). back_family kept after begun (length ps) (nat_lt begun (length ps))) (sym one.3)
          (subst (λ (t : Bool). back_family kept (one.0 ∷ []) begun (length ps) t) test
          (back_one one.0 kept begun (length ps) (omega (arith, below, tight))))
    ]

-- the plan of a tight window: between the entries that stay at its sides
pub sides-plan : (size spare : ℕ) (window : List Placed) (change : Change) (packed : List Part) →
    IsTight window change.at change.removed →
    plan_packed size (pairs_of window) spare (change_on window change) packed ≡ record {
      from = count_true (sides_of window change.at change.removed packed).front;
      count = length (pairs_of window) - count_sides (sides_of window change.at change.removed packed);
      parts = trimmed (sides_of window change.at change.removed packed) packed;
      fit = fit_made size change.appends spare (made_part_bytes packed);
    }
sides-plan size spare window change packed tight =
    let ps = pairs_of window in
    let a = change.at - start_of window in
    let e = change.at - start_of window + change.removed in
    let before = one_before a ps in
    let after = one_after e ps in
    let f = count_true (sides_of window change.at change.removed packed).front in
    let b = count_true (sides_of window change.at change.removed packed).back in
    let front = front-side a ps (begins_kept packed) tight.front in
    let back = back-side e ps (ends_kept packed) tight.back in
    let make : ℕ → ℕ → ℕ → ℕ → Plan = λ from to i j. record {
      from = from;
      count = to - from;
      parts = take (length packed - (i + j)) (drop i packed);
      fit = fit_made size change.appends spare (made_part_bytes packed);
    } in
    let from0 = count_ended a ps - merged_one before (begins_kept packed) in
    let to0 = count_begun e ps + merged_one after (ends_kept packed) in
    let i0 = length before - merged_one before (begins_kept packed) in
    let j0 = length after - merged_one after (ends_kept packed) in
    let start : plan_packed size ps spare (change_on window change) packed ≡ make from0 to0 i0 j0 = refl in
    let count : length ps - b - f ≡ length ps - (f + b) = omega arith in
    start
    ∙ (ap (λ (k : ℕ). make k to0 i0 j0) front.1
    ∙ (ap (λ (k : ℕ). make f k i0 j0) back.1
    ∙ (ap (λ (k : ℕ). make f (length ps - b) k j0) front.0
    ∙ (ap (λ (k : ℕ). make f (length ps - b) f k) back.0
    ∙ ap (λ (k : ℕ). record {
      from = f;
      count = k;
      parts = take (length packed - (f + b)) (drop f packed);
      fit = fit_made size change.appends spare (made_part_bytes packed);
    }) count))))

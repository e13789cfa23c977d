-- The plan of a tight window whose parts are merged, and an append that grows the last entry.
use Rattle.std.proofs.Common.{◌≡◌, ℕ, suc, ◌+◌, ◌-◌, ◌*◌, ◌^◌, ◌<◌, ◌≤◌, Bool, true, false, ◌&&◌, List, [], ◌∷◌, ◌++◌, length, map}
use Rattle.std.proofs.Common.{take, drop, get_or, refl, sym, ap, subst, arith, ◌∙◌, inl, inr, nat_lt, length-append}
use Rattle.std.specs.Prelude.{Option}
use Rattle.std.specs.List.{AllByRecursion}
use Rattle.std.proofs.lemmas.Bool.{cases_Bool, ltb-true}
use Rattle.std.proofs.Math.Seq.{take-length}
use Rattle.std.proofs.lemmas.List.{append-nil, drop_all, length-drop, length-map, length-take}
use Rattle.base_laws.proofs.ListLaws.{all-map}
use Rattle.geometry_model.specs.Numbers.{Numbers, IsInRange, space_pages}
use Rattle.geometry_model.proofs.NumberLaws.{space_pages-low, page-some}
use Rattle.tree_model.specs.declared.entry.Pair.{Pair}
use Rattle.tree_model.specs.declared.entry.Placed.{Placed}
use Rattle.tree_model.specs.Range.{pairs_of, start_of}
use Rattle.tree_model.specs.Tree.{Pages, bytes_of, page_count}
use Rattle.tree_model.proofs.PageCountLaws.{count-enough}
use Rattle.tree_model.proofs.RangeLemmas.{no_segment, next-pair}
use Rattle.layout_model.specs.declared.change.Change.{Change}
use Rattle.layout_model.specs.declared.extent.Extent.{Extent}
use Rattle.layout_model.specs.declared.fit.Fit.{Fit}
use Rattle.layout_model.specs.declared.fit.Fit.TheVariants.{Extend}
use Rattle.layout_model.specs.declared.part.Part.{Part}
use Rattle.layout_model.specs.declared.part.Part.TheVariants.{Keep}
use Rattle.layout_model.specs.Parts.{count_begun, count_ended, one_after, one_before, parts_of}
use Rattle.layout_model.specs.Pack.{pack}
use Rattle.layout_model.specs.Plan.{Plan, begins_kept, ends_kept, extent_pages, fit_appended, fit_made, last_entry, made_part_bytes}
use Rattle.layout_model.specs.Plan.{plan_extended, plan_packed, planned}
use Rattle.content_laws.specs.Spelling.{HaveBytes, IsPacked, IsThere, all_parts, edited_content}
use Rattle.content_laws.proofs.PlanLemmas.{first_of_list, last_of, outer_back, outer_front, plan-whole}
use Rattle.content_laws.proofs.SideLemmas.{count_ended-count_begun, count_ended-within_list}
use Rattle.change_laws.proofs.LayingLemmas.{merged_plan}
use Rattle.change_laws.proofs.PartLemmas.{segments-have}
use Rattle.change_laws.proofs.SizeLemmas.{all-take}
use Rattle.laid_content_laws.specs.Written.{behind_front}
use Rattle.laid_content_laws.proofs.LaidContentLemmas.{plan-cases}
use Rattle.moment_model.specs.Moment.{count_true}
use Rattle.edit_parts.specs.declared.part.Part as edit
use Rattle.edit_parts.specs.Parts.{layout_part, parts_content, pieces_of}
use Rattle.edit_parts.specs.Pieces.{IsFrom}
use Rattle.edit_plan.specs.Planned.{IsPlan, IsTight}
use Rattle.edit_plan.proofs.EntryLemmas.{space-few}
use Rattle.edit_plan.proofs.SpotLemmas.{pairs-length}
use Rattle.object_plan.specs.declared.planned.Planned.{Planned}
use Rattle.object_plan.specs.declared.sides.Sides.{Sides}
use Rattle.object_plan.specs.Asked.{AreCounted, wanted_by}
use Rattle.object_plan.specs.Planned.{IsFrontOf}
use Rattle.object_plan.specs.Sides.{count_sides, sides_of, trimmed}
use Rattle.object_plan.specs.Window.{CanPlanOn, IsPlanOn, change_on, plan_on}
use Rattle.object_plan.proofs.PlannedLemmas.{made-between, made-within, merged-good, merged-made}
use Rattle.object_plan.proofs.ReadLemmas.{ended-all}
use Rattle.object_plan.proofs.SideLemmas.{back-side, front-side, last-bytes, sides-plan}
use Rattle.object_plan.proofs.TrimLemmas.{IsMerged, trimmed-map, trimmed-pieces, trimmed-spells}

-- ---- which plan it is

pub planned-extends : (n : Numbers) (least : ℕ) (entries : List Pair) (spare : ℕ) (change : Change) →
    fit_appended n.page entries spare change ≡ Extend → planned n least entries spare change ≡ plan_extended entries change
unfolding planned
planned-extends n least entries spare change is = rw (is, planned) refl

planned_merges : (n : Numbers) (least : ℕ) (entries : List Pair) (spare : ℕ) (change : Change) →
    (fit_appended n.page entries spare change ≡ Extend → ⊥) →
    planned n least entries spare change ≡ merged_plan n least entries spare change
planned_merges n least entries spare change never =
    elim (plan-cases n least entries spare change) [
      | inl grows ↦ absurd (never grows.0)
      | inr merged ↦ merged
    ]

-- ---- nothing stands outside a tight window

front_outer : (at : ℕ) (ps : List Pair) → count_ended at ps ≤ 1 → outer_front at ps ≡ []
front_outer at ps few =
    let P : ℕ → Type 0 = λ k. take k ps ≡ [] in
    let none : 0 ≡ count_ended at ps - length (one_before at ps) =
    elim (last_of (count_ended at ps) ps (count_ended-within_list at ps)) [
      | inl nothing ↦ let zero_is = nothing.0 in omega (arith, zero_is)
      | inr one ↦
          let long = ap length one.2 in
          let single : length (one.0 ∷ []) ≡ 1 = refl in
          omega (arith, few, long, single)
    ] in
    subst P none refl

back_outer : (e : ℕ) (ps : List Pair) → length ps ≤ count_begun e ps + 1 → outer_back e ps ≡ []
back_outer e ps tight =
    let begun = count_begun e ps in
    let rest = length-drop begun ps in
    let past : length ps ≤ begun + length (one_after e ps) =
    elim (first_of_list (drop begun ps)) [
      | inl nothing ↦
          let gone = ap length nothing.0 in
          let zero_is : length {A = Pair} [] ≡ 0 = refl in
          omega (arith, rest, gone, zero_is)
      | inr one ↦
          let long = ap length one.3 in
          let single : length (one.0 ∷ []) ≡ 1 = refl in
          omega (arith, tight, long, single)
    ] in
    drop_all (begun + length (one_after e ps)) ps past

-- ---- the sides

at_most_one : (t : Bool) → count_true t ≤ 1
at_most_one true = let one : count_true true ≡ 1 = refl in omega (arith, one)
at_most_one false = let none : count_true false ≡ 0 = refl in omega (arith, none)

side_few : (x y : ℕ) (kept : Bool) → count_true (nat_lt x y && kept) ≤ y
side_few x y kept =
    elim (cases_Bool (nat_lt x y)) [
      | inl less ↦
          let below = ltb-true x y less in
          let one = at_most_one (nat_lt x y && kept) in
          omega (arith, below, one)
      | inr other ↦
          let none : count_true (nat_lt x y && kept) ≡ 0 = ap (λ (t : Bool). count_true (t && kept)) other in
          omega (arith, none)
    ]

pub sides-few : (window : List Placed) (at cut : ℕ) (packed : List Part) → HaveBytes (pairs_of window) → IsTight window at cut →
    count_sides (sides_of window at cut packed) ≤ length (pairs_of window)
sides-few window at cut packed have tight =
    let ps = pairs_of window in
    let a = at - start_of window in
    let e = at - start_of window + cut in
    let front = front-side a ps (begins_kept packed) tight.front in
    let back = back-side e ps (ends_kept packed) tight.back in
    let forward = count_ended-count_begun a e ps (omega arith) have in
    let few = side_few (count_begun e ps) (length ps) (ends_kept packed) in
    let one = front.1 in
    let two = back.1 in
    omega (arith, one, two, forward, few)

-- ---- the merged plan of a tight window

-- the plan between the sides, by the merged parts
abbrev pub between_sides : Numbers → ℕ → Change → List Placed → Sides → List Part → Plan
between_sides n spare change window sides packed = record {
  from = count_true sides.front;
  count = length (pairs_of window) - count_sides sides;
  parts = trimmed sides packed;
  fit = fit_made n.page change.appends spare (made_part_bytes packed);
}

-- what is known of merged parts and the sides
pub record IsPackedPlan (n : Numbers) (threshold : ℕ) (spare : Option Extent) (change : Change) (window : List Placed)
    (sides : Sides) (parts : List edit.Part) : Type 0 where
  pub plan_is : plan_on n threshold spare change window
      ≡ between_sides n (extent_pages spare) change window sides (map layout_part parts)
  pub merged : IsMerged (pairs_of window) (between_sides n (extent_pages spare) change window sides (map layout_part parts)) sides parts
  pub few : count_sides sides ≤ length (pairs_of window)
  pub few_parts : count_sides sides ≤ length parts
  pub made : made_part_bytes (map layout_part (trimmed sides parts)) ≡ made_part_bytes (map layout_part parts)
  pub counted : AreCounted (made_part_bytes (map layout_part parts))
  pub fit : AllByRecursion (λ bytes. page_count n.page bytes ≤ space_pages n) (made_part_bytes (map layout_part parts))

pub packed-plan : (n : Numbers) (threshold : ℕ) (spare : Option Extent) (change : Change) (window : List Placed) (parts : List edit.Part) →
    IsInRange n → CanPlanOn n threshold spare change window →
    (fit_appended n.page (pairs_of window) (extent_pages spare) (change_on window change) ≡ Extend → ⊥) →
    map layout_part parts ≡ pack n.page threshold (parts_of n.page (space_pages n * n.page) (pairs_of window)
    (change.at - start_of window) change.removed change.added) →
    IsPackedPlan n threshold spare change window (sides_of window change.at change.removed (map layout_part parts)) parts
packed-plan n threshold spare change window parts range ready never packed_is =
    let ps = pairs_of window in
    let inner = change_on window change in
    let pages = extent_pages spare in
    let most = space_pages n * n.page in
    let packed = pack n.page threshold (parts_of n.page most ps inner.at inner.removed inner.added) in
    let laid = map layout_part parts in
    let sides = sides_of window change.at change.removed laid in
    let plan = between_sides n pages change window sides laid in
    let have = segments-have n ps ready.segments in
    let some = page-some n range in
    let space = space_pages-low n range in
    let high = ready.threshold_high in
    let between : plan_packed n.page ps pages inner laid ≡ plan = sides-plan n.page pages window change laid ready.tight in
    let merged_is : merged_plan n threshold ps pages inner ≡ plan =
    ap (plan_packed n.page ps pages inner) (sym packed_is) ∙ between in
    let whole : all_parts ps plan ≡ laid =
    ap (all_parts ps) (sym merged_is)
    ∙ (plan-whole n.page threshold most ps pages inner have
    ∙ (ap (λ (xs : List Pair). map Keep xs ++ (packed ++ map Keep (outer_back (inner.at + inner.removed) ps)))
    (front_outer inner.at ps ready.tight.front)
    ∙ (ap (λ (xs : List Pair). packed ++ map Keep xs) (back_outer (inner.at + inner.removed) ps ready.tight.back)
    ∙ (append-nil packed ∙ sym packed_is)))) in
    let few = sides-few window change.at change.removed laid have ready.tight in
    let f = count_true sides.front in
    let m = length ps - count_sides sides in
    let front = length-map (take f ps) Keep in
    let front2 = length-take f ps in
    let back = length-map (drop (f + m) ps) Keep in
    let back2 = length-drop (f + m) ps in
    let one = length-append (map Keep (take f ps)) (trimmed sides laid ++ map Keep (drop (f + m) ps)) in
    let two = length-append (trimmed sides laid) (map Keep (drop (f + m) ps)) in
    let all = ap length whole in
    let long = length-map parts layout_part in
    let made : made_part_bytes (merged_plan n threshold ps pages inner).parts ≡ made_part_bytes laid =
    merged-made n threshold ps pages inner have ∙ ap made_part_bytes (sym packed_is) in
    let good = subst (AllByRecursion (λ bytes. (1 ≤ bytes) × (bytes ≤ most))) made
    (made-within n (merged_plan n threshold ps pages inner).parts
    (merged-good n threshold ps pages inner some (omega (arith, space)) high ready.segments)) in
    let small = space-few n range in
    record {
      plan_is = planned_merges n threshold ps pages inner never ∙ merged_is;
      merged = record { whole = whole; from_is = refl; within = omega (arith, few); between = refl };
      few = few;
      made = ap made_part_bytes (trimmed-map layout_part sides parts)
          ∙ (sym (made-between (take f ps) (drop (f + m) ps) (trimmed sides laid)) ∙ ap made_part_bytes whole);
      few_parts = omega (arith, front, front2, back, back2, one, two, all, long, few);
      counted = all-map (λ bytes. (1 ≤ bytes) × (bytes ≤ most)) (λ bytes. bytes < 2 ^ 63)
          (λ bytes is. let less = is.1 in omega (arith, less, small)) (made_part_bytes laid) good;
      fit = all-map (λ bytes. (1 ≤ bytes) × (bytes ≤ most)) (λ bytes. page_count n.page bytes ≤ space_pages n)
          (λ bytes is. count-enough n.page bytes (space_pages n) some is.1) (made_part_bytes laid) good;
    }

-- ---- the last entry

pub last-of-window : (window : List Placed) → 0 < length window →
    last_entry (pairs_of window) ≡ (get_or window (length window - 1) no_segment).pair
last-of-window [] some = let none : 0 < 0 = some in absurd (omega (arith, none))
last-of-window (s ∷ []) some =
    let e : 0 ≡ length (s ∷ []) - 1 = omega arith in
    ap (λ (k : ℕ). (get_or (s ∷ []) k no_segment).pair) e
last-of-window (s ∷ t ∷ rest) some =
    let e : suc (length (t ∷ rest) - 1) ≡ length (s ∷ t ∷ rest) - 1 = omega arith in
    last-of-window (t ∷ rest) (omega arith) ∙ ap (λ (k : ℕ). (get_or (s ∷ t ∷ rest) k no_segment).pair) e

-- ---- what is made of a window

-- what code makes of merged parts
pub record IsMadeOf (n : Numbers) (spare : Option Extent) (change : Change) (window : List Placed) (sides : Sides)
    (parts : List edit.Part) (p : Planned) : Type 0 where
  pub change_is : p.change ≡ change
  pub from_is : p.from ≡ start_of window + bytes_of (take (count_true sides.front) (pairs_of window))
  pub to_is : p.to ≡ start_of window + bytes_of (take (length window - count_true sides.back) (pairs_of window))
  pub replaced_is : p.replaced.items ≡ trimmed sides (pairs_of window)
  pub parts_is : p.parts.items ≡ trimmed sides parts
  pub fit_is : p.fit ≡ fit_made n.page change.appends (extent_pages spare) (made_part_bytes (map layout_part parts))
  pub requests_is : p.requests.items ≡ wanted_by p.fit n (pairs_of window) change.appends (map layout_part p.parts.items)

pub is-plan-on : (n : Numbers) (threshold : ℕ) (spare : Option Extent) (change : Change) (window : List Placed) (sides : Sides)
    (source parts : List edit.Part) (p : Planned) → IsInRange n → CanPlanOn n threshold spare change window →
    IsPackedPlan n threshold spare change window sides parts → IsPlan n window change.at change.removed change.added source →
    pieces_of parts ≡ pieces_of source →
    ((at : Pages) (payload : List ℕ) → parts_content at n.page payload parts ≡ parts_content at n.page payload source) →
    IsMadeOf n spare change window sides parts p → IsPlanOn n (plan_on n threshold spare change window) change window p
is-plan-on n threshold spare change window sides source parts p range ready packed planned pieces same made =
    let ps = pairs_of window in
    let plan = between_sides n (extent_pages spare) change window sides (map layout_part parts) in
    let f = count_true sides.front in
    let b = count_true sides.back in
    let few = packed.few in
    let one = at_most_one sides.front in
    let two = at_most_one sides.back in
    let long = pairs-length window in
    let to_is = made.to_is in
    let reach : f + (length ps - (f + b)) ≡ length window - b = omega (arith, few, long) in
    let end = ap (λ (k : ℕ). bytes_of (take k ps)) reach in
    let some = page-some n range in
    let laid : map layout_part p.parts.items ≡ trimmed sides (map layout_part parts) =
    ap (map layout_part) made.parts_is ∙ trimmed-map layout_part sides parts in
    subst (λ (q : Plan). IsPlanOn n q change window p) (sym packed.plan_is) (record {
      change_is = made.change_is;
      few = omega (arith, few);
      most = omega (arith, few, one, two);
      first = made.from_is;
      last = omega (arith, to_is, end);
      replaced = made.replaced_is;
      parts = laid;
      fit = made.fit_is;
      requests = made.requests_is
          ∙ (ap (λ (g : Fit). wanted_by g n ps change.appends (map layout_part p.parts.items)) made.fit_is
          ∙ ap (wanted_by plan.fit n ps change.appends) laid);
      pieces = λ fits. subst (λ (qs : List edit.Part). AllByRecursion (IsFrom n.page ps change.added) (pieces_of qs)) (sym made.parts_is)
          (trimmed-pieces (IsFrom n.page ps change.added) sides parts
          (subst (AllByRecursion (IsFrom n.page ps change.added)) (sym pieces) planned.held));
      spells = λ fits at payload paid there.
          subst (λ (qs : List edit.Part). IsFrontOf (parts_content at n.page payload qs)
          (behind_front ps plan (edited_content at n.page ps (change_on window change) payload))) (sym made.parts_is)
          (trimmed-spells at n.page payload ps plan sides parts (edited_content at n.page ps (change_on window change) payload) some
          packed.merged (all-take (IsThere at n.page) plan.from ps there)
          (same at payload ∙ planned.spells at payload ready.tight paid there));
    })

-- ---- an append that grows the last entry

pub is-extended : (n : Numbers) (threshold : ℕ) (spare : Option Extent) (change : Change) (window : List Placed) (p : Planned) →
    CanPlanOn n threshold spare change window → change.appends ≡ true → 0 < length window → p.change ≡ change →
    p.from + (get_or window (length window - 1) no_segment).pair.bytes ≡ start_of window + bytes_of (pairs_of window) →
    p.to ≡ start_of window + bytes_of (pairs_of window) →
    p.replaced.items ≡ (get_or window (length window - 1) no_segment).pair ∷ [] →
    p.parts.items ≡ edit.TheVariants.Keep (record {
      bytes = (get_or window (length window - 1) no_segment).pair.bytes + change.added;
      page = (get_or window (length window - 1) no_segment).pair.page;
    }) ∷ [] → p.fit ≡ Extend → p.requests.items ≡ [] →
    IsPlanOn n (plan_extended (pairs_of window) (change_on window change)) change window p
is-extended n threshold spare change window p ready appends some change_is from_is to_is replaced_is parts_is fit_is requests_is =
    let ps = pairs_of window in
    let k = length window - 1 in
    let last = (get_or window k no_segment).pair in
    let long = pairs-length window in
    let bytes = last-bytes window some in
    let last_is = last-of-window window some in
    let end = (ready.at_end appends).0 in
    let start = start_of window in
    let few = ended-all (change.at - start) ps (omega (arith, end)) in
    let tight = ready.tight.front in
    let from_at : length ps - 1 ≡ k = omega (arith, long) in
    let front = ap (λ (j : ℕ). bytes_of (take j ps)) from_at in
    let over : length ps - 1 + 1 ≡ length ps = omega (arith, long, some) in
    let all = ap bytes_of (ap (λ (j : ℕ). take j ps) over ∙ take-length ps) in
    let here = next-pair window k (omega (arith, some)) in
    record {
      change_is = change_is;
      few = omega (arith, over);
      most = omega (arith, few, tight);
      first = omega (arith, from_is, bytes, front);
      last = omega (arith, to_is, all);
      replaced = replaced_is
          ∙ sym (ap (λ (j : ℕ). take 1 (drop j ps)) from_at ∙ ap (take 1) here);
      parts = ap (map layout_part) parts_is
          ∙ ap (λ (q : Pair). Keep (record { bytes = q.bytes + change.added; page = q.page }) ∷ []) (sym last_is);
      fit = fit_is;
      requests = requests_is;
      pieces = λ packed. absurd (subst IsPacked fit_is packed);
      spells = λ packed. absurd (subst IsPacked fit_is packed);
    }

-- ---- merged parts, as code has them

pub packed-of : (n : Numbers) (threshold : ℕ) (spare : Option Extent) (change : Change) (window : List Placed)
    (source parts : List edit.Part) (size : ℕ) → IsInRange n → size ≡ n.page → CanPlanOn n threshold spare change window →
    (fit_appended n.page (pairs_of window) (extent_pages spare) (change_on window change) ≡ Extend → ⊥) →
    IsPlan n window change.at change.removed change.added source →
    map layout_part parts ≡ pack size threshold (map layout_part source) →
    IsPackedPlan n threshold spare change window (sides_of window change.at change.removed (map layout_part parts)) parts
packed-of n threshold spare change window source parts size range size_is ready never planned is =
    packed-plan n threshold spare change window parts range ready never
    (is ∙ (ap (λ (k : ℕ). pack k threshold (map layout_part source)) size_is ∙ ap (pack n.page threshold) planned.plan))

-- what is asked of the parts that are left
pub left-counted : (n : Numbers) (threshold : ℕ) (spare : Option Extent) (change : Change) (window : List Placed) (sides : Sides)
    (parts left : List edit.Part) → IsPackedPlan n threshold spare change window sides parts → left ≡ trimmed sides parts →
    AreCounted (made_part_bytes (map layout_part left))
    × AllByRecursion (λ bytes. page_count n.page bytes ≤ space_pages n) (made_part_bytes (map layout_part left))
left-counted n threshold spare change window sides parts left packed is =
    let same = ap (λ (xs : List edit.Part). made_part_bytes (map layout_part xs)) is ∙ packed.made in (
      subst AreCounted (sym same) packed.counted,
      subst (AllByRecursion (λ bytes. page_count n.page bytes ≤ space_pages n)) (sym same) packed.fit,
    )

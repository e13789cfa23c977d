-- Which pages a refusal names.
use Rattle.std.proofs.Common.{◌≡◌, ℕ, zero, suc, ◌+◌, ◌*◌, ◌/◌, ◌<◌, ◌≤◌, Bool, true, false, Option, Some, None}
use Rattle.std.proofs.Common.{List, [], ◌∷◌, ◌++◌, length, map, take, drop, refl, sym, ap, subst, arith, ◌∙◌, ◌⊎◌}
use Rattle.std.proofs.Common.{inl, inr}
use Rattle.std.specs.Prelude.{nat_lt, nat_le, nat_eq, if◌then◌else◌}
use Rattle.std.specs.List.{AllByRecursion}
use Rattle.std.proofs.lemmas.Bool.{cases_Bool, ltb-true, ltb-false}
use Rattle.geometry_model.specs.Numbers.{Numbers, IsInRange, space_pages}
use Rattle.geometry_model.specs.Pages.{data_page}
use Rattle.eos_ops.specs.declared.edit.Edit.{Edit}
use Rattle.eos_ops.specs.declared.edit.Edit.TheVariants.{Create, Destroy, Append, Insert, Delete, Replace}
use Rattle.tree_model.specs.declared.entry.Pair.{Pair}
use Rattle.tree_model.specs.Tree.{page_count}
use Rattle.layout_model.specs.declared.change.Change.{Change}
use Rattle.layout_model.specs.declared.extent.Extent.{Extent}
use Rattle.layout_model.specs.declared.fit.Fit.{Fit}
use Rattle.layout_model.specs.declared.fit.Fit.TheVariants.{Extend, Follow, Fresh}
use Rattle.layout_model.specs.declared.part.Part.{Part}
use Rattle.layout_model.specs.declared.part.Part.TheVariants.{Keep, Make}
use Rattle.layout_model.specs.declared.request.Request.{Request}
use Rattle.layout_model.specs.Parts.{parts_of}
use Rattle.layout_model.specs.Pack.{pack}
use Rattle.layout_model.specs.Plan.{Plan, extent_pages, made_part_bytes, ask_of, fit_appended, plan_extended, planned, last_entry}
use Rattle.layout_model.specs.Levels.{count_made}
use Rattle.layout_model.specs.Grants.{Spaces, Spot, Answer, and_then, or_else, around, spot_in, without, run_of}
use Rattle.layout_model.specs.Grants.{only, halved, part_runs, all_runs, node_pages}
use Rattle.layout_model.specs.Grants.Answer.{Got, Refused}
use Rattle.layout_model.specs.Layout.{Tree, Grants, tree_entries, plan_of, wanted, requests, laid_levels, granted}
use Rattle.layout_laws.proofs.HalvingLemmas.{option_cases, answer_cases}
use Rattle.content_laws.specs.Spelling.{all_parts}
use Rattle.tree_model.proofs.PageCountLaws.{count-some}
use Rattle.moment_model.specs.Version.{Version, IsGood, IsGoodVersion, tree_bytes}
use Rattle.moment_model.specs.Moment.{ObjectSlot}
use Rattle.moment_model.specs.Edit.{Effect, Refuses, Stays, Becomes, Changes, change_within, change_at, effect_on}
use Rattle.moment_model.specs.Edit.{on_grants, after_effect, edited_slot}
use Rattle.change_laws.proofs.PartLemmas.{GoodPart, all-left, all-right, plan-good}
use Rattle.change_laws.proofs.LayingLemmas.{IsPackedObject, merged_plan}
use Rattle.change_laws.proofs.PlannedLemmas.{packed-object}
use Rattle.refusal_laws.specs.Refusal.{refused_run, IsFewPages}

-- ---- answers

-- a refusal, by what was asked for
abbrev refusal : (A : Type 0) → ℕ → Answer A
refusal A pages = Refused pages

-- what a chain was refused was refused to one of its rows
and_then-refused : {A B : Type 0} (answer : Answer A) (next : A → Spaces → Answer B) (pages : ℕ) → and_then answer next ≡ Refused pages →
    (answer ≡ Refused pages) ⊎ ((first : A) × (mid : Spaces) × (answer ≡ Got first mid) × (next first mid ≡ Refused pages))
and_then-refused (Got first mid) next pages denied = inr (first, mid, refl, denied)
and_then-refused {A = A} {B = B} (Refused few) next pages denied = inl (few_same A B few pages denied)
  where
    few_same : (A B : Type 0) (few pages : ℕ) → refusal B few ≡ refusal B pages → refusal A few ≡ refusal A pages
    few_same A B few pages same = let e : few ≡ pages = cc in ap (refusal A) e

or_else-refused : {A : Type 0} (answer : Answer A) (other : ℕ → Answer A) (pages : ℕ) →
    or_else answer other ≡ Refused pages → (few : ℕ) × (other few ≡ Refused pages)
or_else-refused (Got first mid) other pages denied = absurd (cc)
or_else-refused (Refused few) other pages denied = (few, denied)

same_pages : (A : Type 0) (few pages : ℕ) → refusal A few ≡ refusal A pages → few ≡ pages
same_pages A few pages same = cc

not_refused : {A : Type 0} (value : A) (left : Spaces) (pages : ℕ) → Got value left ≡ Refused pages → ⊥
not_refused value left pages same = cc

-- so many pages as one run are granted, or they are refused
run-cases : (n : Numbers) (start pages : ℕ) (free : Spaces) →
    ((run : Extent) × (left : Spaces) × (run_of n start pages free ≡ Got run left)) ⊎ (run_of n start pages free ≡ Refused pages)
run-cases n start pages free =
    elim (option_cases (spot_in free pages (around start (length free)))) [
      | inl none ↦ inr (rw (none, run_of))
      | inr some ↦ inl (record { page = data_page n some.0.space some.0.at; pages = pages }, without free some.0 pages, rw (some.1, run_of))
    ]

-- ---- halving

halved-refused : (steps : ℕ) (n : Numbers) (start threshold pages few : ℕ) (free : Spaces) → 1 ≤ threshold → 1 ≤ pages → pages ≤ steps →
    halved steps n start threshold pages free ≡ Refused few → IsFewPages n start threshold few
halved-refused zero n start threshold pages few free one some enough denied = absurd (omega (arith, some, enough))
halved-refused (suc steps) n start threshold pages few free one some enough denied =
    elim (run-cases n start pages free) [
      | inl whole ↦
          let got : Got (whole.0 ∷ []) whole.1 ≡ Refused few = rw (whole.2, halved) at denied in
          absurd (not_refused (whole.0 ∷ []) whole.1 few got)
      | inr none ↦
          elim (cases_Bool (nat_lt pages (2 * threshold))) [
            | inl small ↦
                let named : refusal (List Extent) pages ≡ refusal (List Extent) few = rw (none, small, halved) at denied in
                let same : pages ≡ few = same_pages (List Extent) pages few named in
                let high = ltb-true pages (2 * threshold) small in
                record {
                  low = omega (arith, same, some);
                  high = omega (arith, same, high);
                  no_place = (free, subst (λ (k : ℕ). run_of n start k free ≡ refused_run k) same none);
                }
            | inr large ↦
                let long = ltb-false pages (2 * threshold) large in
                let cut : and_then (halved steps n start threshold ((pages + 1) / 2) free) (λ first left.
                and_then (halved steps n start threshold (pages / 2) left) (λ second rest. Got (first ++ second) rest)) ≡ Refused few =
                rw (none, large, halved) at denied in
                elim (and_then-refused (halved steps n start threshold ((pages + 1) / 2) free)
                (λ first left. and_then (halved steps n start threshold (pages / 2) left)
                (λ second rest. Got (first ++ second) rest)) few cut) [
                  | inl front ↦
                      halved-refused steps n start threshold ((pages + 1) / 2) few free one (omega (
                        arith,
                        long,
                        one,
                      )) (omega (arith, long, one, enough)) front
                  | inr behind ↦
                      elim (and_then-refused (halved steps n start threshold (pages / 2) behind.1)
                      (λ second rest. Got (behind.0 ++ second) rest) few behind.3) [
                        | inl back ↦
                            halved-refused steps n start threshold (pages / 2) few behind.1 one (omega (
                              arith,
                              long,
                              one,
                            )) (omega (arith, long, one, enough)) back
                        | inr none_left ↦ absurd (not_refused (behind.0 ++ none_left.0) none_left.1 few none_left.3)
                      ]
                ]
          ]
    ]

-- two halves, by more steps or fewer
cut-same : (first first2 : Answer (List Extent)) (second second2 : Spaces → Answer (List Extent)) → first ≡ first2 →
    ((left : Spaces) → second left ≡ second2 left) →
    and_then first (λ runs left. and_then (second left) (λ more rest. Got (runs ++ more) rest))
    ≡ and_then first2 (λ runs left. and_then (second2 left) (λ more rest. Got (runs ++ more) rest))
cut-same (Got runs left) first2 second second2 same each =
    subst (λ (f : Answer (List Extent)). and_then (second left) (λ more rest. Got (runs ++ more) rest)
    ≡ and_then f (λ runs left. and_then (second2 left) (λ more rest. Got (runs ++ more) rest)))
    same (ap (λ (a : Answer (List Extent)). and_then a (λ more rest. Got (runs ++ more) rest)) (each left))
cut-same (Refused pages) first2 second second2 same each =
    subst (λ (f : Answer (List Extent)). Refused pages
    ≡ and_then f (λ runs left. and_then (second2 left) (λ more rest. Got (runs ++ more) rest))) same refl

pub halved-more : (steps more : ℕ) (n : Numbers) (start threshold pages : ℕ) (free : Spaces) → 1 ≤ threshold →
    1 ≤ pages → pages ≤ steps → pages ≤ more →
    halved steps n start threshold pages free ≡ halved more n start threshold pages free
halved-more zero more n start threshold pages free one some enough many = absurd (omega (arith, some, enough))
halved-more (suc steps) zero n start threshold pages free one some enough many = absurd (omega (arith, some, many))
halved-more (suc steps) (suc more) n start threshold pages free one some enough many =
    elim (run-cases n start pages free) [
      | inl whole ↦
          let left : halved (suc steps) n start threshold pages free ≡ Got (whole.0 ∷ []) whole.1 = rw (whole.2, halved) in
          let right : halved (suc more) n start threshold pages free ≡ Got (whole.0 ∷ []) whole.1 = rw (whole.2, halved) in
          left ∙ sym right
      | inr none ↦
          elim (cases_Bool (nat_lt pages (2 * threshold))) [
            | inl small ↦
                let left : halved (suc steps) n start threshold pages free ≡ Refused pages = rw (none, small, halved) in
                let right : halved (suc more) n start threshold pages free ≡ Refused pages = rw (none, small, halved) in
                left ∙ sym right
            | inr large ↦
                let long = ltb-false pages (2 * threshold) large in
                let left : halved (suc steps) n start threshold pages free
                ≡ and_then (halved steps n start threshold ((pages + 1) / 2) free) (λ first left.
                and_then (halved steps n start threshold (pages / 2) left)
                (λ second rest. Got (first ++ second) rest)) = rw (none, large, halved) in
                let right : halved (suc more) n start threshold pages free
                ≡ and_then (halved more n start threshold ((pages + 1) / 2) free) (λ first left.
                and_then (halved more n start threshold (pages / 2) left)
                (λ second rest. Got (first ++ second) rest)) = rw (none, large, halved) in
                left ∙ (cut-same (halved steps n start threshold ((pages + 1) / 2) free)
                (halved more n start threshold ((pages + 1) / 2) free)
                (λ rest. halved steps n start threshold (pages / 2) rest) (λ rest. halved more n start threshold (pages / 2) rest)
                (halved-more steps more n start threshold ((pages + 1) / 2) free one (omega (arith, long, one))
                (omega (arith, long, one, enough)) (omega (arith, long, one, many)))
                (λ rest. halved-more steps more n start threshold (pages / 2) rest one (omega (arith, long, one))
                (omega (arith, long, one, enough)) (omega (arith, long, one, many)))
                ∙ sym right)
          ]
    ]

-- ---- rows of grants

part-refused : (n : Numbers) (start threshold few : ℕ) (request : Request) (free : Spaces) → 1 ≤ threshold → 1 ≤ request.need →
    part_runs n start threshold request free ≡ Refused few → IsFewPages n start threshold few
part-refused n start threshold few request free one some denied =
    let halves = or_else-refused (and_then (run_of n start request.want free) only)
    (λ refused. halved request.need n start threshold request.need free) few denied in
    halved-refused request.need n start threshold request.need few free one some (omega arith) halves.1

rows-refused : (n : Numbers) (start threshold few : ℕ) (rows : List Request) (free : Spaces) → 1 ≤ threshold →
    AllByRecursion (λ (r : Request). 1 ≤ r.need) rows →
    all_runs n start threshold rows free ≡ Refused few → IsFewPages n start threshold few
rows-refused n start threshold few [] free one some denied = absurd (none_denied denied)
  where
    none_denied : all_runs n start threshold [] free ≡ Refused few → ⊥
    none_denied same = cc
rows-refused n start threshold few (request ∷ rest) free one some denied =
    elim (and_then-refused (part_runs n start threshold request free)
    (λ runs left. and_then (all_runs n start threshold rest left) (λ more rest_left. Got (runs ∷ more) rest_left)) few denied) [
      | inl first ↦ part-refused n start threshold few request free one some.0 first
      | inr later ↦
          elim (and_then-refused (all_runs n start threshold rest later.1) (λ more rest_left. Got (later.0 ∷ more) rest_left) few later.3) [
            | inl more ↦ rows-refused n start threshold few rest later.1 one some.1 more
            | inr none ↦ absurd (not_refused (later.0 ∷ none.0) none.1 few none.3)
          ]
    ]

node_pages-refused : (n : Numbers) (start threshold few count : ℕ) (free : Spaces) → 1 ≤ threshold →
    node_pages n start count free ≡ Refused few → IsFewPages n start threshold few
node_pages-refused n start threshold few zero free one denied = absurd (none_denied denied)
  where
    none_denied : node_pages n start zero free ≡ Refused few → ⊥
    none_denied same = cc
node_pages-refused n start threshold few (suc count) free one denied =
    elim (and_then-refused (run_of n start 1 free)
    (λ run left. and_then (node_pages n start count left)
    (λ pages rest_left. Got (run.page ∷ pages) rest_left)) few denied) [
      | inl first ↦ single first
      | inr later ↦
          elim (and_then-refused (node_pages n start count later.1) (λ pages rest_left. Got (later.0.page ∷ pages) rest_left) few later.3) [
            | inl more ↦ node_pages-refused n start threshold few count later.1 one more
            | inr none ↦ absurd (not_refused (later.0.page ∷ none.0) none.1 few none.3)
          ]
    ]
  where
    single : run_of n start 1 free ≡ Refused few → IsFewPages n start threshold few
    single first =
        elim (run-cases n start 1 free) [
          | inl got ↦ absurd (not_refused got.0 got.1 few (sym got.2 ∙ first))
          | inr none ↦
              let same : 1 ≡ few = same_pages Extent 1 few (sym none ∙ first) in
              record {
                low = omega (arith, same);
                high = omega (arith, same, one);
                no_place = (free, subst (λ (k : ℕ). run_of n start k free ≡ refused_run k) same none);
              }
        ]

-- ---- a change

-- the parts that are made have bytes
good-made : (n : Numbers) (parts : List Part) → AllByRecursion (GoodPart n) parts →
    AllByRecursion (λ (bytes : ℕ). 1 ≤ bytes) (made_part_bytes parts)
good-made n [] good = tt
good-made n (Keep p ∷ rest) good = good-made n rest good.1
good-made n (Make bytes ∷ rest) good = (good.0.0, good-made n rest good.1)

-- so what is asked for them has pages
requests-some : (size : ℕ) (appends : Bool) (last limit : ℕ) (ns : List ℕ) → 0 < size → AllByRecursion (λ (bytes : ℕ). 1 ≤ bytes) ns →
    AllByRecursion (λ (r : Request). 1 ≤ r.need) (requests appends last limit (map (page_count size) ns))
requests-some size appends last limit [] some bytes = tt
requests-some size appends last limit (b ∷ []) some bytes =
    let byte = bytes.0 in
    let page = count-some size b some (omega (arith, byte)) in
    (omega (arith, page), tt)
requests-some size appends last limit (b ∷ next ∷ rest) some bytes =
    let byte = bytes.0 in
    let page = count-some size b some (omega (arith, byte)) in
    (omega (arith, page), requests-some size appends last limit (next ∷ rest) some bytes.1)

wanted-some : (n : Numbers) (tree : Tree) (spare : Option Extent) (change : Change) → IsPackedObject n tree.threshold (tree_entries tree) →
    AllByRecursion (λ (r : Request). 1 ≤ r.need) (wanted n tree change (plan_of n tree spare change))
unfolding planned
wanted-some n tree spare change object = go (fit_appended n.page (tree_entries tree) (extent_pages spare) change)
  where
    merged : AllByRecursion (λ (r : Request). 1 ≤ r.need)
        (wanted n tree change (merged_plan n tree.threshold (tree_entries tree) (extent_pages spare) change))
    merged =
        let entries = tree_entries tree in
        let plan = merged_plan n tree.threshold entries (extent_pages spare) change in
        let good = plan-good n tree.threshold (extent_pages spare) entries change object.page object.space object.high object.segments in
        let plan_good = all-left (GoodPart n) plan.parts (map Keep (drop (plan.from + plan.count) entries))
        (all-right (GoodPart n) (map Keep (take plan.from entries))
        (plan.parts ++ map Keep (drop (plan.from + plan.count) entries)) good) in
        by_fit plan plan.fit refl plan_good
      where
        by_fit : (plan : Plan) (fit : Fit) → plan.fit ≡ fit → AllByRecursion (GoodPart n) plan.parts →
            AllByRecursion (λ (r : Request). 1 ≤ r.need) (wanted n tree change plan)
        by_fit plan Extend is good = let none : wanted n tree change plan ≡ [] = rw (is, wanted) in
            subst (AllByRecursion (λ (r : Request). 1 ≤ r.need)) (sym none) tt
        by_fit plan Follow is good = let none : wanted n tree change plan ≡ [] = rw (is, wanted) in
            subst (AllByRecursion (λ (r : Request). 1 ≤ r.need)) (sym none) tt
        by_fit plan Fresh is good =
            let last = page_count n.page (last_entry (tree_entries tree)).bytes in
            let rows : wanted n tree change plan ≡ requests change.appends last (space_pages n)
            (map (page_count n.page) (made_part_bytes plan.parts)) = rw (is, wanted) in
            subst (AllByRecursion (λ (r : Request). 1 ≤ r.need)) (sym rows)
            (requests-some n.page change.appends last (space_pages n)
            (made_part_bytes plan.parts) object.page (good-made n plan.parts good))

    go : (fit : Fit) → AllByRecursion (λ (r : Request). 1 ≤ r.need) (wanted n tree change (elim fit [
      | Extend ↦ plan_extended (tree_entries tree) change
      | _ ↦ merged_plan n tree.threshold (tree_entries tree) (extent_pages spare) change
    ]))
    go Extend = tt
    go Follow = merged
    go Fresh = merged

pub granted-refused : (n : Numbers) (start : ℕ) (tree : Tree) (spare : Option Extent) (change : Change)
    (free : Spaces) (pages : ℕ) → IsInRange n → IsGood n tree →
    granted n start tree spare change free ≡ Refused pages → IsFewPages n start tree.threshold pages
unfolding granted
granted-refused n start tree spare change free pages range good denied =
    let plan = plan_of n tree spare change in
    let object = packed-object n tree range good in
    elim (and_then-refused (all_runs n start tree.threshold (wanted n tree change plan) free)
    (λ runs mid. and_then (node_pages n start (count_made (laid_levels n tree spare plan runs [])) mid)
    (λ pages rest. Got (record { runs = runs; pages = pages }) rest)) pages denied) [
      | inl rows ↦ rows-refused n start tree.threshold pages (wanted n tree change plan) free good.threshold_low
          (wanted-some n tree spare change object) rows
      | inr later ↦
          elim (and_then-refused (node_pages n start (count_made (laid_levels n tree spare plan later.0 []))
          later.1) (λ pages rest. Got (record { runs = later.0; pages = pages }) rest) pages later.3) [
            | inl nodes ↦ node_pages-refused n start tree.threshold pages
                (count_made (laid_levels n tree spare plan later.0 [])) later.1 good.threshold_low nodes
            | inr none ↦ absurd (not_refused (record { runs = later.0; pages = none.0 }) none.1 pages none.3)
          ]
    ]

-- ---- an edit

-- only a change is refused pages
effect-refused : (n : Numbers) (start : ℕ) (free : Spaces) (slot : ObjectSlot) (effect : Effect) (pages : ℕ) →
    IsInRange n → IsGoodVersion IsGood n slot.working →
    ((tree : Tree) (change : Change) → effect ≡ Changes tree change → slot.working ≡ Some tree) →
    after_effect n start free slot effect ≡ Refused pages →
    (tree : Tree) × (slot.working ≡ Some tree) × IsFewPages n start tree.threshold pages
effect-refused n start free slot Refuses pages range good working denied = absurd (not_refused slot free pages denied)
effect-refused n start free slot Stays pages range good working denied = absurd (not_refused slot free pages denied)
effect-refused n start free slot (Becomes version) pages range good working denied = absurd (cc)
effect-refused n start free slot (Changes tree change) pages range good working denied =
    go (granted n start tree slot.spare change free) refl denied
  where
    go : (answer : Answer Grants) → granted n start tree slot.spare change free ≡ answer →
        on_grants n slot tree change answer ≡ Refused pages →
        (tree : Tree) × (slot.working ≡ Some tree) × IsFewPages n start tree.threshold pages
    go (Got grants left) was denied = absurd (cc)
    go (Refused few) was denied =
        let same : few ≡ pages = same_pages ObjectSlot few pages denied in
        let is = working tree change refl in
        let good_tree : IsGood n tree = subst (IsGoodVersion IsGood n) is good in (
          tree,
          is,
          subst (IsFewPages n start tree.threshold) same
              (granted-refused n start tree slot.spare change free few range good_tree was),
        )

-- a change is one of the version's own tree
within-own : (mine tree : Tree) (own change : Change) → change_within mine own ≡ Changes tree change → mine ≡ tree
within-own mine tree own change same = go (nat_le (own.at + own.removed) (tree_bytes mine)) (nat_eq (own.removed + own.added) 0) same
  where
    go : (within none : Bool) → (if within then (if none then Stays else Changes mine own) else Refuses) ≡ Changes tree change → mine ≡ tree
    go true true same = cc
    go true false same = cc
    go false none same = cc

changes-own : (n : Numbers) (edit : Edit) (version : Version) (tree : Tree) (change : Change) →
    effect_on n edit version ≡ Changes tree change → version ≡ Some tree
changes-own n (Create threshold) None tree change same = cc
changes-own n (Create threshold) (Some mine) tree change same = cc
changes-own n Destroy None tree change same = cc
changes-own n Destroy (Some mine) tree change same = cc
changes-own n (Append bytes) None tree change same = cc
changes-own n (Append bytes) (Some mine) tree change same =
    ap (λ (t : Tree). Some t) (within-own mine tree (change_at (tree_bytes mine) 0 (length bytes) true) change same)
changes-own n (Insert at bytes) None tree change same = cc
changes-own n (Insert at bytes) (Some mine) tree change same =
    ap (λ (t : Tree). Some t) (within-own mine tree (change_at at 0 (length bytes) false) change same)
changes-own n (Delete at count) None tree change same = cc
changes-own n (Delete at count) (Some mine) tree change same =
    ap (λ (t : Tree). Some t) (within-own mine tree (change_at at count 0 false) change same)
changes-own n (Replace at bytes) None tree change same = cc
changes-own n (Replace at bytes) (Some mine) tree change same =
    ap (λ (t : Tree). Some t) (within-own mine tree (change_at at (length bytes) (length bytes) false) change same)

pub edited-refused : (n : Numbers) (start : ℕ) (free : Spaces) (slot : ObjectSlot) (edit : Edit) (pages : ℕ) →
    IsInRange n → IsGoodVersion IsGood n slot.working →
    edited_slot n start free slot edit ≡ Refused pages → (tree : Tree) × (slot.working ≡ Some tree)
    × IsFewPages n start tree.threshold pages
unfolding edited_slot
edited-refused n start free slot edit pages range good denied =
    effect-refused n start free slot (effect_on n edit slot.working) pages range good (changes-own n edit slot.working) denied

-- A change is cheap.
use Rattle.std.proofs.Common.{◌≡◌, ℕ, ◌+◌, ◌-◌, ◌*◌, ◌<◌, ◌≤◌, Option, Some, None, List, [], ◌∷◌, length, map}
use Rattle.std.proofs.Common.{refl, sym, ap, arith, ◌∙◌, inl, inr, sum_by}
use Rattle.std.proofs.lemmas.Nat.{le-div}
use Rattle.std.proofs.lemmas.List.Sums.{sum_by-cons}
use Rattle.geometry_model.specs.Numbers.{Numbers, IsInRange, fan_out, space_pages}
use Rattle.geometry_model.proofs.NumberLaws.{fan_out-low}
use Rattle.tree_model.specs.Tree.{page_count}
use Rattle.layout_model.specs.declared.change.Change.{Change}
use Rattle.layout_model.specs.declared.extent.Extent.{Extent}
use Rattle.layout_model.specs.declared.fit.Fit.{Fit}
use Rattle.layout_model.specs.declared.fit.Fit.TheVariants.{Extend, Follow, Fresh}
use Rattle.layout_model.specs.Layout.{Tree, Grants, as_run, laid, laid_entries, laid_levels, plan_of, spare_after}
use Rattle.layout_model.specs.Layout.{tree_entries}
use Rattle.layout_model.specs.Levels.{count_made}
use Rattle.layout_model.specs.Pack.{pack}
use Rattle.layout_model.specs.Parts.{parts_of}
use Rattle.layout_model.specs.Plan.{Plan, extent_pages, fit_appended, made_part_bytes, plan_extended, planned}
use Rattle.layout_laws.specs.Halving.{runs_pages}
use Rattle.layout_laws.proofs.HalvingLemmas.{runs_pages-append}
use Rattle.moment_model.specs.Costs.{added_most, cost}
use Rattle.moment_model.specs.Version.{IsGood}
use Rattle.moment_laws.specs.Granting.{page_run, runs_of_parts}
use Rattle.change_laws.specs.Laying.{IsChange}
use Rattle.change_laws.specs.Tail.{IsTail}
use Rattle.change_laws.proofs.PartLemmas.{segments-have}
use Rattle.change_laws.proofs.LayingLemmas.{fit-cases, merged_plan}
use Rattle.change_laws.specs.Suiting.{SuitPlan, IsSuited}
use Rattle.change_laws.proofs.SuitLemmas.{fresh-suits, follow-suits}
use Rattle.change_laws.proofs.PlannedLemmas.{follow-entries, fresh-entries, fresh-spare, packed-object, suited-out}
use Rattle.cost_laws.specs.ChangeCost.{brought_pages, IsCheap}
use Rattle.cost_laws.proofs.NodeCostLemmas.{spliced-few}
use Rattle.cost_laws.proofs.PartCostLemmas.{plan-small}
use Rattle.cost_laws.proofs.RunCostLemmas.{added, all-shared, laid-few, pages-single}

-- ---- by how a plan meets the spare

-- what a plan brings is small: few pages, few entries, and no more granted than is needed and set aside
pub record IsSmall (n : Numbers) (least : ℕ) (change : Change) (spare : Option Extent) (plan : Plan) (runs : List (List Extent))
    : Type 0 where
  pub brought : brought_pages n change plan ≤ page_count n.page change.added + 1 + 4 * (least - 1)
  pub entries : length (laid_entries n spare plan runs)
      ≤ page_count (space_pages n * n.page) change.added + 5 + sum_by added runs
  pub few : sum_by added runs * least ≤ brought_pages n change plan
  pub granted : runs_pages (runs_of_parts runs)
      ≤ brought_pages n change plan + extent_pages (spare_after n spare change plan runs)

merged-brought : (n : Numbers) (change : Change) (plan : Plan) → (plan.fit ≡ Extend → ⊥) →
    brought_pages n change plan ≡ sum_by (page_count n.page) (made_part_bytes plan.parts)
merged-brought n change plan other = go plan.fit refl
  where
    go : (fit : Fit) → plan.fit ≡ fit → brought_pages n change plan ≡ sum_by (page_count n.page) (made_part_bytes plan.parts)
    go Extend is = absurd (other is)
    go Follow is = rw (is, brought_pages) refl
    go Fresh is = rw (is, brought_pages) refl

fresh-small : (n : Numbers) (tree : Tree) (spare : Option Extent) (change : Change)
    (runs : List (List Extent)) → 0 < n.page → 0 < space_pages n → IsGood n tree →
    (merged_plan n tree.threshold (tree_entries tree) (extent_pages spare) change).fit ≡ Fresh →
    SuitPlan n tree change (merged_plan n tree.threshold (tree_entries tree) (extent_pages spare) change) runs →
    IsSmall n tree.threshold change spare (merged_plan n tree.threshold (tree_entries tree) (extent_pages spare) change) runs
fresh-small n tree spare change runs some space good fresh suits =
    let entries = tree_entries tree in
    let plan = merged_plan n tree.threshold entries (extent_pages spare) change in
    let small = plan-small n tree.threshold entries (extent_pages spare) change some space (segments-have n entries good.segments) in
    let hold = fresh-suits n tree change plan runs fresh suits in
    let shared = all-shared n.page tree.threshold change.appends (made_part_bytes plan.parts) runs hold.0 hold.1 in
    let brings = merged-brought n change plan (λ grows. let no : Fresh ≡ Extend = sym fresh ∙ grows in fresh_is no) in
    let laid_here = ap length (fresh-entries n spare plan runs fresh) in
    let laid_count = laid-few n.page plan.parts runs in
    let left = ap extent_pages (fresh-spare n spare change plan runs fresh) in
    let made = small.made in
    let count = small.count in
    let few = shared.few in
    let pages = shared.pages in
    record {
      brought = omega (arith, brings, made);
      entries = omega (arith, laid_here, laid_count, count);
      few = omega (arith, brings, few);
      granted = omega (arith, brings, pages, left);
    }
  where
    fresh_is : Fresh ≡ Extend → ⊥
    fresh_is same = cc

follow-small : (n : Numbers) (tree : Tree) (spare : Option Extent) (change : Change)
    (runs : List (List Extent)) → 0 < n.page → 0 < space_pages n → IsGood n tree →
    (merged_plan n tree.threshold (tree_entries tree) (extent_pages spare) change).fit ≡ Follow →
    SuitPlan n tree change (merged_plan n tree.threshold (tree_entries tree) (extent_pages spare) change) runs →
    IsSmall n tree.threshold change spare (merged_plan n tree.threshold (tree_entries tree) (extent_pages spare) change) runs
follow-small n tree spare change runs some space good follow suits =
    let entries = tree_entries tree in
    let plan = merged_plan n tree.threshold entries (extent_pages spare) change in
    let small = plan-small n tree.threshold entries (extent_pages spare) change some space (segments-have n entries good.segments) in
    let none = follow-suits n tree change plan runs follow suits in
    let brings = merged-brought n change plan (λ grows. let no : Follow ≡ Extend = sym follow ∙ grows in follow_is no) in
    let laid_here = ap length (follow-entries n spare plan runs follow) in
    let laid_count = laid-few n.page plan.parts (as_run spare) in
    let single = one-run spare in
    let made = small.made in
    let count = small.count in
    let no_pieces : sum_by added runs ≡ 0 = ap (sum_by added) none in
    let no_pages : runs_pages (runs_of_parts runs) ≡ 0 = ap (λ rs. runs_pages (runs_of_parts rs)) none in
    let rows : sum_by added runs * tree.threshold ≡ 0 * tree.threshold = ap (λ (k : ℕ). k * tree.threshold) no_pieces in
    record {
      brought = omega (arith, brings, made);
      entries = omega (arith, laid_here, laid_count, count, single);
      few = omega (arith, rows);
      granted = omega (arith, no_pages);
    }
  where
    follow_is : Follow ≡ Extend → ⊥
    follow_is same = cc

    one-run : (spare : Option Extent) → sum_by added (as_run spare) ≡ 0
    one-run None = refl
    one-run (Some run) = let all = sum_by-cons added (run ∷ []) [] in omega (arith, all)

extended-small : (n : Numbers) (tree : Tree) (spare : Option Extent) (change : Change)
    (runs : List (List Extent)) → runs ≡ [] →
    IsSmall n tree.threshold change spare (plan_extended (tree_entries tree) change) runs
extended-small n tree spare change runs none =
    let no_pieces : sum_by added runs ≡ 0 = ap (sum_by added) none in
    let no_pages : runs_pages (runs_of_parts runs) ≡ 0 = ap (λ rs. runs_pages (runs_of_parts rs)) none in
    let rows : sum_by added runs * tree.threshold ≡ 0 * tree.threshold = ap (λ (k : ℕ). k * tree.threshold) no_pieces in
    record { brought = omega arith; entries = omega arith; few = omega (arith, rows); granted = omega (arith, no_pages) }

planned-small : (n : Numbers) (tree : Tree) (spare : Option Extent) (change : Change)
    (runs : List (List Extent)) → 0 < n.page → 0 < space_pages n → IsGood n tree →
    SuitPlan n tree change (plan_of n tree spare change) runs →
    IsSmall n tree.threshold change spare (plan_of n tree spare change) runs
unfolding planned
planned-small n tree spare change runs some space good suits =
    go (fit_appended n.page (tree_entries tree) (extent_pages spare) change) suits
  where
    by_merging : SuitPlan n tree change (merged_plan n tree.threshold (tree_entries tree) (extent_pages spare) change) runs →
        IsSmall n tree.threshold change spare (merged_plan n tree.threshold (tree_entries tree) (extent_pages spare) change) runs
    by_merging suited =
        let packed = pack n.page tree.threshold (parts_of n.page (space_pages n * n.page) (tree_entries tree)
        change.at change.removed change.added) in
        elim (fit-cases n.page change.appends (extent_pages spare) (made_part_bytes packed)) [
          | inl fresh ↦ fresh-small n tree spare change runs some space good fresh suited
          | inr follow ↦ follow-small n tree spare change runs some space good follow.0 suited
        ]

    go : (fit : Fit) → SuitPlan n tree change (elim fit [
      | Extend ↦ plan_extended (tree_entries tree) change
      | _ ↦ merged_plan n tree.threshold (tree_entries tree) (extent_pages spare) change
    ]) runs →
        IsSmall n tree.threshold change spare (elim fit [
          | Extend ↦ plan_extended (tree_entries tree) change
          | _ ↦ merged_plan n tree.threshold (tree_entries tree) (extent_pages spare) change
        ]) runs
    go Extend suited = extended-small n tree spare change runs suited
    go Follow suited = by_merging suited
    go Fresh suited = by_merging suited

-- ---- the whole

-- Runs that suit the parts of a change, wherever they stand: halving added few pieces, and the pages of what the change brings and one
-- for each node that is made on them are no more than its cost. No more is granted than is brought and set aside.
pub record WritesFew (n : Numbers) (tree : Tree) (spare : Option Extent) (change : Change) (runs : List (List Extent)) : Type 0 where
  pub pieces : sum_by added runs ≤ added_most n change.added tree.threshold
  pub written : brought_pages n change (plan_of n tree spare change)
      + count_made (laid_levels n tree spare (plan_of n tree spare change) runs [])
      ≤ cost n change.added (length tree.levels) tree.threshold (sum_by added runs)
  pub granted : runs_pages (runs_of_parts runs) ≤ brought_pages n change (plan_of n tree spare change)
      + extent_pages (spare_after n spare change (plan_of n tree spare change) runs)

pub suited-few : (n : Numbers) (tree : Tree) (spare : Option Extent) (change : Change) (runs : List (List Extent)) → IsInRange n →
    IsGood n tree → (plan_of n tree spare change).from + (plan_of n tree spare change).count ≤ length (tree_entries tree) →
    SuitPlan n tree change (plan_of n tree spare change) runs → WritesFew n tree spare change runs
suited-few n tree spare change runs range good inside suits =
    let plan = plan_of n tree spare change in
    let wide = fan_out-low n range in
    let object = packed-object n tree range good in
    let small = planned-small n tree spare change runs object.page object.space good suits in
    let nodes = spliced-few (fan_out n) tree.levels plan.from plan.count (laid_entries n spare plan runs) [] (omega (arith, wide))
    good.shape inside in
    let low = good.threshold_low in
    let brought = small.brought in
    let entries = small.entries in
    let few = small.few in
    record {
      pieces = le-div (sum_by added runs) (page_count n.page change.added + 4 * tree.threshold + 4) tree.threshold (omega (arith, low))
          (omega (arith, few, brought));
      written = omega (arith, brought, entries, nodes, low);
      granted = small.granted;
    }

pub change-cheap : (n : Numbers) (tree : Tree) (spare : Option Extent) (change : Change)
    (grants : Grants) → IsInRange n → IsGood n tree → IsTail n (Some tree) spare → IsChange tree change →
    IsSuited n tree spare change grants → IsCheap n tree spare change grants
unfolding laid
change-cheap n tree spare change grants range good tail is suits =
    let object = packed-object n tree range good in
    let lays = suited-out n tree spare change grants object tail is suits in
    let few = suited-few n tree spare change grants.runs range good lays.inside suits.runs in
    let made = suits.pages in
    let written = few.written in
    let runs = few.granted in
    let all = runs_pages-append (runs_of_parts grants.runs) (map page_run grants.pages) in
    let single = pages-single grants.pages in
    record {
      added = few.pieces;
      written = omega (arith, written, made);
      granted = omega (arith, written, made, runs, all, single);
    }

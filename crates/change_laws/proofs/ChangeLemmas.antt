-- A change that is laid out on granted pages leaves a good tree with its spare behind it, and uses what it was granted.
use Rattle.std.proofs.Common.{◌≡◌, ℕ, ◌+◌, ◌-◌, ◌<◌, ◌≤◌, true, false, Option, Some, None, List, [], ◌∷◌, ◌++◌, length}
use Rattle.std.proofs.Common.{map, take, drop, refl, sym, ap, subst, arith, ◌∙◌, inl, inr}
use Rattle.std.specs.Prelude.{if◌then◌else◌, is_some}
use Rattle.std.specs.List.{AllByRecursion}
use Rattle.std.proofs.lemmas.Bool.{false≢true}
use Rattle.std.proofs.lemmas.List.Sums.{sum_by-cons}
use Rattle.geometry_model.specs.Numbers.{Numbers, IsInRange, fan_out}
use Rattle.geometry_model.specs.Pages.{first_page, is_data_page, place}
use Rattle.geometry_model.proofs.NumberLaws.{fan_out-low}
use Rattle.geometry_model.proofs.PageLaws.{IsPlace-in_run, place-of_IsPlace}
use Rattle.tree_model.specs.declared.entry.Pair.{Pair}
use Rattle.tree_model.specs.Tree.{IsSegment}
use Rattle.layout_model.specs.declared.extent.Extent.{Extent}
use Rattle.layout_model.specs.declared.change.Change.{Change}
use Rattle.layout_model.specs.declared.fit.Fit.{Fit}
use Rattle.layout_model.specs.declared.fit.Fit.TheVariants.{Extend, Follow, Fresh}
use Rattle.layout_model.specs.Pack.{Packed}
use Rattle.layout_model.specs.Plan.{Plan, made_part_bytes}
use Rattle.layout_model.specs.Levels.{entries_of_levels, nodes_of_levels, spliced, count_made}
use Rattle.layout_model.specs.Layout.{Tree, Grants, tree_entries, plan_of, laid_parts, laid_entries}
use Rattle.layout_model.specs.Layout.{spare_behind, spare_after, laid}
use Rattle.layout_laws.proofs.LevelLemmas.{spliced-entries}
use Rattle.moment_model.specs.Version.{IsGood, covers, uses, version_uses, spare_uses}
use Rattle.moment_laws.specs.Granting.{LiesInSpace, page_run, runs_of_parts, granted_runs}
use Rattle.moment_laws.proofs.GrantLemmas.{uses-append, covers-cases}
use Rattle.change_laws.specs.Tail.{FollowsLast, IsTail}
use Rattle.change_laws.specs.Laying.{IsChange, IsLaidOn}
use Rattle.change_laws.specs.Suiting.{SuitPlan, IsSuited}
use Rattle.change_laws.proofs.UsedLemmas.{parts-used}
use Rattle.change_laws.proofs.UsedNodeLemmas.{spliced-used}
use Rattle.change_laws.proofs.ShapeLemmas.{spliced-levels}
use Rattle.change_laws.proofs.NodeCountLemmas.{made-alike}
use Rattle.change_laws.proofs.NodeLemmas.{spliced-uses, spliced-data}
use Rattle.change_laws.proofs.PartLemmas.{all-right}
use Rattle.change_laws.proofs.PieceLemmas.{segments_uses, segments_uses-append}
use Rattle.change_laws.proofs.LayingLemmas.{spliced_entries}
use Rattle.change_laws.proofs.PlannedLemmas.{fresh-entries, fresh-spare, packed-object, suited-out}
use Rattle.change_laws.proofs.SuitLemmas.{fresh-suits, follow-suits, extend-suits}

-- ---- the tree and the spare

-- pages in spaces are data pages
pages-data : (n : Numbers) (page : ℕ) (pages : List ℕ) → AllByRecursion (LiesInSpace n) (map page_run pages) →
    is_data_page n page ≡ false → uses page (map page_run pages) ≡ 0
pages-data n page [] lie other = refl
pages-data n page (p ∷ ps) lie other =
    let more = pages-data n page ps lie.1 other in
    let one = sum_by-cons (covers page) (page_run p) (map page_run ps) in
    elim (covers-cases page (page_run p)) [
      | inr out ↦ let none = out.0 in omega (arith, more, one, none)
      | inl covered ↦
          let at = IsPlace-in_run n lie.0.0 p 1 page lie.0.1 covered.1 covered.2 in
          let found = place-of_IsPlace n page lie.0.0 (page - first_page n lie.0.0) at in
          absurd (false≢true (sym other ∙ data-found n page (lie.0.0, page - first_page n lie.0.0) found))
    ]
  where
    data-found : (n : Numbers) (page : ℕ) (at : ℕ × ℕ) → place n page ≡ Some at → is_data_page n page ≡ true
    data-found n page at found = ap is_some found

-- a change that is laid out on granted pages
pub laid-on : (n : Numbers) (tree : Tree) (spare : Option Extent) (change : Change)
    (grants : Grants) → IsInRange n → IsGood n tree →
    IsTail n (Some tree) spare → IsChange tree change → IsSuited n tree spare change grants →
    IsLaidOn n tree spare (granted_runs grants) (laid n tree spare change grants)
unfolding laid
laid-on n tree spare change grants range good tail is suits =
    let plan = plan_of n tree spare change in
    let f = fan_out n in
    let wide = fan_out-low n range in
    let object = packed-object n tree range good in
    let entries = tree_entries tree in
    let lie_pages = all-right (LiesInSpace n) (runs_of_parts grants.runs) (map page_run grants.pages) suits.together in
    let lays = suited-out n tree spare change grants object tail is suits in
    let new = laid_entries n spare plan grants.runs in
    let levels = spliced f tree.levels plan.from plan.count new grants.pages in
    let new_entries : entries_of_levels (nodes_of_levels levels) ≡ spliced_entries entries plan.from plan.count new =
    spliced-entries f tree.levels plan.from plan.count new grants.pages (omega (arith, wide)) lays.inside in
    let alike = made-alike f tree.levels plan.from plan.count new grants.pages [] in
    let count = suits.pages in
    let enough : count_made levels ≤ length grants.pages = omega (arith, alike, count) in
    let after = spare_after n spare change plan grants.runs in
    record {
      good = record {
        shape = spliced-levels f tree.levels plan.from plan.count new grants.pages (omega (arith, wide)) good.shape lays.inside;
        nodes = spliced-data n f tree.levels plan.from plan.count new grants.pages enough good.nodes
            (λ page other. pages-data n page grants.pages lie_pages other);
        segments = subst (AllByRecursion (IsSegment n)) (sym new_entries) lays.segments;
        neighbours = subst (Packed n.page tree.threshold) (sym new_entries) lays.neighbours;
        threshold_low = good.threshold_low;
        threshold_high = good.threshold_high;
      };
      tail = tail-is after new_entries lays.follows;
      within = λ page.
          let segs = lays.within page in
          let nodes = spliced-uses page f tree.levels plan.from plan.count new grants.pages enough in
          let moved : segments_uses page n.page (entries_of_levels (nodes_of_levels levels))
          ≡ segments_uses page n.page (spliced_entries entries plan.from plan.count new) =
          ap (segments_uses page n.page) new_entries in
          let all = uses-append page (runs_of_parts grants.runs) (map page_run grants.pages) in
          omega (arith, segs, nodes, moved, all);
      spare_within = λ page.
          let some = lays.spare_within page in
          let all = uses-append page (runs_of_parts grants.runs) (map page_run grants.pages) in
          omega (arith, some, all);
    }
  where
    tail-is : (after : Option Extent) →
        entries_of_levels (nodes_of_levels (spliced (fan_out n) tree.levels (plan_of n tree spare change).from
        (plan_of n tree spare change).count (laid_entries n spare (plan_of n tree spare change) grants.runs)
        grants.pages))
        ≡ spliced_entries (tree_entries tree) (plan_of n tree spare change).from (plan_of n tree spare change).count
        (laid_entries n spare (plan_of n tree spare change) grants.runs) →
        ((rest : Extent) → after ≡ Some rest →
        FollowsLast n (spliced_entries (tree_entries tree)
        (plan_of n tree spare change).from (plan_of n tree spare change).count
        (laid_entries n spare (plan_of n tree spare change) grants.runs)) rest) →
        IsTail n (Some (record {
          levels = nodes_of_levels (spliced (fan_out n) tree.levels (plan_of n tree spare change).from
              (plan_of n tree spare change).count (laid_entries n spare (plan_of n tree spare change) grants.runs)
              grants.pages);
          threshold = tree.threshold;
        })) after
    tail-is None same follows = tt
    tail-is (Some rest) same follows = subst (λ (xs : List Pair). FollowsLast n xs rest) (sym same) (follows rest refl)

-- ---- what is granted is used

runs-used : (page : ℕ) (n : Numbers) (tree : Tree) (spare : Option Extent) (change : Change)
    (plan : Plan) (runs : List (List Extent)) → 0 < n.page → SuitPlan n tree change plan runs →
    uses page (runs_of_parts runs)
    ≤ segments_uses page n.page (laid_entries n spare plan runs) + spare_uses page (spare_after n spare change plan runs)
runs-used page n tree spare change plan runs some suits = go plan.fit refl
  where
    nothing : runs ≡ [] → uses page (runs_of_parts runs) ≡ 0
    nothing none = ap (λ rs. uses page (runs_of_parts rs)) none

    go : (fit : Fit) → plan.fit ≡ fit →
        uses page (runs_of_parts runs)
        ≤ segments_uses page n.page (laid_entries n spare plan runs) + spare_uses page (spare_after n spare change plan runs)
    go Fresh fresh =
        let hold = fresh-suits n tree change plan runs fresh suits in
        let used = parts-used page n.page tree.threshold change.appends plan.parts runs some hold.0 hold.1 in
        let entries : segments_uses page n.page (laid_entries n spare plan runs)
        ≡ segments_uses page n.page (laid_parts n.page plan.parts runs) =
        ap (segments_uses page n.page) (fresh-entries n spare plan runs fresh) in
        let left : spare_uses page (spare_after n spare change plan runs)
        ≡ spare_uses page (if change.appends then spare_behind n.page (made_part_bytes plan.parts) runs else
        None) = ap (spare_uses page) (fresh-spare n spare change plan runs fresh) in
        omega (arith, used, entries, left)
    go Follow follow = let none = nothing (follow-suits n tree change plan runs follow suits) in omega (arith, none)
    go Extend extend = let none = nothing (extend-suits n tree change plan runs extend suits) in omega (arith, none)

-- every granted page is used by what the change leaves
pub granted-used : (n : Numbers) (tree : Tree) (spare : Option Extent) (change : Change)
    (grants : Grants) → IsInRange n → IsGood n tree →
    IsTail n (Some tree) spare → IsChange tree change → IsSuited n tree spare change grants → (page : ℕ) →
    uses page (granted_runs grants)
    ≤ version_uses n page (Some (laid n tree spare change grants).tree) + spare_uses page (laid n tree spare change grants).spare
unfolding laid
granted-used n tree spare change grants range good tail is suits page =
    let plan = plan_of n tree spare change in
    let f = fan_out n in
    let wide = fan_out-low n range in
    let object = packed-object n tree range good in
    let entries = tree_entries tree in
    let lays = suited-out n tree spare change grants object tail is suits in
    let new = laid_entries n spare plan grants.runs in
    let levels = spliced f tree.levels plan.from plan.count new grants.pages in
    let new_entries : entries_of_levels (nodes_of_levels levels) ≡ spliced_entries entries plan.from plan.count new =
    spliced-entries f tree.levels plan.from plan.count new grants.pages (omega (arith, wide)) lays.inside in
    let moved : segments_uses page n.page (entries_of_levels (nodes_of_levels levels))
    ≡ segments_uses page n.page (spliced_entries entries plan.from plan.count new) =
    ap (segments_uses page n.page) new_entries in
    let outer = segments_uses-append page n.page (take plan.from entries) (new ++ drop (plan.from + plan.count) entries) in
    let inner = segments_uses-append page n.page new (drop (plan.from + plan.count) entries) in
    let runs = runs-used page n tree spare change plan grants.runs object.page suits.runs in
    let nodes = spliced-used page f tree.levels plan.from plan.count new grants.pages
    (made-alike f tree.levels plan.from plan.count new grants.pages [] ∙ sym suits.pages) in
    let all = uses-append page (runs_of_parts grants.runs) (map page_run grants.pages) in
    omega (arith, moved, outer, inner, runs, nodes, all)

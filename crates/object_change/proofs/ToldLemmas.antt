-- What a change leaves where the pages are told: once its parts are written on grants that suit it, and its entries are exchanged in
-- the tree, the pages show the tree and the spare that the definition lays out.
use Rattle.std.proofs.lemmas.Simd.{map-map}
use Rattle.std.proofs.Common.{◌≡◌, ℕ, ◌+◌, ◌/◌, ◌<◌, ◌≤◌, true, IsTrue, Option, Some, List, map, refl, sym, ap, subst, arith, ◌∙◌}
use Rattle.std.specs.List.{AllByRecursion, flat_map}
use Rattle.geometry_model.specs.Numbers.{Numbers, IsInRange, fan_out}
use Rattle.geometry_model.specs.Pages.{is_data_page}
use Rattle.tree_model.specs.Content.{content}
use Rattle.tree_model.specs.declared.entry.Pair.{Pair}
use Rattle.tree_model.specs.declared.tree.Root.{Root}
use Rattle.tree_model.specs.Tree.{Pages, IsTreeOf, IsSegment, entries_of, nodes_of}
use Rattle.layout_model.specs.declared.change.Change.{Change}
use Rattle.layout_model.specs.declared.extent.Extent.{Extent}
use Rattle.layout_model.specs.Layout.{Tree, Grants, Laid, laid, laid_entries, plan_of, spare_after, tree_entries}
use Rattle.layout_model.specs.Levels.{PageNode, entries_of_levels, nodes_of_levels, spliced}
use Rattle.moment_model.specs.Version.{IsGood, uses, version_uses, spare_uses, node_run, node_runs}
use Rattle.moment_laws.specs.Granting.{granted_runs, page_run}
use Rattle.change_laws.specs.Laying.{IsChange, IsLaidOn}
use Rattle.change_laws.specs.Suiting.{IsSuited}
use Rattle.change_laws.specs.Tail.{IsTail}
use Rattle.change_laws.proofs.ChangeLemmas.{granted-used, laid-on}
use Rattle.let_go_laws.specs.LetGo.{AreGone}
use Rattle.tree_pages.specs.Levels.{levels_at}
use Rattle.tree_pages.proofs.TreeLemmas.{levels-entries, on-nodes}
use Rattle.page_set.specs.declared.page_run.PageRun.{PageRun}
use Rattle.tree_splice.specs.Splice.{IsSpliced, extent_of, firsts_of, single_run}

-- the tree at a root with this threshold
abbrev pub tree_at : Pages → Root → ℕ → Tree
tree_at at root threshold = record { levels = levels_at at root; threshold = threshold }

-- A change of a good tree on grants that suit it: its entries are exchanged for those that the definition lays out, on these pages for
-- nodes.
pub record IsExchanged (n : Numbers) (old new : Pages) (tree : Tree) (spare : Option Extent) (change : Change) (root root' : Root)
    (made left : List PageRun) (grants : Grants) : Type 0 where
  pub range : IsInRange n
  pub is_tree : tree ≡ tree_at old root tree.threshold
  pub good : IsGood n tree
  pub tail : IsTail n (Some tree) spare
  pub changes : IsChange tree change
  pub suits : IsSuited n tree spare change grants
  pub pages : grants.pages ≡ firsts_of made
  pub spliced : IsSpliced (fan_out n) old new root root' (plan_of n tree spare change).from (plan_of n tree spare change).count
      (laid_entries n spare (plan_of n tree spare change) grants.runs) made left

-- the pages show what the definition lays out
pub laid-is : (n : Numbers) (old new : Pages) (tree : Tree) (spare : Option Extent) (change : Change) (root root' : Root)
    (made left : List PageRun) (grants : Grants) → IsExchanged n old new tree spare change root root' made left grants →
    laid n tree spare change grants
    ≡ record { tree = tree_at new root' tree.threshold; spare = spare_after n spare change (plan_of n tree spare change) grants.runs }
unfolding laid
laid-is n old new tree spare change root root' made left grants is =
    let plan = plan_of n tree spare change in
    let new_entries = laid_entries n spare plan grants.runs in
    let old_levels : tree.levels ≡ levels_at old root = ap (λ (t : Tree). t.levels) is.is_tree in
    let levels : nodes_of_levels (spliced (fan_out n) tree.levels plan.from plan.count new_entries grants.pages) ≡ levels_at new root' =
    ap (λ ls. nodes_of_levels (spliced (fan_out n) ls plan.from plan.count new_entries grants.pages)) old_levels
    ∙ (ap (λ ps. nodes_of_levels (spliced (fan_out n) (levels_at old root) plan.from plan.count new_entries ps)) is.pages
    ∙ sym is.spliced.levels) in
    ap (λ ls. record {
      tree = record { levels = ls; threshold = tree.threshold };
      spare = spare_after n spare change plan grants.runs;
    }) levels

-- it is a good tree on its own pages and the granted ones
pub good-is : (n : Numbers) (old new : Pages) (tree : Tree) (spare : Option Extent) (change : Change) (root root' : Root)
    (made left : List PageRun) (grants : Grants) → IsExchanged n old new tree spare change root root' made left grants →
    IsLaidOn n tree spare (granted_runs grants)
    (record { tree = tree_at new root' tree.threshold; spare = spare_after n spare change (plan_of n tree spare change) grants.runs })
good-is n old new tree spare change root root' made left grants is =
    subst (IsLaidOn n tree spare (granted_runs grants)) (laid-is n old new tree spare change root root' made left grants is)
    (laid-on n tree spare change grants is.range is.good is.tail is.changes is.suits)

-- each granted page is used
pub used-is : (n : Numbers) (old new : Pages) (tree : Tree) (spare : Option Extent) (change : Change) (root root' : Root)
    (made left : List PageRun) (grants : Grants) → IsExchanged n old new tree spare change root root' made left grants → (page : ℕ) →
    uses page (granted_runs grants) ≤ version_uses n page (Some (tree_at new root' tree.threshold))
    + spare_uses page (spare_after n spare change (plan_of n tree spare change) grants.runs)
used-is n old new tree spare change root root' made left grants is page =
    subst (λ (l : Laid). uses page (granted_runs grants) ≤ version_uses n page (Some l.tree) + spare_uses page l.spare)
    (laid-is n old new tree spare change root root' made left grants is)
    (granted-used n tree spare change grants is.range is.good is.tail is.changes is.suits page)

-- it stands on pages as a tree
pub tree-is : (n : Numbers) (old new : Pages) (tree : Tree) (spare : Option Extent) (change : Change) (root root' : Root)
    (made left : List PageRun) (grants : Grants) → IsExchanged n old new tree spare change root root' made left grants →
    IsTreeOf n new root' (entries_of new root'.height root'.page)
tree-is n old new tree spare change root root' made left grants is =
    let good = good-is n old new tree spare change root root' made left grants is in
    record {
      shape = is.spliced.tree;
      listed = refl;
      nodes = on-nodes (λ page. IsTrue (is_data_page n page)) new root'.height root'.page good.good.nodes;
      segments = subst (AllByRecursion (IsSegment n)) (levels-entries new root'.height root'.page) good.good.segments;
    }

-- the nodes that it leaves out are those that the new tree doesn't have
pub gone-is : (n : Numbers) (old new : Pages) (tree : Tree) (spare : Option Extent) (change : Change) (root root' : Root)
    (made left : List PageRun) (grants : Grants) → IsExchanged n old new tree spare change root root' made left grants →
    made ≡ map single_run (firsts_of made) →
    AreGone tree (tree_at new root' tree.threshold) (firsts_of made) (map extent_of left)
gone-is n old new tree spare change root root' made left grants is single page =
    let all = is.spliced.uses_of page in
    let old_levels : uses page (node_runs tree) ≡ uses page (flat_map (map node_run) (levels_at old root)) =
    ap (λ (t : Tree). uses page (node_runs t)) is.is_tree in
    let runs : map extent_of made ≡ map page_run (firsts_of made) =
    ap (map extent_of) single ∙ map-map extent_of single_run (firsts_of made) in
    let made_uses : uses page (map extent_of made) ≡ uses page (map page_run (firsts_of made)) = ap (uses page) runs in
    omega (arith, all, old_levels, made_uses)

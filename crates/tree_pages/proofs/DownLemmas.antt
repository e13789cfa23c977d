-- From a tree on pages to its levels.
use Rattle.std.proofs.Common.{◌≡◌, ℕ, zero, suc, ◌+◌, List, [], ◌∷◌, ◌++◌, length, refl, ap, arith, ◌∙◌, append_assoc}
use Rattle.std.specs.List.{flat_map}
use Rattle.std.proofs.lemmas.List.Folds.{flat_map-map}
use Rattle.tree_model.specs.declared.entry.Pair.{Pair}
use Rattle.tree_model.specs.Tree.{Pages, pairs_on, entries_under}
use Rattle.layout_model.specs.Levels.{PageNode, pairs_of_level, entries_of_levels}
use Rattle.tree_pages.specs.Levels.{node_on, named_by, levels_down}
use Rattle.tree_pages.proofs.UnderLemmas.{entries-flat_map}

-- the pairs of the nodes that these nodes name
pub pairs-named : (at : Pages) (nodes : List PageNode) →
    pairs_of_level (named_by at nodes) ≡ flat_map (λ p. pairs_on at p.page) (pairs_of_level nodes)
pairs-named at nodes = flat_map-map (λ (node : PageNode). node.pairs) (λ (p : Pair). node_on at p.page) (pairs_of_level nodes)

-- the levels down, above which others stand: the last level is set apart
pub down-step : (at : Pages) (height : ℕ) (nodes : List PageNode) (above : List (List PageNode)) →
    levels_down at (suc height) nodes ++ above ≡ levels_down at height (named_by at nodes) ++ nodes ∷ above
down-step at height nodes above = append_assoc (levels_down at height (named_by at nodes)) (nodes ∷ []) above

-- the entries of the levels down are those under the nodes' pairs
pub down-entries : (at : Pages) (height : ℕ) (nodes : List PageNode) (above : List (List PageNode)) →
    entries_of_levels (levels_down at (suc height) nodes ++ above) ≡ entries_under at height (pairs_of_level nodes)
down-entries at zero nodes above = refl
down-entries at (suc height) nodes above =
    ap entries_of_levels (down-step at (suc height) nodes above)
    ∙ (down-entries at height (named_by at nodes) (nodes ∷ above)
    ∙ (ap (entries_under at height) (pairs-named at nodes)
    ∙ entries-flat_map at height (λ (p : Pair). pairs_on at p.page) (pairs_of_level nodes)))

pub down-length : (at : Pages) (height : ℕ) (nodes : List PageNode) (above : List (List PageNode)) →
    length (levels_down at height nodes ++ above) ≡ height + length above
down-length at zero nodes above = omega arith
down-length at (suc height) nodes above =
    let step = ap length (down-step at height nodes above) in
    let rest = down-length at height (named_by at nodes) (nodes ∷ above) in
    omega (arith, step, rest)

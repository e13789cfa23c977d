-- The pairs of the nodes before the site are skipped, and as many are taken as its nodes have.
use Rattle.std.proofs.Common.{◌≡◌, ℕ, List, ap, sym, ◌∙◌, take, drop, arith}
use Rattle.std.proofs.lemmas.List.Sums.{sum_by-take-le, sum_by-take-drop}
use Rattle.tree_model.specs.declared.entry.Pair.{Pair}
use Rattle.layout_model.specs.Levels.{pairs_of_level}
use Rattle.tree_splice.specs.Remade.{as_site, counts_of}
use Rattle.tree_splice.proofs.RunLemmas.{total, front-total, site-pairs}
use Rattle.tree_splice.proofs.exchange.site_pairs.Goals as goal

pub total-count-requires : goal.total-count-requires
total-count-requires c =
    let all = c.counts.result.now in
    let left = c.rest.result.now in
    let parts = sum_by-take-drop (λ (n : ℕ). n) all c.args.site.before in
    let less = sum_by-take-le (λ (n : ℕ). n) left c.args.site.nodes in
    let behind = ap total c.rest.ensures in
    let same = ap total c.front.ensures in
    let small = c.counts.ensures.small in
    omega (arith, parts, less, behind, same, small)

pub returns : goal.returns
returns c =
    let nodes = c.args.run.now in
    let before = c.args.site.before in
    let count = c.args.site.nodes in
    let all = counts_of nodes in
    let sized : c.front.result.now ≡ take count (drop before all) =
    c.front.ensures ∙ (ap (λ (ks : List ℕ). take count ks) c.rest.ensures ∙ ap (λ (ks : List ℕ). take count (drop before ks))
    c.counts.ensures.counts) in
    let many : c.total-count.result ≡ total (take count (drop before all)) = c.total-count.ensures ∙ ap total sized in
    let skipped : c.start_of-start.result ≡ total (take before all) = c.start_of-start.ensures ∙ front-total before nodes in
    let pairs : c.rest-2.result.now ≡ drop (total (take before all)) (pairs_of_level nodes) =
    c.rest-2.ensures ∙ (ap (λ (n : ℕ). drop n c.pairs.result.now) skipped ∙ ap (λ (ps : List Pair). drop (total (take before all)) ps)
    c.pairs.ensures) in
    c.front-2.ensures
    ∙ (ap (λ (n : ℕ). take n c.rest-2.result.now) many
    ∙ (ap (λ (ps : List Pair). take (total (take count (drop before all))) ps) pairs ∙ sym (site-pairs nodes (as_site c.args.site))))

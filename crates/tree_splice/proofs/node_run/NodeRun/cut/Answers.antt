-- There are as many pages as numbers, and the numbers add up to the pairs.
use Rattle.std.proofs.Common.{◌≡◌, ℕ, ◌-◌, ◌≤◌, List, length, ap, ◌∙◌, arith}
use Rattle.layout_model.specs.Levels.{sizes_of, cut_into, on_pages}
use Rattle.layout_laws.proofs.LevelLemmas.{sizes-total}
use Rattle.tree_splice.proofs.RunLemmas.{total, padded-length, pages-made, parts-count}
use Rattle.tree_splice.proofs.node_run.NodeRun.cut.Goals as goal

pub invariant_of-result : goal.invariant_of-result
invariant_of-result c =
    let f = c.args.f in
    let n = length c.args.pairs.items in
    let asked : c.len.result ≡ n = c.len.ensures ∙ c.args.pairs.ok.0 in
    let counts : c.in_ok-counts.counts.items ≡ sizes_of f n = c.in_ok-counts.ensures ∙ ap (sizes_of f) asked in (
      ap length c.in_ok-pages.ensures ∙ (padded-length c.len-2.result c.args.pages.now ∙ (c.len-2.ensures ∙ c.in_ok-counts.counts.ok.0)),
      ap total counts ∙ sizes-total f n c.requires.some,
    )

pub returns : goal.returns
returns c =
    let f = c.args.f in
    let n = length c.args.pairs.items in
    let asked : c.len.result ≡ n = c.len.ensures ∙ c.args.pairs.ok.0 in
    let counts : c.in_ok-counts.counts.items ≡ sizes_of f n = c.in_ok-counts.ensures ∙ ap (sizes_of f) asked in
    let all = c.len-2.result in
    let given = c.args.pages.now in
    let parts = cut_into c.in_ok-counts.counts.items c.args.pairs.items in
    let count = parts-count c.in_ok-counts.counts.items c.args.pairs.items in
    let same : all ≡ length c.in_ok-counts.counts.items = c.len-2.ensures ∙ c.in_ok-counts.counts.ok.0 in
    let few : length parts ≤ all = omega (arith, count, same) in
    ap (λ (ps : List ℕ). on_pages ps parts) c.in_ok-pages.ensures
    ∙ (pages-made all (all - length given) given parts few
    ∙ ap (λ (ks : List ℕ). on_pages given (cut_into ks c.args.pairs.items)) counts)

-- Each of the three lists has what is the new node's at its end.
use Rattle.std.proofs.Common.{◌≡◌, ℕ, List, [], ◌∷◌, ◌++◌, length, ap, ◌∙◌}
use Rattle.tree_model.specs.declared.entry.Pair.{Pair}
use Rattle.layout_model.specs.Levels.{PageNode, cut_into, on_pages}
use Rattle.tree_splice.proofs.RunLemmas.{one-more}
use Rattle.tree_splice.proofs.node_run.NodeRun.push.Goals as goal

pub returns-clause-ok : goal.returns-clause-ok
returns-clause-ok c =
    let r = c.self.inside in
    let more = c.args.pairs.now in
    let pages : c.push_reserved-2.new.self.items ≡ r.pages.items ++ c.args.page ∷ [] =
    c.push_reserved-2.ensures.items ∙ ap (λ (ps : List ℕ). ps ++ c.args.page ∷ []) c.reserve.ensures.items in
    let counts : c.push_reserved.new.self.items ≡ r.counts.items ++ length more ∷ [] =
    c.push_reserved.ensures.items ∙ ap (λ (ks : List ℕ). ks ++ length more ∷ []) c.reserve-2.ensures.items in
    let pairs : c.extend_from_slice.new.self.items ≡ r.pairs.items ++ more = c.in_ok-extend_from_slice.ensures.items in
    ap (λ (ps : List ℕ). on_pages ps (cut_into c.push_reserved.new.self.items c.extend_from_slice.new.self.items)) pages
    ∙ (ap (λ (ks : List ℕ). on_pages (r.pages.items ++ c.args.page ∷ []) (cut_into ks c.extend_from_slice.new.self.items)) counts
    ∙ (ap (λ (ps : List Pair). on_pages (r.pages.items ++ c.args.page ∷ []) (cut_into (r.counts.items ++ length more ∷ []) ps)) pairs
    ∙ (one-more r.pages.items r.counts.items r.pairs.items more c.args.page c.self.invariant.0 c.self.invariant.1
    ∙ ap (λ (nodes : List PageNode). nodes ++ record { page = c.args.page; pairs = more } ∷ []) c.self.view_is)))

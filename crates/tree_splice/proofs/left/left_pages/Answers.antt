use Rattle.std.proofs.Common.{ℕ, List, ◌++◌, ap, ◌∙◌}
use Rattle.tree_splice.specs.Remade.{pages_left}
use Rattle.tree_splice.proofs.LeftLemmas.{pages-left}
use Rattle.tree_splice.proofs.left.left_pages.Goals as goal

pub returns : goal.returns
returns c = λ new same.
    c.in_ok-push_left.ensures ∙ (ap (λ (ps : List ℕ). ps ++ pages_left c.args.path.now c.args.levels.now) c.new-pages.ensures.items
    ∙ (ap (pages_left c.args.path.now) same ∙ pages-left c.args.path.now new))

-- The first node stays, or was made, or stands behind the made ones.
use Rattle.std.proofs.Common.{ℕ, ◌∙◌, List, take, drop, ap}
use Rattle.tree_splice.proofs.TopLemmas.{first-of}
use Rattle.tree_splice.proofs.new_root.first_page.Goals as goal

pub returns : goal.returns
returns c =
    first-of c.args.nodes.now c.args.level.now.made c.args.level.now.from c.args.level.now.count c.front.result.now c.pages-2.result.now
    c.rest-2.result.now
    c.first_or-made.result c.first_or-behind.result c.first_or.result (c.front.ensures ∙ ap (take c.args.level.now.from) c.pages-3.ensures)
    c.pages-2.ensures
    (c.rest-2.ensures ∙ (ap (drop c.args.level.now.count) c.rest.ensures ∙ ap
    (λ (ps : List ℕ). drop c.args.level.now.count (drop c.args.level.now.from ps)) c.pages.ensures))
    c.first_or-behind.ensures c.first_or-made.ensures c.first_or.ensures

use Rattle.object_state.proofs.LoadLemmas.{tree-keeping}
use Rattle.object_state.proofs.tree_body.TreeBody.unload.Goals as goal

pub returns-clause-keeping : goal.returns-clause-keeping
returns-clause-keeping g c = tree-keeping g.P.S.Span.tells c.args.self c.keeps_tree.ensures

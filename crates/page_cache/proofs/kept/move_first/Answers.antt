-- To be the one used last changes no page's node.
use Rattle.std.proofs.Common.{refl}
use Rattle.page_cache.proofs.KeptLemmas.{lookup-promoted, length-promoted}
use Rattle.page_cache.proofs.kept.move_first.Goals as goal

pub returns-clause-same : goal.returns-clause-same
returns-clause-same c = λ q. rw c.promote.ensures.entries (lookup-promoted q c.args.page c.args.nodes.now.entries)

pub returns-clause-used : goal.returns-clause-used
returns-clause-used c = rw c.promote.ensures.entries refl

pub returns-clause-count : goal.returns-clause-count
returns-clause-count c = rw c.promote.ensures.entries (length-promoted c.args.page c.args.nodes.now.entries)

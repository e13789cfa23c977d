-- The page has the node that was put in, and every other page the one it had, or none.
use Rattle.std.proofs.Common.{nat_eq, refl, inr}
use Rattle.std.specs.Cmp.{nat_eq_equiv}
use Rattle.lru.proofs.CallerLemmas.{lookup-put_entries}
use Rattle.page_cache.proofs.KeptLemmas.{lookup-put_other, length-put}
use Rattle.page_cache.proofs.kept.store.Goals as goal

pub returns-in-Ok-clause-others : goal.returns-in-Ok-clause-others
returns-in-Ok-clause-others c = λ q other.
    rw c.in-Ok.ensures.entries (lookup-put_other q c.args.page c.args.node c.args.nodes.now other)

pub returns-in-Ok-clause-node : goal.returns-in-Ok-clause-node
returns-in-Ok-clause-node c =
    let here = lookup-put_entries nat_eq c.args.nodes.now c.args.page c.args.node nat_eq_equiv in
    rw (c.in-Ok.ensures.entries, here) refl

pub returns-in-Ok-clause-put : goal.returns-in-Ok-clause-put
returns-in-Ok-clause-put c = inr (rw c.in-Ok.ensures.entries refl)

pub returns-in-Ok-clause-few : goal.returns-in-Ok-clause-few
returns-in-Ok-clause-few c =
    rw c.in-Ok.ensures.entries (length-put c.args.page c.args.node c.args.nodes.now c.requires.some c.requires.few)

-- An entry is its root with its threshold.
use Rattle.std.proofs.Common.{Some, None}
use Rattle.image_store.proofs.CatalogLemmas.{entry-named}
use Rattle.image_store.proofs.catalog.entry_of.Goals as goal

pub returns-in-None : goal.returns-in-None
returns-in-None g c =
    entry-named (g.B.Stored.entry c.args.body.now) None c.threshold-threshold.result c.in-None.ensures c.threshold-threshold.ensures

pub returns-in-Some : goal.returns-in-Some
returns-in-Some g c =
    entry-named (g.B.Stored.entry c.args.body.now) (Some c.in-Some.root) c.threshold-threshold.result c.in-Some.ensures
    c.threshold-threshold.ensures

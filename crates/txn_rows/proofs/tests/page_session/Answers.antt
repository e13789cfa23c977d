-- Each object is of the store, at rest and without ends.
use Rattle.std.proofs.Common.{ap}
use Rattle.body_double.specs.Page.{PageView}
use Rattle.txn_rows.proofs.SessionLemmas.{fresh-none}
use Rattle.txn_rows.proofs.tests.page_session.Goals as goal

pub adds-init : goal.adds-init
adds-init g c = rw c.new-objects.ensures.items (fresh-none _ _ _)

pub adds-preserved : goal.adds-preserved
adds-preserved g c =
    c.in-Ok.ensures c.in_ok-geometry.geometry (ap (λ (v : PageView). v.numbers) c.new-body.ensures) c.adds.invariant

-- Each object is of the store, at rest and without ends.
use Rattle.txn_rows.proofs.SessionLemmas.{fresh-none}
use Rattle.txn_rows.proofs.tests.plain_session.Goals as goal

pub adds-init : goal.adds-init
adds-init g c = rw c.new-objects.ensures.items (fresh-none _ _ _)

-- The shelf serves the transaction still, and its terms are kept.
use Rattle.txn_rows.proofs.SessionLemmas.{still}
use Rattle.txn_rows.proofs.session.Session.begin.Goals as goal

pub invariant_of-self : goal.invariant_of-self
invariant_of-self g c = still _ _ _ _ _ c.self.inside.txn c.begin.new.self _ _ _ c.self.invariant c.begin.ensures.goes_on

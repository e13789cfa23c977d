-- The shelf serves the transaction still, and its terms are kept.
use Rattle.shadow_txn.proofs.test_session.TestSession.read.Goals as goal

pub invariant_of-self : goal.invariant_of-self
invariant_of-self g c =
    let inv = c.self.invariant in (c.read.ensures.serves _ inv.0, (inv.1.0, inv.1.1, c.read.ensures.agree inv.1.0 inv.1.2))

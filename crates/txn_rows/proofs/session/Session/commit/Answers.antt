-- All objects are home, and the spaces in their places.
use Rattle.std.proofs.Common.{refl}
use Rattle.body_txn.proofs.EndingLemmas.{turns-keep}
use Rattle.txn_rows.proofs.SessionLemmas.{over, moved, ready-held}
use Rattle.txn_rows.proofs.session.Session.commit.Goals as goal

pub commit-requires-clause-terms : goal.commit-requires-clause-terms
commit-requires-clause-terms g c = (c.self.invariant.terms, c.self.invariant.suited, c.self.invariant.agree)

pub commit-requires-clause-ready : goal.commit-requires-clause-ready
commit-requires-clause-ready g c = ready-held _ _ _ _ _ _ _ _ _ c.self.invariant

pub invariant_of-self : goal.invariant_of-self
invariant_of-self g c =
    let work = c.self.invariant in
    let kept = turns-keep _ c.self.inside.txn.held _ _ (λ x old new step. step.body.rest) work.ready.none c.commit.ensures.settled in
    moved _ _ _ _ _ c.commit.new.self _ _ _ _ _
    (over _ _ _ _ _ c.self.inside.txn c.commit.new.self c.commit.result _ _ _ _ work c.commit.ensures.closed.over
    c.commit.ensures.served.serves
    (c.commit.ensures.served.under work.terms work.agree work.suited)) kept refl

-- All objects are home, and the spaces in their places.
use Rattle.std.proofs.Common.{refl}
use Rattle.body_txn.proofs.EndingLemmas.{turns-keep}
use Rattle.txn_rows.proofs.SessionLemmas.{over, moved, ready-held}
use Rattle.txn_rows.proofs.session.Session.abort.Goals as goal

pub abort-requires-clause-terms : goal.abort-requires-clause-terms
abort-requires-clause-terms g c = (c.self.invariant.terms, c.self.invariant.suited, c.self.invariant.agree)

pub abort-requires-clause-ready : goal.abort-requires-clause-ready
abort-requires-clause-ready g c = ready-held _ _ _ _ _ _ _ _ _ c.self.invariant

pub invariant_of-self : goal.invariant_of-self
invariant_of-self g c =
    let work = c.self.invariant in
    let kept = turns-keep _ c.self.inside.txn.held _ _ (λ x old new step. step.body.rest) work.ready.none c.abort.ensures.undone in
    moved _ _ _ _ _ c.abort.new.self _ _ _ _ _
    (over _ _ _ _ _ c.self.inside.txn c.abort.new.self c.abort.result _ _ _ _ work c.abort.ensures.closed.over c.abort.ensures.served.serves
    (c.abort.ensures.served.under work.terms work.agree work.suited)) kept refl

-- The session's objects are of the store, and go home with their ends.
use Rattle.std.proofs.Common.{true, false, None, sym, subst}
use Rattle.superdirectory.specs.Solo.{rest_of}
use Rattle.body_txn.specs.Ending.{EndInTurn, IsEndStep}
use Rattle.body_world.specs.Served.{IsEnded}
use Rattle.body_world.specs.Session.{shown_by, stamp_of_object}
use Rattle.body_world.proofs.Closing.{ended-all}
use Rattle.body_world.proofs.Terms.{session-terms, session-ready}
use Rattle.body_world.proofs.ending.end.Goals as goal

pub commit-stamp-requires-clause-terms : goal.commit-stamp-requires-clause-terms
commit-stamp-requires-clause-terms g c =
    session-terms _ _ _ _ c.args.objects.now c.args.txn.now _ c.requires.sound c.requires.store.2

pub commit-stamp-requires-clause-ready : goal.commit-stamp-requires-clause-ready
commit-stamp-requires-clause-ready g c = session-ready _ _ _ c.args.objects.now c.args.txn.now _ c.requires.store.2

pub abort-stamp-requires-clause-terms : goal.abort-stamp-requires-clause-terms
abort-stamp-requires-clause-terms g c =
    session-terms _ _ _ _ c.args.objects.now c.args.txn.now _ c.requires.sound c.requires.store.2

pub abort-stamp-requires-clause-ready : goal.abort-stamp-requires-clause-ready
abort-stamp-requires-clause-ready g c = session-ready _ _ _ c.args.objects.now c.args.txn.now _ c.requires.store.2

pub returns-then-committed-clause-ended : goal.returns-then-committed-clause-ended
returns-then-committed-clause-ended g c =
    subst (λ b. IsEnded g.P.S.Span.tells (shown_by g.B.Body.form g.B.Body.told) stamp_of_object b c.args.objects.now c.args.txn.now
    c.commit-stamp.new.shelf c.commit-stamp.new.self) (sym c.if-committed.true)
    (ended-all _ _ _ true c.commit-stamp.result _ _ c.args.objects.now c.commit-stamp.new.shelf c.args.txn.now c.commit-stamp.new.self
    c.requires.sound c.commit-stamp.ensures.closed.next c.commit-stamp.ensures.closed.over c.commit-stamp.ensures.ended.shelf)

pub returns-then-committed-clause-turns : goal.returns-then-committed-clause-turns
returns-then-committed-clause-turns g c =
    subst (λ b. EndInTurn (λ x. IsEndStep g.P.S.Span.tells g.B.Body.suits b (g.B.Body.form x.body)
    (g.B.Body.told x.body)) c.args.txn.now.held
    (record { rest = rest_of c.args.spaces.now; trace = None }) (record { rest = rest_of c.commit-stamp.new.latches; trace = None }))
    (sym c.if-committed.true) c.commit-stamp.ensures.settled

pub returns-else-committed-clause-ended : goal.returns-else-committed-clause-ended
returns-else-committed-clause-ended g c =
    subst (λ b. IsEnded g.P.S.Span.tells (shown_by g.B.Body.form g.B.Body.told) stamp_of_object b c.args.objects.now c.args.txn.now
    c.abort-stamp.new.shelf c.abort-stamp.new.self) (sym c.if-committed.false)
    (ended-all _ _ _ false c.abort-stamp.result _ _ c.args.objects.now c.abort-stamp.new.shelf c.args.txn.now c.abort-stamp.new.self
    c.requires.sound c.abort-stamp.ensures.closed.next c.abort-stamp.ensures.closed.over c.abort-stamp.ensures.ended.shelf)

pub returns-else-committed-clause-turns : goal.returns-else-committed-clause-turns
returns-else-committed-clause-turns g c =
    subst (λ b. EndInTurn (λ x. IsEndStep g.P.S.Span.tells g.B.Body.suits b (g.B.Body.form x.body)
    (g.B.Body.told x.body)) c.args.txn.now.held
    (record { rest = rest_of c.args.spaces.now; trace = None }) (record { rest = rest_of c.abort-stamp.new.latches; trace = None }))
    (sym c.if-committed.false) c.abort-stamp.ensures.undone

-- An end is let go at each object that was held.
use Rattle.std.proofs.Common.{[], true, false, refl, sym, subst}
use Rattle.world.specs.Served.{IsEnded}
use Rattle.world.proofs.Closing.{ended-all}
use Rattle.world.proofs.ending.end.Goals as goal

pub commit-stamp-requires-clause-terms : goal.commit-stamp-requires-clause-terms
commit-stamp-requires-clause-terms c = (record { frame = []; opened = [] }, (λ o value home. record { framed = refl; history = tt }), refl)

pub abort-stamp-requires-clause-terms : goal.abort-stamp-requires-clause-terms
abort-stamp-requires-clause-terms c = (record { frame = []; opened = [] }, (λ o value home. record { framed = refl; history = tt }), refl)

pub returns-then-committed : goal.returns-then-committed
returns-then-committed c =
    subst (λ committed. IsEnded committed c.args.objects.now c.args.txn.now c.commit-stamp.new.shelf
    c.commit-stamp.new.self) (sym c.if-committed.true)
    (ended-all true c.commit-stamp.result c.args.txn.now.session c.args.txn.now.number c.args.objects.now
    c.commit-stamp.new.shelf c.args.txn.now c.commit-stamp.new.self
    c.requires.sound c.commit-stamp.ensures.stamp c.commit-stamp.ensures.txn c.commit-stamp.ensures.shelf)

pub returns-else-committed : goal.returns-else-committed
returns-else-committed c =
    subst (λ committed. IsEnded committed c.args.objects.now c.args.txn.now c.abort-stamp.new.shelf
    c.abort-stamp.new.self) (sym c.if-committed.false)
    (ended-all false c.abort-stamp.result c.args.txn.now.session c.args.txn.now.number c.args.objects.now
    c.abort-stamp.new.shelf c.args.txn.now c.abort-stamp.new.self
    c.requires.sound c.abort-stamp.ensures.stamp c.abort-stamp.ensures.txn c.abort-stamp.ensures.shelf)

-- One object more, which is as the others.
use Rattle.txn_rows.proofs.SessionLemmas.{fresh-push}
use Rattle.txn_rows.proofs.tests.add.Goals as goal

pub returns : goal.returns
returns g c = λ n of fresh.
    rw c.in_ok-push.ensures.items
    (fresh-push g.B.Body.form g.H.Annals.told n c.args.objects.now.items _ of c.requires c.start-annals.ensures.told fresh)

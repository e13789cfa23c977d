use Rattle.plain_body.specs.Kind.{plain_form}
use Rattle.txn_rows.specs.Session.{AreFresh}
use Rattle.txn_rows.proofs.tests.plain_session.Given as goal

-- what was made so far is fresh
abbrev pub invariant-adds : goal.invariant-adds
invariant-adds g l = AreFresh (λ b. plain_form b.geometry b.committed b.working) g.H.Annals.told l.geometry l.objects.items

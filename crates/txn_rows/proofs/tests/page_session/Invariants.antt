use Rattle.body_double.specs.Page.{page_form}
use Rattle.txn_rows.specs.Session.{AreFresh}
use Rattle.txn_rows.proofs.tests.page_session.Given as goal

-- what was made so far is fresh
abbrev pub invariant-adds : goal.invariant-adds
invariant-adds g l = AreFresh page_form g.H.Annals.told l.geometry l.objects.items

use Rattle.object_body.proofs.MoveLemmas.{committed-once}
use Rattle.object_body.proofs.laws.a_version_uses_a_page_once.Goals as goal

pub returns : goal.returns
returns g c = committed-once g.K.Kind.good

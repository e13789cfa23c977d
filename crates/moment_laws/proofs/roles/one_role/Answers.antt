use Rattle.moment_laws.proofs.roles.one_role.Goals as goal
use Rattle.moment_laws.proofs.RoleLemmas.{sound_one_role}

pub returns : goal.returns
returns g c = sound_one_role g.K.Kind.good

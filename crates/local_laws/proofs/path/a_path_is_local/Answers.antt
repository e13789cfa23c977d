use Rattle.std.proofs.Common.{refl}
use Rattle.layout_model.specs.Levels.{spliced}
use Rattle.local_laws.specs.Path.{splice_path}
use Rattle.local_laws.proofs.PathLemmas.{path-local, path-made}
use Rattle.local_laws.proofs.path.a_path_is_local.Goals as goal

pub returns-clause-levels : goal.returns-clause-levels
returns-clause-levels c = path-local

pub returns-clause-made : goal.returns-clause-made
returns-clause-made c = path-made

pub returns-clause-empty : goal.returns-clause-empty
unfolding spliced splice_path
returns-clause-empty c = λ f from count fresh pages. refl

use Rattle.store_laws.proofs.SoundLemmas.{steps-ended}
use Rattle.store_laws.proofs.sound.steps_end_sound.Goals as goal

pub returns : goal.returns
returns g c = steps-ended g.K.Kind.laid g.K.Kind.good

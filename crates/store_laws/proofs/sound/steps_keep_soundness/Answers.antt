use Rattle.store_laws.proofs.SoundLemmas.{steps-sound}
use Rattle.store_laws.proofs.sound.steps_keep_soundness.Goals as goal

pub returns : goal.returns
returns g c = steps-sound g.K.Kind.laid g.K.Kind.good

use Rattle.moment_laws.proofs.soundness.sound_object_by_object.Goals as goal
use Rattle.moment_laws.proofs.ByObjectLemmas.{by_object-from_sound, sound-from_by_object}

pub returns : goal.returns
returns g c = λ n held moment. (by_object-from_sound g.K.Kind.good n held moment, sound-from_by_object g.K.Kind.good n held moment)

use Rattle.effect_laws.proofs.EffectLemmas.{edited-length}
use Rattle.effect_laws.proofs.outcomes.an_edited_object_has_its_length.Goals as goal

pub returns : goal.returns
returns c = edited-length

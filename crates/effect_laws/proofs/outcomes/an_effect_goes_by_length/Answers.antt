use Rattle.effect_laws.proofs.EffectLemmas.{effect-accepted}
use Rattle.effect_laws.proofs.outcomes.an_effect_goes_by_length.Goals as goal

pub returns : goal.returns
returns c = effect-accepted

use Rattle.effect_laws.proofs.EffectLemmas.{accepted-done, effect-done}
use Rattle.effect_laws.proofs.outcomes.an_effect_is_the_outcome.Goals as goal

pub returns-clause-accepted : goal.returns-clause-accepted
returns-clause-accepted c = accepted-done

pub returns-clause-effective : goal.returns-clause-effective
returns-clause-effective c = effect-done

-- A plain effect as the definitions know it.
use Rattle.moment_model.specs.Edit.{Effect as ModelEffect, Refuses as refuses, Stays as stays}
use Rattle.moment_model.specs.Edit.{Becomes as becomes, Changes as changes}
use Rattle.plain_moment.specs.declared.effect.Effect.{Effect}
use Rattle.plain_moment.specs.declared.effect.Effect.TheVariants.{Refuses, Stays, Becomes, Changes}

abbrev pub effect_of : Effect → ModelEffect
effect_of Refuses = refuses
effect_of Stays = stays
effect_of (Becomes version) = becomes version
effect_of (Changes tree change) = changes tree change

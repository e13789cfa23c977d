use Rattle.std.proofs.Common.{ap, ◌∙◌}
use Rattle.work_gen.specs.Generator.{number_after, further_draws}
use Rattle.work_gen.proofs.generator.command_after.Goals as goal

pub returns-in_default-clause-after : goal.returns-in_default-clause-after
returns-in_default-clause-after c = c.command_on.ensures.after ∙ ap (number_after (further_draws c.command_on.result)) c.draw.ensures.after

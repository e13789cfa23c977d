-- A command that asks for too much, and one that asks for pages, are answered at once.
use Rattle.std.proofs.Common.{◌∙◌, sym, subst}
use Rattle.eos_ops.specs.declared.reply.Reply.TheVariants as reply
use Rattle.machine.specs.Replies.{IsStep}
use Rattle.world.proofs.Steps.{step-too_long, step-status}
use Rattle.world.proofs.plain_world.PlainWorld.step.Goals as goal

pub returns-then-is_too_long-clause-step : goal.returns-then-is_too_long-clause-step
returns-then-is_too_long-clause-step c = step-too_long c.args.self.now c.args.session c.args.command
    (sym c.is_too_long.ensures ∙ c.if-is_too_long.true)

pub returns-in-Status-clause-step : goal.returns-in-Status-clause-step
returns-in-Status-clause-step c =
    subst (λ command. IsStep c.args.self.now c.args.session command (reply.Status 0 0 0) c.args.self.now)
    (sym c.in-Status.is) (step-status c.args.self.now c.args.session)

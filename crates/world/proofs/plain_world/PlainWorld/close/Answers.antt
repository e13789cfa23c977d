-- Each answer is a step of the machine.
use Rattle.std.proofs.Common.{if◌then◌else◌, ◌∙◌, sym, subst}
use Rattle.eos_ops.specs.declared.command.Command.TheVariants.{Commit, Abort}
use Rattle.eos_ops.specs.declared.reply.Reply.TheVariants as reply
use Rattle.machine.specs.Replies.{IsStep}
use Rattle.world.proofs.Steps.{step-idle, step-closes}
use Rattle.world.proofs.plain_world.PlainWorld.close.Goals as goal

pub returns-then-not-is_open-clause-step : goal.returns-then-not-is_open-clause-step
returns-then-not-is_open-clause-step c = step-idle c.args.self.now c.args.session c.args.committed
    (sym c.is_open.ensures.active ∙ c.if-not-is_open.true)

pub returns-clause-step : goal.returns-clause-step
returns-clause-step c =
    subst (λ m. IsStep c.args.self.now c.args.session (if c.args.committed then Commit else Abort) reply.Ok m) (sym c.end.ensures.state)
    (step-closes c.args.self.now c.args.session c.args.committed (sym c.is_open.ensures.active ∙ c.if-not-is_open.false))

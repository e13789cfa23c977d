-- A step of the world is one of the server.
use Rattle.std.proofs.Common.{◌≡◌}
use Rattle.eos_cli.proofs.StepLemmas.{step-served}
use Rattle.eos_cli.proofs.server.PlainServerServer.serve.Goals as goal

pub returns-clause-step : goal.returns-clause-step
returns-clause-step c =
    let same : c.args.self.now ≡ c.self.inside.world = cc in
    step-served _ _ _ _ _ _ same c.requires.from_one c.requires.upto c.requires.ready c.step.ensures.step

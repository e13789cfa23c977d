-- A step of the world is one of the server.
use Rattle.std.proofs.Common.{◌≡◌}
use Rattle.store_server.proofs.StepLemmas.{names-threshold, seats-made, step-made}
use Rattle.store_server.proofs.server.StoreServerServer.serve.Goals as goal

pub step-requires-clause-threshold : goal.step-requires-clause-threshold
step-requires-clause-threshold g c = names-threshold c.args.command c.requires.fits

pub returns-clause-step : goal.returns-clause-step
returns-clause-step g c =
    let same : c.args.self.now ≡ c.self.inside.world = cc in
    step-made _ _ _ _ _ _ _ _ _ _ _ same c.step.ensures.owed c.step.ensures.told c.step.ensures.numbers c.step.ensures.port
    c.step.ensures.pages

pub returns-clause-ready : goal.returns-clause-ready
returns-clause-ready g c =
    let same : c.args.self.now ≡ c.self.inside.world = cc in
    seats-made _ _ c.step.new.self _ _ _ same c.requires.ready c.step.ensures.owed

use Rattle.std.proofs.Common.{Ok, ap}
use Rattle.plain_body.proofs.plain_body.PlainBodyBody.edit.Goals as goal
use Rattle.plain_body.proofs.PlainLemmas.{plain-edit, plain-no_memory}

pub returns-in-Ok : goal.returns-in-Ok
returns-in-Ok g c =
    let self = c.args.self.now in
    record {
      edit = plain-edit g.P.S.Span.tells c.args._start c.args.edit.now c.in-Ok.outcome self.geometry self.committed
          self.working c.change.new.working
          (g.L.Hints.rest c.args._latches.now) (g.L.Hints.trace c.args._latches.now) (g.P.Port.meter c.args._port.now) c.requires.ready.none
          c.in-Ok.ensures.outcome (λ done. c.in-Ok.ensures.done (ap Ok done)) c.in-Ok.ensures.unmade;
    }

pub returns-in-Err : goal.returns-in-Err
returns-in-Err g c =
    let self = c.args.self.now in
    record {
      edit = plain-no_memory g.P.S.Span.tells c.args._start c.args.edit.now self.geometry self.committed self.working c.change.new.working
          (g.L.Hints.rest c.args._latches.now) (g.L.Hints.trace c.args._latches.now) (g.P.Port.meter c.args._port.now) c.requires.ready.none
          c.in-Err.ensures.err c.in-Err.ensures.memory;
    }

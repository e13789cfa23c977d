use Rattle.std.proofs.Common.{Ok, Err, sym, ◌∙◌}
use Rattle.plain_body.proofs.plain_body.PlainBodyBody.read.Goals as goal
use Rattle.object_body.specs.declared.fails.LookFail.TheVariants.{Memory}
use Rattle.plain_body.proofs.PlainLemmas.{plain-read, within-of}

pub returns-in-Ok : goal.returns-in-Ok
returns-in-Ok g c =
    let self = c.args.self.now in
    let now = sym c.current.ensures ∙ c.in-Present.is in
    record {
      read = plain-read g.P.S.Span.tells c.args.at c.args.len (Ok c.in-Ok.copy) self.geometry self.committed self.working c.in-Present.bytes
          (g.P.Port.meter c.args._port.now) now (within-of self.committed self.working c.in-Present.bytes c.args.at
          c.args.len now c.requires.within) c.in-Ok.ensures.copy (λ same. absurd cc) (λ same. absurd cc);
    }

pub returns-in-Err : goal.returns-in-Err
returns-in-Err g c =
    let self = c.args.self.now in
    let now = sym c.current.ensures ∙ c.in-Present.is in
    record {
      read = plain-read g.P.S.Span.tells c.args.at c.args.len (Err Memory) self.geometry self.committed self.working c.in-Present.bytes
          (g.P.Port.meter c.args._port.now) now (within-of self.committed self.working c.in-Present.bytes c.args.at
          c.args.len now c.requires.within) tt (λ same. absurd cc) (λ same. c.in-Err.ensures.memory);
    }

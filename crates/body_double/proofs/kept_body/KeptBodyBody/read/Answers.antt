use Rattle.std.proofs.Common.{Ok, Err}
use Rattle.object_body.specs.declared.fails.LookFail.TheVariants.{Memory}
use Rattle.body_double.proofs.KeptLemmas.{kept-read, asks-some}
use Rattle.body_double.proofs.kept_body.KeptBodyBody.read.Goals as goal

pub returns-then-len-eq0 : goal.returns-then-len-eq0
returns-then-len-eq0 g c = record {
  read = kept-read g.P.S.Span.tells c.args._at c.args.len (Ok c.new.result) c.args.self.now (g.P.Port.meter c.args._port.now)
      c.keeps_tree.ensures c.requires.within (c.new.ensures, c.if-len-eq0.true) (λ same. absurd cc) (λ same. absurd cc);
}

pub returns : goal.returns
returns g c = record {
  read = kept-read g.P.S.Span.tells c.args._at c.args.len (Err Memory) c.args.self.now (g.P.Port.meter c.args._port.now)
      c.keeps_tree.ensures c.requires.within tt (λ same. absurd cc) (λ same. asks-some c.args.len c.if-len-eq0.false);
}

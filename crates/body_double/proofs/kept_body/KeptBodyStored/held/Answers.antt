use Rattle.std.proofs.Common.{ap}
use Rattle.body_double.specs.Kept.{KeptView}
use Rattle.body_double.proofs.KeptLemmas.{kept-keeping}
use Rattle.body_double.proofs.kept_body.KeptBodyStored.held.Goals as goal

pub returns : goal.returns
returns g c = record {
  held = ap (λ (v : KeptView). v.held) c.self.view_is;
  keeping = kept-keeping g.P.S.Span.tells c.args.self.now c.keeps_tree.ensures;
}

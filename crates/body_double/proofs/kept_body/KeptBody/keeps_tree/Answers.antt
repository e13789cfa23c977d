use Rattle.std.proofs.Common.{subst}
use Rattle.body_double.specs.Kept.{KeepsTree}
use Rattle.body_double.proofs.kept_body.KeptBody.keeps_tree.Goals as goal

pub returns : goal.returns
returns g c = subst (KeepsTree g.P.S.Span.tells) c.self.view_is c.self.invariant

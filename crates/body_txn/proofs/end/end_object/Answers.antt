-- The end that was written, and the version that was decided for.
use Rattle.std.proofs.Common.{subst}
use Rattle.object_body.specs.Calls.{IsBodyEnd}
use Rattle.body_txn.specs.Ending.{Standing, staged, end_form, end_contents}
use Rattle.body_txn.proofs.end.end_object.Goals as goal

pub returns-clause-got : goal.returns-clause-got
returns-clause-got g c = record {
  lengths = c.decide.ensures.form;
  bytes = c.decide.ensures.told;
  at = c.append_end.ensures.last;
  ends = c.append_end.ensures.told;
}

pub returns-clause-turn : goal.returns-clause-turn
returns-clause-turn g c =
    let committed = c.args.closing.committed in
    let form = g.B.Body.form c.args.object.now.body in
    let told = g.B.Body.told c.args.object.now.body in
    let before : Standing = record { rest = g.L.Hints.rest c.args.latches.now; trace = g.L.Hints.trace c.args.latches.now } in
    let after : Standing = record { rest = g.L.Hints.rest c.decide.new.latches; trace = g.L.Hints.trace c.decide.new.latches } in
    record {
      left = g.B.Body.told c.decide.new.body;
      body = subst (λ f. IsBodyEnd g.B.P.S.Span.tells g.B.Body.suits (end_form committed form) (end_contents committed told)
          (staged form told before) (staged f (g.B.Body.told c.decide.new.body) after)) c.decide.ensures.form c.decide.ensures;
    }

use Rattle.object_body.specs.Stored.{entry_of}
use Rattle.body_double.specs.Kept.{KeptView}
use Rattle.body_double.proofs.KeptLemmas.{settles-by, stays-by, settled-by}
use Rattle.body_double.proofs.kept_body.KeptBodyBody.settle.Goals as goal

pub returns-then-self : goal.returns-then-self
returns-then-self g c =
    let inside : KeptView = record {
      numbers = c.self.inside.geometry;
      entry = entry_of c.self.inside.root c.self.inside.threshold;
      created = c.self.inside.created;
      held = c.self.inside.held;
    } in
    record {
      end = settles-by g.P.S.Span.tells c.args.self.now inside c.empty_root.result (g.L.Hints.rest c.args._latches.now)
          (g.L.Hints.trace c.args._latches.now) c.self.view_is c.empty_root.ensures c.self.invariant c.if-self.true c.requires.ready;
    }

pub returns-else-self : goal.returns-else-self
returns-else-self g c =
    let inside : KeptView = record {
      numbers = c.self.inside.geometry;
      entry = entry_of c.self.inside.root c.self.inside.threshold;
      created = c.self.inside.created;
      held = c.self.inside.held;
    } in
    record {
      end = stays-by g.P.S.Span.tells c.args.self.now inside (g.L.Hints.rest c.args._latches.now)
          (g.L.Hints.trace c.args._latches.now) c.self.view_is c.self.invariant c.if-self.false c.requires.ready;
    }

pub invariant_of-self : goal.invariant_of-self
invariant_of-self g c =
    let inside : KeptView = record {
      numbers = c.self.inside.geometry;
      entry = entry_of c.self.inside.root c.self.inside.threshold;
      created = c.self.inside.created;
      held = c.self.inside.held;
    } in
    settled-by g.P.S.Span.tells inside c.empty_root.result c.empty_root.ensures c.self.invariant c.if-self.true

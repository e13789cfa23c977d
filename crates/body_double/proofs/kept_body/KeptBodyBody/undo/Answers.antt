use Rattle.object_body.specs.Stored.{entry_of}
use Rattle.body_double.specs.Kept.{KeptView}
use Rattle.body_double.proofs.KeptLemmas.{undoes-by, undone-keeps}
use Rattle.body_double.proofs.kept_body.KeptBodyBody.undo.Goals as goal

pub returns : goal.returns
returns g c =
    let inside : KeptView = record {
      numbers = c.self.inside.geometry;
      entry = entry_of c.self.inside.root c.self.inside.threshold;
      created = c.self.inside.created;
      held = c.self.inside.held;
    } in
    record {
      end = undoes-by g.P.S.Span.tells c.args.self.now inside (g.L.Hints.rest c.args._latches.now)
          (g.L.Hints.trace c.args._latches.now) c.self.view_is c.self.invariant c.requires.ready;
    }

pub invariant_of-self : goal.invariant_of-self
invariant_of-self g c =
    let inside : KeptView = record {
      numbers = c.self.inside.geometry;
      entry = entry_of c.self.inside.root c.self.inside.threshold;
      created = c.self.inside.created;
      held = c.self.inside.held;
    } in
    undone-keeps g.P.S.Span.tells inside.numbers inside.entry inside.created inside.held c.self.invariant

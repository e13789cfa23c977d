use Rattle.std.proofs.Common.{rules, ◌≡◌, true, false, sym, ◌∙◌}
use Rattle.object_body.specs.Stored.{entry_of}
use Rattle.body_double.specs.Kept.{KeptView}
use Rattle.body_double.proofs.OwnLemmas.{other-may}
use Rattle.body_double.proofs.KeptLemmas.{kept-wants, exists-by, created-by, created-keeps, there-is}
use Rattle.body_double.proofs.kept_body.KeptBodyBody.edit.Goals as goal

pub returns-then-not-creates : goal.returns-then-not-creates
returns-then-not-creates g c =
    let other : c.creates.result ≡ false = search rules in
    record {
      edit = kept-wants g.P.S.Span.tells c.args._start c.args.edit.now c.args.self.now (g.L.Hints.rest c.args._latches.now)
          (g.L.Hints.trace c.args._latches.now) (g.P.Port.meter c.args._port.now) c.keeps_tree.ensures c.requires.ready
          (other-may c.args.edit.now (sym c.creates.ensures ∙ other));
    }

pub returns-then-is_there : goal.returns-then-is_there
returns-then-is_there g c =
    let inside : KeptView = record {
      numbers = c.self.inside.geometry;
      entry = entry_of c.self.inside.root c.self.inside.threshold;
      created = c.self.inside.created;
      held = c.self.inside.held;
    } in
    let create : c.creates.result ≡ true = search rules in
    record {
      edit = exists-by g.P.S.Span.tells c.args._start c.args.edit.now c.args.self.now inside (g.L.Hints.rest c.args._latches.now)
          (g.L.Hints.trace c.args._latches.now) (g.P.Port.meter c.args._port.now) c.self.view_is (sym c.creates.ensures ∙ create)
          c.self.invariant (there-is c.self.inside.root c.self.inside.threshold c.self.inside.created
          ∙ (sym c.is_there.ensures ∙ c.if-is_there.true)) c.requires.ready;
    }

pub returns : goal.returns
returns g c =
    let inside : KeptView = record {
      numbers = c.self.inside.geometry;
      entry = entry_of c.self.inside.root c.self.inside.threshold;
      created = c.self.inside.created;
      held = c.self.inside.held;
    } in
    let create : c.creates.result ≡ true = search rules in
    record {
      edit = created-by g.P.S.Span.tells c.args._start c.args.edit.now c.args.self.now inside (g.L.Hints.rest c.args._latches.now)
          (g.L.Hints.trace c.args._latches.now) (g.P.Port.meter c.args._port.now) c.self.view_is (sym c.creates.ensures ∙ create)
          c.self.invariant (there-is c.self.inside.root c.self.inside.threshold c.self.inside.created
          ∙ (sym c.is_there.ensures ∙ c.if-is_there.false)) c.requires.ready;
    }

pub invariant_of-self : goal.invariant_of-self
invariant_of-self g c =
    let inside : KeptView = record {
      numbers = c.self.inside.geometry;
      entry = entry_of c.self.inside.root c.self.inside.threshold;
      created = c.self.inside.created;
      held = c.self.inside.held;
    } in
    created-keeps g.P.S.Span.tells inside.numbers inside.entry inside.created inside.held c.self.invariant
    (there-is c.self.inside.root c.self.inside.threshold c.self.inside.created ∙ (sym c.is_there.ensures ∙ c.if-is_there.false))

-- An edit that stays, a `create` and a `destroy` are what these calls say, over each port.
use Rattle.std.proofs.Common.{sym, subst}
use Rattle.eos_ops.specs.declared.edit.Edit.{Edit}
use Rattle.std.specs.Prelude.{Ok}
use Rattle.moment_model.specs.Edit.{edited_slot}
use Rattle.object_body.specs.Calls.{IsEdit}
use Rattle.object_body.specs.Form.{HaveLengths}
use Rattle.object_state.specs.Edits.{tree_stage}
use Rattle.object_state.specs.Kind.{TreeMayRefuse, TreeMayWrite}
use Rattle.object_state.proofs.tree_body.TreeBody.edit.Goals as goal

pub returns-in-Some : goal.returns-in-Some
returns-in-Some g c = record {
  edit = c.in-Some.ensures.stays (g.L.Hints.rest c.args.latches.now) (g.L.Hints.trace c.args.latches.now) c.requires.ready.none
      c.args.start (g.P.Port.meter c.args.port.now);
}

pub returns-in-Create : goal.returns-in-Create
returns-in-Create g c =
    let rest = g.L.Hints.rest c.args.latches.now in
    let trace = g.L.Hints.trace c.args.latches.now in
    let meter = g.P.Port.meter c.args.port.now in
    record {
      edit = subst (λ (e : Edit). IsEdit g.P.S.Span.tells HaveLengths edited_slot TreeMayRefuse TreeMayWrite c.args.start e
          (Ok c.create.result) (tree_stage c.args.self.now rest trace) (tree_stage c.create.new.self rest trace) meter meter)
          (sym c.in-Create.is) (c.create.ensures rest trace c.requires.ready.none c.args.start meter);
    }

pub returns-in-Destroy : goal.returns-in-Destroy
returns-in-Destroy g c =
    let meter = g.P.Port.meter c.args.port.now in
    record {
      edit = subst (λ (e : Edit). IsEdit g.P.S.Span.tells HaveLengths edited_slot TreeMayRefuse TreeMayWrite c.args.start e
          c.destroy.result (tree_stage c.args.self.now (g.L.Hints.rest c.args.latches.now) (g.L.Hints.trace c.args.latches.now))
          (tree_stage c.destroy.new.self (g.L.Hints.rest c.destroy.new.latches) (g.L.Hints.trace c.destroy.new.latches)) meter meter)
          (sym c.in-Destroy.is) (c.destroy.ensures c.args.start meter);
    }

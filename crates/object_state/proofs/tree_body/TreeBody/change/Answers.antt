-- A refused change leaves the object as `change_tree` says.
use Rattle.std.proofs.Common.{◌≡◌, Option, ap, subst, sym}
use Rattle.std.specs.Prelude.{Err}
use Rattle.moment_model.specs.Edit.{edited_slot}
use Rattle.tree_model.specs.declared.tree.Root.{Root}
use Rattle.tree_pages.specs.Entry.{Entry}
use Rattle.object_body.specs.Calls.{IsEdit}
use Rattle.object_body.specs.Form.{HaveLengths}
use Rattle.object_body.specs.Stored.{entry_of}
use Rattle.object_plan.specs.declared.working_tree.WorkingTree.{WorkingTree}
use Rattle.object_state.specs.Changes.{entry_on}
use Rattle.object_state.specs.Edits.{tree_stage}
use Rattle.object_state.specs.Keeps.{KeepsTreeBody}
use Rattle.object_state.specs.Kind.{TreeMayRefuse, TreeMayWrite}
use Rattle.object_state.specs.Tree.{TreeView}
use Rattle.object_state.proofs.tree_body.TreeBody.change.Goals as goal

pub returns-in-Err : goal.returns-in-Err
returns-in-Err g c =
    let tells = g.P.S.Span.tells in
    let inside = c.self.inside in
    let committed = entry_of inside.committed.root inside.committed.threshold in
    let was = entry_of inside.working.root inside.working.threshold in
    let w : WorkingTree = record { root = c.in-Some.root; threshold = inside.working.threshold; spare = inside.spare } in
    let is : was ≡ entry_on w = ap (λ (o : Option Root). entry_of o inside.working.threshold) c.in-Some.is in
    let old : Entry → TreeView = λ e. record {
      numbers = inside.geometry;
      committed = committed;
      working = e;
      spare = inside.spare;
      held = inside.held;
      cache = inside.cache;
      fresh = inside.fresh;
      locked = inside.locked;
    } in
    let new : Entry → TreeView = λ e. record {
      numbers = inside.geometry;
      committed = committed;
      working = e;
      spare = inside.spare;
      held = c.change_tree.new.held;
      cache = c.change_tree.new.cache;
      fresh = c.change_tree.new.fresh;
      locked = c.change_tree.new.locked;
    } in
    let rest = g.L.Hints.rest c.args.latches.now in
    let trace = g.L.Hints.trace c.args.latches.now in
    let last = g.L.Hints.rest c.change_tree.new.latches in
    let after = g.L.Hints.trace c.change_tree.new.latches in
    let used = g.P.Port.meter c.args.port.now in
    let now = g.P.Port.meter c.change_tree.new.port in
    let makes = c.in-Err.ensures.makes committed (subst (λ (e : Entry). KeepsTreeBody tells (old e)) is c.self.invariant) in
    record {
      edit = subst (λ (v : TreeView). IsEdit tells HaveLengths edited_slot TreeMayRefuse TreeMayWrite c.args.start c.args.edit.now
          (Err c.in-Err.fail) (tree_stage v rest trace) (tree_stage (new was) last after) used now) c.self.view_is
          (subst (λ (e : Entry). IsEdit tells HaveLengths edited_slot TreeMayRefuse TreeMayWrite c.args.start c.args.edit.now
          (Err c.in-Err.fail) (tree_stage (old e) rest trace) (tree_stage (new e) last after) used now) (sym is) makes.makes);
    }

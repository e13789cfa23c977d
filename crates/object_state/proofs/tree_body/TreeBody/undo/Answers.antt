-- The fresh pages went, and the locked ones are unlocked.
use Rattle.object_body.specs.Form.{undone_form, undone_contents}
use Rattle.object_body.specs.Stored.{entry_of}
use Rattle.object_state.specs.Edits.{tree_stage}
use Rattle.object_state.specs.Tree.{TreeView, tree_form, tree_contents}
use Rattle.object_state.proofs.EndLemmas.{end-of, undo-ended, undone-end, undone-keeps, undone_view}
use Rattle.object_state.proofs.tree_body.TreeBody.undo.Goals as goal
use Rattle.geometry_model.proofs.NumberLaws.{page-some}

pub invariant_of-self : goal.invariant_of-self
invariant_of-self g c =
    let tells = g.P.S.Span.tells in
    let inside = c.self.inside in
    let v : TreeView = record {
      numbers = inside.geometry;
      committed = entry_of inside.committed.root inside.committed.threshold;
      working = entry_of inside.working.root inside.working.threshold;
      spare = inside.spare;
      held = inside.held;
      cache = inside.cache;
      fresh = inside.fresh;
      locked = inside.locked;
    } in
    let old = g.L.Hints.rest c.args.latches.now in
    let new = g.L.Hints.rest c.unlock_marked.new.latches in
    let before = g.L.Hints.trace c.args.latches.now in
    let after = g.L.Hints.trace c.unlock_marked.new.latches in
    let ended = undo-ended tells v c.give_marked.new.held c.give_marked.new.cache c.new.result c.new-2.result old
    (g.L.Hints.rest c.give_marked.new.latches) new before (g.L.Hints.trace c.give_marked.new.latches) after
    c.give_marked.ensures.left c.give_marked.ensures.given c.unlock_marked.ensures.unlocked
    (record { none = c.new.ensures.empty; size = c.new.ensures.size }) (record {
      none = c.new-2.ensures.empty;
      size = c.new-2.ensures.size;
    }) in
    undone-keeps tells v c.give_marked.new.held c.give_marked.new.cache c.new.result c.new-2.result old new before after
    c.self.invariant ended

pub returns : goal.returns
returns g c =
    let tells = g.P.S.Span.tells in
    let inside = c.self.inside in
    let v : TreeView = record {
      numbers = inside.geometry;
      committed = entry_of inside.committed.root inside.committed.threshold;
      working = entry_of inside.working.root inside.working.threshold;
      spare = inside.spare;
      held = inside.held;
      cache = inside.cache;
      fresh = inside.fresh;
      locked = inside.locked;
    } in
    let old = g.L.Hints.rest c.args.latches.now in
    let new = g.L.Hints.rest c.unlock_marked.new.latches in
    let before = g.L.Hints.trace c.args.latches.now in
    let after = g.L.Hints.trace c.unlock_marked.new.latches in
    let ended = undo-ended tells v c.give_marked.new.held c.give_marked.new.cache c.new.result c.new-2.result old
    (g.L.Hints.rest c.give_marked.new.latches) new before (g.L.Hints.trace c.give_marked.new.latches) after
    c.give_marked.ensures.left c.give_marked.ensures.given c.unlock_marked.ensures.unlocked
    (record { none = c.new.ensures.empty; size = c.new.ensures.size }) (record {
      none = c.new-2.ensures.empty;
      size = c.new-2.ensures.size;
    }) in
    let undone = undone_view v c.give_marked.new.held c.give_marked.new.cache c.new.result c.new-2.result in
    record {
      end = end-of tells v c.args.self.now (λ x. undone_form (tree_form x)) (λ x. undone_contents (tree_contents x))
          (tree_stage undone new after) old before c.self.view_is
          (undone-end tells v c.give_marked.new.held c.give_marked.new.cache c.new.result c.new-2.result old new before after
          (page-some inside.geometry c.page-page.ensures.range) c.self.invariant ended);
    }

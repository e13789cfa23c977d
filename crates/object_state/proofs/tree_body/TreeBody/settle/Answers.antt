-- The spare pages and the locked ones went.
use Rattle.std.proofs.Common.{Option, sym, subst}
use Rattle.layout_model.specs.declared.extent.Extent.{Extent}
use Rattle.object_body.specs.Calls.{IsBodyEnd}
use Rattle.object_body.specs.Form.{settled_form, settled_contents}
use Rattle.object_body.specs.Stored.{entry_of}
use Rattle.give_back.specs.Giving.{LeavesNodes, LetsGo, gives}
use Rattle.object_state.specs.Keeps.{KeepsTreeBody, in_spare}
use Rattle.object_state.specs.Edits.{tree_stage}
use Rattle.object_state.specs.Tree.{TreeView, tree_form, tree_contents}
use Rattle.object_body.specs.Form.{HaveLengths}
use Rattle.object_state.proofs.EndLemmas.{end-of, settle-ended, settled-end, settled-keeps, settled_view}
use Rattle.object_state.proofs.LeftLemmas.{left-on_data}
use Rattle.object_state.proofs.tree_body.TreeBody.settle.Goals as goal
use Rattle.geometry_model.proofs.NumberLaws.{page-some}

pub give_marked-requires-clause-on_data : goal.give_marked-requires-clause-on_data
give_marked-requires-clause-on_data g c =
    left-on_data c.self.inside.geometry (in_spare c.take-spare.result) c.self.inside.held c.give_spare.new.held
    c.give_spare.ensures.left.spans.left c.self.invariant.on_data

pub invariant_of-self : goal.invariant_of-self
invariant_of-self g c =
    let tells = g.P.S.Span.tells in
    let inside = c.self.inside in
    let v : TreeView = record {
      numbers = inside.geometry;
      committed = entry_of inside.committed.root inside.committed.threshold;
      working = entry_of inside.working.root inside.working.threshold;
      spare = inside.spare;
      held = inside.held;
      cache = inside.cache;
      fresh = inside.fresh;
      locked = inside.locked;
    } in
    let left = subst (λ (o : Option Extent). LeavesNodes tells v.numbers.page (in_spare o) v.held c.give_spare.new.held v.cache
    c.give_spare.new.cache) c.take-spare.ensures.value c.give_spare.ensures.left in
    let went = subst (λ (o : Option Extent). LetsGo v.numbers (gives (in_spare o)) (g.L.Hints.rest c.args.latches.now)
    (g.L.Hints.rest c.give_spare.new.latches) (g.L.Hints.trace c.args.latches.now) (g.L.Hints.trace c.give_spare.new.latches))
    c.take-spare.ensures.value c.give_spare.ensures.given in
    let ended = settle-ended tells v c.give_spare.new.held c.give_marked.new.held c.give_spare.new.cache c.give_marked.new.cache
    c.new.result c.new-2.result (g.L.Hints.rest c.args.latches.now) (g.L.Hints.rest c.give_spare.new.latches)
    (g.L.Hints.rest c.give_marked.new.latches) (g.L.Hints.trace c.args.latches.now) (g.L.Hints.trace c.give_spare.new.latches)
    (g.L.Hints.trace c.give_marked.new.latches) left went c.give_marked.ensures.left c.give_marked.ensures.given
    (record { none = c.new.ensures.empty; size = c.new.ensures.size }) (record {
      none = c.new-2.ensures.empty;
      size = c.new-2.ensures.size;
    }) in
    subst (λ (o : Option Extent). KeepsTreeBody tells (record (settled_view v c.give_marked.new.held c.give_marked.new.cache
    c.new.result c.new-2.result) { spare = o })) (sym c.take-spare.ensures.after)
    (settled-keeps tells v c.give_marked.new.held c.give_marked.new.cache c.new.result c.new-2.result
    (g.L.Hints.rest c.args.latches.now) (g.L.Hints.rest c.give_marked.new.latches) (g.L.Hints.trace c.args.latches.now)
    (g.L.Hints.trace c.give_marked.new.latches) c.self.invariant ended)

pub returns : goal.returns
returns g c =
    let tells = g.P.S.Span.tells in
    let inside = c.self.inside in
    let v : TreeView = record {
      numbers = inside.geometry;
      committed = entry_of inside.committed.root inside.committed.threshold;
      working = entry_of inside.working.root inside.working.threshold;
      spare = inside.spare;
      held = inside.held;
      cache = inside.cache;
      fresh = inside.fresh;
      locked = inside.locked;
    } in
    let old = g.L.Hints.rest c.args.latches.now in
    let new = g.L.Hints.rest c.give_marked.new.latches in
    let before = g.L.Hints.trace c.args.latches.now in
    let after = g.L.Hints.trace c.give_marked.new.latches in
    let left = subst (λ (o : Option Extent). LeavesNodes tells v.numbers.page (in_spare o) v.held c.give_spare.new.held v.cache
    c.give_spare.new.cache) c.take-spare.ensures.value c.give_spare.ensures.left in
    let went = subst (λ (o : Option Extent). LetsGo v.numbers (gives (in_spare o)) old (g.L.Hints.rest c.give_spare.new.latches) before
    (g.L.Hints.trace c.give_spare.new.latches)) c.take-spare.ensures.value c.give_spare.ensures.given in
    let ended = settle-ended tells v c.give_spare.new.held c.give_marked.new.held c.give_spare.new.cache c.give_marked.new.cache
    c.new.result c.new-2.result old (g.L.Hints.rest c.give_spare.new.latches) new before (g.L.Hints.trace c.give_spare.new.latches)
    after left went c.give_marked.ensures.left c.give_marked.ensures.given
    (record { none = c.new.ensures.empty; size = c.new.ensures.size }) (record {
      none = c.new-2.ensures.empty;
      size = c.new-2.ensures.size;
    }) in
    let settled = settled_view v c.give_marked.new.held c.give_marked.new.cache c.new.result c.new-2.result in
    record {
      end = end-of tells v c.args.self.now (λ x. settled_form (tree_form x)) (λ x. settled_contents (tree_contents x))
          (tree_stage (record settled { spare = c.take-spare.new.self }) new after) old before c.self.view_is
          (subst (λ (o : Option Extent). IsBodyEnd tells HaveLengths (settled_form (tree_form v)) (settled_contents (tree_contents v))
          (tree_stage v old before) (tree_stage (record settled { spare = o }) new after)) (sym c.take-spare.ensures.after)
          (settled-end tells v c.give_marked.new.held c.give_marked.new.cache c.new.result c.new-2.result old new before after
          (page-some inside.geometry c.page-page.ensures.range) c.self.invariant ended));
    }

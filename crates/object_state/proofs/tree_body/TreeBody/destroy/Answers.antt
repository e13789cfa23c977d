-- An absent object stays, or the pages that aren't locked are gathered and dropped.
use Rattle.std.proofs.Common.{not, Option, None, Ok, Err, sym, ap, subst, ◌∙◌}
use Rattle.base_laws.proofs.OptionLaws.{none-unless, some-if}
use Rattle.eos_ops.specs.declared.edit.Edit.TheVariants.{Destroy}
use Rattle.eos_ops.specs.declared.outcome.Outcome.TheVariants.{Done, Missing}
use Rattle.page_set.specs.Words.{in_set}
use Rattle.tree_model.specs.declared.tree.Root.{Root}
use Rattle.object_body.specs.declared.fails.EditFail.TheVariants.{Memory}
use Rattle.object_body.specs.Places.{IsReady}
use Rattle.object_body.specs.Stored.{entry_of}
use Rattle.geometry_model.proofs.NumberLaws.{page-some}
use Rattle.object_state.specs.Drops.{Stock}
use Rattle.object_state.specs.Edits.{MakesOnSpaces, tree_stage}
use Rattle.object_state.specs.Tree.{TreeView}
use Rattle.object_state.proofs.BesideLemmas.{changed_view}
use Rattle.object_state.proofs.MadeLemmas.{IsGathered, destroy-absent, destroy-marked, destroy-refused, destroyed, destroyed-keeps}
use Rattle.object_state.proofs.MadeLemmas.{roomy-keeps}
use Rattle.object_state.proofs.tree_body.TreeBody.destroy.Goals as goal

pub returns-then-is_none : goal.returns-then-is_none
returns-then-is_none g c =
    let inside = c.self.inside in
    let v : TreeView = record {
      numbers = inside.geometry;
      committed = entry_of inside.committed.root inside.committed.threshold;
      working = entry_of inside.working.root inside.working.threshold;
      spare = inside.spare;
      held = inside.held;
      cache = inside.cache;
      fresh = inside.fresh;
      locked = inside.locked;
    } in
    let rest = g.L.Hints.rest c.args.latches.now in
    let trace = g.L.Hints.trace c.args.latches.now in
    let ready = subst (λ (w : TreeView). IsReady w.numbers rest) (sym c.self.view_is) c.requires.ready in
    let absent = ap (λ (o : Option Root). entry_of o inside.working.threshold)
    (none-unless inside.working.root (c.is_none.ensures ∙ ap not c.if-is_none.true)) in
    subst (λ (w : TreeView). MakesOnSpaces g.P.S.Span.tells Destroy (Ok Missing) (tree_stage w rest trace) (tree_stage w rest trace))
    c.self.view_is
    (destroy-absent g.P.S.Span.tells v rest trace (page-some inside.geometry c.page-page.ensures.range) ready.none absent
    c.self.invariant)

pub invariant_of-self : goal.invariant_of-self
invariant_of-self g c =
    let inside = c.self.inside in
    let v : TreeView = record {
      numbers = inside.geometry;
      committed = entry_of inside.committed.root inside.committed.threshold;
      working = entry_of inside.working.root inside.working.threshold;
      spare = inside.spare;
      held = inside.held;
      cache = inside.cache;
      fresh = inside.fresh;
      locked = inside.locked;
    } in
    roomy-keeps g.P.S.Span.tells v c.gather_unlocked.new.locked c.gather_unlocked.ensures.same c.self.invariant

pub returns-in_default : goal.returns-in_default
returns-in_default g c =
    let inside = c.self.inside in
    let v : TreeView = record {
      numbers = inside.geometry;
      committed = entry_of inside.committed.root inside.committed.threshold;
      working = entry_of inside.working.root inside.working.threshold;
      spare = inside.spare;
      held = inside.held;
      cache = inside.cache;
      fresh = inside.fresh;
      locked = inside.locked;
    } in
    let rest = g.L.Hints.rest c.args.latches.now in
    let trace = g.L.Hints.trace c.args.latches.now in
    let ready = subst (λ (w : TreeView). IsReady w.numbers rest) (sym c.self.view_is) c.requires.ready in
    subst (λ (w : TreeView). MakesOnSpaces g.P.S.Span.tells Destroy (Err Memory) (tree_stage w rest trace)
    (tree_stage (record v { locked = c.gather_unlocked.new.locked }) rest trace)) c.self.view_is
    (destroy-refused g.P.S.Span.tells v c.gather_unlocked.new.locked rest trace (page-some inside.geometry c.page-page.ensures.range)
    ready.none c.gather_unlocked.ensures.size c.self.invariant)

pub let_go-requires-clause-marked : goal.let_go-requires-clause-marked
let_go-requires-clause-marked g c =
    let inside = c.self.inside in
    let v : TreeView = record {
      numbers = inside.geometry;
      committed = entry_of inside.committed.root inside.committed.threshold;
      working = entry_of inside.working.root inside.working.threshold;
      spare = inside.spare;
      held = inside.held;
      cache = inside.cache;
      fresh = inside.fresh;
      locked = inside.locked;
    } in
    destroy-marked g.P.S.Span.tells v (in_set c.in-Ok.gone) c.in-Ok.ensures.gone c.self.invariant

pub invariant_of-self-2 : goal.invariant_of-self-2
invariant_of-self-2 g c =
    let inside = c.self.inside in
    let v : TreeView = record {
      numbers = inside.geometry;
      committed = entry_of inside.committed.root inside.committed.threshold;
      working = entry_of inside.working.root inside.working.threshold;
      spare = inside.spare;
      held = inside.held;
      cache = inside.cache;
      fresh = inside.fresh;
      locked = inside.locked;
    } in
    let rest = g.L.Hints.rest c.args.latches.now in
    let trace = g.L.Hints.trace c.args.latches.now in
    let ready = subst (λ (w : TreeView). IsReady w.numbers rest) (sym c.self.view_is) c.requires.ready in
    let t : Stock = record {
      held = c.let_go.new.held;
      cache = c.let_go.new.cache;
      fresh = c.let_go.new.fresh;
      locked = c.let_go.new.locked;
      rest = g.L.Hints.rest c.let_go.new.latches;
      trace = g.L.Hints.trace c.let_go.new.latches;
    } in
    let gathered : IsGathered v (in_set c.in-Ok.gone) c.gather_unlocked.new.locked = record {
      gone_is = c.in-Ok.ensures.gone;
      room = c.in-Ok.ensures.room;
      same = c.gather_unlocked.ensures.same;
    } in
    destroyed-keeps g.P.S.Span.tells v (in_set c.in-Ok.gone) c.gather_unlocked.new.locked t rest trace ready c.self.invariant gathered
    c.let_go.ensures.drops

pub returns : goal.returns
returns g c =
    let inside = c.self.inside in
    let v : TreeView = record {
      numbers = inside.geometry;
      committed = entry_of inside.committed.root inside.committed.threshold;
      working = entry_of inside.working.root inside.working.threshold;
      spare = inside.spare;
      held = inside.held;
      cache = inside.cache;
      fresh = inside.fresh;
      locked = inside.locked;
    } in
    let rest = g.L.Hints.rest c.args.latches.now in
    let trace = g.L.Hints.trace c.args.latches.now in
    let ready = subst (λ (w : TreeView). IsReady w.numbers rest) (sym c.self.view_is) c.requires.ready in
    let t : Stock = record {
      held = c.let_go.new.held;
      cache = c.let_go.new.cache;
      fresh = c.let_go.new.fresh;
      locked = c.let_go.new.locked;
      rest = g.L.Hints.rest c.let_go.new.latches;
      trace = g.L.Hints.trace c.let_go.new.latches;
    } in
    let gathered : IsGathered v (in_set c.in-Ok.gone) c.gather_unlocked.new.locked = record {
      gone_is = c.in-Ok.ensures.gone;
      room = c.in-Ok.ensures.room;
      same = c.gather_unlocked.ensures.same;
    } in
    let root = some-if inside.working.root (c.is_none.ensures ∙ ap not c.if-is_none.false) in
    let there = ap (λ (o : Option Root). entry_of o inside.working.threshold) root.1 in
    subst (λ (w : TreeView). MakesOnSpaces g.P.S.Span.tells Destroy (Ok Done) (tree_stage w rest trace)
    (tree_stage (changed_view v t None None) t.rest t.trace)) c.self.view_is
    (destroyed g.P.S.Span.tells v (record { root = root.0; threshold = inside.working.threshold }) (in_set c.in-Ok.gone)
    c.gather_unlocked.new.locked t rest trace (page-some inside.geometry c.page-page.ensures.range) ready c.self.invariant there
    gathered c.let_go.ensures.drops)

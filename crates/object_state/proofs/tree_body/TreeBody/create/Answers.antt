-- The object is there already, or an absent one is made.
use Rattle.std.proofs.Common.{Option, ℕ, sym, ap, subst, ◌∙◌}
use Rattle.base_laws.proofs.OptionLaws.{none-unless, some-if}
use Rattle.eos_ops.specs.declared.edit.Edit.TheVariants.{Create}
use Rattle.eos_ops.specs.declared.outcome.Outcome.TheVariants.{Done, Exists}
use Rattle.moment_model.specs.Edit.{given_threshold}
use Rattle.tree_model.specs.declared.tree.Root.{Root}
use Rattle.object_body.specs.Stored.{entry_of}
use Rattle.object_state.specs.Edits.{MakesTreeEdit}
use Rattle.object_state.specs.Keeps.{KeepsTreeBody}
use Rattle.object_state.specs.Tree.{TreeView}
use Rattle.object_state.proofs.CreateLemmas.{create-absent, create-keeps, create-there, created_view, given-suits}
use Rattle.object_state.proofs.tree_body.TreeBody.create.Goals as goal
use Rattle.geometry_model.proofs.NumberLaws.{page-some}

pub returns-then-is_some : goal.returns-then-is_some
returns-then-is_some g c =
    let inside = c.self.inside in
    let v : TreeView = record {
      numbers = inside.geometry;
      committed = entry_of inside.committed.root inside.committed.threshold;
      working = entry_of inside.working.root inside.working.threshold;
      spare = inside.spare;
      held = inside.held;
      cache = inside.cache;
      fresh = inside.fresh;
      locked = inside.locked;
    } in
    let root = some-if inside.working.root (sym c.is_some.ensures ∙ c.if-is_some.true) in
    let there = ap (λ (o : Option Root). entry_of o inside.working.threshold) root.1 in
    subst (λ (w : TreeView). MakesTreeEdit g.P.S.Span.tells (Create c.args.threshold) Exists w w) c.self.view_is
    (create-there g.P.S.Span.tells v (record { root = root.0; threshold = inside.working.threshold }) c.args.threshold
    (page-some inside.geometry c.page-page.ensures.range) there c.self.invariant)

pub invariant_of-self : goal.invariant_of-self
invariant_of-self g c =
    let inside = c.self.inside in
    let v : TreeView = record {
      numbers = inside.geometry;
      committed = entry_of inside.committed.root inside.committed.threshold;
      working = entry_of inside.working.root inside.working.threshold;
      spare = inside.spare;
      held = inside.held;
      cache = inside.cache;
      fresh = inside.fresh;
      locked = inside.locked;
    } in
    let absent = ap (λ (o : Option Root). entry_of o inside.working.threshold)
    (none-unless inside.working.root (sym c.is_some.ensures ∙ c.if-is_some.false)) in
    let suits = given-suits inside.geometry c.args.threshold c.page-page.ensures.range c.requires in
    subst (λ (t : ℕ). KeepsTreeBody g.P.S.Span.tells (created_view t v)) (sym c.given-threshold.ensures)
    (create-keeps g.P.S.Span.tells v (given_threshold inside.geometry c.args.threshold) suits absent (c.self.invariant.spare_there absent)
    c.self.invariant)

pub returns : goal.returns
returns g c =
    let inside = c.self.inside in
    let v : TreeView = record {
      numbers = inside.geometry;
      committed = entry_of inside.committed.root inside.committed.threshold;
      working = entry_of inside.working.root inside.working.threshold;
      spare = inside.spare;
      held = inside.held;
      cache = inside.cache;
      fresh = inside.fresh;
      locked = inside.locked;
    } in
    let absent = ap (λ (o : Option Root). entry_of o inside.working.threshold)
    (none-unless inside.working.root (sym c.is_some.ensures ∙ c.if-is_some.false)) in
    let no_spare = c.self.invariant.spare_there absent in
    let suits = given-suits inside.geometry c.args.threshold c.page-page.ensures.range c.requires in
    let kept = create-keeps g.P.S.Span.tells v (given_threshold inside.geometry c.args.threshold) suits absent no_spare c.self.invariant in
    subst (λ (w : TreeView). MakesTreeEdit g.P.S.Span.tells (Create c.args.threshold) Done w (created_view c.given-threshold.result v))
    c.self.view_is
    (subst (λ (t : ℕ). MakesTreeEdit g.P.S.Span.tells (Create c.args.threshold) Done v (created_view t v)) (sym c.given-threshold.ensures)
    (create-absent g.P.S.Span.tells v c.args.threshold (page-some inside.geometry c.page-page.ensures.range) absent no_spare kept))

-- The edit isn't made, or it removes and brings nothing.
use Rattle.std.proofs.Common.{◌≡◌, ◌<◌, sym, ap, subst, ◌∙◌, rules}
use Rattle.eos_ops.specs.declared.outcome.Outcome.TheVariants.{Done}
use Rattle.object_body.specs.Lengths.{outcome_of}
use Rattle.geometry_model.proofs.NumberLaws.{page-some}
use Rattle.object_state.specs.Keeps.{KeepsTreeBody}
use Rattle.object_state.specs.Tree.{TreeView}
use Rattle.object_state.proofs.StayLemmas.{idle-done, unmade-stays}
use Rattle.object_state.proofs.tree_body.TreeBody.stays.Goals as goal

pub returns-then-ne-clause-stays : goal.returns-then-ne-clause-stays
returns-then-ne-clause-stays g c =
    let tells = g.P.S.Span.tells in
    let other : c.outcome-outcome.result ≡ Done → ⊥ = search rules in
    let some = subst (λ (v : TreeView). 0 < v.numbers.page) c.self.view_is (page-some c.self.inside.geometry c.page-page.ensures.range) in
    let kept = subst (KeepsTreeBody tells) c.self.view_is c.self.invariant in
    unmade-stays tells c.args.self.now c.args.edit.now c.outcome-outcome.result some kept
    (c.outcome-outcome.ensures ∙ ap (outcome_of c.args.edit.now) c.length.ensures.length) other

pub returns-then-is_idle-clause-stays : goal.returns-then-is_idle-clause-stays
returns-then-is_idle-clause-stays g c =
    let tells = g.P.S.Span.tells in
    let done_is : c.outcome-outcome.result ≡ Done = search rules in
    let some = subst (λ (v : TreeView). 0 < v.numbers.page) c.self.view_is (page-some c.self.inside.geometry c.page-page.ensures.range) in
    let kept = subst (KeepsTreeBody tells) c.self.view_is c.self.invariant in
    let done = sym (c.outcome-outcome.ensures ∙ ap (outcome_of c.args.edit.now) c.length.ensures.length) ∙ done_is in
    idle-done tells c.args.self.now c.args.edit.now some kept (c.is_idle.ensures.0 c.if-is_idle.true) done

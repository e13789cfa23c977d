use Rattle.std.proofs.Common.{sym, subst, ◌∙◌}
use Rattle.std.specs.List.{AllByRecursion}
use Rattle.std.proofs.lemmas.Bool.{false≢true}
use Rattle.tree_model.specs.Range.{pairs_of}
use Rattle.tree_model.proofs.RangeLemmas.{next-pair}
use Rattle.edit_plan.proofs.SpotLemmas.{each-pair}
use Rattle.object_plan.specs.Planned.{IsHeldEntry}
use Rattle.object_plan.proofs.usable.are_held.Goals as goal

pub returns-then-not-is_held : goal.returns-then-not-is_held
returns-then-not-is_held g c =
    let P = IsHeldEntry c.args.geometry.now c.args.held.now in
    let w = c.args.window.now in
    let broken = λ (all : AllByRecursion P (pairs_of w)).
    c.is_held.ensures.1 (each-pair P w c.loop-segment.segment-index all c.loop-segment-test.true) in
    (λ yes. absurd (false≢true yes), λ all. sym c.if-not-is_held.true ∙ broken all)

pub loop-segment-preserved : goal.loop-segment-preserved
loop-segment-preserved g c = λ rest.
    c.loop-segment.invariant
    (subst (AllByRecursion (IsHeldEntry c.args.geometry.now c.args.held.now))
    (sym (next-pair c.args.window.now c.loop-segment.segment-index c.loop-segment-test.true))
    (c.is_held.ensures.0 c.if-not-is_held.false, rest))

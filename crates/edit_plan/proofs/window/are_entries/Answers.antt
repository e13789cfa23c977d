use Rattle.std.proofs.Common.{sym, subst, ◌∙◌}
use Rattle.std.specs.List.{AllByRecursion}
use Rattle.std.proofs.lemmas.Bool.{false≢true}
use Rattle.tree_model.specs.Range.{pairs_of}
use Rattle.tree_model.proofs.RangeLemmas.{next-pair}
use Rattle.edit_plan.specs.Planned.{IsEntry}
use Rattle.edit_plan.proofs.SpotLemmas.{each-pair}
use Rattle.edit_plan.proofs.window.are_entries.Goals as goal

pub returns-then-not-is_entry : goal.returns-then-not-is_entry
returns-then-not-is_entry c =
    let n = c.args.geometry.now in
    let w = c.args.window.now in
    let broken = λ (all : AllByRecursion (IsEntry n) (pairs_of w)).
    c.is_entry.ensures.1 (each-pair (IsEntry n) w c.loop-segment.segment-index all c.loop-segment-test.true) in
    (λ yes. absurd (false≢true yes), λ all. sym c.if-not-is_entry.true ∙ broken all)

pub loop-segment-preserved : goal.loop-segment-preserved
loop-segment-preserved c = λ rest.
    c.loop-segment.invariant
    (subst (AllByRecursion (IsEntry c.args.geometry.now))
    (sym (next-pair c.args.window.now c.loop-segment.segment-index c.loop-segment-test.true))
    (c.is_entry.ensures.0 c.if-not-is_entry.false, rest))

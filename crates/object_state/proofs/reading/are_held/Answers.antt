use Rattle.std.proofs.Common.{sym, subst, ◌∙◌}
use Rattle.std.specs.List.{AllByRecursion}
use Rattle.std.proofs.lemmas.Bool.{false≢true}
use Rattle.tree_model.specs.declared.entry.Placed.{Placed}
use Rattle.seg_bytes.proofs.Reading.{each_segment}
use Rattle.object_state.specs.Reads.{IsHeldSegment}
use Rattle.object_state.proofs.ReadLemmas.{next-segment}
use Rattle.object_state.proofs.reading.are_held.Goals as goal

pub returns-then-not-is_held : goal.returns-then-not-is_held
returns-then-not-is_held g c =
    let broken = λ (all : AllByRecursion (λ (s : Placed). IsHeldSegment c.args.geometry.now c.args.held.now s.pair) c.args.segments.now).
    c.is_held.ensures.1 (each_segment (λ s. IsHeldSegment c.args.geometry.now c.args.held.now s.pair) c.args.segments.now
    c.loop-segment.segment-index all c.loop-segment-test.true) in
    (λ yes. absurd (false≢true yes), λ all. sym c.if-not-is_held.true ∙ broken all)

pub loop-segment-preserved : goal.loop-segment-preserved
loop-segment-preserved g c = λ rest.
    c.loop-segment.invariant
    (subst (AllByRecursion (λ (s : Placed). IsHeldSegment c.args.geometry.now c.args.held.now s.pair))
    (sym (next-segment c.args.segments.now c.loop-segment.segment-index c.loop-segment-test.true))
    (c.is_held.ensures.0 c.if-not-is_held.false, rest))

use Rattle.std.proofs.Common.{◌+◌, List, [], ◌∷◌, ◌++◌, drop, get_or, sym, ap, ◌∙◌, append_assoc}
use Rattle.tree_model.specs.declared.entry.Pair.{Pair}
use Rattle.tree_model.specs.Range.{pairs_of}
use Rattle.tree_model.proofs.RangeLemmas.{no_segment, next-pair}
use Rattle.object_plan.proofs.sides.pairs_in.Goals as goal

pub loop-segment-preserved : goal.loop-segment-preserved
loop-segment-preserved c =
    let window = c.args.window.now in
    let i = c.loop-segment.segment-index in
    let ps = pairs_of window in
    let done = c.loop-segment.pairs.items in
    let item = (get_or window i no_segment).pair in
    ap (λ (xs : List Pair). xs ++ drop (i + 1) ps) c.in_ok-push.ensures.items
    ∙ (append_assoc done (item ∷ []) (drop (i + 1) ps)
    ∙ (ap (λ (ys : List Pair). done ++ ys) (sym (next-pair window i c.loop-segment-test.true)) ∙ c.loop-segment.invariant))

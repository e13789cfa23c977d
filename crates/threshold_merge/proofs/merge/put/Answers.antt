use Rattle.std.proofs.Common.{◌≡◌, ◌∙◌, ap, sym, List, [], ◌∷◌, ◌++◌, ◌&&◌, false, map}
use Rattle.std.proofs.lemmas.Bool.{and_left, and_right}
use Rattle.base_laws.proofs.ResultLaws.{on_ok}
use Rattle.layout_model.specs.Pack.{is_small}
use Rattle.layout_model.specs.declared.part.Part as layout
use Rattle.edit_parts.specs.declared.part.Part.{Part}
use Rattle.edit_parts.specs.Parts.{layout_part}
use Rattle.threshold_merge.specs.Passed.{then_packed}
use Rattle.threshold_merge.proofs.PassLemmas.{put-kept, put-merged}
use Rattle.threshold_merge.proofs.merge.put.Goals as goal
use Rattle.threshold_merge.proofs.merge.put.Goals.{else-small-via-then-small+else-is_small, else-small-via-else-small}

pub returns-in_ok-merged-clause-packed : goal.returns-in_ok-merged-clause-packed
returns-in_ok-merged-clause-packed c =
    let page = c.args.page in
    let least = c.args.threshold in
    let old = c.pop.new.self in
    let last = c.in-Some.last in
    let both = c.in_ok-merged.field-0 in
    let one = sym c.is_small-small.ensures ∙ c.if-small.true in
    let two = sym c.is_small.ensures ∙ c.if-is_small.true in
    let made = c.in_ok-merged.ensures in
    let step = put-merged page least old last c.args.part both one two made.bytes made.pieces in
    on_ok c.push-then-is_small.result
    (λ (is : c.push-then-is_small.new.self ≡ old ++ (both ∷ [])) (rest : List layout.Part).
    ap (λ (ps : List Part). then_packed page least (map layout_part ps) rest) is
    ∙ (step.packed rest
    ∙ ap (λ (ps : List Part). then_packed page least (map layout_part ps) (layout_part c.args.part ∷ rest))
    (sym c.in-Some.ensures.some)))
    c.push-then-is_small.ensures.ok

pub returns-in_ok-push-clause-packed : goal.returns-in_ok-push-clause-packed
returns-in_ok-push-clause-packed c =
    let page = c.args.page in
    let least = c.args.threshold in
    let old = c.pop.new.self in
    let last = c.in-Some.last in
    let one = is_small page least (layout_part last) in
    let two = is_small page least (layout_part c.args.part) in
    let large : (one && two) ≡ false =
    elim c.else-small.branch [
      | else-small-via-then-small+else-is_small w ↦ and_right one two (sym w.is_small.ensures ∙ w.if-is_small.false)
      | else-small-via-else-small w ↦ and_left one two (sym c.is_small-small.ensures ∙ w.if-small.false)
    ] in
    let step = put-kept page least old last c.args.part large in
    let kept = ap (λ (ps : List Part). ps ++ (c.args.part ∷ [])) c.in_ok-push.ensures.ok in
    on_ok c.push-else-small-2.result
    (λ (is : c.push-else-small-2.new.self ≡ c.push-else-small.new.self ++ (c.args.part ∷ [])) (rest : List layout.Part).
    ap (λ (ps : List Part). then_packed page least (map layout_part ps) rest) (is ∙ kept)
    ∙ (step.packed rest
    ∙ ap (λ (ps : List Part). then_packed page least (map layout_part ps) (layout_part c.args.part ∷ rest))
    (sym c.in-Some.ensures.some)))
    c.push-else-small-2.ensures.ok

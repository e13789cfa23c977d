use Rattle.std.proofs.Common.{◌+◌, ◌-◌, ◌^◌, ◌<◌, List, [], ◌∷◌, ◌++◌, length, get_or, refl, ap, arith, ◌∙◌}
use Rattle.tree_model.specs.declared.entry.Pair.{Pair}
use Rattle.tree_model.proofs.RangeLemmas.{no_segment}
use Rattle.edit_parts.specs.declared.part.Part.{Part}
use Rattle.edit_parts.specs.declared.part.Part.TheVariants.{Keep}
use Rattle.edit_plan.proofs.SpotLemmas.{each-pair}
use Rattle.object_plan.proofs.PackedLemmas.{is-extended}
use Rattle.object_plan.proofs.SideLemmas.{last-bytes}
use Rattle.object_plan.proofs.plan_on.plan_extended.Goals as goal

pub overflow_add-last : goal.overflow_add-last
overflow_add-last c =
    let window = c.args.window.now in
    let there : length window - 1 < length window = omega (arith, c.requires.some) in
    let few = each-pair (λ (p : Pair). p.bytes + c.args.change.added < 2 ^ 64) window (length window - 1) c.requires.grows there in
    omega (arith, few)

pub returns : goal.returns
returns c = λ n threshold spare ready appends.
    let window = c.args.window.now in
    let last = (get_or window (length window - 1) no_segment).pair in
    let bytes = last-bytes window c.requires.some in
    is-extended n threshold spare c.args.change window _ ready appends c.requires.some refl
    (omega (arith, bytes, c.start_of.ensures, c.bytes_of.ensures))
    (omega (arith, c.start_of.ensures, c.bytes_of.ensures))
    (c.in_ok-push.ensures.items ∙ ap (λ (xs : List Pair). xs ++ (last ∷ [])) c.in_ok-replaced.ensures.items)
    (c.in_ok-push-2.ensures.items
    ∙ ap (λ (xs : List Part). xs ++ (Keep (record { bytes = last.bytes + c.args.change.added; page = last.page }) ∷ []))
    c.in_ok-parts.ensures.items)
    refl c.new.ensures.items

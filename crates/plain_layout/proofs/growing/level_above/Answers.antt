use Rattle.std.proofs.Common.{◌≡◌, IfOk, length, map, drop, ap, ◌∙◌, subst}
use Rattle.layout_model.specs.Levels.{pair_of}
use Rattle.plain_layout.proofs.Steps.{level_after_same}
use Rattle.plain_layout.proofs.growing.level_above.Goals as goal

pub returns : goal.returns
returns c =
    let same = level_after_same c.args.f c.args.nodes.now _ _ _ _ _ _ _ _ c.from.ensures c.count.ensures
    (c.deref.ensures.value ∙ (c.in_ok-names.ensures ∙ ap (map pair_of) c.made.ensures))
    (c.rest-left.ensures ∙ ap (λ t. drop (length t) c.args.pages.now) c.made-2.ensures) in
    subst (λ level. IfOk c.level_after.result (λ made. made ≡ level)) same c.level_after.ensures

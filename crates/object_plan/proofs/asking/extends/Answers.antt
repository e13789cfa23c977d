use Rattle.std.proofs.Common.{◌<◌, length, sym, refl, arith, ◌∙◌}
use Rattle.std.proofs.lemmas.Bool.{false≢true}
use Rattle.object_plan.proofs.CodeLemmas.{fit-is}
use Rattle.object_plan.proofs.asking.extends.Goals as goal

pub returns-in-Extend : goal.returns-in-Extend
returns-in-Extend c =
    let some : 0 < length c.args.window.now = omega (arith, c.if-count-eq0.false) in
    let fits = fit-is c.args.page c.args.window.now c.args.spare c.in-Some.run' c.args.change.now c.page_count-needed.result
    some c.in-Some.is c.if-not-change.false c.page_count-needed.ensures in
    (λ yes. fits ∙ (sym c.fit.ensures ∙ c.in-Extend.is), λ is. refl)

pub returns-in_default-fit : goal.returns-in_default-fit
returns-in_default-fit c =
    let some : 0 < length c.args.window.now = omega (arith, c.if-count-eq0.false) in
    let fits = fit-is c.args.page c.args.window.now c.args.spare c.in-Some.run' c.args.change.now c.page_count-needed.result
    some c.in-Some.is c.if-not-change.false c.page_count-needed.ensures in
    (λ yes. absurd (false≢true yes), λ is. absurd (c.in_default-fit.not-Extend (c.fit.ensures ∙ (sym fits ∙ is))))

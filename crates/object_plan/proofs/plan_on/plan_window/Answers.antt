use Rattle.std.proofs.Common.{◌≡◌, ℕ, ◌+◌, ◌^◌, ◌<◌, sym, ap, subst, arith, ◌∙◌}
use Rattle.base_laws.proofs.ListLaws.{all-map}
use Rattle.base_laws.proofs.ResultLaws.{if_ok}
use Rattle.tree_model.specs.declared.entry.Pair.{Pair}
use Rattle.tree_model.specs.Range.{pairs_of}
use Rattle.tree_model.specs.Tree.{IsSegment}
use Rattle.layout_model.specs.declared.fit.Fit.TheVariants.{Extend}
use Rattle.layout_model.specs.Plan.{Plan, extent_pages, fit_appended}
use Rattle.change_laws.proofs.LayingLemmas.{extend-means}
use Rattle.edit_plan.proofs.EntryLemmas.{space-few}
use Rattle.object_plan.specs.Window.{IsPlanOn, change_on}
use Rattle.object_plan.proofs.PackedLemmas.{planned-extends}
use Rattle.object_plan.proofs.plan_on.plan_window.Goals as goal

pub plan_extended-requires-clause-grows : goal.plan_extended-requires-clause-grows
plan_extended-requires-clause-grows c =
    let n = c.args.geometry.now in
    let small = space-few n c.page.ensures.range in
    let payload = c.requires.can.payload in
    all-map (IsSegment n) (λ (p : Pair). p.bytes + c.args.change.added < 2 ^ 64)
    (λ p segment. let most = segment.most in omega (arith, most, small, payload)) (pairs_of c.args.window.now) c.requires.segments

pub returns-then-extends : goal.returns-then-extends
returns-then-extends c =
    let n = c.args.geometry.now in
    let window = c.args.window.now in
    let change = c.args.change in
    let pages = extent_pages c.args.spare in
    let grows : fit_appended n.page (pairs_of window) pages (change_on window change) ≡ Extend =
    ap (λ (k : ℕ). fit_appended k (pairs_of window) pages change) (sym c.page.ensures.exact)
    ∙ c.extends.ensures.0 c.if-extends.true in
    let means = extend-means n.page (pairs_of window) pages (change_on window change) grows in
    let same = planned-extends n c.args.threshold (pairs_of window) pages (change_on window change) grows in
    if_ok c.plan_extended.result (λ p made. subst (λ (q : Plan). IsPlanOn n q change window p) (sym same)
    (made n c.args.threshold c.args.spare c.requires means.2)) c.plan_extended.ensures

use Rattle.std.proofs.Common.{◌<◌, ap, sym, subst, arith, ◌∙◌}
use Rattle.std.specs.Prelude.{option_to_list}
use Rattle.tree_model.specs.Range.{pairs_of}
use Rattle.edit_plan.specs.Planned.{IsEntry}
use Rattle.edit_plan.specs.Spots.{IsBack}
use Rattle.edit_plan.proofs.PlanLemmas.{entries-have}
use Rattle.edit_plan.proofs.SpotLemmas.{each-pair}
use Rattle.edit_plan.proofs.WindowLemmas.{back-border, back-end, back-inside, spot-inside}
use Rattle.edit_plan.proofs.back.back_of.Goals as goal

pub returns-then-spot-window : goal.returns-then-spot-window
returns-then-spot-window c =
    let n = c.args.geometry.now in
    let w = c.args.window.now in
    let spot = c.spot_of-spot.result in
    subst (IsBack n.page c.args.place (pairs_of w)) (sym c.whole.ensures)
    (back-end n.page w c.args.place spot.ended spot.inside (entries-have n (pairs_of w) c.requires) c.spot_of-spot.ensures.spot
    c.if-spot-window.true)

pub returns-then-spot-eq0 : goal.returns-then-spot-eq0
returns-then-spot-eq0 c =
    let n = c.args.geometry.now in
    let w = c.args.window.now in
    let spot = c.spot_of-spot.result in
    subst (IsBack n.page c.args.place (pairs_of w)) (sym c.whole-then-spot-eq0.ensures)
    (back-border n.page w c.args.place spot.ended spot.inside (entries-have n (pairs_of w) c.requires) c.spot_of-spot.ensures.spot
    c.if-spot-window.false c.if-spot-eq0.true)

pub rest-requires-clause-entry : goal.rest-requires-clause-entry
rest-requires-clause-entry c =
    each-pair (IsEntry c.args.geometry.now) c.args.window.now c.spot_of-spot.result.ended c.requires c.if-spot-window.false

pub rest-requires-clause-within : goal.rest-requires-clause-within
rest-requires-clause-within c =
    let n = c.args.geometry.now in
    let w = c.args.window.now in
    let spot = c.spot_of-spot.result in
    let some : 0 < spot.inside = omega (arith, c.if-spot-eq0.false) in
    (spot-inside n.page w c.args.place spot.ended spot.inside (entries-have n (pairs_of w) c.requires) c.spot_of-spot.ensures.spot
    c.if-spot-window.false some).less

pub returns : goal.returns
returns c =
    let n = c.args.geometry.now in
    let w = c.args.window.now in
    let spot = c.spot_of-spot.result in
    let some : 0 < spot.inside = omega (arith, c.if-spot-eq0.false) in
    back-inside n.page w c.args.place spot.ended spot.inside c.rest.result (entries-have n (pairs_of w) c.requires)
    c.spot_of-spot.ensures.spot c.if-spot-window.false some c.rest.ensures.head c.rest.ensures.right
    (ap option_to_list c.rest.ensures.after ∙ c.pair_at.ensures)

use Rattle.std.proofs.Common.{◌≡◌, ◌<◌, ◌≤◌, ◌⊎◌, inl, inr, length, sym, arith}
use Rattle.edit_plan.proofs.WindowLemmas.{left-none, left-some}
use Rattle.edit_plan.proofs.front.left.Goals as goal
use Rattle.edit_plan.proofs.front.left.Goals.{then-spot-eq0-via-then-spot-eq0, then-spot-eq0-via-else-spot-eq0+then-spot-window}

pub returns-then-spot-eq0 : goal.returns-then-spot-eq0
returns-then-spot-eq0 c =
    let spot = c.args.spot in
    let why : (spot.inside ≡ 0) ⊎ (length c.args.window.now ≤ spot.ended) =
    elim c.then-spot-eq0.branch [
      | then-spot-eq0-via-then-spot-eq0 w ↦ inl w.if-spot-eq0.true
      | then-spot-eq0-via-else-spot-eq0+then-spot-window w ↦ inr w.if-spot-window.true
    ] in
    λ place lies. sym (left-none c.args.window.now place spot.ended spot.inside c.requires lies why)

pub returns : goal.returns
returns c =
    let spot = c.args.spot in
    let some : 0 < spot.inside = omega (arith, c.if-spot-eq0.false) in
    λ place lies. sym (left-some c.args.window.now place spot.ended spot.inside c.requires lies some c.if-spot-window.false)

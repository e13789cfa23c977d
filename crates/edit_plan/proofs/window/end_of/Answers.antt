use Rattle.std.proofs.Common.{◌≡◌, ◌≤◌, [], length, refl, ap, arith}
use Rattle.std.proofs.lemmas.List.{drop_all}
use Rattle.tree_model.specs.Range.{pairs_of}
use Rattle.tree_model.specs.Tree.{bytes_of}
use Rattle.edit_plan.proofs.SpotLemmas.{pairs-length, rest-bytes}
use Rattle.edit_plan.proofs.window.end_of.Goals as goal

pub returns-in_err-end : goal.returns-in_err-end
returns-in_err-end c =
    let rest = rest-bytes c.args.window.now c.loop-segment.segment-index c.loop-segment-test.true in
    let big = rw c.in_err-end.was at c.checked_add.ensures in
    rw c.from_residual.ensures (λ fits. big (omega (arith, rest, c.loop-segment.invariant.reaches, fits)))

pub loop-segment-preserved : goal.loop-segment-preserved
loop-segment-preserved c =
    let rest = rest-bytes c.args.window.now c.loop-segment.segment-index c.loop-segment-test.true in
    let next = rw c.in_ok-end.was at c.checked_add.ensures in
    record {
      reaches = omega (arith, rest, c.loop-segment.invariant.reaches, next.1);
      fits = omega (arith, next.0, next.1);
    }

pub returns : goal.returns
returns c =
    let pairs = pairs_of c.args.window.now in
    let i = c.loop-segment.segment-index in
    let long = pairs-length c.args.window.now in
    let past : length pairs ≤ i = omega (arith, long, c.loop-segment-test.false) in
    let nothing = ap bytes_of (drop_all i pairs past) in
    let none : bytes_of [] ≡ 0 = refl in
    let all = c.loop-segment.invariant.reaches in
    (omega (arith, nothing, none, all, c.loop-segment.invariant.fits), omega (arith, nothing, none, all))

use Rattle.std.proofs.Common.{◌≡◌, ◌≤◌, [], length, refl, ap, arith}
use Rattle.std.proofs.lemmas.List.{drop_all}
use Rattle.tree_model.specs.Range.{pairs_of}
use Rattle.tree_model.specs.Tree.{bytes_of}
use Rattle.edit_plan.proofs.SpotLemmas.{pairs-length, rest-bytes}
use Rattle.object_plan.proofs.usable.bytes_of.Goals as goal

pub overflow_add-bytes : goal.overflow_add-bytes
overflow_add-bytes c =
    let rest = rest-bytes c.args.window.now c.loop-segment.segment-index c.loop-segment-test.true in
    omega (arith, rest, c.loop-segment.invariant, c.requires.fits)

pub loop-segment-preserved : goal.loop-segment-preserved
loop-segment-preserved c =
    let rest = rest-bytes c.args.window.now c.loop-segment.segment-index c.loop-segment-test.true in
    omega (arith, rest, c.loop-segment.invariant)

pub returns : goal.returns
returns c =
    let pairs = pairs_of c.args.window.now in
    let i = c.loop-segment.segment-index in
    let long = pairs-length c.args.window.now in
    let past : length pairs ≤ i = omega (arith, long, c.loop-segment-test.false) in
    let nothing = ap bytes_of (drop_all i pairs past) in
    let none : bytes_of [] ≡ 0 = refl in
    omega (arith, nothing, none, c.loop-segment.invariant)

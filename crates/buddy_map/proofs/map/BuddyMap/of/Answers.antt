-- A space has at most as many pages as the greatest order.
use Rattle.std.proofs.Common.{◌≤◌, ◌^◌, ap, ◌∙◌, arith, rules, length}
use Rattle.std.proofs.Math.Pow.{pow_mono}
use Rattle.block_model.specs.Block.{count_of}
use Rattle.block_model.proofs.Changes.{count-le-length}
use Rattle.buddy_map.proofs.map.BuddyMap.of.Goals as goal

pub overflow_cast-free : goal.overflow_cast-free
overflow_cast-free c =
    let most : 2 ^ c.args.order ≤ 2 ^ 14 = pow_mono {i = c.args.order} {j = 14} c.requires.high in
    omega (arith, c.count_pages-free.ensures, count-le-length c.deref.result.now, ap length c.deref.ensures.value)

pub invariant_of-result : goal.invariant_of-result
invariant_of-result c =
    let most : 2 ^ c.args.order ≤ 2 ^ 14 = pow_mono {i = c.args.order} {j = 14} c.requires.high in
    (c.count_pages-free.ensures ∙ ap count_of c.deref.ensures.value, omega (arith, c.requires.whole), search rules)

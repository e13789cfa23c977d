-- A bitmap has eight pages a byte.
use Rattle.std.proofs.Common.{◌≤◌, ◌^◌, ap, arith, length}
use Rattle.std.proofs.Math.Pow.{pow_mono}
use Rattle.block_model.proofs.Bitmaps.{length-unpacked}
use Rattle.buddy_map.proofs.map.BuddyMap.from_bits.Goals as goal

pub unpack-requires : goal.unpack-requires
unpack-requires c = let most : 2 ^ c.args.order ≤ 2 ^ 14 = pow_mono {i = c.args.order} {j = 14} c.requires.high in omega arith

pub of-requires-clause-whole : goal.of-requires-clause-whole
of-requires-clause-whole c = omega (arith, ap length c.in_ok-pages.ensures, length-unpacked c.args.bits.now)

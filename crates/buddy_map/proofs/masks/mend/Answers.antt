-- Row by row, from the pages up to the whole space.
use Rattle.std.proofs.Common.{◌≡◌, ℕ, length, ◌+◌, ◌*◌, ◌-◌, ◌/◌, ◌%◌, ◌^◌, ◌≤◌, refl, subst, arith}
use Rattle.std.proofs.Math.Pow.{pow_mono}
use Rattle.std.proofs.lemmas.Nat.{one_shl}
use Rattle.buddy_map.specs.Tree.{IsMended}
use Rattle.buddy_map.proofs.Mending.{IsRowMended, row_of_pages, row_up, fits_row, mended_row, mended_pages, all_mended}
use Rattle.buddy_map.proofs.masks.mend.Goals as goal

pub write_pages-requires : goal.write_pages-requires
write_pages-requires c =
    let most : 2 ^ c.args.whole ≤ 2 ^ 14 = pow_mono {i = c.args.whole} {j = 14} c.requires.small in
    record { within = c.requires.within; small = omega arith; size = omega (arith, c.requires.beside.size) }

pub loop-order-init : goal.loop-order-init
loop-order-init c = record {
  row = row_of_pages c.args.whole c.args.first c.args.n (length c.args.pages.now + c.args.first)
      (length c.args.pages.now + c.args.first + c.args.n - 1) c.requires.some (omega arith) refl;
  mended = mended_pages c.args.pages.now c.args.whole c.args.first c.args.n c.args.masks.now c.write_pages.new.masks c.requires.pages
      c.requires.some c.requires.beside
      (record { size = c.write_pages.ensures.size; written = c.write_pages.ensures.written; beside = c.write_pages.ensures.beside });
}

pub mend_row-requires : goal.mend_row-requires
mend_row-requires c =
    let order = c.loop-order.order in
    let half : 1 * 2 ^ order % 65536 ≡ 2 ^ order = one_shl order 16 (omega arith) in
    let most : 2 ^ order ≤ 2 ^ 14 = pow_mono {i = order} {j = 14} (omega arith) in
    let fits = fits_row c.args.whole c.args.first c.args.n (order + 1) (c.loop-order.low / 2) (c.loop-order.high / 2) (omega arith)
    (omega arith) c.requires.some (omega arith)
    (row_up c.args.whole c.args.first c.args.n order c.loop-order.low c.loop-order.high (omega arith) c.loop-order.invariant.row) in
    record {
      half = omega (arith, half, most);
      some = fits.some;
      apart = fits.apart;
      within = omega (arith, fits.within, c.loop-order.invariant.mended.size);
    }

pub loop-order-preserved : goal.loop-order-preserved
loop-order-preserved c =
    let order = c.loop-order.order in
    let half : 1 * 2 ^ order % 65536 ≡ 2 ^ order = one_shl order 16 (omega arith) in
    let up : order + 2 ≡ (order + 1) + 1 = omega arith in
    let row = row_up c.args.whole c.args.first c.args.n order c.loop-order.low c.loop-order.high (omega arith) c.loop-order.invariant.row in
    let written : IsRowMended (2 ^ order) (c.loop-order.low / 2) (c.loop-order.high / 2) c.loop-order.masks c.mend_row.new.masks =
    subst (λ (h : ℕ). IsRowMended h (c.loop-order.low / 2) (c.loop-order.high / 2) c.loop-order.masks c.mend_row.new.masks) half
    (record { size = c.mend_row.ensures.size; mended = c.mend_row.ensures.mended; beside = c.mend_row.ensures.beside }) in
    record {
      row = row;
      mended = subst (λ (k : ℕ). IsMended c.args.pages.now c.args.whole c.args.first c.args.n k c.mend_row.new.masks) up
          (mended_row c.args.pages.now c.args.whole c.args.first c.args.n order (c.loop-order.low / 2) (c.loop-order.high / 2)
          c.loop-order.masks c.mend_row.new.masks (omega arith) c.requires.some (omega arith) row c.loop-order.invariant.mended written);
    }

pub returns : goal.returns
returns c =
    all_mended c.args.pages.now c.args.whole c.args.first c.args.n (c.loop-order.order + 1) c.loop-order.masks c.requires.small
    c.requires.pages (omega arith) c.loop-order.invariant.mended

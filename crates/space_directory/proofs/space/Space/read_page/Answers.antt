-- The order of a store's spaces is at most 14, and a directory fits a page.
use Rattle.std.proofs.Common.{ℕ, ◌*◌, ◌^◌, ◌≤◌, sym, subst, arith}
use Rattle.geometry_model.proofs.NumberLaws.{page_size-low, page_size-high, order-high}
use Rattle.space_directory.proofs.space.Space.read_page.Goals as goal

pub overflow_cast-order : goal.overflow_cast-order
overflow_cast-order g c = omega (arith, order-high c.args.geometry.now c.page-size.ensures.range, c.order-order.ensures)

pub read_space-requires-clause-numbers : goal.read_space-requires-clause-numbers
read_space-requires-clause-numbers g c =
    let range = c.page-size.ensures.range in
    let order = c.order-order.ensures in
    let size = c.page-size.ensures.exact in
    let low = page_size-low c.args.geometry.now.page range.page_size in
    let high = page_size-high c.args.geometry.now.page range.page_size in
    let deep = order-high c.args.geometry.now range in
    let half : 2 ^ c.order-order.result ≤ 4 * c.args.geometry.now.page =
    subst (λ (k : ℕ). 2 ^ k ≤ 4 * c.args.geometry.now.page) (sym order) range.order_high in
    record {
      low = omega (arith, range.order_low, deep, order);
      high = omega (arith, deep, order);
      fits = omega (arith, half, low, size);
      most = omega (arith, high, size);
    }

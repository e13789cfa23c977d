-- The least order of the whole's mask that fits, and the leftmost block of it.
use Rattle.std.proofs.Common.{◌≡◌, ℕ, ◌+◌, ◌*◌, ◌-◌, ◌%◌, ◌^◌, ◌<◌, ◌≤◌, Some, subst, arith}
use Rattle.std.proofs.Math.Pow.{pow_mono}
use Rattle.std.proofs.lemmas.Nat.{shl_below}
use Rattle.std.specs.Int.{bit_at}
use Rattle.std.specs.Prelude.{slice_index}
use Rattle.block_model.specs.Block.{IsPlace}
use Rattle.buddy_map.proofs.Descent.{root, placed, not_placed, order_fits}
use Rattle.buddy_map.proofs.place.place_of.Goals as goal

pub least_from-requires : goal.least_from-requires
least_from-requires c = omega (arith, c.order_of.ensures.least c.args.whole c.requires.fits, c.requires.small)

pub returns-in_default : goal.returns-in_default
returns-in_default c = λ free tree.
    not_placed free c.args.whole c.args.n c.order_of.result tree.pages c.order_of.ensures
    (subst (λ (m : ℕ). (i : ℕ) → c.order_of.result ≤ i → bit_at m i ≡ 0) (root free c.args.whole c.args.masks.now tree)
    c.in_default.ensures.none)

pub leftmost-requires-clause-order : goal.leftmost-requires-clause-order
leftmost-requires-clause-order c =
    order_fits (slice_index c.args.masks.now 1) c.args.whole c.in-Some.order c.requires.orders c.in-Some.ensures.found.1

pub overflow_shl-result : goal.overflow_shl-result
overflow_shl-result c =
    let fits = order_fits (slice_index c.args.masks.now 1) c.args.whole c.in-Some.order c.requires.orders c.in-Some.ensures.found.1 in
    omega (arith, fits, c.requires.small)

-- a number below 2 ^ 32
same_number : (page : ℕ) → page < 2 ^ 14 → page ≡ page % 4294967296
same_number page small = omega arith

page_below : (whole order number : ℕ) → whole ≤ 14 → order ≤ whole → number < 2 ^ (whole - order) → number * 2 ^ order < 2 ^ 14
page_below whole order number small fits few =
    let all : (whole - order) + order ≡ whole = omega arith in
    let below : number * 2 ^ order < 2 ^ whole =
    subst (λ (k : ℕ). number * 2 ^ order < 2 ^ k) all (shl_below number (whole - order) order few) in
    let most : 2 ^ whole ≤ 2 ^ 14 = pow_mono {i = whole} {j = 14} small in omega arith

pub returns : goal.returns
returns c =
    let order = c.in-Some.order in
    let number = c.leftmost.result in
    let fits = order_fits (slice_index c.args.masks.now 1) c.args.whole order c.requires.orders c.in-Some.ensures.found.1 in
    let same = same_number (number * 2 ^ order)
    (page_below c.args.whole order number c.requires.small fits c.leftmost.ensures.few) in
    λ free tree. subst (λ (page : ℕ). IsPlace free c.args.n (Some page)) same
    (placed free c.args.whole c.args.n c.order_of.result order number tree.pages c.order_of.ensures c.in-Some.ensures.found.0
    (subst (λ (m : ℕ). (i : ℕ) → c.order_of.result ≤ i → bit_at m i ≡ 1 → order ≤ i) (root free c.args.whole c.args.masks.now tree)
    c.in-Some.ensures.least)
    (c.leftmost.ensures.leftmost free tree c.in-Some.ensures.found.1))

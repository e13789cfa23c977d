-- The lowest bit of the lowest word that has a page.
use Rattle.std.proofs.Common.{◌+◌, ◌*◌, ◌<◌, ◌^◌, sym, ◌∙◌, arith}
use Rattle.page_set.proofs.WordLaws.{page_at}
use Rattle.page_set.proofs.words.first_page.Goals as goal

-- the page that was found is in the set, and so is a number of 32 bits
found : (c : goal.After-lowest_bit-bit) → 64 * c.in-Some.key + c.lowest_bit-bit.result < 2 ^ 32
found c =
    let page = 64 * c.in-Some.key + c.lowest_bit-bit.result in
    let there =
    page_at c.loop-key.words c.in-Some.key c.in-Some.word c.lowest_bit-bit.result c.in-Some.ensures.found
    c.lowest_bit-bit.ensures.within c.lowest_bit-bit.ensures.set in
    omega (arith, c.requires page (sym (c.loop-key.invariant page) ∙ there))

pub overflow_mul-result : goal.overflow_mul-result
overflow_mul-result c = omega (arith, found c)

pub overflow_add-result : goal.overflow_add-result
overflow_add-result c = omega (arith, found c)

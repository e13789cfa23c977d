use Rattle.std.proofs.Common.{◌≡◌, true, false, sym, ◌∙◌, arith}
use Rattle.plain_plan.specs.Store.{numbers_of}
use Rattle.model_cli.proofs.WordLemmas.{same-words}
use Rattle.model_cli.proofs.words.store_of.Goals as goal

pub returns-else-is_in_range : goal.returns-else-is_in_range
returns-else-is_in_range c n are =
    let is = same-words (numbers_of c.in_ok-store.store) n (omega arith) (omega arith) (omega arith) (omega arith)
    (omega arith) are.range (sym c.in_ok-store.ensures.numbers ∙ are.spelling) in
    let never : false ≡ true = c.if-is_in_range.ensures.1 is in
    cc

-- None of the numbers that were seen is the page.
use Rattle.std.proofs.Common.{◌≡◌, drop}
use Rattle.tree_splice.specs.Fresh.{is_on_pages}
use Rattle.tree_splice.proofs.fresh_pages.is_known.Given as goal

abbrev pub invariant-loop-number : goal.invariant-loop-number
invariant-loop-number g l = is_on_pages l.page l.numbers ≡ is_on_pages l.page (drop l.number-index l.numbers)

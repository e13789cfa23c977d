use Rattle.std.proofs.Common.{◌≡◌, ℕ, ◌<◌, ◌≤◌, false}
use Rattle.block_model.specs.Block.{has_page}
use Rattle.space_directory.proofs.runs.next_free.Given as goal

-- no page that was passed is free
abbrev pub invariant-loop-at : goal.invariant-loop-at
invariant-loop-at l = (p : ℕ) → l.from ≤ p → p < l.at → has_page l.map p ≡ false

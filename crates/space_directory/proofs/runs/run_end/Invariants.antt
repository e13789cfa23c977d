use Rattle.std.proofs.Common.{◌≡◌, ℕ, ◌<◌, ◌≤◌}
use Rattle.block_model.specs.Block.{has_page}
use Rattle.space_directory.proofs.runs.run_end.Given as goal

-- the pages that were passed are like the first
abbrev pub invariant-loop-end : goal.invariant-loop-end
invariant-loop-end l = (p : ℕ) → l.at ≤ p → p < l.end → has_page l.map p ≡ has_page l.map l.at

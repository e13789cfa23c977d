use Rattle.std.proofs.Common.{ℕ, ◌+◌, ◌*◌, ◌<◌, ◌≤◌, drop}
use Rattle.std.specs.Int.{w64, from_be_bytes}
use Rattle.node_codec.proofs.read.has_bytes_under_each.Given as goal

abbrev pub invariant-loop-i : goal.invariant-loop-i
invariant-loop-i l = (k : ℕ) → k < l.i → 1 ≤ from_be_bytes w64 (drop (8 + 12 * k) l.page)

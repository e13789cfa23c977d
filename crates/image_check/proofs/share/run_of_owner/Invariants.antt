use Rattle.std.proofs.Common.{◌≡◌, ◌<◌, ◌≤◌, ◌+◌, ℕ}
use Rattle.image_check.specs.Owners.{owner_at}
use Rattle.image_check.proofs.share.run_of_owner.Given as goal

abbrev pub invariant-loop-count : goal.invariant-loop-count
invariant-loop-count l = record {
  same : (q : ℕ) → l.first ≤ q → q < l.first + l.count → owner_at l.walk q ≡ owner_at l.walk l.first;
}

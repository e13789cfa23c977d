use Rattle.std.proofs.Common.{◌≡◌, ℕ, ◌/◌, ◌<◌, ◌≤◌, IsTrue}
use Rattle.page_set.specs.Members.{Keeps}
use Rattle.page_set.specs.Words.{has_word, word}
use Rattle.page_set.proofs.runs.make_room.Given as goal

-- the words so far are there, and all hold what they held
abbrev pub invariant-loop-key : goal.invariant-loop-key
invariant-loop-key l = record {
  there : (k : ℕ) → l.first / 64 ≤ k → k < l.key → IsTrue (has_word l.words k);
  same : (k : ℕ) → word l.words k ≡ word l.fn.words k;
  keeps : Keeps (has_word l.fn.words) (has_word l.words);
}

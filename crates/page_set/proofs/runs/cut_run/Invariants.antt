use Rattle.std.proofs.Common.{◌≡◌, ◌+◌, ◌-◌, ◌≤◌}
use Rattle.page_set.specs.Members.{AreSame, IsWithoutRun, count_on}
use Rattle.page_set.specs.Words.{has_word, in_words}
use Rattle.page_set.proofs.runs.cut_run.Given as goal

-- the pages before `at` are out
abbrev pub invariant-loop-at : goal.invariant-loop-at
invariant-loop-at l = record {
  from : l.first ≤ l.at;
  to : l.at ≤ l.first + l.n;
  cut : IsWithoutRun l.first (l.at - l.first) (in_words l.fn.words) (in_words l.words);
  room : AreSame (has_word l.fn.words) (has_word l.words);
  size : l.removed ≡ count_on (in_words l.fn.words) l.first (l.at - l.first);
}

abbrev pub decreases-loop-at : goal.decreases-loop-at
decreases-loop-at l = l.first + l.n - l.at

use Rattle.std.proofs.Common.{◌-◌, ◌≤◌, ◌^◌}
use Rattle.page_set.specs.Members.{AllOn, IsWithoutRun}
use Rattle.page_set.specs.Words.{in_words}
use Rattle.page_set.proofs.runs.cut_first_run.Given as goal

-- the pages before `at` were in the set, and are out
abbrev pub invariant-loop-words : goal.invariant-loop-words
invariant-loop-words l = record {
  from : l.first ≤ l.at;
  all : AllOn (in_words l.fn.words) l.first (l.at - l.first);
  cut : IsWithoutRun l.first (l.at - l.first) (in_words l.fn.words) (in_words l.words);
}

abbrev pub decreases-loop-words : goal.decreases-loop-words
decreases-loop-words l = 2 ^ 32 - l.at

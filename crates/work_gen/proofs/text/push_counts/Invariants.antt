use Rattle.std.proofs.Common.{◌≡◌, ◌≤◌, ◌++◌, drop}
use Rattle.work_gen.specs.Summary.{count_words, summary_lines}
use Rattle.work_gen.proofs.text.push_counts.Given as goal

-- what is written and the lines that are left are all of them
abbrev pub invariant-counts : goal.invariant-counts
invariant-counts l = record {
  whole : l.text.items ++ summary_lines (drop l.place count_words) (drop l.place l.fn.counts)
      ≡ l.fn.text.items ++ summary_lines count_words l.fn.counts;
  within : l.place ≤ 17;
}

use Rattle.std.specs.BTreeMap.{btree_map_len}
use Rattle.page_set.specs.Members.{AreSame}
use Rattle.page_set.specs.Words.{in_words}
use Rattle.page_set.proofs.words.first_page.Given as goal

-- the words that went had no page
abbrev pub invariant-loop-key : goal.invariant-loop-key
invariant-loop-key l = AreSame (in_words l.fn.words) (in_words l.words)

abbrev pub decreases-loop-key : goal.decreases-loop-key
decreases-loop-key l = btree_map_len l.words

use Rattle.std.proofs.Common.{◌≡◌, length}
use Rattle.buddy_map.proofs.tests.the_masks_answer_as_a_plain_walk.Given as goal

-- both have 64 pages
abbrev pub invariant-loop-turn : goal.invariant-loop-turn
invariant-loop-turn g l = record { map : length l.map ≡ 64; pages : length l.pages.items ≡ 64 }

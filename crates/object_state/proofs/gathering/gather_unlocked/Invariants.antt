use Rattle.std.proofs.Common.{◌-◌, ◌^◌}
use Rattle.object_state.proofs.GatherLemmas.{IsGathering}
use Rattle.object_state.proofs.gathering.gather_unlocked.Given as goal

-- the pages before `at` were gathered
abbrev pub invariant-loop-span : goal.invariant-loop-span
invariant-loop-span g l = IsGathering l.held l.at l.gone l.fn.locked l.locked

abbrev pub decreases-loop-span : goal.decreases-loop-span
decreases-loop-span g l = 2 ^ 32 - l.at

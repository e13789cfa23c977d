use Rattle.std.proofs.Common.{◌≡◌}
use Rattle.block_model.specs.Block.{count_of}
use Rattle.store_parts.proofs.SpaceLemmas.{IsGivingSpace}
use Rattle.store_parts.proofs.returning.give_space.Given as goal

-- the pages that are no longer free came back
abbrev pub invariant-runs : goal.invariant-runs
invariant-runs g l = record {
  given : IsGivingSpace g.Y.S.Span.tells l.fn.space l.space (g.Y.Bay.device l.fn.bay) (g.Y.Bay.device l.bay);
  faults : (g.Y.Bay.device l.bay).faults ≡ (g.Y.Bay.device l.fn.bay).faults;
}

abbrev pub decreases-runs : goal.decreases-runs
decreases-runs g l = count_of l.space.free

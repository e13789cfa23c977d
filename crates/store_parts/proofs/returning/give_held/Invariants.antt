use Rattle.std.proofs.Common.{◌≡◌, length}
use Rattle.store_parts.proofs.HeldLemmas.{IsGivingHeld}
use Rattle.store_parts.proofs.returning.give_held.Given as goal

-- the pages that are no longer held came back
abbrev pub invariant-spans : goal.invariant-spans
invariant-spans g l = record {
  given : IsGivingHeld g.Y.S.Span.tells l.fn.held l.held (g.Y.Bay.device l.fn.bay) (g.Y.Bay.device l.bay);
  faults : (g.Y.Bay.device l.bay).faults ≡ (g.Y.Bay.device l.fn.bay).faults;
}

abbrev pub decreases-spans : goal.decreases-spans
decreases-spans g l = length l.held.spans

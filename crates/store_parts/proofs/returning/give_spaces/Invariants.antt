use Rattle.std.proofs.Common.{◌≡◌, vec_len}
use Rattle.store_parts.specs.Returning.{ShowsSpace, is_free_of}
use Rattle.store_parts.proofs.ReturningLemmas.{AreGiven}
use Rattle.store_parts.proofs.returning.give_spaces.Given as goal

-- the free pages of the spaces behind those that are left came back
abbrev pub invariant-list : goal.invariant-list
invariant-list g l = record {
  given : AreGiven is_free_of ShowsSpace g.Y.S.Span.tells
      l.fn.spaces.items l.spaces.items (g.Y.Bay.device l.fn.bay) (g.Y.Bay.device l.bay);
  faults : (g.Y.Bay.device l.bay).faults ≡ (g.Y.Bay.device l.fn.bay).faults;
}

abbrev pub decreases-list : goal.decreases-list
decreases-list g l = vec_len l.spaces

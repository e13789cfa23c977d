use Rattle.std.proofs.Common.{◌≡◌, vec_len}
use Rattle.span_store.specs.Held.{has}
use Rattle.store_parts.specs.Returning.{ShowsHeld}
use Rattle.store_parts.proofs.ReturningLemmas.{AreGiven}
use Rattle.store_parts.proofs.returning.give_objects.Given as goal

-- the pages of the objects behind those that are left came back
abbrev pub invariant-list : goal.invariant-list
invariant-list g l = record {
  given : AreGiven (λ x. has (g.B.Stored.pages x.body)) (λ at x. ShowsHeld at (g.B.Stored.pages x.body)) g.Y.S.Span.tells
      l.fn.objects.items l.objects.items (g.Y.Bay.device l.fn.bay) (g.Y.Bay.device l.bay);
  faults : (g.Y.Bay.device l.bay).faults ≡ (g.Y.Bay.device l.fn.bay).faults;
}

abbrev pub decreases-list : goal.decreases-list
decreases-list g l = vec_len l.objects

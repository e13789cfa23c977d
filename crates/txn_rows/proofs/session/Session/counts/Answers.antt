-- The space is back in its place.
use Rattle.std.proofs.Common.{refl, ap, ◌∙◌}
use Rattle.txn_rows.proofs.SessionLemmas.{moved, some-space}
use Rattle.txn_rows.proofs.session.Session.counts.Goals as goal

pub enter-space-requires-clause-number : goal.enter-space-requires-clause-number
enter-space-requires-clause-number g c = some-space _ _ _ _ _ _ _ _ _ c.self.invariant

pub invariant_of-self : goal.invariant_of-self
invariant_of-self g c =
    moved _ _ _ _ _ c.self.inside.txn _ _ _ _ _ c.self.invariant
    (record {
      frame = ap (λ r. r.frame) c.leave.ensures.rest ∙ ap (λ r. r.frame) c.enter-space.ensures.rest;
      entered = ap (λ r. r.entered) c.leave.ensures.rest;
    }) refl

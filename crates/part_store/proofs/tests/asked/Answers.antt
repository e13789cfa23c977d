-- The pieces lie in the space.
use Rattle.std.proofs.Common.{true, sym, subst}
use Rattle.superdirectory.specs.Rest.{Frame}
use Rattle.superdirectory.specs.Grants.{AreRunsIn}
use Rattle.part_store.proofs.tests.asked.Goals as goal

pub give_all-requires-clause-runs : goal.give_all-requires-clause-runs
give_all-requires-clause-runs c =
    subst (λ (f : Frame). AreRunsIn (λ g. g.space) (λ g. g.span.first) (λ g. g.span.pages) true f c.in-Ok.granted.segments.items)
    (sym c.in-Ok.ensures.rest.frame) c.in-Ok.ensures.runs.inside

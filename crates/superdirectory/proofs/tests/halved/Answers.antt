-- The list was empty, so all of it is the pieces.
use Rattle.std.proofs.Common.{◌≡◌, List, drop, true, sym, ap, subst}
use Rattle.page_port.specs.declared.mem_span.MemSpan.{MemSpan}
use Rattle.space_directory.specs.declared.segment.Segment.{Segment}
use Rattle.superdirectory.specs.Rest.{Frame}
use Rattle.superdirectory.specs.Grants.{AreRunsIn}
use Rattle.superdirectory.proofs.tests.halved.Goals as goal

pub give_all-requires-clause-runs : goal.give_all-requires-clause-runs
give_all-requires-clause-runs c =
    let items = c.grant_parts.new.into.items in
    let all : drop _ items ≡ items = ap (λ n. drop n items) c.in_ok-into.ensures.len in
    let InFrame : Frame → List (Segment MemSpan) → Type 0 =
    λ frame runs. AreRunsIn (λ g. g.space) (λ g. g.span.first) (λ g. g.span.pages) true frame runs in
    subst (λ (frame : Frame). InFrame frame items) (sym c.in-Ok.ensures.rest.frame)
    (subst (InFrame _) all c.in-Ok.ensures.pieces.pieces.runs)

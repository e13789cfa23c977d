-- The working tree stands on held pages, and has fewer bytes than a store.
use Rattle.std.proofs.Common.{◌≤◌, ◌^◌, IsTrue, refl, ap, arith}
use Rattle.fault_count.specs.Counts.{Meter}
use Rattle.object_state.proofs.WorkingTreeLemmas.{told-short, told-working}
use Rattle.object_state.proofs.editing.plan_edit.Goals as goal

pub returns-then-working-ge-MOST_BYTES : goal.returns-then-working-ge-MOST_BYTES
returns-then-working-ge-MOST_BYTES g c =
    let kept = c.requires.kept.3 in
    let counts = c.blame.ensures.counts in
    let page = ap (λ (m : Meter). m.page) counts in
    let read = ap (λ (m : Meter). m.read) counts in
    let written = ap (λ (m : Meter). m.written) counts in
    let long : 2 ^ 62 ≤ c.args.working.now.root.length = omega (arith, c.if-working-ge-MOST_BYTES.true) in
    let untold : IsTrue g.P.S.Span.tells → ⊥ = λ tell.
    let short = told-short g.P.S.Span.tells c.args.geometry.now c.requires.kept.0 c.args.working.now c.args.held.now c.args.cache.now
    c.requires.kept.1 c.requires.kept.2 c.page-page.ensures.range kept tell in
    absurd (omega (arith, short, long)) in
    record {
      change = tt;
      can = tt;
      ready = tt;
      told = tt;
      granted = λ pages same. absurd cc;
      nodes = kept.nodes;
      uses = record {
        used = record {
          page = page;
          faults = c.blame.ensures.kept;
          read = omega (arith, read);
          written = omega (arith, written);
        };
        written = written;
      };
      cause = record {
        kept = c.blame.ensures.kept;
        raised = λ failed. c.blame.ensures.faults untold;
        still = λ never. absurd (never refl);
      };
    }

pub plan_change-requires-clause-told : goal.plan_change-requires-clause-told
plan_change-requires-clause-told g c =
    told-working g.P.S.Span.tells c.args.geometry.now c.requires.kept.0 c.args.working.now c.args.held.now c.args.cache.now
    c.requires.kept.1 c.requires.kept.2 c.requires.kept.3

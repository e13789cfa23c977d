use Rattle.held_parts.specs.Entries.{HaveRuns}
use Rattle.std.proofs.Common.{length}
use Rattle.part_bytes.specs.Parts.{CanWriteParts}
use Rattle.object_change.proofs.WriteLemmas.{fresh-have, fresh-write, lists-as}
use Rattle.object_change.proofs.writing.put_on_runs.Goals as goal

pub new_entries-requires : goal.new_entries-requires
new_entries-requires g c = record {
  runs = lists-as HaveRuns c.args.planned.now.parts.items c.as_slice-parts.result.now c.args.granted.now.counts.items
      c.as_slice-counts.result.now c.args.granted.now.runs.items c.as_slice-runs.result.now c.as_slice-parts.ensures.value
      c.as_slice-counts.ensures.value c.as_slice-runs.ensures.value
      (fresh-have g.P.S.Span.tells c.args.geometry.now c.args.working.now c.args.planned.now c.args.payload.now
      c.args.granted.now.counts.items c.args.granted.now.runs.items c.args.held.now (g.P.Port.meter c.args.port.now) c.page.ensures.range
      c.requires.fit c.requires.can);
}

pub write_parts-requires : goal.write_parts-requires
write_parts-requires g c = record {
  can = lists-as (λ parts counts runs. CanWriteParts g.P.S.Span.tells (g.P.Port.meter c.args.port.now).page (length c.args.scratch.now)
      (length c.args.payload.now) parts counts runs c.args.held.now) c.args.planned.now.parts.items c.as_slice-parts.result.now
      c.args.granted.now.counts.items c.as_slice-counts.result.now c.args.granted.now.runs.items c.as_slice-runs.result.now
      c.as_slice-parts.ensures.value c.as_slice-counts.ensures.value c.as_slice-runs.ensures.value
      (fresh-write g.P.S.Span.tells c.args.geometry.now c.args.working.now c.args.planned.now c.args.payload.now
      c.args.granted.now.counts.items c.args.granted.now.runs.items c.args.held.now (g.P.Port.meter c.args.port.now)
      (length c.args.scratch.now) c.page.ensures.range c.requires.fit c.requires.can c.requires.scratch);
}

-- The one made part on the spare: what is asked to write it, and what that leaves.
use Rattle.std.proofs.Common.{ℕ, [], ◌∷◌, List, sym, ap, subst, length, map, ◌∙◌}
use Rattle.edit_parts.specs.declared.part.Part.{Part}
use Rattle.edit_parts.specs.Parts.{layout_part}
use Rattle.layout_model.specs.Layout.{laid_parts}
use Rattle.held_parts.specs.Entries.{HaveRuns}
use Rattle.object_change.specs.Steps.{first_made}
use Rattle.object_change.proofs.PutLemmas.{follow-there}
use Rattle.object_change.proofs.WriteLemmas.{can-follow, follow-err, follow-ok}
use Rattle.object_change.proofs.writing.put_on_spare.Goals as goal

pub unreachable-requires : goal.unreachable-requires
unreachable-requires g c =
    (follow-there c.args.geometry.now c.args.held.now c.args.working.now c.args.planned.now c.page-page.ensures.range c.requires.fit
    c.requires.can.plan).0 c.in_default.is

pub unreachable-requires-in_default-first_made : goal.unreachable-requires-in_default-first_made
unreachable-requires-in_default-first_made g c =
    (follow-there c.args.geometry.now c.args.held.now c.args.working.now c.args.planned.now c.page-page.ensures.range c.requires.fit
    c.requires.can.plan).1 (ap first_made (sym c.as_slice-parts.ensures.value) ∙ c.in_default-first_made.ensures.none)

pub new_entries-requires : goal.new_entries-requires
new_entries-requires g c =
    let can = can-follow g.P.S.Span.tells c.args.geometry.now c.args.working.now c.args.planned.now c.args.payload.now
    c.args.granted.now.counts.items c.args.granted.now.runs.items c.args.held.now (g.P.Port.meter c.args.port.now)
    (length c.args.scratch.now) c.in-Some-first_made.pieces.now c.in-Some.run' c.page-page.ensures.range c.requires.fit c.requires.can
    c.requires.scratch c.in-Some.is (ap first_made (sym c.as_slice-parts.ensures.value) ∙ c.in-Some-first_made.ensures.some) in
    record {
      runs = subst (λ (parts : List Part). HaveRuns parts (1 ∷ []) (c.in-Some.run' ∷ [])) (sym c.as_slice-parts.ensures.value) can.have;
    }

pub write_part-requires-clause-can : goal.write_part-requires-clause-can
write_part-requires-clause-can g c =
    let can = can-follow g.P.S.Span.tells c.args.geometry.now c.args.working.now c.args.planned.now c.args.payload.now
    c.args.granted.now.counts.items c.args.granted.now.runs.items c.args.held.now (g.P.Port.meter c.args.port.now)
    (length c.args.scratch.now) c.in-Some-first_made.pieces.now c.in-Some.run' c.page-page.ensures.range c.requires.fit c.requires.can
    c.requires.scratch c.in-Some.is (ap first_made (sym c.as_slice-parts.ensures.value) ∙ c.in-Some-first_made.ensures.some) in can.can

pub write_part-requires-clause-each : goal.write_part-requires-clause-each
write_part-requires-clause-each g c =
    let can = can-follow g.P.S.Span.tells c.args.geometry.now c.args.working.now c.args.planned.now c.args.payload.now
    c.args.granted.now.counts.items c.args.granted.now.runs.items c.args.held.now (g.P.Port.meter c.args.port.now)
    (length c.args.scratch.now) c.in-Some-first_made.pieces.now c.in-Some.run' c.page-page.ensures.range c.requires.fit c.requires.can
    c.requires.scratch c.in-Some.is (ap first_made (sym c.as_slice-parts.ensures.value) ∙ c.in-Some-first_made.ensures.some) in can.each

pub write_part-requires-clause-fits : goal.write_part-requires-clause-fits
write_part-requires-clause-fits g c =
    let can = can-follow g.P.S.Span.tells c.args.geometry.now c.args.working.now c.args.planned.now c.args.payload.now
    c.args.granted.now.counts.items c.args.granted.now.runs.items c.args.held.now (g.P.Port.meter c.args.port.now)
    (length c.args.scratch.now) c.in-Some-first_made.pieces.now c.in-Some.run' c.page-page.ensures.range c.requires.fit c.requires.can
    c.requires.scratch c.in-Some.is (ap first_made (sym c.as_slice-parts.ensures.value) ∙ c.in-Some-first_made.ensures.some) in can.few

pub returns-in-Ok-write_part : goal.returns-in-Ok-write_part
returns-in-Ok-write_part g c =
    let can = can-follow g.P.S.Span.tells c.args.geometry.now c.args.working.now c.args.planned.now c.args.payload.now
    c.args.granted.now.counts.items c.args.granted.now.runs.items c.args.held.now (g.P.Port.meter c.args.port.now)
    (length c.args.scratch.now) c.in-Some-first_made.pieces.now c.in-Some.run' c.page-page.ensures.range c.requires.fit c.requires.can
    c.requires.scratch c.in-Some.is (ap first_made (sym c.as_slice-parts.ensures.value) ∙ c.in-Some-first_made.ensures.some) in
    record {
      puts = follow-ok g.P.S.Span.tells c.args.geometry.now c.args.working.now c.args.planned.now c.args.payload.now
          c.args.granted.now.counts.items c.args.granted.now.runs.items c.in-Some.run'
          c.in-Some-first_made.pieces.now can.bytes c.in-Ok.entries c.in-Ok-write_part.field-0 c.args.held.now c.write_part.new.held
          (g.P.Port.meter c.args.port.now) (g.P.Port.meter c.write_part.new.port) c.requires.fit c.requires.can.page c.in-Some.is can.one
          (c.in-Ok.ensures
          ∙ (ap (λ (k : ℕ). laid_parts k (map layout_part c.as_slice-parts.result.now)
          ((c.in-Some.run' ∷ []) ∷ [])) c.page-page.ensures.exact
          ∙ ap (λ (parts : List Part). laid_parts c.args.geometry.now.page (map layout_part parts) ((c.in-Some.run' ∷ []) ∷ []))
          c.as_slice-parts.ensures.value))
          c.in-Ok-write_part.ensures.written c.in-Ok-write_part.ensures.cause;
    }

pub returns-in-Err : goal.returns-in-Err
returns-in-Err g c =
    let can = can-follow g.P.S.Span.tells c.args.geometry.now c.args.working.now c.args.planned.now c.args.payload.now
    c.args.granted.now.counts.items c.args.granted.now.runs.items c.args.held.now (g.P.Port.meter c.args.port.now)
    (length c.args.scratch.now) c.in-Some-first_made.pieces.now c.in-Some.run' c.page-page.ensures.range c.requires.fit c.requires.can
    c.requires.scratch c.in-Some.is (ap first_made (sym c.as_slice-parts.ensures.value) ∙ c.in-Some-first_made.ensures.some) in
    record {
      puts = follow-err g.P.S.Span.tells c.args.geometry.now c.args.working.now c.args.planned.now c.args.payload.now
          c.args.granted.now.counts.items c.args.granted.now.runs.items c.in-Some.run'
          c.in-Some-first_made.pieces.now can.bytes c.in-Err.fail c.args.held.now c.write_part.new.held
          (g.P.Port.meter c.args.port.now) (g.P.Port.meter c.write_part.new.port) c.requires.fit c.requires.can.page c.in-Some.is can.one
          c.in-Err.ensures.written c.in-Err.ensures.cause;
    }

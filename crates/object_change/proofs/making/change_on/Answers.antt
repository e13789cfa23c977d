-- The bytes are put and the entries exchanged, or refused at either step.
use Rattle.std.proofs.Common.{◌≡◌, ℕ, ap, subst, sym, ◌<◌}
use Rattle.std.specs.Prelude.{Err, Ok, Result}
use Rattle.object_body.specs.declared.fails.EditFail.{EditFail}
use Rattle.superdirectory.specs.Trace.{IsLow}
use Rattle.superdirectory.specs.Rest.{count}
use Rattle.superdirectory.proofs.Traces.{part_as}
use Rattle.block_model.specs.Place.{least_order}
use Rattle.tree_splice.specs.declared.failure.SpliceFail.{SpliceFail}
use Rattle.tree_splice.specs.declared.failure.SpliceFail.TheVariants as splice
use Rattle.tree_splice.specs.declared.new_tree.Spliced.{Spliced}
use Rattle.object_change.specs.Steps.{ChangesOn}
use Rattle.object_change.proofs.ChangeLemmas.{ExchangedErr, ExchangedOk, changes-ok, changes-refused, changes-unwritten}
use Rattle.object_change.proofs.ExchangeLemmas.{HasPut, put-asks, put-borders, put-size, put-some, put-sum}
use Rattle.object_change.proofs.making.change_on.Goals as goal

pub returns-in-Err : goal.returns-in-Err
returns-in-Err g c = record {
  changes = subst (λ (f : EditFail). ChangesOn g.P.S.Span.tells c.args.geometry.now c.args.start c.args.working.now c.args.planned.now
      c.args.payload.now
      c.args.granted.now.counts.items c.args.granted.now.runs.items (Err f)
      (record {
        held = c.args.held.now;
        nodes = c.args.cache.now;
        meter = g.P.Port.meter c.args.port.now;
        rest = g.L.Hints.rest c.args.latches.now;
        trace = g.L.Hints.trace c.args.latches.now;
      })
      (record {
        held = c.put_bytes.new.held;
        nodes = c.put_bytes.new.cache;
        meter = g.P.Port.meter c.put_bytes.new.port;
        rest = g.L.Hints.rest c.args.latches.now;
        trace = g.L.Hints.trace c.args.latches.now;
      })) (sym c.write_refused.ensures)
      (changes-unwritten g.P.S.Span.tells c.args.geometry.now c.args.start c.args.working.now c.args.planned.now c.args.payload.now
      c.args.granted.now.counts.items c.args.granted.now.runs.items c.in-Err.fail (record {
        held = c.args.held.now;
        nodes = c.args.cache.now;
        meter = g.P.Port.meter c.args.port.now;
        rest = g.L.Hints.rest c.args.latches.now;
        trace = g.L.Hints.trace c.args.latches.now;
      })
      c.put_bytes.new.held c.put_bytes.new.cache (g.P.Port.meter c.put_bytes.new.port) c.requires.can.ready.none c.in-Err.ensures.puts
      c.in-Err.ensures.nodes);
}

pub splice-requires-clause-sum : goal.splice-requires-clause-sum
splice-requires-clause-sum g c =
    let has : HasPut g.P.S.Span.tells c.args.geometry.now c.args.start c.args.working.now c.args.planned.now c.args.payload.now
    c.args.granted.now.counts.items c.args.granted.now.runs.items (record {
      held = c.args.held.now;
      nodes = c.args.cache.now;
      meter = g.P.Port.meter c.args.port.now;
      rest = g.L.Hints.rest c.args.latches.now;
      trace = g.L.Hints.trace c.args.latches.now;
    })
    c.in-Ok.entries c.put_bytes.new.held c.put_bytes.new.cache (g.P.Port.meter c.put_bytes.new.port)
    = record { range = c.page-page.ensures.range; can = c.requires.can; puts = c.in-Ok.ensures.puts; right = c.in-Ok.ensures.nodes } in
    put-sum has

pub splice-requires-clause-some : goal.splice-requires-clause-some
splice-requires-clause-some g c =
    let has : HasPut g.P.S.Span.tells c.args.geometry.now c.args.start c.args.working.now c.args.planned.now c.args.payload.now
    c.args.granted.now.counts.items c.args.granted.now.runs.items (record {
      held = c.args.held.now;
      nodes = c.args.cache.now;
      meter = g.P.Port.meter c.args.port.now;
      rest = g.L.Hints.rest c.args.latches.now;
      trace = g.L.Hints.trace c.args.latches.now;
    })
    c.in-Ok.entries c.put_bytes.new.held c.put_bytes.new.cache (g.P.Port.meter c.put_bytes.new.port)
    = record { range = c.page-page.ensures.range; can = c.requires.can; puts = c.in-Ok.ensures.puts; right = c.in-Ok.ensures.nodes } in
    put-some has

pub splice-requires-clause-asks : goal.splice-requires-clause-asks
splice-requires-clause-asks g c =
    let has : HasPut g.P.S.Span.tells c.args.geometry.now c.args.start c.args.working.now c.args.planned.now c.args.payload.now
    c.args.granted.now.counts.items c.args.granted.now.runs.items (record {
      held = c.args.held.now;
      nodes = c.args.cache.now;
      meter = g.P.Port.meter c.args.port.now;
      rest = g.L.Hints.rest c.args.latches.now;
      trace = g.L.Hints.trace c.args.latches.now;
    })
    c.in-Ok.entries c.put_bytes.new.held c.put_bytes.new.cache (g.P.Port.meter c.put_bytes.new.port)
    = record { range = c.page-page.ensures.range; can = c.requires.can; puts = c.in-Ok.ensures.puts; right = c.in-Ok.ensures.nodes } in
    put-asks has

pub splice-requires-clause-borders : goal.splice-requires-clause-borders
splice-requires-clause-borders g c =
    let has : HasPut g.P.S.Span.tells c.args.geometry.now c.args.start c.args.working.now c.args.planned.now c.args.payload.now
    c.args.granted.now.counts.items c.args.granted.now.runs.items (record {
      held = c.args.held.now;
      nodes = c.args.cache.now;
      meter = g.P.Port.meter c.args.port.now;
      rest = g.L.Hints.rest c.args.latches.now;
      trace = g.L.Hints.trace c.args.latches.now;
    })
    c.in-Ok.entries c.put_bytes.new.held c.put_bytes.new.cache (g.P.Port.meter c.put_bytes.new.port)
    = record { range = c.page-page.ensures.range; can = c.requires.can; puts = c.in-Ok.ensures.puts; right = c.in-Ok.ensures.nodes } in
    λ t. put-borders has t

pub returns-in-Ok-splice : goal.returns-in-Ok-splice
returns-in-Ok-splice g c =
    let has : HasPut g.P.S.Span.tells c.args.geometry.now c.args.start c.args.working.now c.args.planned.now c.args.payload.now
    c.args.granted.now.counts.items c.args.granted.now.runs.items (record {
      held = c.args.held.now;
      nodes = c.args.cache.now;
      meter = g.P.Port.meter c.args.port.now;
      rest = g.L.Hints.rest c.args.latches.now;
      trace = g.L.Hints.trace c.args.latches.now;
    })
    c.in-Ok.entries c.put_bytes.new.held c.put_bytes.new.cache (g.P.Port.meter c.put_bytes.new.port)
    = record { range = c.page-page.ensures.range; can = c.requires.can; puts = c.in-Ok.ensures.puts; right = c.in-Ok.ensures.nodes } in
    let tells = g.P.S.Span.tells in
    let rest = g.L.Hints.rest c.args.latches.now in
    let sp = c.in-Ok-splice.spliced in
    let e = c.in-Ok-splice.ensures in
    let ex : ExchangedOk tells (g.P.Port.meter c.put_bytes.new.port).page c.args.start c.args.working.now c.args.planned.now
    c.in-Ok.entries.items sp c.put_bytes.new.held c.splice.new.held c.splice.new.cache rest (g.L.Hints.rest c.splice.new.latches)
    (g.P.Port.meter c.put_bytes.new.port) (g.P.Port.meter c.splice.new.port) = record {
      told = e.told;
      total = e.sum;
      news = e.held;
      single = e.single;
      home = e.home;
      sized = e.sized;
      kept = e.kept;
      frame = e.rest;
      granted = e.granted;
      used = e.used;
      writes = e.writes;
      still = e.cause.still (λ same. cc);
    } in
    record {
      changes = changes-ok g.P.S.Span.tells c.args.geometry.now c.args.start c.args.working.now c.args.planned.now c.args.payload.now
          c.args.granted.now.counts.items c.args.granted.now.runs.items
          (record {
            held = c.args.held.now;
            nodes = c.args.cache.now;
            meter = g.P.Port.meter c.args.port.now;
            rest = g.L.Hints.rest c.args.latches.now;
            trace = g.L.Hints.trace c.args.latches.now;
          })
          c.in-Ok.entries c.put_bytes.new.held c.put_bytes.new.cache (g.P.Port.meter c.put_bytes.new.port) sp c.splice.new.held
          c.splice.new.cache (g.L.Hints.rest c.splice.new.latches) (g.L.Hints.trace c.splice.new.latches)
          (g.P.Port.meter c.splice.new.port) c.page-page.ensures.range c.requires.can c.in-Ok.ensures.puts
          (subst (λ (k : ℕ). ExchangedOk tells k c.args.start c.args.working.now c.args.planned.now c.in-Ok.entries.items sp
          c.put_bytes.new.held c.splice.new.held c.splice.new.cache rest (g.L.Hints.rest c.splice.new.latches)
          (g.P.Port.meter c.put_bytes.new.port) (g.P.Port.meter c.splice.new.port)) (put-size has) ex)
          (part_as (λ part. ◌≡◌ {A = Result Spliced SpliceFail} (Ok sp) (Err splice.NoSpace) → (space : ℕ) → space < count rest →
          IsLow space (least_order 1) part) (λ part. Unit {0}) (g.L.Hints.trace c.args.latches.now) (g.L.Hints.trace c.splice.new.latches)
          (λ part low. tt) e.low);
    }

pub returns-in-Err-splice : goal.returns-in-Err-splice
returns-in-Err-splice g c =
    let has : HasPut g.P.S.Span.tells c.args.geometry.now c.args.start c.args.working.now c.args.planned.now c.args.payload.now
    c.args.granted.now.counts.items c.args.granted.now.runs.items (record {
      held = c.args.held.now;
      nodes = c.args.cache.now;
      meter = g.P.Port.meter c.args.port.now;
      rest = g.L.Hints.rest c.args.latches.now;
      trace = g.L.Hints.trace c.args.latches.now;
    })
    c.in-Ok.entries c.put_bytes.new.held c.put_bytes.new.cache (g.P.Port.meter c.put_bytes.new.port)
    = record { range = c.page-page.ensures.range; can = c.requires.can; puts = c.in-Ok.ensures.puts; right = c.in-Ok.ensures.nodes } in
    let tells = g.P.S.Span.tells in
    let rest = g.L.Hints.rest c.args.latches.now in
    let fail = c.in-Err-splice.fail in
    let e = c.in-Err-splice.ensures in
    let ex : ExchangedErr tells (g.P.Port.meter c.put_bytes.new.port).page c.args.start c.args.working.now c.args.planned.now
    c.in-Ok.entries.items fail c.put_bytes.new.held c.splice.new.held c.splice.new.cache rest (g.L.Hints.rest c.splice.new.latches)
    (g.L.Hints.trace c.args.latches.now) (g.L.Hints.trace c.splice.new.latches)
    (g.P.Port.meter c.put_bytes.new.port) (g.P.Port.meter c.splice.new.port) = record {
      same = e.refused;
      sized = e.sized;
      kept = e.kept;
      frame = e.rest;
      granted = e.granted;
      low = part_as (λ part. ◌≡◌ {A = Result Spliced SpliceFail} (Err fail) (Err splice.NoSpace) → (space : ℕ) → space < count rest →
          IsLow space (least_order 1) part)
          (λ part. (fail ≡ splice.NoSpace) → (space : ℕ) → space < count rest → IsLow space (least_order 1) part)
          (g.L.Hints.trace c.args.latches.now) (g.L.Hints.trace c.splice.new.latches)
          (λ part low is. low (ap (λ (f : SpliceFail). Err f) is)) e.low;
      used = e.used;
      writes = e.writes;
      cause = record {
        kept = e.cause.kept;
        raised = λ is. e.cause.raised (ap (λ (f : SpliceFail). Err f) is);
        still = λ none. e.cause.still (λ same. none (let is_fault : fail ≡ splice.Fault = cc in is_fault));
      };
    } in
    record {
      changes = subst (λ (f : EditFail). ChangesOn g.P.S.Span.tells c.args.geometry.now c.args.start c.args.working.now
          c.args.planned.now c.args.payload.now
          c.args.granted.now.counts.items c.args.granted.now.runs.items (Err f)
          (record {
            held = c.args.held.now;
            nodes = c.args.cache.now;
            meter = g.P.Port.meter c.args.port.now;
            rest = g.L.Hints.rest c.args.latches.now;
            trace = g.L.Hints.trace c.args.latches.now;
          })
          (record {
            held = c.splice.new.held;
            nodes = c.splice.new.cache;
            meter = g.P.Port.meter c.splice.new.port;
            rest = g.L.Hints.rest c.splice.new.latches;
            trace = g.L.Hints.trace c.splice.new.latches;
          })) (sym c.splice_refused.ensures)
          (changes-refused g.P.S.Span.tells c.args.geometry.now c.args.start c.args.working.now c.args.planned.now c.args.payload.now
          c.args.granted.now.counts.items c.args.granted.now.runs.items
          (record {
            held = c.args.held.now;
            nodes = c.args.cache.now;
            meter = g.P.Port.meter c.args.port.now;
            rest = g.L.Hints.rest c.args.latches.now;
            trace = g.L.Hints.trace c.args.latches.now;
          })
          c.in-Ok.entries c.put_bytes.new.held c.put_bytes.new.cache (g.P.Port.meter c.put_bytes.new.port) fail c.splice.new.held
          c.splice.new.cache (g.L.Hints.rest c.splice.new.latches) (g.L.Hints.trace c.splice.new.latches)
          (g.P.Port.meter c.splice.new.port) c.page-page.ensures.range c.requires.can c.in-Ok.ensures.puts
          (subst (λ (k : ℕ). ExchangedErr tells k c.args.start c.args.working.now c.args.planned.now c.in-Ok.entries.items fail
          c.put_bytes.new.held c.splice.new.held c.splice.new.cache rest (g.L.Hints.rest c.splice.new.latches)
          (g.L.Hints.trace c.args.latches.now) (g.L.Hints.trace c.splice.new.latches)
          (g.P.Port.meter c.put_bytes.new.port) (g.P.Port.meter c.splice.new.port)) (put-size has) ex));
    }

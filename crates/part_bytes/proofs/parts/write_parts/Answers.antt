-- Each new part gets its runs.
use Rattle.std.proofs.Common.{◌≡◌, ℕ, ◌+◌, List, ◌∷◌, length, drop, get_or, sym, ap, ◌∙◌, subst, arith}
use Rattle.std.proofs.lemmas.List.{at_drop_more}
use Rattle.std.specs.List.{AllByRecursion}
use Rattle.layout_model.specs.declared.extent.Extent.{Extent}
use Rattle.edit_parts.specs.declared.part.Part.{Part}
use Rattle.edit_parts.specs.declared.part.Part.TheVariants.{Keep, Make}
use Rattle.std.specs.Prelude.{IsTrue}
use Rattle.edit_parts.specs.Pieces.{pieces_content}
use Rattle.span_store.specs.Held.{bytes_on}
use Rattle.part_bytes.specs.Runs.{StandOn}
use Rattle.part_bytes.specs.Gathering.{CanGather}
use Rattle.part_bytes.proofs.PartsLemmas.{HasPut, counts_left, next_part, next_can, first_count}
use Rattle.part_bytes.proofs.PartsLemmas.{putting_at, putting_kept, putting_more, putting_failed}
use Rattle.part_bytes.proofs.parts.write_parts.Goals.{in-Make+in_ok-write_part-in-Make, in-Keep}
use Rattle.part_bytes.proofs.parts.write_parts.Goals as goal

pub write_part-requires-clause-can : goal.write_part-requires-clause-can
write_part-requires-clause-can g c =
    let size : ℕ = (g.P.Port.meter c.args.port.now).page in
    let given = length c.args.payload.now in
    let i = c.loop-part.part-index in
    let parts = c.args.parts.now in
    let p = c.loop-part.invariant in
    let e : drop i parts ≡ Make c.in-Make.pieces ∷ drop (i + 1) parts =
    at_drop_more (λ (l : List Part). l) parts i c.part-item.result c.loop-part-test.true
    ∙ ap (λ (x : Part). x ∷ drop (i + 1) parts) (sym c.part-item.is ∙ c.in-Make.is) in
    let some = counts_left g.P.S.Span.tells size c.args.payload.now parts (drop i parts) (drop (i + 1) parts) c.in-Make.pieces
    c.args.counts.now c.loop-part.counts.now c.args.runs.now c.loop-part.runs.now c.args.held.now c.loop-part.held
    (g.P.Port.meter c.args.port.now) (g.P.Port.meter c.loop-part.port) e p in
    let f = first_count c.loop-part.counts.now c.split_at.result.0.now c.split_at.result.1.now some c.split_at.ensures.front
    c.split_at.ensures.back in
    let next = next_part g.P.S.Span.tells size c.args.payload.now parts (drop i parts) (drop (i + 1) parts) c.in-Make.pieces
    (get_or c.split_at.result.0.now 0 0) c.args.counts.now c.loop-part.counts.now c.split_at.result.1.now c.args.runs.now
    c.loop-part.runs.now c.args.held.now c.loop-part.held (g.P.Port.meter c.args.port.now) (g.P.Port.meter c.loop-part.port) e f p in
    next_can g.P.S.Span.tells size (g.P.Port.meter c.loop-part.port).page (length c.loop-part.scratch) c.args.payload.now
    c.in-Make.pieces (drop (i + 1) parts) (get_or c.split_at.result.0.now 0 0) c.split_at.result.1.now c.args.runs.now
    c.loop-part.runs.now c.split_at-in-Make.result.0.now c.loop-part.held p.unit (omega (arith, c.requires.can.scratch))
    c.requires.can.some c.split_at-in-Make.ensures.front p.others.sized next

pub write_part-requires-clause-each : goal.write_part-requires-clause-each
write_part-requires-clause-each g c =
    let size : ℕ = (g.P.Port.meter c.args.port.now).page in
    let given = length c.args.payload.now in
    let i = c.loop-part.part-index in
    let parts = c.args.parts.now in
    let p = c.loop-part.invariant in
    let e : drop i parts ≡ Make c.in-Make.pieces ∷ drop (i + 1) parts =
    at_drop_more (λ (l : List Part). l) parts i c.part-item.result c.loop-part-test.true
    ∙ ap (λ (x : Part). x ∷ drop (i + 1) parts) (sym c.part-item.is ∙ c.in-Make.is) in
    let some = counts_left g.P.S.Span.tells size c.args.payload.now parts (drop i parts) (drop (i + 1) parts) c.in-Make.pieces
    c.args.counts.now c.loop-part.counts.now c.args.runs.now c.loop-part.runs.now c.args.held.now c.loop-part.held
    (g.P.Port.meter c.args.port.now) (g.P.Port.meter c.loop-part.port) e p in
    let f = first_count c.loop-part.counts.now c.split_at.result.0.now c.split_at.result.1.now some c.split_at.ensures.front
    c.split_at.ensures.back in
    let next = next_part g.P.S.Span.tells size c.args.payload.now parts (drop i parts) (drop (i + 1) parts) c.in-Make.pieces
    (get_or c.split_at.result.0.now 0 0) c.args.counts.now c.loop-part.counts.now c.split_at.result.1.now c.args.runs.now
    c.loop-part.runs.now c.args.held.now c.loop-part.held (g.P.Port.meter c.args.port.now) (g.P.Port.meter c.loop-part.port) e f p in
    subst (λ (k : ℕ). AllByRecursion (CanGather c.loop-part.held k given) c.in-Make.pieces) (sym p.unit) next.can.each

pub returns-in_err-write_part-in-Make-clause-others : goal.returns-in_err-write_part-in-Make-clause-others
returns-in_err-write_part-in-Make-clause-others g c =
    let size : ℕ = (g.P.Port.meter c.args.port.now).page in
    let i = c.loop-part.part-index in
    let parts = c.args.parts.now in
    let n = get_or c.split_at.result.0.now 0 0 in
    let e : drop i parts ≡ Make c.in-Make.pieces ∷ drop (i + 1) parts =
    at_drop_more (λ (l : List Part). l) parts i c.part-item.result c.loop-part-test.true
    ∙ ap (λ (x : Part). x ∷ drop (i + 1) parts) (sym c.part-item.is ∙ c.in-Make.is) in
    let put = subst (λ (own : List Extent). HasPut g.P.S.Span.tells (g.P.Port.meter c.loop-part.port).page c.in-Make.pieces own
    c.loop-part.held c.write_part.new.held (g.P.Port.meter c.loop-part.port) (g.P.Port.meter c.write_part.new.port))
    c.split_at-in-Make.ensures.front
    (record { others = c.in_err-write_part-in-Make.ensures.written.others; moves = c.in_err-write_part-in-Make.ensures.written.moves }) in
    (putting_failed g.P.S.Span.tells size c.args.payload.now parts (drop i parts) (drop (i + 1) parts) c.in-Make.pieces n
    c.args.counts.now c.loop-part.counts.now c.args.runs.now c.loop-part.runs.now c.args.held.now c.loop-part.held
    c.write_part.new.held (g.P.Port.meter c.args.port.now) (g.P.Port.meter c.loop-part.port) (g.P.Port.meter c.write_part.new.port)
    e c.loop-part.invariant put).0

pub returns-in_err-write_part-in-Make-clause-moves : goal.returns-in_err-write_part-in-Make-clause-moves
returns-in_err-write_part-in-Make-clause-moves g c =
    let size : ℕ = (g.P.Port.meter c.args.port.now).page in
    let i = c.loop-part.part-index in
    let parts = c.args.parts.now in
    let n = get_or c.split_at.result.0.now 0 0 in
    let e : drop i parts ≡ Make c.in-Make.pieces ∷ drop (i + 1) parts =
    at_drop_more (λ (l : List Part). l) parts i c.part-item.result c.loop-part-test.true
    ∙ ap (λ (x : Part). x ∷ drop (i + 1) parts) (sym c.part-item.is ∙ c.in-Make.is) in
    let put = subst (λ (own : List Extent). HasPut g.P.S.Span.tells (g.P.Port.meter c.loop-part.port).page c.in-Make.pieces own
    c.loop-part.held c.write_part.new.held (g.P.Port.meter c.loop-part.port) (g.P.Port.meter c.write_part.new.port))
    c.split_at-in-Make.ensures.front
    (record { others = c.in_err-write_part-in-Make.ensures.written.others; moves = c.in_err-write_part-in-Make.ensures.written.moves }) in
    (putting_failed g.P.S.Span.tells size c.args.payload.now parts (drop i parts) (drop (i + 1) parts) c.in-Make.pieces n
    c.args.counts.now c.loop-part.counts.now c.args.runs.now c.loop-part.runs.now c.args.held.now c.loop-part.held
    c.write_part.new.held (g.P.Port.meter c.args.port.now) (g.P.Port.meter c.loop-part.port) (g.P.Port.meter c.write_part.new.port)
    e c.loop-part.invariant put).1

pub loop-part-preserved : goal.loop-part-preserved
loop-part-preserved g c =
    let size : ℕ = (g.P.Port.meter c.args.port.now).page in
    let i = c.loop-part.part-index in
    let parts = c.args.parts.now in
    let payload = c.args.payload.now in
    let before = g.P.Port.meter c.args.port.now in
    let after = g.P.Port.meter c.loop-part.port in
    let held = c.loop-part.held in
    let p = c.loop-part.invariant in
    let here : drop i parts ≡ c.part-item.result ∷ drop (i + 1) parts =
    at_drop_more (λ (l : List Part). l) parts i c.part-item.result c.loop-part-test.true
    ∙ ap (λ (x : Part). x ∷ drop (i + 1) parts) (sym c.part-item.is) in
    elim c.match-part.branch [
      | in-Make+in_ok-write_part-in-Make w ↦
          let n = get_or w.split_at.result.0.now 0 0 in
          let pieces = w.in-Make.pieces in
          let e : drop i parts ≡ Make pieces ∷ drop (i + 1) parts = here
          ∙ ap (λ (x : Part). x ∷ drop (i + 1) parts) w.in-Make.is in
          let some = counts_left g.P.S.Span.tells size payload parts (drop i parts) (drop (i + 1) parts) pieces
          c.args.counts.now c.loop-part.counts.now c.args.runs.now c.loop-part.runs.now c.args.held.now held before after e p in
          let f = first_count c.loop-part.counts.now w.split_at.result.0.now w.split_at.result.1.now some w.split_at.ensures.front
          w.split_at.ensures.back in
          let next = g.P.Port.meter w.write_part.new.port in
          let put = subst (λ (own : List Extent). HasPut g.P.S.Span.tells after.page pieces own held w.write_part.new.held after next)
          w.split_at-in-Make.ensures.front
          (record {
            others = w.in_ok-write_part-in-Make.ensures.written.others;
            moves = w.in_ok-write_part-in-Make.ensures.written.moves;
          }) in
          let stands = subst (λ (own : List Extent). IsTrue g.P.S.Span.tells → StandOn (bytes_on w.write_part.new.held) after.page own
          (pieces_content (bytes_on held) after.page payload pieces)) w.split_at-in-Make.ensures.front
          w.in_ok-write_part-in-Make.ensures.written.bytes in
          putting_at g.P.S.Span.tells size payload parts (drop (i + 1) parts) c.args.counts.now w.split_at.result.1.now
          c.match-part.counts.now c.args.runs.now (drop n c.loop-part.runs.now) c.match-part.runs.now c.args.held.now
          w.write_part.new.held c.match-part.held before next (g.P.Port.meter c.match-part.port)
          (ap (λ x. x.now) w.counts-is) (ap (λ x. x.now) w.runs-is ∙ w.split_at-in-Make.ensures.back) w.held-is
          (ap (λ x. g.P.Port.meter x) w.port-is)
          (putting_more g.P.S.Span.tells size payload parts (drop i parts) (drop (i + 1) parts) pieces n
          c.args.counts.now c.loop-part.counts.now w.split_at.result.1.now c.args.runs.now c.loop-part.runs.now c.args.held.now held
          w.write_part.new.held before after next c.requires.can.some e f p stands put
          (w.in_ok-write_part-in-Make.ensures.cause.still (λ never. cc)))
      | in-Keep w ↦
          let e : drop i parts ≡ Keep w.in-Keep.field-0 ∷ drop (i + 1) parts = here
          ∙ ap (λ (x : Part). x ∷ drop (i + 1) parts) w.in-Keep.is in
          putting_at g.P.S.Span.tells size payload parts (drop (i + 1) parts) c.args.counts.now c.loop-part.counts.now
          c.match-part.counts.now c.args.runs.now c.loop-part.runs.now c.match-part.runs.now c.args.held.now
          held c.match-part.held before after (g.P.Port.meter c.match-part.port)
          (ap (λ x. x.now) w.counts-is) (ap (λ x. x.now) w.runs-is) w.held-is (ap (λ x. g.P.Port.meter x) w.port-is)
          (putting_kept g.P.S.Span.tells size payload parts (drop i parts) (drop (i + 1) parts) w.in-Keep.field-0
          c.args.counts.now c.loop-part.counts.now c.args.runs.now c.loop-part.runs.now c.args.held.now held before after e p)
    ]

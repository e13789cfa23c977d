-- Each turn reads the part of one segment that is wanted.
use Rattle.std.proofs.Common.{ℕ, ◌-◌, ◌<◌, ◌≤◌, length, drop, length-drop, get_or, sym, subst, arith}
use Rattle.std.proofs.lemmas.Bool.{false≢true}
use Rattle.std.proofs.lemmas.List.{length-take-le}
use Rattle.tree_model.specs.declared.entry.Placed.{Placed}
use Rattle.tree_model.specs.Tree.{page_count}
use Rattle.tree_model.specs.Range.{start_of}
use Rattle.tree_model.proofs.RangeLemmas.{no_segment}
use Rattle.span_store.specs.Held.{bytes_on}
use Rattle.seg_bytes.specs.Segments.{HoldsBytes}
use Rattle.seg_bytes.proofs.Runs.{AreFull-held, length-segment}
use Rattle.seg_bytes.proofs.Reading.{IsReading-turn, IsReading-stop, each_segment}
use Rattle.seg_bytes.proofs.read.read_bytes.Goals as goal

pub returns-in_err-read_here-clause-reads : goal.returns-in_err-read_here-clause-reads
returns-in_err-read_here-clause-reads g c =
    IsReading-stop g.P.S.Span.tells (bytes_on c.args.held.now)
    (g.P.Port.meter c.args.port.now).page (g.P.Port.meter c.loop-segment.port).page
    (c.args.at - start_of c.args.placed.now) (length c.args.out.now) c.args.placed.now
    c.loop-segment.segment-index c.loop-segment.done c.loop-segment.skip c.bytes_here-count.result
    c.loop-segment.out (g.P.Port.meter c.args.port.now) (g.P.Port.meter c.loop-segment.port)
    (g.P.Port.meter c.read_here.new.port)
    c.loop-segment.invariant (omega arith) c.loop-segment.auto.out
    (record {
      same = c.loop-segment.invariant.reads.used.page;
      count_is = c.bytes_here-count.ensures;
      reads =
          c.in_err-read_here.ensures.reads;
    })

pub read_here-requires-clause-held : goal.read_here-requires-clause-held
read_here-requires-clause-held g c =
    let s : Placed = get_or c.args.placed.now c.loop-segment.segment-index no_segment in
    let less : c.loop-segment.segment-index < length c.args.placed.now = omega arith in
    record {
      run = subst (λ (size : ℕ). HoldsBytes c.args.held.now size s.pair.page s.pair.bytes)
          (sym c.loop-segment.invariant.reads.used.page)
          (each_segment (λ (r : Placed). HoldsBytes c.args.held.now (g.P.Port.meter c.args.port.now).page r.pair.page
          r.pair.bytes) c.args.placed.now c.loop-segment.segment-index c.requires.held less);
      numbers = λ q held. let below = c.end-end.ensures.behind q held in omega (arith, below);
    }

pub loop-segment-preserved : goal.loop-segment-preserved
loop-segment-preserved g c =
    let s : Placed = get_or c.args.placed.now c.loop-segment.segment-index no_segment in
    let less : c.loop-segment.segment-index < length c.args.placed.now = omega arith in
    let left = length-drop c.loop-segment.done c.loop-segment.out in
    let long = length-take-le (length c.loop-segment.out - c.loop-segment.done) (drop c.loop-segment.done c.loop-segment.out)
    (omega (arith, left)) in
    let room : c.bytes_here-count.result ≤ length c.read_here.new.out =
    omega (arith, long, c.loop-segment.auto.out, c.read_here.auto.out, c.bytes_here-count.ensures) in
    IsReading-turn g.P.S.Span.tells (bytes_on c.args.held.now)
    (g.P.Port.meter c.args.port.now).page (g.P.Port.meter c.loop-segment.port).page
    (c.args.at - start_of c.args.placed.now) (length c.args.out.now) c.args.placed.now
    c.loop-segment.segment-index c.loop-segment.done c.loop-segment.skip c.saturating_sub-skip.result
    c.bytes_here-count.result c.loop-segment.out c.read_here.new.out
    (drop (length c.loop-segment.out - c.loop-segment.done) (drop c.loop-segment.done c.loop-segment.out)) (g.P.Port.meter c.args.port.now)
    (g.P.Port.meter c.loop-segment.port) (g.P.Port.meter c.read_here.new.port)
    c.loop-segment.invariant less c.loop-segment.auto.out
    (record {
      same = c.loop-segment.invariant.reads.used.page;
      count_is = c.bytes_here-count.ensures;
      reads =
          c.in_ok-read_here.ensures.reads;
    })
    c.saturating_sub-skip.ensures
    (λ told. length-segment (bytes_on c.args.held.now)
    (g.P.Port.meter c.args.port.now).page (get_or c.args.placed.now c.loop-segment.segment-index
    no_segment).pair c.requires.some
    (AreFull-held g.P.S.Span.tells (g.P.Port.meter c.args.port.now).page
    (get_or c.args.placed.now c.loop-segment.segment-index no_segment).pair.page
    (page_count (g.P.Port.meter c.args.port.now).page
    (get_or c.args.placed.now c.loop-segment.segment-index no_segment).pair.bytes) c.args.held.now
    c.requires.sized told
    (each_segment (λ (s : Placed). HoldsBytes c.args.held.now (g.P.Port.meter c.args.port.now).page s.pair.page
    s.pair.bytes) c.args.placed.now c.loop-segment.segment-index c.requires.held less)))
    c.in_ok-read_here.ensures.bytes room (c.in_ok-read_here.ensures.cause.still false≢true)

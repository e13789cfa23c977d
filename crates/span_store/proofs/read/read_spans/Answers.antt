-- Each turn reads the part of the run that one span has.
use Rattle.std.proofs.Common.{◌≡◌, ℕ, ◌+◌, ◌-◌, ◌*◌, ◌/◌, ◌≤◌, length, take, drop, refl, ap, sym, subst, ◌∙◌, arith}
use Rattle.std.specs.List.{concat}
use Rattle.std.proofs.Math.Nat.{zero-mul}
use Rattle.tree_model.specs.Content.{run_bytes}
use Rattle.page_port.specs.Pages.{AreOf}
use Rattle.fault_count.specs.Counts.{Meter, after_read}
use Rattle.span_store.specs.Held.{HeldSpan, bytes_in, span_of}
use Rattle.span_store.specs.Order.{no_span}
use Rattle.span_store.specs.Pieces.{IsAt, rank_of, spans_in}
use Rattle.span_store.proofs.Begun.{last_near, none_held}
use Rattle.span_store.proofs.Runs.{IsMove, IsTurn, copied_more, move_is, part_bytes, part_is, piece, turn_at, turn_in, turn_next}
use Rattle.span_store.proofs.Runs.{whole_some}
use Rattle.span_store.proofs.Meters.{HasRead, HasRead-more, HasRead-most, HasRead-none}
use Rattle.span_store.proofs.read.read_spans.Given.{Over}
use Rattle.span_store.proofs.read.read_spans.Goals.{In-loop-done, After-span_at-span, After-pages_from-count}
use Rattle.span_store.proofs.read.read_spans.Goals as goal

-- the span of this turn is there
place : (g : Over) (c : In-loop-done g) → IsAt c.args.pieces.now c.loop-done.at.piece c.loop-done.at.index
place g c =
    turn_at c.args.pieces.now c.args.first
    (length c.args.out.now / (g.P.Port.meter c.args.port.now).page) (length c.args.out.now / c.page-size.result)
    c.loop-done.done c.loop-done.page c.loop-done.at.piece c.loop-done.at.index c.requires.held
    (ap (λ (k : ℕ). length c.args.out.now / k) c.page-size.ensures)
    c.loop-done.invariant.page c.loop-done-test.true c.loop-done.invariant.place c.loop-done.invariant.near

-- it has the next page
turn : (g : Over) (c : After-span_at-span g) →
    IsTurn c.args.pieces.now c.loop-done.page c.loop-done.at.piece c.loop-done.at.index
    (span_of g.P.S.Span.start g.P.S.Span.contents c.span_at-span.result.now)
turn g c =
    turn_in c.args.pieces.now c.args.first
    (length c.args.out.now / (g.P.Port.meter c.args.port.now).page) (length c.args.out.now / c.page-size.result)
    c.loop-done.done c.loop-done.page c.loop-done.at.piece c.loop-done.at.index
    (span_of g.P.S.Span.start g.P.S.Span.contents c.span_at-span.result.now) c.requires.held
    (ap (λ (k : ℕ). length c.args.out.now / k) c.page-size.ensures)
    c.loop-done.invariant.page c.loop-done-test.true c.loop-done.invariant.place c.loop-done.invariant.near c.span_at-span.ensures

-- what this turn reads
move : (g : Over) (c : After-pages_from-count g) →
    IsTurn c.args.pieces.now c.loop-done.page c.loop-done.at.piece c.loop-done.at.index
    (span_of g.P.S.Span.start g.P.S.Span.contents c.span_at-span.result.now) →
    IsMove c.page-size.result (g.P.Port.meter c.loop-done.port).page (g.P.S.Span.start c.span_at-span.result.now)
    (length (g.P.S.Span.contents c.span_at-span.result.now)) c.loop-done.page c.loop-done.done
    (length c.args.out.now / c.page-size.result) c.pages_from-count.result c.loop-done.out
move g c here =
    let some = (whole_some (g.P.Port.meter c.args.port.now).page (length c.args.out.now) c.requires.whole).0 in
    let part = part_is (g.P.S.Span.start c.span_at-span.result.now) (length (g.P.S.Span.contents c.span_at-span.result.now))
    c.loop-done.page c.loop-done.done (length c.args.out.now / c.page-size.result) c.pages_from-count.result
    here.from here.to c.loop-done-test.true c.pages_from-count.ensures.pages in
    move_is c.page-size.result (g.P.Port.meter c.loop-done.port).page (g.P.S.Span.start c.span_at-span.result.now)
    (length (g.P.S.Span.contents c.span_at-span.result.now)) c.loop-done.page c.loop-done.done
    (length c.args.out.now / c.page-size.result) c.pages_from-count.result c.loop-done.out part
    (omega (arith, some, c.page-size.ensures)) (ap (λ (k : ℕ). k / c.page-size.result) (sym c.loop-done.auto.out))
    (c.page-size.ensures ∙ sym c.loop-done.invariant.counts.page)

-- what the port counts after this turn
counted_by : (g : Over) (c : After-pages_from-count g) (new : Meter) →
    IsMove c.page-size.result (g.P.Port.meter c.loop-done.port).page (g.P.S.Span.start c.span_at-span.result.now)
    (length (g.P.S.Span.contents c.span_at-span.result.now)) c.loop-done.page c.loop-done.done
    (length c.args.out.now / c.page-size.result) c.pages_from-count.result c.loop-done.out →
    new ≡ after_read (g.P.Port.meter c.loop-done.port) (length (piece c.page-size.result c.loop-done.done c.pages_from-count.result
    c.loop-done.out) / (g.P.Port.meter c.loop-done.port).page) new.faults →
    (g.P.Port.meter c.loop-done.port).read ≤ new.read → (g.P.Port.meter c.loop-done.port).faults ≤ new.faults →
    HasRead (c.loop-done.done + c.pages_from-count.result) (g.P.Port.meter c.args.port.now) new
counted_by g c new it counts read faults =
    HasRead-more c.loop-done.done c.pages_from-count.result (g.P.Port.meter c.args.port.now) (g.P.Port.meter c.loop-done.port) new
    c.loop-done.invariant.counts it.part.some
    (counts ∙ ap (λ (k : ℕ). after_read (g.P.Port.meter c.loop-done.port) k new.faults) it.quotient) read faults

pub unreachable-requires : goal.unreachable-requires
unreachable-requires g c =
    let some = (whole_some (g.P.Port.meter c.args.port.now).page (length c.args.out.now) c.requires.whole).1 in
    none_held (spans_in c.args.pieces.now) c.args.first c.requires.order c.in_default.ensures.none
    (c.requires.held c.args.first (omega arith) (omega (arith, some)))

pub loop-done-init : goal.loop-done-init
loop-done-init g c = record {
  within = omega arith;
  page = omega arith;
  place = λ _. c.in-Some.ensures.found.at.inner;
  near = λ some. last_near c.args.pieces.now c.args.first c.in-Some.at.piece c.in-Some.at.index c.requires.order c.in-Some.ensures.found;
  copied = λ told. ap (λ (k : ℕ). take k c.args.out.now) (zero-mul c.page-size.result);
  counts = HasRead-none (g.P.Port.meter c.args.port.now);
  still = refl;
}

pub span_at-span-requires : goal.span_at-span-requires
span_at-span-requires g c = place g (goal.at.span_at-span-requires g c).In-loop-done

pub pages_from-count-requires-clause-from : goal.pages_from-count-requires-clause-from
pages_from-count-requires-clause-from g c = (turn g (goal.at.pages_from-count-requires-clause-from g c).After-span_at-span).from

pub pages_from-count-requires-clause-to : goal.pages_from-count-requires-clause-to
pages_from-count-requires-clause-to g c = (turn g (goal.at.pages_from-count-requires-clause-to g c).After-span_at-span).to

pub overflow_sub-page : goal.overflow_sub-page
overflow_sub-page g c = omega (arith, (turn g (goal.at.overflow_sub-page g c).After-span_at-span).from, c.first.ensures)

pub read-requires : goal.read-requires
read-requires g c =
    let at = goal.at.read-requires g c in
    let here = turn g at.After-span_at-span in
    let it = move g at.After-pages_from-count here in
    record {
      whole = it.whole;
      range = omega (arith, it.quotient, it.part.inside, c.first.ensures);
      sized = λ told.
          let its = subst (λ (s : HeldSpan). AreOf (g.P.Port.meter c.args.port.now).page s.pages) here.same
          (c.requires.sized told (rank_of c.args.pieces.now c.loop-done.at.piece c.loop-done.at.index) no_span here.here.within) in
          subst (λ (k : ℕ). AreOf k (g.P.S.Span.contents c.span_at-span.result.now)) (sym c.loop-done.invariant.counts.page) its;
    }

pub returns-in_err-read-clause-reads : goal.returns-in_err-read-clause-reads
returns-in_err-read-clause-reads g c =
    let at = goal.at.returns-in_err-read-clause-reads g c in
    let it = move g at.After-pages_from-count (turn g at.After-span_at-span) in
    HasRead-most (c.loop-done.done + c.pages_from-count.result) (length c.args.out.now / (g.P.Port.meter c.args.port.now).page)
    (g.P.Port.meter c.args.port.now) (g.P.Port.meter c.read.new.self)
    (counted_by g at.After-pages_from-count (g.P.Port.meter c.read.new.self) it c.read.ensures.counts
    c.read.ensures.kept c.read.ensures.cause.kept)
    (omega (arith, it.part.some))
    (omega (arith, it.part.within, ap (λ (k : ℕ). length c.args.out.now / k) c.page-size.ensures))

pub after-at-requires-clause-at : goal.after-at-requires-clause-at
after-at-requires-clause-at g c = place g (goal.at.after-at-requires-clause-at g c).In-loop-done

pub loop-done-smaller : goal.loop-done-smaller
loop-done-smaller g c =
    let at = goal.at.loop-done-smaller g c in
    let it = move g at.After-pages_from-count (turn g at.After-span_at-span) in
    omega (arith, it.part.some, it.part.within)

pub loop-done-preserved : goal.loop-done-preserved
loop-done-preserved g c =
    let at = goal.at.loop-done-preserved g c in
    let here = turn g at.After-span_at-span in
    let it = move g at.After-pages_from-count here in
    let spans = spans_in c.args.pieces.now in
    let span = span_of g.P.S.Span.start g.P.S.Span.contents c.span_at-span.result.now in
    record {
      within = it.part.within;
      page = omega (arith, c.loop-done.invariant.page);
      place = c.after-at.ensures.at;
      near = λ less. turn_next c.args.pieces.now c.loop-done.page (c.loop-done.page + c.pages_from-count.result)
          c.loop-done.at.piece c.loop-done.at.index c.after-at.result.piece c.after-at.result.index span here c.requires.order
          c.after-at.ensures.rank (it.part.next less);
      copied = λ told.
          let read : c.read.new.out ≡ run_bytes (bytes_in spans) (c.args.first + c.loop-done.done) c.pages_from-count.result =
          c.in_ok-read.ensures.bytes told
          ∙ ap (λ (k : ℕ). concat (take k (drop (c.loop-done.page - c.first.result) span.pages))) it.quotient
          ∙ ap (λ (k : ℕ). concat (take c.pages_from-count.result (drop (c.loop-done.page - k) span.pages))) c.first.ensures
          ∙ sym (part_bytes spans (rank_of c.args.pieces.now c.loop-done.at.piece c.loop-done.at.index) c.loop-done.page
          c.pages_from-count.result span c.requires.order here.here.within here.same here.from it.part.inside)
          ∙ ap (λ (k : ℕ). run_bytes (bytes_in spans) k c.pages_from-count.result) c.loop-done.invariant.page in
          copied_more (bytes_in spans) c.args.first c.loop-done.done c.pages_from-count.result c.page-size.result
          ((c.loop-done.done + c.pages_from-count.result) * c.page-size.result - c.loop-done.done * c.page-size.result)
          c.loop-done.out c.read.new.out (c.loop-done.invariant.copied told) read (c.read.auto.out ∙ it.moved.long) it.moved.fits;
      counts = counted_by g at.After-pages_from-count (g.P.Port.meter c.read.new.self) it c.read.ensures.counts
          c.read.ensures.kept c.read.ensures.cause.kept;
      still = c.in_ok-read.ensures.cause.still (λ e. cc) ∙ c.loop-done.invariant.still;
    }

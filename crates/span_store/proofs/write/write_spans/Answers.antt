-- Each turn writes the part of the run that one span has.
use Rattle.std.proofs.Common.{◌≡◌, ℕ, ◌+◌, ◌-◌, ◌/◌, ◌≤◌, List, length, take, drop, get_or, set, refl, ap, sym, subst, ◌∙◌}
use Rattle.std.proofs.Common.{arith}
use Rattle.std.specs.List.{concat}
use Rattle.std.proofs.Math.Nat.{zero-mul}
use Rattle.page_port.specs.Pages.{AreOf, FitsPages}
use Rattle.fault_count.specs.Counts.{Meter, after_write}
use Rattle.span_store.specs.Held.{HeldSpan, span_of}
use Rattle.span_store.specs.Order.{InOrder, IsRank, no_span}
use Rattle.span_store.specs.Pieces.{AreWithinLimit, IsAt, IsAtOrEnd, IsLastBegun, piece_at, rank_of, spans_in}
use Rattle.span_store.proofs.InPieces.{at_within}
use Rattle.span_store.proofs.Begun.{last_near, none_held}
use Rattle.span_store.proofs.Runs.{IsMove, IsTurn, move_is, part_bytes, part_is, piece, turn_at, turn_in, whole_some}
use Rattle.span_store.proofs.Overwrites.{HaveRun-shape, InOrder-shape, IsOver-most, IsOver-none, written_more}
use Rattle.span_store.proofs.Turns.{IsWritten, same_row_refl, written_is, written_next}
use Rattle.span_store.proofs.Meters.{HasWritten, HasWritten-more, HasWritten-most, HasWritten-none}
use Rattle.span_store.proofs.Kept.{piece_read}
use Rattle.span_store.proofs.write.write_spans.Given.{Over}
use Rattle.span_store.proofs.write.write_spans.Goals.{In-loop-done, After-span_at-span, After-pages_from-count, After-index_mut}
use Rattle.span_store.proofs.write.write_spans.Goals.{After-write}
use Rattle.span_store.proofs.write.write_spans.Goals as goal

-- the span of this turn is there
place : (g : Over) (c : In-loop-done g) → IsAt c.loop-done.pieces.items c.loop-done.at.piece c.loop-done.at.index
place g c =
    turn_at c.loop-done.pieces.items c.args.first
    (length c.args.bytes.now / (g.P.Port.meter c.args.port.now).page) (length c.args.bytes.now / c.page-size.result)
    c.loop-done.done c.loop-done.page c.loop-done.at.piece c.loop-done.at.index (HaveRun-shape (spans_in c.args.pieces.now.items)
    (spans_in c.loop-done.pieces.items) c.args.first (length c.args.bytes.now / (g.P.Port.meter c.args.port.now).page)
    c.loop-done.invariant.over.shape c.requires.held)
    (ap (λ (k : ℕ). length c.args.bytes.now / k) c.page-size.ensures)
    c.loop-done.invariant.page c.loop-done-test.true c.loop-done.invariant.place c.loop-done.invariant.near

-- it has the next page
turn : (g : Over) (c : After-span_at-span g) →
    IsTurn c.loop-done.pieces.items c.loop-done.page c.loop-done.at.piece c.loop-done.at.index
    (span_of g.P.S.Span.start g.P.S.Span.contents c.span_at-span.result.now)
turn g c =
    turn_in c.loop-done.pieces.items c.args.first
    (length c.args.bytes.now / (g.P.Port.meter c.args.port.now).page) (length c.args.bytes.now / c.page-size.result)
    c.loop-done.done c.loop-done.page c.loop-done.at.piece c.loop-done.at.index
    (span_of g.P.S.Span.start g.P.S.Span.contents c.span_at-span.result.now) (HaveRun-shape (spans_in c.args.pieces.now.items)
    (spans_in c.loop-done.pieces.items) c.args.first (length c.args.bytes.now / (g.P.Port.meter c.args.port.now).page)
    c.loop-done.invariant.over.shape c.requires.held)
    (ap (λ (k : ℕ). length c.args.bytes.now / k) c.page-size.ensures)
    c.loop-done.invariant.page c.loop-done-test.true c.loop-done.invariant.place c.loop-done.invariant.near
    (c.span_at-span.ensures ∙ ap (λ (ps : List (List HeldSpan)). get_or (spans_in ps)
    (rank_of ps c.loop-done.at.piece c.loop-done.at.index) no_span) c.as_slice-in-loop-done.ensures.value)

-- what this turn writes
move : (g : Over) (c : After-pages_from-count g) →
    IsTurn c.loop-done.pieces.items c.loop-done.page c.loop-done.at.piece c.loop-done.at.index
    (span_of g.P.S.Span.start g.P.S.Span.contents c.span_at-span.result.now) →
    IsMove c.page-size.result (g.P.Port.meter c.loop-done.port).page (g.P.S.Span.start c.span_at-span.result.now)
    (length (g.P.S.Span.contents c.span_at-span.result.now)) c.loop-done.page c.loop-done.done
    (length c.args.bytes.now / c.page-size.result) c.pages_from-count.result c.args.bytes.now
move g c here =
    let some = (whole_some (g.P.Port.meter c.args.port.now).page (length c.args.bytes.now) c.requires.whole).0 in
    let part = part_is (g.P.S.Span.start c.span_at-span.result.now) (length (g.P.S.Span.contents c.span_at-span.result.now))
    c.loop-done.page c.loop-done.done (length c.args.bytes.now / c.page-size.result) c.pages_from-count.result
    here.from here.to c.loop-done-test.true c.pages_from-count.ensures.pages in
    move_is c.page-size.result (g.P.Port.meter c.loop-done.port).page (g.P.S.Span.start c.span_at-span.result.now)
    (length (g.P.S.Span.contents c.span_at-span.result.now)) c.loop-done.page c.loop-done.done
    (length c.args.bytes.now / c.page-size.result) c.pages_from-count.result c.args.bytes.now part
    (omega (arith, some, c.page-size.ensures)) refl (c.page-size.ensures ∙ sym c.loop-done.invariant.counts.page)

-- the piece of this turn, as the code sees it
seen : (g : Over) (c : After-index_mut g) → IsAt c.loop-done.pieces.items c.loop-done.at.piece c.loop-done.at.index →
    c.index_mut.result.now ≡ piece_at c.loop-done.pieces.items c.loop-done.at.piece
seen g c at = piece_read c.loop-done.pieces.items c.loop-done.at.piece c.index_mut.result.now at.within c.index_mut.ensures.value

-- what it leaves of the spans
left : (g : Over) (c : After-write g) →
    IsTurn c.loop-done.pieces.items c.loop-done.page c.loop-done.at.piece c.loop-done.at.index
    (span_of g.P.S.Span.start g.P.S.Span.contents c.span_at-span.result.now) →
    IsMove c.page-size.result (g.P.Port.meter c.loop-done.port).page (g.P.S.Span.start c.span_at-span.result.now)
    (length (g.P.S.Span.contents c.span_at-span.result.now)) c.loop-done.page c.loop-done.done
    (length c.args.bytes.now / c.page-size.result) c.pages_from-count.result c.args.bytes.now →
    c.index_mut.result.now ≡ piece_at c.loop-done.pieces.items c.loop-done.at.piece →
    IsWritten g.P.S.Span.tells (g.P.Port.meter c.args.port.now).page c.args.first c.loop-done.done c.loop-done.page
    c.pages_from-count.result c.loop-done.at.piece c.loop-done.at.index c.args.pieces.now.items c.loop-done.pieces.items
    (set c.loop-done.pieces.items c.loop-done.at.piece c.write.new.self)
    (span_of g.P.S.Span.start g.P.S.Span.contents c.span_at-span.result.now)
    (get_or c.write.new.self c.loop-done.at.index no_span)
left g c here it same =
    written_is g.P.S.Span.tells (g.P.Port.meter c.args.port.now).page c.args.first c.loop-done.done c.loop-done.page
    c.pages_from-count.result c.loop-done.at.piece c.loop-done.at.index
    (length (piece c.page-size.result c.loop-done.done c.pages_from-count.result c.args.bytes.now)
    / (g.P.Port.meter c.loop-done.port).page)
    c.args.pieces.now.items c.loop-done.pieces.items c.index_mut.result.now c.write.new.self
    (span_of g.P.S.Span.start g.P.S.Span.contents c.span_at-span.result.now) here c.loop-done.invariant.page
    c.loop-done.invariant.over c.loop-done.invariant.row c.loop-done.invariant.sized same c.write.ensures.over it.quotient
    (λ told. subst (λ (k : ℕ). AreOf k (get_or c.write.new.self c.loop-done.at.index no_span).pages)
    c.loop-done.invariant.counts.page (c.write.ensures.sized told))

-- what the port counts after this turn
counted_by : (g : Over) (c : After-pages_from-count g) (new : Meter) →
    IsMove c.page-size.result (g.P.Port.meter c.loop-done.port).page (g.P.S.Span.start c.span_at-span.result.now)
    (length (g.P.S.Span.contents c.span_at-span.result.now)) c.loop-done.page c.loop-done.done
    (length c.args.bytes.now / c.page-size.result) c.pages_from-count.result c.args.bytes.now →
    new ≡ after_write (g.P.Port.meter c.loop-done.port) (length (piece c.page-size.result c.loop-done.done c.pages_from-count.result
    c.args.bytes.now) / (g.P.Port.meter c.loop-done.port).page) new.faults →
    (g.P.Port.meter c.loop-done.port).written ≤ new.written → (g.P.Port.meter c.loop-done.port).faults ≤ new.faults →
    HasWritten (c.loop-done.done + c.pages_from-count.result) (g.P.Port.meter c.args.port.now) new
counted_by g c new it counts written faults =
    HasWritten-more c.loop-done.done c.pages_from-count.result (g.P.Port.meter c.args.port.now) (g.P.Port.meter c.loop-done.port) new
    c.loop-done.invariant.counts it.part.some
    (counts ∙ ap (λ (k : ℕ). after_write (g.P.Port.meter c.loop-done.port) k new.faults) it.quotient) written faults

pub unreachable-requires : goal.unreachable-requires
unreachable-requires g c =
    let some = (whole_some (g.P.Port.meter c.args.port.now).page (length c.args.bytes.now) c.requires.whole).1 in
    none_held (spans_in c.args.pieces.now.items) c.args.first c.requires.order
    (subst (λ (ps : List (List HeldSpan)). IsRank (spans_in ps) c.args.first 0) c.as_slice.ensures.value c.in_default.ensures.none)
    (c.requires.held c.args.first (omega arith) (omega (arith, some)))

pub loop-done-init : goal.loop-done-init
loop-done-init g c =
    let last = subst (λ (ps : List (List HeldSpan)). IsLastBegun ps c.args.first c.in-Some.at.piece c.in-Some.at.index)
    c.as_slice.ensures.value c.in-Some.ensures.found in
    record {
      within = omega arith;
      page = omega arith;
      place = λ _. last.at.inner;
      near = λ some. last_near c.args.pieces.now.items c.args.first c.in-Some.at.piece c.in-Some.at.index c.requires.order last;
      over = IsOver-none c.args.first (spans_in c.args.pieces.now.items);
      row = same_row_refl c.args.pieces.now.items;
      sized = c.requires.sized;
      written = λ told. ap (λ (k : ℕ). take k c.args.bytes.now) (sym (zero-mul c.page-size.result));
      room = refl;
      counts = HasWritten-none (g.P.Port.meter c.args.port.now);
      still = refl;
    }

pub span_at-span-requires : goal.span_at-span-requires
span_at-span-requires g c =
    subst (λ (ps : List (List HeldSpan)). IsAt ps c.loop-done.at.piece c.loop-done.at.index) (sym c.as_slice-in-loop-done.ensures.value)
    (place g (goal.at.span_at-span-requires g c).In-loop-done)

pub pages_from-count-requires-clause-from : goal.pages_from-count-requires-clause-from
pages_from-count-requires-clause-from g c = (turn g (goal.at.pages_from-count-requires-clause-from g c).After-span_at-span).from

pub pages_from-count-requires-clause-to : goal.pages_from-count-requires-clause-to
pages_from-count-requires-clause-to g c = (turn g (goal.at.pages_from-count-requires-clause-to g c).After-span_at-span).to

pub index_mut-requires : goal.index_mut-requires
index_mut-requires g c =
    let within = (place g (goal.at.index_mut-requires g c).In-loop-done).within in
    omega (arith, within, c.loop-done.pieces.ok.0)

pub write-requires-clause-within : goal.write-requires-clause-within
write-requires-clause-within g c =
    let at = goal.at.write-requires-clause-within g c in
    let there = place g at.In-loop-done in
    omega (arith, there.inner, ap length (seen g at.After-index_mut there))

pub write-requires-clause-from : goal.write-requires-clause-from
write-requires-clause-from g c =
    let at = goal.at.write-requires-clause-from g c in
    let here = turn g at.After-span_at-span in
    let first = ap (λ (p : List HeldSpan). (get_or p c.loop-done.at.index no_span).first) (seen g at.After-index_mut here.at) in
    omega (arith, here.from, first, ap (λ (s : HeldSpan). s.first) here.own)

pub write-requires-clause-fits : goal.write-requires-clause-fits
write-requires-clause-fits g c =
    let at = goal.at.write-requires-clause-fits g c in
    let here = turn g at.After-span_at-span in
    let it = move g at.After-pages_from-count here in
    let rows = spans_in c.loop-done.pieces.items in
    let size = (g.P.Port.meter c.loop-done.port).page in
    let bytes = length (piece c.page-size.result c.loop-done.done c.pages_from-count.result c.args.bytes.now) in
    let own : get_or c.index_mut.result.now c.loop-done.at.index no_span
    ≡ span_of g.P.S.Span.start g.P.S.Span.contents c.span_at-span.result.now =
    ap (λ (p : List HeldSpan). get_or p c.loop-done.at.index no_span) (seen g at.After-index_mut here.at) ∙ here.own in
    subst (λ (s : HeldSpan). FitsPages g.P.S.Span.tells size (c.loop-done.page - s.first) bytes s.pages) (sym own) (record {
      whole = it.whole;
      range = omega (arith, it.quotient, it.part.inside);
      sized = λ told.
          let its = subst (λ (s : HeldSpan). AreOf (g.P.Port.meter c.args.port.now).page s.pages) here.same
          (c.loop-done.invariant.sized told (rank_of c.loop-done.pieces.items c.loop-done.at.piece c.loop-done.at.index) no_span
          here.here.within) in
          subst (λ (k : ℕ). AreOf k (g.P.S.Span.contents c.span_at-span.result.now)) (sym c.loop-done.invariant.counts.page) its;
    })

pub returns-in_err-write-clause-others : goal.returns-in_err-write-clause-others
returns-in_err-write-clause-others g c =
    let at = goal.at.returns-in_err-write-clause-others g c in
    let here = turn g at.After-span_at-span in
    let it = move g at.After-pages_from-count here in
    let now = left g at.After-write here it (seen g at.After-index_mut here.at) in
    IsOver-most c.args.first (c.loop-done.done + c.pages_from-count.result)
    (length c.args.bytes.now / (g.P.Port.meter c.args.port.now).page) (spans_in c.args.pieces.now.items) _ now.all
    (omega (arith, it.part.within, ap (λ (k : ℕ). length c.args.bytes.now / k) c.page-size.ensures))

pub returns-in_err-write-clause-row : goal.returns-in_err-write-clause-row
returns-in_err-write-clause-row g c =
    let at = goal.at.returns-in_err-write-clause-row g c in
    let here = turn g at.After-span_at-span in
    (left g at.After-write here (move g at.After-pages_from-count here) (seen g at.After-index_mut here.at)).row

pub returns-in_err-write-clause-sized : goal.returns-in_err-write-clause-sized
returns-in_err-write-clause-sized g c =
    let at = goal.at.returns-in_err-write-clause-sized g c in
    let here = turn g at.After-span_at-span in
    (left g at.After-write here (move g at.After-pages_from-count here) (seen g at.After-index_mut here.at)).sized

pub returns-in_err-write-clause-writes : goal.returns-in_err-write-clause-writes
returns-in_err-write-clause-writes g c =
    let at = goal.at.returns-in_err-write-clause-writes g c in
    let it = move g at.After-pages_from-count (turn g at.After-span_at-span) in
    HasWritten-most (c.loop-done.done + c.pages_from-count.result) (length c.args.bytes.now / (g.P.Port.meter c.args.port.now).page)
    (g.P.Port.meter c.args.port.now) (g.P.Port.meter c.write.new.port)
    (counted_by g at.After-pages_from-count (g.P.Port.meter c.write.new.port) it
    c.write.ensures.counts c.write.ensures.kept c.write.ensures.cause.kept)
    (omega (arith, it.part.some))
    (omega (arith, it.part.within, ap (λ (k : ℕ). length c.args.bytes.now / k) c.page-size.ensures))

pub after-at-requires-clause-filled : goal.after-at-requires-clause-filled
after-at-requires-clause-filled g c =
    let at = goal.at.after-at-requires-clause-filled g c in
    let here = turn g at.After-span_at-span in
    let now = left g at.After-write here (move g at.After-pages_from-count here) (seen g at.After-index_mut here.at) in
    subst AreWithinLimit (sym c.as_slice-in-loop-done-2.ensures.value) (now.row.filled c.requires.filled)

pub after-at-requires-clause-at : goal.after-at-requires-clause-at
after-at-requires-clause-at g c =
    let at = goal.at.after-at-requires-clause-at g c in
    let here = turn g at.After-span_at-span in
    let now = left g at.After-write here (move g at.After-pages_from-count here) (seen g at.After-index_mut here.at) in
    subst (λ (ps : List (List HeldSpan)). IsAt ps c.loop-done.at.piece c.loop-done.at.index)
    (sym c.as_slice-in-loop-done-2.ensures.value) now.at

pub loop-done-smaller : goal.loop-done-smaller
loop-done-smaller g c =
    let at = goal.at.loop-done-smaller g c in
    let it = move g at.After-pages_from-count (turn g at.After-span_at-span) in
    omega (arith, it.part.some, it.part.within)

pub loop-done-preserved : goal.loop-done-preserved
loop-done-preserved g c =
    let at = goal.at.loop-done-preserved g c in
    let here = turn g at.After-span_at-span in
    let it = move g at.After-pages_from-count here in
    let now = left g at.After-write here it (seen g at.After-index_mut here.at) in
    let old = c.args.pieces.now.items in
    let ps = c.loop-done.pieces.items in
    let i = c.loop-done.at.piece in
    let j = c.loop-done.at.index in
    let qs = set ps i c.write.new.self in
    let t = get_or c.write.new.self j no_span in
    let s = span_of g.P.S.Span.start g.P.S.Span.contents c.span_at-span.result.now in
    let rows = spans_in qs in
    let count = c.pages_from-count.result in
    let order_now : InOrder 0 rows = InOrder-shape 0 (spans_in old) rows now.all.shape c.requires.order in
    let place_now : IsAtOrEnd qs c.after-at.result.piece c.after-at.result.index =
    subst (λ (r : List (List HeldSpan)). IsAtOrEnd r c.after-at.result.piece c.after-at.result.index)
    c.as_slice-in-loop-done-2.ensures.value
    c.after-at.ensures.at in
    let rank_now : rank_of qs c.after-at.result.piece c.after-at.result.index ≡ rank_of qs i j + 1 =
    subst (λ (r : List (List HeldSpan)). rank_of r c.after-at.result.piece c.after-at.result.index ≡ rank_of r i j + 1)
    c.as_slice-in-loop-done-2.ensures.value c.after-at.ensures.rank in
    record {
      within = it.part.within;
      page = omega (arith, c.loop-done.invariant.page);
      place = place_now;
      near = λ less.
          written_next g.P.S.Span.tells (g.P.Port.meter c.args.port.now).page c.args.first c.loop-done.done c.loop-done.page count i j
          c.after-at.result.piece c.after-at.result.index (length c.args.bytes.now / c.page-size.result) old ps qs s t now
          c.requires.order rank_now it.part less;
      over = now.all;
      row = now.row;
      sized = now.sized;
      written = λ told.
          let held = part_bytes rows (rank_of qs i j) c.loop-done.page count t order_now (at_within qs i j now.at) now.here
          (omega (arith, now.begin, here.from)) (omega (arith, now.begin, now.long, it.part.inside)) in
          let wrote : concat (take count (drop (c.loop-done.page - t.first) t.pages))
          ≡ piece c.page-size.result c.loop-done.done count c.args.bytes.now =
          ap (λ (k : ℕ). concat (take count (drop (c.loop-done.page - k) t.pages))) c.write.ensures.over.first
          ∙ ap (λ (k : ℕ). concat (take k (drop (c.loop-done.page - (get_or c.index_mut.result.now j no_span).first) t.pages)))
          (sym it.quotient)
          ∙ c.in_ok-write.ensures.bytes told in
          written_more (spans_in ps) rows c.args.first c.loop-done.done c.loop-done.page count c.page-size.result c.args.bytes.now
          c.loop-done.invariant.page now.over (c.loop-done.invariant.written told) (held ∙ wrote);
      room = c.loop-done.invariant.room;
      counts = counted_by g at.After-pages_from-count (g.P.Port.meter c.write.new.port) it
          c.write.ensures.counts c.write.ensures.kept c.write.ensures.cause.kept;
      still = c.in_ok-write.ensures.cause.still (λ e. cc) ∙ c.loop-done.invariant.still;
    }

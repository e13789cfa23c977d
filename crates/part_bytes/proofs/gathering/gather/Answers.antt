-- Each piece comes behind those before it.
use Rattle.std.proofs.Common.{◌≡◌, ℕ, ◌+◌, ◌-◌, List, ◌∷◌, length, drop, get_or, ap, subst, arith}
use Rattle.std.proofs.lemmas.Bool.{false≢true}
use Rattle.std.proofs.lemmas.List.{at_drop_more, length-take, length-drop}
use Rattle.std.proofs.lemmas.List.Sums.{sum_by-cons}
use Rattle.std.proofs.lemmas.Slice.{take-put_mid}
use Rattle.std.specs.Prelude.{IsTrue}
use borrow.Rule.Slice.PartMut.{put_mid}
use Rattle.fault_count.specs.Counts.{Reads}
use Rattle.edit_parts.specs.declared.piece.Piece.{Piece}
use Rattle.edit_parts.specs.declared.piece.Piece.TheVariants.{Old}
use Rattle.edit_parts.specs.Pieces.{piece_bytes, piece_content, pieces_bytes}
use Rattle.span_store.specs.Held.{bytes_on}
use Rattle.part_bytes.specs.Gathering.{piece_reads}
use Rattle.part_bytes.proofs.GatherLemmas.{gathering_more}
use Rattle.part_bytes.proofs.gathering.gather.Goals as goal

abbrev none : Piece
none = Old 0 0 0

pub loop-piece-preserved : goal.loop-piece-preserved
loop-piece-preserved g c =
    let held = c.args.held.now in
    let payload = c.args.payload.now in
    let pieces = c.args.pieces.now in
    let i = c.loop-piece.piece-index in
    let done = c.loop-piece.done in
    let count = c.bytes-count.result in
    let out = c.loop-piece.out in
    let part = c.gather_one.new.out in
    let so_far = c.loop-piece.invariant in
    let piece : Piece = get_or pieces i none in
    let left : drop i pieces ≡ piece ∷ drop (i + 1) pieces = at_drop_more (λ (l : List Piece). l) pieces i none c.loop-piece-test.true in
    let unit = so_far.reads.used.page in
    let sum = ap pieces_bytes left in
    let more = sum_by-cons piece_bytes piece (drop (i + 1) pieces) in
    let long : length part ≡ count =
    omega (
      arith,
      c.gather_one.auto.out,
      length-take (done + count - done) (drop done out),
      length-drop done out,
      so_far.long,
      c.loop-piece.auto.out,
      sum,
      more,
      c.bytes-count.ensures,
    ) in
    gathering_more g.P.S.Span.tells (g.P.Port.meter c.args.port.now).page held payload pieces (drop i pieces) (drop (i + 1) pieces)
    piece (length c.args.out.now) done count out part (put_mid done (done + count - done) out part)
    (g.P.Port.meter c.args.port.now) (g.P.Port.meter c.loop-piece.port) (g.P.Port.meter c.gather_one.new.port)
    left c.bytes-count.ensures so_far
    (subst (λ (k : ℕ). IsTrue g.P.S.Span.tells → part ≡ piece_content (bytes_on held) k payload piece) unit
    c.in_ok-gather_one.ensures.bytes)
    (take-put_mid done (done + count - done) out part (done + count) (omega (arith, long))
    (omega (arith, so_far.long, c.loop-piece.auto.out)))
    (subst (λ (k : ℕ). Reads (piece_reads k piece) (g.P.Port.meter c.loop-piece.port) (g.P.Port.meter c.gather_one.new.port)) unit
    c.in_ok-gather_one.ensures.reads)
    (c.in_ok-gather_one.ensures.cause.still false≢true)

-- Another spare piece without spans.
use Rattle.std.proofs.Common.{[], ◌∷◌, length, ap, ◌∙◌, arith, length-append}
use Rattle.span_store.specs.Pieces.{spans_in}
use Rattle.span_store.proofs.Filed.{spare_push}
use Rattle.span_store.proofs.row.prepare.Goals as goal

pub loop-alloc-preserved : goal.loop-alloc-preserved
loop-alloc-preserved g c =
    let ok = c.loop-alloc.spare.ok.0 in
    let more = ap length c.push_reserved.ensures.items ∙ length-append c.loop-alloc.spare.items (c.in_ok-piece.piece ∷ []) in
    record {
      empty = ap spans_in c.push_reserved.ensures.items
          ∙ spare_push c.loop-alloc.spare.items c.in_ok-piece.piece c.loop-alloc.invariant.empty c.in_ok-piece.ensures;
      least = omega (arith, c.loop-alloc.invariant.least, more);
      most = omega (arith, c.loop-alloc-test.true, c.len-in-loop-alloc.ensures, ok, more, c.max-all.ensures);
      fits = omega (arith, c.loop-alloc.invariant.fits, c.push_reserved.ensures.capacity);
    }

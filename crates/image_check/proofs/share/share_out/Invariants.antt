use Rattle.span_store.specs.Held.{spans_of}
use Rattle.image_check.specs.Shares.{AreShared, AsksShare, page_total}
use Rattle.image_check.proofs.share.share_out.Given as goal

abbrev pub invariant-loop-span : goal.invariant-loop-span
invariant-loop-span g l = record {
  shared : AreShared l.walk (spans_of g.S.Span.start g.S.Span.contents l.fn.stack.items)
      (spans_of g.S.Span.start g.S.Span.contents l.stack.items) l.fn.objects l.objects;
  asks : AsksShare l.walk (spans_of g.S.Span.start g.S.Span.contents l.stack.items) l.objects;
}

abbrev pub decreases-loop-span : goal.decreases-loop-span
decreases-loop-span g l = page_total g.S.Span.contents l.stack.items

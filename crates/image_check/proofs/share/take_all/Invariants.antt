use Rattle.std.proofs.Common.{◌≡◌, ◌≤◌, ◌+◌, length, vec_len, vec_capacity}
use Rattle.span_store.specs.Held.{spans_of}
use Rattle.image_check.proofs.ShareLemmas.{IsTaking}
use Rattle.image_check.proofs.share.take_all.Given as goal

abbrev pub invariant-loop-span : goal.invariant-loop-span
invariant-loop-span g l = record {
  taking : IsTaking l.fn.held l.held (spans_of g.S.Span.start g.S.Span.contents l.stack.items);
  room : vec_len l.stack + length l.held.spans ≤ vec_capacity l.stack;
  capacity : vec_capacity l.stack ≡ vec_capacity l.fn.stack;
}

abbrev pub decreases-loop-span : goal.decreases-loop-span
decreases-loop-span g l = length l.held.spans

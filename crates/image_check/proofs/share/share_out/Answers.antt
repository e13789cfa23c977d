-- One run goes to its owner after the other.
use Rattle.std.proofs.Common.{sym, subst}
use Rattle.span_store.specs.Held.{spans_of}
use Rattle.image_check.specs.Shares.{AreShared, AsksShare}
use Rattle.image_check.proofs.ShareLemmas.{shared-then}
use Rattle.image_check.proofs.share.share_out.Goals as goal

pub give_front-requires-clause-asks : goal.give_front-requires-clause-asks
give_front-requires-clause-asks g c =
    subst (λ items. AsksShare c.args.walk.now (spans_of g.S.Span.start g.S.Span.contents items) c.loop-span.objects)
    c.in-Some.ensures.items c.loop-span.invariant.asks

pub loop-span-preserved : goal.loop-span-preserved
loop-span-preserved g c = record {
  shared = shared-then c.args.walk.now (spans_of g.S.Span.start g.S.Span.contents c.args.stack.now.items)
      (spans_of g.S.Span.start g.S.Span.contents c.loop-span.stack.items)
      (spans_of g.S.Span.start g.S.Span.contents c.give_front.new.stack.items) c.args.objects.now c.loop-span.objects
      c.give_front.new.objects
      c.loop-span.invariant.shared
      (subst (λ items. AreShared c.args.walk.now (spans_of g.S.Span.start g.S.Span.contents items)
      (spans_of g.S.Span.start g.S.Span.contents c.give_front.new.stack.items) c.loop-span.objects c.give_front.new.objects)
      (sym c.in-Some.ensures.items) c.give_front.ensures.shared);
  asks = c.give_front.ensures.asks;
}

pub returns-in_err-give_front-clause-shared : goal.returns-in_err-give_front-clause-shared
returns-in_err-give_front-clause-shared g c =
    shared-then c.args.walk.now (spans_of g.S.Span.start g.S.Span.contents c.args.stack.now.items)
    (spans_of g.S.Span.start g.S.Span.contents c.loop-span.stack.items)
    (spans_of g.S.Span.start g.S.Span.contents c.give_front.new.stack.items) c.args.objects.now c.loop-span.objects c.give_front.new.objects
    c.loop-span.invariant.shared
    (subst (λ items. AreShared c.args.walk.now (spans_of g.S.Span.start g.S.Span.contents items)
    (spans_of g.S.Span.start g.S.Span.contents c.give_front.new.stack.items) c.loop-span.objects c.give_front.new.objects)
    (sym c.in-Some.ensures.items) c.give_front.ensures.shared)

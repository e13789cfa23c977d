-- The owners are the objects that were checked.
use Rattle.std.proofs.Common.{◌+◌, ◌∙◌, arith}
use Rattle.image_check.proofs.GivenLemmas.{below-claimed, below-more}
use Rattle.image_check.proofs.tests.check_all.Goals as goal

pub loop-object-preserved : goal.loop-object-preserved
loop-object-preserved g c = record {
  page = c.in_ok-check_object.ensures.reads.used.page ∙ c.loop-object.invariant.page;
  marked = c.in_ok-check_object.ensures.judged.marked;
  below = below-claimed (c.loop-object.object + 1) c.loop-object.object c.loop-object.walk c.check_object.new.walk
      (below-more c.loop-object.object (c.loop-object.object + 1) c.loop-object.walk c.loop-object.invariant.below (omega arith))
      (omega arith) c.in_ok-check_object.ensures.judged.claims;
  room = c.in_ok-check_object.ensures.room;
}

pub returns-in_err-check_object-clause-below : goal.returns-in_err-check_object-clause-below
returns-in_err-check_object-clause-below g c =
    let inside = c.loop-object-test.true in
    below-claimed 16 c.loop-object.object c.loop-object.walk c.check_object.new.walk
    (below-more c.loop-object.object 16 c.loop-object.walk c.loop-object.invariant.below (omega (arith, inside)))
    (omega (arith, inside)) c.in_err-check_object.ensures.judged.claims

-- Each call appends the first bytes of the rest.
use Rattle.std.proofs.Common.{◌∙◌, arith}
use Rattle.edge_io.proofs.MovedLemmas.{Appends-more, rest-more}
use Rattle.edge_io.proofs.write.write_all.Goals as goal

pub loop-rest-preserved : goal.loop-rest-preserved
loop-rest-preserved g c = record {
  end = omega arith;
  rest = rest-more _ _ _ _ c.loop-rest.invariant.end c.split_at.ensures.back_len c.loop-rest.invariant.rest c.split_at.ensures.back;
  front = Appends-more _ _ _ c.in_ok-count.count _ _ _ c.loop-rest.invariant.end c.split_at.ensures.back_len c.loop-rest.invariant.rest
      c.loop-rest.invariant.front c.in_ok-count.ensures.appends;
  still = c.in_ok-count.ensures.cause.still (λ e. cc) ∙ c.loop-rest.invariant.still;
}

-- What is kept of the nodes besides stays right.
use Rattle.tree_model.specs.Node.{NodeBytes, room_of}
use Rattle.page_cache.proofs.CallerLemmas.{HaveAtMost-left, each-left}
use Rattle.tree_splice.proofs.nodes.forget_runs.Goals as goal

pub loop-run-preserved : goal.loop-run-preserved
loop-run-preserved c = λ told size at right.
    let before = c.loop-run.invariant told size at right in
    record {
      small = HaveAtMost-left (room_of size) c.loop-run.cache c.forget_run.new.self _ _ c.forget_run.ensures.gone
          c.forget_run.ensures.others before.small;
      right = λ t.
          each-left (λ page n. NodeBytes (at page) n.level n.pairs.items) c.loop-run.cache c.forget_run.new.self _ _
          c.forget_run.ensures.gone
          c.forget_run.ensures.others (before.right t);
    }

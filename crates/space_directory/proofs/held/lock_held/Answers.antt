-- One page more: it is locked unless it is free.
use Rattle.std.proofs.Common.{length, sym, ap, ◌∙◌, arith}
use Rattle.space_directory.proofs.LockedRuns.{held_step, free_step}
use Rattle.space_directory.proofs.held.lock_held.Goals as goal
use Rattle.space_directory.proofs.held.lock_held.Goals.{then-not-is_free, else-not-is_free}

pub loop-page-preserved : goal.loop-page-preserved
loop-page-preserved c = elim c.if-not-is_free.branch [
  | then-not-is_free w ↦ record {
    locked = held_step c.args.map.now c.args.locks.now c.loop-page.locks c.if-not-is_free.locks c.args.at
        c.loop-page.page (omega arith) (omega (
          arith,
          c.requires.within,
        )) c.requires.size c.loop-page.invariant.locked
        (sym c.is_free.ensures ∙ w.if-not-is_free.true) (w.locks-is ∙ w.lock.ensures.locked);
    size = ap length w.locks-is ∙ w.lock.ensures.size ∙ c.loop-page.invariant.size;
  }
  | else-not-is_free w ↦ record {
    locked = free_step c.args.map.now c.args.locks.now c.loop-page.locks c.if-not-is_free.locks c.args.at
        c.loop-page.page (omega arith) (omega (
          arith,
          c.requires.within,
        )) c.requires.size c.loop-page.invariant.locked
        (sym c.is_free.ensures ∙ w.if-not-is_free.false) w.locks-is;
    size = ap length w.locks-is ∙ c.loop-page.invariant.size;
  }
]

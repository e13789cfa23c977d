use Rattle.std.proofs.Common.{subst}
use Rattle.plain_plan.specs.Store.{numbers_of}
use Rattle.moment_model.specs.Run.{AreCounts}
use Rattle.plain_moment.proofs.Storing.{status_ok}
use Rattle.plain_moment.proofs.plain_store.PlainStore.status.Goals as goal

pub returns : goal.returns
returns c =
    let counts = c.in_ok-counts.counts in
    record {
      step = status_ok _ _ c.args.session counts.free counts.locked counts.held c.self.view_is c.requires.tied
          c.requires.from_one c.requires.upto
          (subst (λ m. AreCounts (numbers_of c.self.inside.store) m counts.free counts.locked counts.held)
          c.deref.ensures.value c.in_ok-counts.ensures);
    }

use Rattle.std.proofs.Common.{ap, ◌∙◌}
use Rattle.plain_plan.specs.Store.{numbers_of}
use Rattle.moment_model.specs.Version.{uses}
use Rattle.plain_moment.proofs.Uses.{locked_same}
use Rattle.plain_moment.proofs.counting.locked_of.Goals as goal

pub returns : goal.returns
returns c =
    c.from_vec.ensures ∙ (c.in_ok-rows.ensures
    ∙ locked_same (numbers_of c.args.store.now) c.args.moment.now c.deref.result.now c.deref-2.result.now
    (λ page. ap (uses page) c.deref.ensures.value ∙ c.in_ok-committed.ensures page)
    (λ page. ap (uses page) c.deref-2.ensures.value ∙ c.in_ok-working.ensures page))

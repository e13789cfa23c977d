-- The new end is the last one.
use Rattle.std.proofs.Common.{sym, subst, ◌<◌}
use Rattle.eos_ops.specs.Ends.{last_stamp_of}
use Rattle.eos_ops.proofs.EndsLemmas.{AreAges-push, last_stamp_of-push}
use Rattle.eos_ops.proofs.kept.KeptAnnals.append_end.Goals as goal

pub invariant_of-self : goal.invariant_of-self
invariant_of-self c =
    let above = subst (λ k. last_stamp_of k.ends < c.args.end.stamp) (sym c.self.view_is) c.requires.above in
    rw c.push_reserved.ensures.items (AreAges-push c.self.inside.list.items c.args.end c.self.invariant above c.requires.within)

pub returns-clause-last : goal.returns-clause-last
returns-clause-last c = rw c.push_reserved.ensures.items (last_stamp_of-push c.self.inside.list.items c.args.end)

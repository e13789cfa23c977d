-- The stamp is that of the end at the last place.
use Rattle.std.proofs.Common.{◌≡◌, sym, ◌∙◌, ap, arith, subst}
use Rattle.eos_ops.specs.Ends.{last_stamp_of, AreAges}
use Rattle.eos_ops.proofs.EndsLemmas.{last_stamp_of-last}
use Rattle.eos_ops.proofs.kept.KeptAnnals.last_stamp.Goals as goal

stamp : (c : goal.In-Some) → last_stamp_of c.args.self.now.ends ≡ c.in-Some.end.now.stamp
stamp c =
    ap (λ k. last_stamp_of k.ends) (sym c.self.view_is) ∙ ap last_stamp_of (sym c.deref.ensures.value)
    ∙ last_stamp_of-last c.deref.result.now c.in-Some.end.now c.in-Some.ensures.item.3.0 (sym c.in-Some.ensures.value)

ages : (c : goal.In-Some) → AreAges c.args.self.now.ends
ages c = subst (λ k. AreAges k.ends) c.self.view_is c.self.invariant

pub returns-in-Some-clause-value : goal.returns-in-Some-clause-value
returns-in-Some-clause-value c = sym (stamp c)

pub returns-in-Some-clause-within : goal.returns-in-Some-clause-within
returns-in-Some-clause-within c = omega (arith, stamp c, (ages c).within)

pub returns-in-Some-clause-told : goal.returns-in-Some-clause-told
returns-in-Some-clause-told c = (sym (stamp c), omega (arith, stamp c, (ages c).few))

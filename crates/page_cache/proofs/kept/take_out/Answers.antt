-- A page stands in one entry at most, so the page of the one that is taken out has none.
use Rattle.std.proofs.Common.{nat_eq, refl, ◌∙◌}
use Rattle.std.specs.Cmp.{nat_eq_equiv}
use Rattle.std.proofs.lemmas.Map.{lookup-remove_entry}
use Rattle.std.proofs.lemmas.Bool.{eq-eqb}
use Rattle.page_cache.proofs.KeptLemmas.{lookup-remove_other, length-removed, eqb-moves}
use Rattle.page_cache.proofs.kept.take_out.Goals as goal

pub returns-then-len-gt0-clause-gone : goal.returns-then-len-gt0-clause-gone
returns-then-len-gt0-clause-gone c =
    let page = c.args.page in
    let after = c.pop.ensures.entries in
    let out = lookup-remove_entry nat_eq_equiv (nat_eq page) (eqb-moves page) page c.args.nodes.now.entries c.len.ensures.valid.0 in
    rw after (out ∙ rw (eq-eqb page page refl) refl)

pub returns-then-len-gt0-clause-others : goal.returns-then-len-gt0-clause-others
returns-then-len-gt0-clause-others c = λ q other.
    rw c.pop.ensures.entries (lookup-remove_other q c.args.page c.args.nodes.now.entries other)

pub returns-then-len-gt0-clause-order : goal.returns-then-len-gt0-clause-order
returns-then-len-gt0-clause-order c = rw c.pop.ensures.entries refl

pub returns-then-len-gt0-clause-fewer : goal.returns-then-len-gt0-clause-fewer
returns-then-len-gt0-clause-fewer c = rw c.pop.ensures.entries (length-removed c.args.page c.args.nodes.now.entries)

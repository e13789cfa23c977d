-- The last entry is the one that the slice names.
use Rattle.std.proofs.Common.{◌-◌, length, sym, ap, arith, ◌∙◌}
use Rattle.std.proofs.lemmas.Option.{slice_get_within}
use Rattle.tree_model.specs.declared.entry.Pair.{Pair}
use Rattle.tree_model.specs.Tree.{page_count}
use Rattle.object_change.proofs.SpareLemmas.{last-is}
use Rattle.object_change.proofs.spare.last_pages.Goals as goal

pub returns-in-Some : goal.returns-in-Some
returns-in-Some c =
    let entries = c.args.entries.now in
    let here = sym c.in-Some.ensures.value in
    let within = slice_get_within entries (length entries - 1) c.in-Some.pair.now here in
    c.page_count.ensures
    ∙ ap (λ (q : Pair). page_count c.args.page q.bytes)
    (sym (last-is entries (length entries - 1) c.in-Some.pair.now (omega (arith, within)) here))

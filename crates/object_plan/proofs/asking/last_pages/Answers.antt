use Rattle.std.proofs.Common.{◌<◌, ◌-◌, ◌^◌, length, get_or, ap, sym, arith, ◌∙◌}
use Rattle.tree_model.specs.declared.entry.Pair.{Pair}
use Rattle.tree_model.specs.Tree.{page_count}
use Rattle.tree_model.proofs.RangeLemmas.{no_segment}
use Rattle.edit_plan.proofs.SpotLemmas.{each-pair}
use Rattle.object_plan.proofs.PackedLemmas.{last-of-window}
use Rattle.object_plan.proofs.CodeLemmas.{few-pages}
use Rattle.object_plan.proofs.asking.last_pages.Goals as goal

pub page_count-requires-clause-few : goal.page_count-requires-clause-few
page_count-requires-clause-few c =
    let window = c.args.window.now in
    let some : length window - 1 < length window = omega (arith, c.if-count-eq0.false) in
    let few = each-pair (λ (p : Pair). p.bytes < 2 ^ 32) window (length window - 1) c.requires.few some in
    omega (arith, few)

pub overflow_cast-result : goal.overflow_cast-result
overflow_cast-result c =
    let window = c.args.window.now in
    let some : length window - 1 < length window = omega (arith, c.if-count-eq0.false) in
    let few = each-pair (λ (p : Pair). p.bytes < 2 ^ 32) window (length window - 1) c.requires.few some in
    let pages = few-pages c.args.page (get_or window (length window - 1) no_segment).pair.bytes c.requires.some in
    omega (arith, few, pages, c.page_count.ensures)

pub returns : goal.returns
returns c =
    let some : 0 < length c.args.window.now = omega (arith, c.if-count-eq0.false) in
    c.page_count.ensures ∙ ap (λ (q : Pair). page_count c.args.page q.bytes) (sym (last-of-window c.args.window.now some))

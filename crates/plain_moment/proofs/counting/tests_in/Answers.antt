use Rattle.std.proofs.Common.{zero-add}
use Rattle.std.proofs.lemmas.List.FromFn.{map-range_with_len_more}
use Rattle.geometry_model.specs.Pages.{data_page}
use Rattle.plain_plan.specs.Store.{numbers_of}
use Rattle.plain_moment.specs.Testing.{is_in}
use Rattle.plain_moment.proofs.counting.tests_in.Goals as goal

-- one page more is tested
pub pages-preserved : goal.pages-preserved
pages-preserved c =
    let more = map-range_with_len_more (λ at. is_in c.args.locked c.args.committed.now c.args.working.now
    (data_page (numbers_of c.args.store.now) c.args.space at)) 0 c.pages.at c.pages.at (zero-add c.pages.at) in
    let pushed = c.in-Ok.ensures.items in
    cc (c.in-Ok.ensures.items, c.pages.invariant, c.is_in.ensures, c.in_ok-page.ensures)

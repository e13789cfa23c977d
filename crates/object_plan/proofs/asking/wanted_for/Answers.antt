use Rattle.std.proofs.Common.{ℕ, ap, arith}
use Rattle.tree_model.specs.Range.{pairs_of}
use Rattle.tree_model.specs.Tree.{page_count}
use Rattle.layout_model.specs.Plan.{last_entry}
use Rattle.object_plan.proofs.CodeLemmas.{last-fits}
use Rattle.object_plan.proofs.asking.wanted_for.Goals as goal
use Rattle.geometry_model.proofs.NumberLaws.{page-some}

pub requests_for-requires-clause-last : goal.requests_for-requires-clause-last
requests_for-requires-clause-last c =
    let n = c.args.geometry.now in
    let fits = last-fits n (pairs_of c.args.window.now) (page-some n c.page-page.ensures.range) c.requires.segments in
    let same = ap (λ (k : ℕ). page_count k (last_entry (pairs_of c.args.window.now)).bytes) c.page-page.ensures.exact in
    omega (arith, fits, same, c.last_pages-last.ensures, c.space_pages-limit.ensures.exact)

-- No page is both free and locked, and the space is left as it was.
use Rattle.std.proofs.Common.{ap, sym, ◌∙◌, subst, arith}
use Rattle.block_model.specs.Block.{count_of}
use Rattle.superdirectory.specs.Grants.{AreTold}
use Rattle.superdirectory.specs.Rest.{entering, leaving}
use Rattle.superdirectory.specs.Solo.{rest_of}
use Rattle.superdirectory.proofs.Spots.{told_at}
use Rattle.body_world.proofs.StatusLemmas.{counts-within, told-back}
use Rattle.body_world.proofs.status.count_one.Goals as goal

pub overflow_sub-result-2 : goal.overflow_sub-result-2
overflow_sub-result-2 g c =
    let within = counts-within c.enter-space.result c.counts-counts.result.free c.counts-counts.result.locked c.pages-pages.result
    c.enter-space.ensures.space c.counts-counts.ensures.free c.counts-counts.ensures.locked c.pages-pages.ensures.pages in
    omega (arith, within)

pub returns-clause-all : goal.returns-clause-all
returns-clause-all g c =
    let within = counts-within c.enter-space.result c.counts-counts.result.free c.counts-counts.result.locked c.pages-pages.result
    c.enter-space.ensures.space c.counts-counts.ensures.free c.counts-counts.ensures.locked c.pages-pages.ensures.pages in
    let pages = c.pages-pages.ensures.pages in
    let home = c.enter-space.ensures.home.pages in
    omega (arith, within, pages, home)

pub returns-clause-told : goal.returns-clause-told
returns-clause-told g c views v told found =
    let same = c.enter-space.ensures.told v (told_at (rest_of c.args.spaces.now) views c.args.s v told found) in (
      record {
        free_pages = c.counts-counts.ensures.free ∙ ap (λ w. count_of w.free) same;
        locked_pages = c.counts-counts.ensures.locked ∙ ap (λ w. count_of w.locked) same;
      },
      subst (λ rest. AreTold rest views)
          (sym (c.leave.ensures.rest ∙ ap (λ rest. leaving rest c.args.s c.enter-space.result) c.enter-space.ensures.rest
          ∙ ap (leaving (entering (rest_of c.args.spaces.now) c.args.s) c.args.s) same))
          (told-back (rest_of c.args.spaces.now) views c.args.s v told found),
    )

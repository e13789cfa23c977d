use Rattle.std.proofs.Common.{◌-◌, ap, arith}
use Rattle.std.proofs.lemmas.Bool.{false≢true}
use Rattle.geometry_model.specs.Pages.{first_page}
use Rattle.geometry_model.proofs.PageLaws.{IsPlace-in_run, IsPlace-unique}
use Rattle.geometry_model.proofs.NumberLaws.{page-some}
use Rattle.tree_model.specs.Tree.{page_count}
use Rattle.tree_model.proofs.PageCountLaws.{count-some}
use Rattle.object_plan.proofs.usable.is_held.Goals as goal

pub returns-in_default : goal.returns-in_default
returns-in_default g c =
    let n = c.args.geometry.now in
    let p = c.args.pair in (
      λ yes. absurd (false≢true yes),
      λ here.
          let byte = here.segment.some in
          let some = count-some n.page p.bytes (page-some n c.page-page.ensures.range) (omega (arith, byte)) in
          let s = here.segment.together.0 in
          let at = IsPlace-in_run n s p.page (page_count n.page p.bytes) p.page here.segment.together.1 (omega arith)
          (omega (arith, some)) in
          absurd (c.in_default.ensures.none s (p.page - first_page n s) at),
    )

pub returns-then-at-pages : goal.returns-then-at-pages
returns-then-at-pages g c =
    let n = c.args.geometry.now in
    let p = c.args.pair in (
      λ yes. absurd (false≢true yes),
      λ here.
          let byte = here.segment.some in
          let some = count-some n.page p.bytes (page-some n c.page-page.ensures.range) (omega (arith, byte)) in
          let s = here.segment.together.0 in
          let inside = here.segment.together.1 in
          let at = IsPlace-in_run n s p.page (page_count n.page p.bytes) p.page inside (omega arith) (omega (arith, some)) in
          let same = (IsPlace-unique n p.page c.in-Some.field-0-0 c.in-Some.at s (p.page - first_page n s)
          c.in-Some.ensures.found at).1 in
          let to = inside.to in
          let from = inside.from in
          let pages = ap (λ k. page_count k p.bytes) c.page-page.ensures.exact in
          absurd (omega (arith, same, to, from, pages, c.page_count-pages.ensures, c.if-at-pages.true, c.space_pages-2.ensures.exact)),
    )

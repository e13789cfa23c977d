use Rattle.std.proofs.Common.{ap, sym, ◌∙◌}
use Rattle.tree_splice.specs.Fresh.{FreshList, page_numbers}
use Rattle.tree_splice.proofs.SegmentLemmas.{numbers-view}
use Rattle.tree_splice.proofs.fresh_pages.FreshPages.numbers.Goals as goal

pub returns : goal.returns
returns g c =
    c.as_slice.ensures.value ∙ (c.self.invariant.0
    ∙ (sym (numbers-view (λ s. s.space) (λ s. g.S.Span.start s.span) (λ s. g.S.Span.contents s.span) c.self.inside.segments.items)
    ∙ ap (λ (l : FreshList). page_numbers l.pages) c.self.view_is))

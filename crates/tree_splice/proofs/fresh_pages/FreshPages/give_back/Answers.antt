-- The segments are given back, each as the page that stands for it.
use Rattle.std.proofs.Common.{ap, subst, sym}
use Rattle.tree_splice.specs.Fresh.{FreshList, AreGiven, AreHomely}
use Rattle.tree_splice.proofs.SegmentLemmas.{given-pages, runs-in}
use Rattle.tree_splice.proofs.fresh_pages.FreshPages.give_back.Goals as goal

pub give_all-requires-clause-runs : goal.give_all-requires-clause-runs
give_all-requires-clause-runs g c =
    runs-in (λ s. s.space) (λ s. g.S.Span.start s.span) (λ s. g.S.Span.contents s.span) g.S.Span.tells
    (g.L.Hints.rest c.args.latches.now).frame
    c.self.inside.segments.items c.self.invariant.2
    (subst (AreHomely g.S.Span.tells (g.L.Hints.rest c.args.latches.now).frame) (sym (ap (λ (l : FreshList). l.pages) c.self.view_is))
    c.requires.home)

pub returns-clause-told : goal.returns-clause-told
returns-clause-told g c = λ views told same.
    let given = c.give_all.ensures.told views told same in (
      given.0,
      given.1,
      subst (λ pages. AreGiven views pages given.0) (ap (λ (l : FreshList). l.pages) c.self.view_is)
          (given-pages (λ s. s.space) (λ s. g.S.Span.start s.span) (λ s. g.S.Span.contents s.span) views c.self.inside.segments.items
          given.0
          c.self.invariant.2 given.2),
    )

-- A page that was granted is one more of the list, or goes back to its space as it came.
use Rattle.std.proofs.Common.{◌≡◌, ap, sym, ◌∙◌}
use Rattle.tree_splice.specs.Fresh.{FreshList, fresh_at, fresh_page, page_numbers}
use Rattle.span_store.specs.Held.{page_at}
use Rattle.tree_splice.proofs.SegmentLemmas.{
  apart-added,
  asked-added,
  asked-back,
  asked-page,
  homely-more,
  homely-one,
  not-known,
  numbers-view,
  view-more,
}
use Rattle.tree_splice.proofs.fresh_pages.FreshPages.ask.Goals as goal

pub returns-then-is_known-clause-told : goal.returns-then-is_known-clause-told
returns-then-is_known-clause-told g c = λ views told same.
    asked-back (λ s. s.space) (λ s. g.S.Span.start s.span) (λ s. g.S.Span.contents s.span) g.S.Span.tells views
    (g.L.Hints.rest c.args.latches.now).frame c.args.start c.args.self.now.pages (g.L.Hints.rest c.args.latches.now)
    (g.L.Hints.rest c.grant.new.latches) (g.L.Hints.rest c.release.new.latches) c.in-Ok.segment c.in-Ok.ensures.rest.frame told same
    c.in-Ok.ensures.segment c.in-Ok.ensures.exact c.release.ensures.told

pub returns-clause-home : goal.returns-clause-home
returns-clause-home g c =
    let view = view-more (λ s. s.space) (λ s. g.S.Span.start s.span) (λ s. g.S.Span.contents s.span) c.self.inside.segments.items
    c.push_reserved.new.self.items c.in-Ok.segment c.args.self.now.pages (ap (λ (l : FreshList). l.pages) c.self.view_is)
    c.push_reserved.ensures.items in
    homely-more g.S.Span.tells (g.L.Hints.rest c.args.latches.now).frame c.args.self.now.pages _ _ view c.requires.home
    (homely-one (λ s. s.space) (λ s. g.S.Span.start s.span) (λ s. g.S.Span.contents s.span) g.S.Span.tells
    (g.L.Hints.rest c.args.latches.now).frame
    c.in-Ok.segment c.in-Ok.ensures.segment)

pub returns-clause-apart : goal.returns-clause-apart
returns-clause-apart g c =
    let view = view-more (λ s. s.space) (λ s. g.S.Span.start s.span) (λ s. g.S.Span.contents s.span) c.self.inside.segments.items
    c.push_reserved.new.self.items c.in-Ok.segment c.args.self.now.pages (ap (λ (l : FreshList). l.pages) c.self.view_is)
    c.push_reserved.ensures.items in
    let numbers : c.as_slice.result.now ≡ page_numbers c.args.self.now.pages =
    c.as_slice.ensures.value ∙ (c.self.invariant.0
    ∙ (sym (numbers-view (λ s. s.space) (λ s. g.S.Span.start s.span) (λ s. g.S.Span.contents s.span) c.self.inside.segments.items)
    ∙ ap (λ (l : FreshList). page_numbers l.pages) c.self.view_is)) in
    let out = not-known c.args.self.now.pages c.as_slice.result.now c.first-page.result numbers
    (c.is_known.ensures.apart c.if-is_known.false) in
    apart-added c.args.self.now.pages _ _ view c.requires.apart
    (ap (fresh_at c.args.self.now.pages) (sym c.first-page.ensures) ∙ out)

pub returns-clause-more : goal.returns-clause-more
returns-clause-more g c =
    let view = view-more (λ s. s.space) (λ s. g.S.Span.start s.span) (λ s. g.S.Span.contents s.span) c.self.inside.segments.items
    c.push_reserved.new.self.items c.in-Ok.segment c.args.self.now.pages (ap (λ (l : FreshList). l.pages) c.self.view_is)
    c.push_reserved.ensures.items in
    let numbers : c.as_slice.result.now ≡ page_numbers c.args.self.now.pages =
    c.as_slice.ensures.value ∙ (c.self.invariant.0
    ∙ (sym (numbers-view (λ s. s.space) (λ s. g.S.Span.start s.span) (λ s. g.S.Span.contents s.span) c.self.inside.segments.items)
    ∙ ap (λ (l : FreshList). page_numbers l.pages) c.self.view_is)) in
    let out = not-known c.args.self.now.pages c.as_slice.result.now c.first-page.result numbers
    (c.is_known.ensures.apart c.if-is_known.false) in
    record {
      page = fresh_page (λ s. s.space) (λ s. g.S.Span.start s.span) (λ s. g.S.Span.contents s.span) c.in-Ok.segment;
      now = view;
      lacked = ap (page_at c.args.held.now) (sym c.first-page.ensures) ∙ c.is_known.ensures.held c.if-is_known.false;
      apart = ap (fresh_at c.args.self.now.pages) (sym c.first-page.ensures) ∙ out;
    }

pub returns-clause-told : goal.returns-clause-told
returns-clause-told g c = λ views told same.
    let view = view-more (λ s. s.space) (λ s. g.S.Span.start s.span) (λ s. g.S.Span.contents s.span) c.self.inside.segments.items
    c.push_reserved.new.self.items c.in-Ok.segment c.args.self.now.pages (ap (λ (l : FreshList). l.pages) c.self.view_is)
    c.push_reserved.ensures.items in
    asked-added views (g.L.Hints.rest c.args.latches.now).frame c.args.start c.args.self.now.pages _ _ (g.L.Hints.rest c.grant.new.latches)
    view
    (asked-page (λ s. s.space) (λ s. g.S.Span.start s.span) (λ s. g.S.Span.contents s.span) g.S.Span.tells views
    (g.L.Hints.rest c.args.latches.now).frame c.args.start (g.L.Hints.rest c.args.latches.now) (g.L.Hints.rest c.grant.new.latches)
    c.in-Ok.segment
    told same c.in-Ok.ensures.segment c.in-Ok.ensures.exact)

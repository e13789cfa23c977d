-- So many pages were granted.
use Rattle.std.proofs.Common.{◌≡◌, ℕ, IsTrue, List, None, length}
use Rattle.std.specs.Prelude.{Ok}
use Rattle.space_directory.specs.SpaceView.{SpaceView}
use Rattle.span_store.specs.Held.{page_at}
use Rattle.superdirectory.specs.Grants.{AreTold, KeepsFrame}
use Rattle.superdirectory.specs.Rest.{count}
use Rattle.superdirectory.specs.Trace.{Part}
use Rattle.tree_splice.specs.Fresh.{ArePagesApart, AreHomely, ArePagesAsked, is_on_pages, page_numbers}
use Rattle.tree_splice.proofs.making.ask_all.Given as goal

abbrev pub invariant-loop-page : goal.invariant-loop-page
invariant-loop-page g l = record {
  number : length l.pages.pages ≡ l._page;
  room : l.pages.room ≡ l.fn.pages.room;
  lacked : (q : ℕ) → IsTrue (is_on_pages q (page_numbers l.pages.pages)) → page_at l.held q ≡ None;
  apart : ArePagesApart l.pages.pages;
  home : AreHomely g.S.Span.tells (g.L.Hints.rest l.fn.latches).frame l.pages.pages;
  rest : KeepsFrame (g.L.Hints.rest l.fn.latches) (g.L.Hints.rest l.latches);
  told : (views : List SpaceView) → AreTold (g.L.Hints.rest l.fn.latches) views
      → length views ≡ count (g.L.Hints.rest l.fn.latches)
      → ArePagesAsked views l.start l._page (g.L.Hints.rest l.fn.latches).frame l.pages.pages (Ok tt) (g.L.Hints.rest l.latches);
  trace : Part (λ part. Unit {0}) (g.L.Hints.trace l.fn.latches) (g.L.Hints.trace l.latches);
}

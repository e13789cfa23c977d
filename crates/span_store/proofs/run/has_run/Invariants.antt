use Rattle.std.proofs.Common.{◌≡◌, ℕ, ◌+◌, ◌-◌, ◌<◌, ◌≤◌, true}
use Rattle.std.specs.Prelude.{is_some}
use Rattle.span_store.specs.Held.{page_in}
use Rattle.span_store.specs.Pieces.{IsAtOrEnd, rank_of, spans_in}
use Rattle.span_store.proofs.SpanLists.{IsNear}
use Rattle.span_store.proofs.run.has_run.Given as goal

-- the pages before `page` are held, and the span at `at` is the only one that can have it
abbrev pub invariant-loop-page : goal.invariant-loop-page
invariant-loop-page g l = record {
  low : l.first ≤ l.page;
  end : l.end ≡ l.first + l.pages;
  place : IsAtOrEnd l.pieces l.at.piece l.at.index;
  near : IsNear (spans_in l.pieces) (rank_of l.pieces l.at.piece l.at.index) l.page;
  held : (q : ℕ) → l.first ≤ q → q < l.page → is_some (page_in (spans_in l.pieces) q) ≡ true;
}

abbrev pub decreases-loop-page : goal.decreases-loop-page
decreases-loop-page g l = l.end - l.page

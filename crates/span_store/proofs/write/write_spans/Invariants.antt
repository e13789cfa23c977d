use Rattle.std.proofs.Common.{◌≡◌, ◌+◌, ◌-◌, ◌*◌, ◌<◌, ◌≤◌, take}
use Rattle.std.specs.Prelude.{IsTrue, vec_capacity}
use Rattle.tree_model.specs.Content.{run_bytes}
use Rattle.span_store.specs.Held.{bytes_in}
use Rattle.span_store.specs.Order.{EachSized, IsOver}
use Rattle.span_store.specs.Pieces.{IsAtOrEnd, IsSameRow, rank_of, spans_in}
use Rattle.span_store.proofs.SpanLists.{IsNear}
use Rattle.span_store.proofs.Meters.{HasWritten}
use Rattle.span_store.proofs.write.write_spans.Given as goal

-- the first pages are written, and the span at `at` is the only one that can have the next page
abbrev pub invariant-loop-done : goal.invariant-loop-done
invariant-loop-done g l = record {
  within : l.done ≤ l.pages;
  page : l.page ≡ l.first + l.done;
  place : IsAtOrEnd l.pieces.items l.at.piece l.at.index;
  near : l.done < l.pages → IsNear (spans_in l.pieces.items) (rank_of l.pieces.items l.at.piece l.at.index) l.page;
  over : IsOver l.first l.done (spans_in l.fn.pieces.items) (spans_in l.pieces.items);
  row : IsSameRow l.fn.pieces.items l.pieces.items;
  sized : EachSized g.P.S.Span.tells (g.P.Port.meter l.fn.port).page (spans_in l.pieces.items);
  written : IsTrue g.P.S.Span.tells →
      run_bytes (bytes_in (spans_in l.pieces.items)) l.first l.done ≡ take (l.done * l.size) l.bytes;
  room : vec_capacity l.pieces ≡ vec_capacity l.fn.pieces;
  counts : HasWritten l.done (g.P.Port.meter l.fn.port) (g.P.Port.meter l.port);
  still : (g.P.Port.meter l.port).faults ≡ (g.P.Port.meter l.fn.port).faults;
}

abbrev pub decreases-loop-done : goal.decreases-loop-done
decreases-loop-done g l = l.pages - l.done

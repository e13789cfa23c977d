use Rattle.std.proofs.Common.{◌≡◌, ◌+◌, ◌-◌, ◌*◌, ◌<◌, ◌≤◌, take}
use Rattle.std.specs.Prelude.{IsTrue}
use Rattle.tree_model.specs.Content.{run_bytes}
use Rattle.span_store.specs.Held.{bytes_in}
use Rattle.span_store.specs.Pieces.{IsAtOrEnd, rank_of, spans_in}
use Rattle.span_store.proofs.SpanLists.{IsNear}
use Rattle.span_store.proofs.Meters.{HasRead}
use Rattle.span_store.proofs.read.read_spans.Given as goal

-- the first pages are read, and the span at `at` is the only one that can have the next page
abbrev pub invariant-loop-done : goal.invariant-loop-done
invariant-loop-done g l = record {
  within : l.done ≤ l.pages;
  page : l.page ≡ l.first + l.done;
  place : IsAtOrEnd l.pieces l.at.piece l.at.index;
  near : l.done < l.pages → IsNear (spans_in l.pieces) (rank_of l.pieces l.at.piece l.at.index) l.page;
  copied : IsTrue g.P.S.Span.tells → take (l.done * l.size) l.out ≡ run_bytes (bytes_in (spans_in l.pieces)) l.first l.done;
  counts : HasRead l.done (g.P.Port.meter l.fn.port) (g.P.Port.meter l.port);
  still : (g.P.Port.meter l.port).faults ≡ (g.P.Port.meter l.fn.port).faults;
}

abbrev pub decreases-loop-done : goal.decreases-loop-done
decreases-loop-done g l = l.pages - l.done

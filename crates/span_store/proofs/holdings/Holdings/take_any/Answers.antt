-- The last span of the last piece is taken out.
use Rattle.std.proofs.Common.{◌≡◌, ℕ, ◌+◌, ◌-◌, ◌<◌, ◌≤◌, Bool, false, length, sym, ap, ◌∙◌, inl, inr, arith}
use Rattle.std.specs.Prelude.{◌==◌, vec_len}
use Rattle.std.proofs.lemmas.Bool.{cases_lt, eq-eqb, false≢true}
use Rattle.span_store.specs.Held.{Held, span_of}
use Rattle.span_store.specs.Order.{InOrder}
use Rattle.span_store.specs.Pieces.{IsAt, piece_at, rank_of, spans_in}
use Rattle.span_store.specs.Calls.{IsRemoved}
use Rattle.span_store.proofs.Holds.{sized_removed}
use Rattle.span_store.proofs.InPieces.{at_within, filled_at}
use Rattle.span_store.proofs.Kept.{not_empty, piece_read, removed_in}
use Rattle.span_store.proofs.holdings.Holdings.take_any.Given.{Over}
use Rattle.span_store.proofs.holdings.Holdings.take_any.Goals.{After-len-index, After-take_out}
use Rattle.span_store.proofs.holdings.Holdings.take_any.Goals as goal

-- there is a piece
some_pieces : (n : ℕ) (b : Bool) → b ≡ (n == 0) → b ≡ false → 0 < n
some_pieces n b e other = elim (cases_lt 0 n) [
  | inl some ↦ some
  | inr none ↦ absurd (false≢true (sym other ∙ (e ∙ eq-eqb n 0 (omega (arith, none)))))
]

-- the last piece has a span
last : (g : Over) (c : After-len-index g) →
    (1 ≤ c.len-index.result) × IsAt c.self.inside.pieces.items (c.len-piece.result - 1) (c.len-index.result - 1)
last g c =
    let ps = c.self.inside.pieces.items in
    let ok = c.self.inside.pieces.ok.0 in
    let some = some_pieces (vec_len c.self.inside.pieces) c.is_empty.result c.is_empty.ensures c.if-is_empty.false in
    let within : c.len-piece.result - 1 < length ps = omega (arith, ok, some, c.len-piece.ensures) in
    let here = piece_read ps (c.len-piece.result - 1) c.index.result.now within c.index.ensures in
    let least = (filled_at ps (c.len-piece.result - 1) c.self.invariant.row.filled within).0 in
    let long : c.len-index.result ≡ length (piece_at ps (c.len-piece.result - 1)) = c.len-index.ensures ∙ ap length here in
    (omega (arith, least, long), record { within = within; inner = omega (arith, least, long) })

-- what is left
abbrev left : (g : Over) (c : After-take_out g) → Held
left g c =
    record { spans = spans_in c.take_out.new.pieces.items; room = length (spans_in c.take_out.new.pieces.items) + c.self.inside.free }

made : (g : Over) (c : After-take_out g) → IsAt c.self.inside.pieces.items (c.len-piece.result - 1) (c.len-index.result - 1) →
    InOrder 0 (spans_in c.take_out.new.pieces.items)
    × IsRemoved (span_of g.S.Span.start g.S.Span.contents c.take_out.result) c.args.self.now (left g c)
made g c at =
    removed_in (spans_in c.self.inside.pieces.items) (spans_in c.take_out.new.pieces.items) c.args.self.now
    (span_of g.S.Span.start g.S.Span.contents c.take_out.result)
    (rank_of c.self.inside.pieces.items (c.len-piece.result - 1) (c.len-index.result - 1)) c.self.inside.free c.self.view_is
    c.self.invariant.order (at_within c.self.inside.pieces.items (c.len-piece.result - 1) (c.len-index.result - 1) at)
    (sym c.take_out.ensures.span) c.take_out.ensures.spans

pub overflow_sub-index : goal.overflow_sub-index
overflow_sub-index g c = (last g (goal.at.overflow_sub-index g c).After-len-index).0

pub take_out-requires-clause-at : goal.take_out-requires-clause-at
take_out-requires-clause-at g c = (last g (goal.at.take_out-requires-clause-at g c).After-len-index).1

pub invariant_of-self : goal.invariant_of-self
invariant_of-self g c =
    let at = goal.at.invariant_of-self g c in
    record {
      order = (made g at.After-take_out (last g at.After-len-index).1).0;
      row = c.take_out.ensures.row;
      room = c.take_out.ensures.room c.self.inside.free c.self.invariant.room;
    }

pub returns-clause-removed : goal.returns-clause-removed
returns-clause-removed g c =
    let at = goal.at.returns-clause-removed g c in
    (made g at.After-take_out (last g at.After-len-index).1).1

pub returns-clause-sized : goal.returns-clause-sized
returns-clause-sized g c size all =
    let at = goal.at.returns-clause-sized g c in
    sized_removed g.S.Span.tells size (span_of g.S.Span.start g.S.Span.contents c.take_out.result) c.args.self.now
    (left g at.After-take_out) (made g at.After-take_out (last g at.After-len-index).1).1 all

pub returns-clause-none : goal.returns-clause-none
returns-clause-none g c =
    let at = goal.at.returns-clause-none g c in (
      λ e. absurd (false≢true (sym e)),
      λ nothing. absurd (not_empty c.args.self.now (left g at.After-take_out)
          (span_of g.S.Span.start g.S.Span.contents c.take_out.result) (made g at.After-take_out (last g at.After-len-index).1).1 nothing),
    )

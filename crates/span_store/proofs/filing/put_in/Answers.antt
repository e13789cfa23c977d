-- The span stands in its place in the piece that its first page belongs to.
use Rattle.std.proofs.Common.{◌≡◌, ℕ, ◌++◌, ◌∷◌, List, length, take, drop, ap, subst, ◌∙◌}
use Rattle.std.specs.Prelude.{vec_capacity}
use Rattle.span_store.specs.Held.{HeldSpan, span_of}
use Rattle.span_store.specs.Order.{IsRank}
use Rattle.span_store.specs.Pieces.{IsPieceOf, piece_at, spans_in}
use Rattle.span_store.proofs.Filed.{put_made}
use Rattle.span_store.proofs.Kept.{IsGrown, grown, piece_read, put_length}
use Rattle.span_store.proofs.filing.put_in.Given.{Over}
use Rattle.span_store.proofs.filing.put_in.Goals.{After-add, After-rank-index}
use Rattle.span_store.proofs.filing.put_in.Goals as goal

-- the place of its first page in the piece
rank : (g : Over) (c : After-rank-index g) →
    IsRank (piece_at c.piece_with_room-piece.new.pieces.items c.piece_with_room-piece.result) c.first-page.result c.rank-index.result
rank g c =
    subst (λ (p : List HeldSpan). IsRank p c.first-page.result c.rank-index.result)
    (piece_read c.piece_with_room-piece.new.pieces.items c.piece_with_room-piece.result c.index.result.now
    c.piece_with_room-piece.ensures.piece.within c.index.ensures) c.rank-index.ensures

-- the piece with the span
more : (g : Over) (c : After-add g) →
    c.add.new.self ≡ take c.rank-index.result (piece_at c.piece_with_room-piece.new.pieces.items c.piece_with_room-piece.result)
    ++ (span_of g.S.Span.start g.S.Span.contents c.args.span
    ∷ drop c.rank-index.result (piece_at c.piece_with_room-piece.new.pieces.items c.piece_with_room-piece.result))
more g c =
    c.add.ensures ∙ ap (λ (p : List HeldSpan). take c.rank-index.result p ++ (span_of g.S.Span.start g.S.Span.contents c.args.span
    ∷ drop c.rank-index.result p)) (piece_read c.piece_with_room-piece.new.pieces.items c.piece_with_room-piece.result
    c.index_mut.result.now c.piece_with_room-piece.ensures.piece.within c.index_mut.ensures.value)

one_more : (g : Over) (c : After-add g) →
    IsRank (piece_at c.piece_with_room-piece.new.pieces.items c.piece_with_room-piece.result) c.first-page.result c.rank-index.result →
    IsGrown c.piece_with_room-piece.new.pieces.items c.piece_with_room-piece.new.spare.items c.piece_with_room-piece.result
    (vec_capacity c.piece_with_room-piece.new.pieces) (vec_capacity c.piece_with_room-piece.new.spare) c.add.new.self
one_more g c at =
    grown c.piece_with_room-piece.new.pieces.items c.piece_with_room-piece.new.spare.items c.piece_with_room-piece.result
    (vec_capacity c.piece_with_room-piece.new.pieces) (vec_capacity c.piece_with_room-piece.new.spare) c.add.new.self
    c.piece_with_room-piece.ensures.row c.piece_with_room-piece.ensures.piece.within c.piece_with_room-piece.ensures.free
    (ap length (more g c) ∙ put_length (piece_at c.piece_with_room-piece.new.pieces.items c.piece_with_room-piece.result)
    c.rank-index.result (span_of g.S.Span.start g.S.Span.contents c.args.span) at.within)

pub returns-clause-row : goal.returns-clause-row
returns-clause-row g c =
    let at = goal.at.returns-clause-row g c in
    (one_more g at.After-add (rank g at.After-rank-index)).row

pub returns-clause-spans : goal.returns-clause-spans
returns-clause-spans g c =
    let at = goal.at.returns-clause-spans g c in
    let qs = c.piece_with_room-piece.new.pieces.items in
    let i = c.piece_with_room-piece.result in
    put_made qs (spans_in c.args.pieces.now.items) i c.rank-index.result (span_of g.S.Span.start g.S.Span.contents c.args.span)
    c.add.new.self c.piece_with_room-piece.ensures.spans c.piece_with_room-piece.ensures.row.filled
    (subst (λ (k : ℕ). IsPieceOf qs k i) c.first-page.ensures c.piece_with_room-piece.ensures.piece)
    (subst (λ (k : ℕ). IsRank (piece_at qs i) k c.rank-index.result) c.first-page.ensures (rank g at.After-rank-index))
    (more g at.After-add)

pub returns-clause-room : goal.returns-clause-room
returns-clause-room g c n room =
    let at = goal.at.returns-clause-room g c in
    (one_more g at.After-add (rank g at.After-rank-index)).room n (c.piece_with_room-piece.ensures.room n room)

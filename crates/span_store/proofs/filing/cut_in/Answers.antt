-- The span that has the page is cut in the piece that the page belongs to.
use Rattle.std.proofs.Common.{◌≡◌, ℕ, ◌-◌, true, false, List, length, get_or, sym, ap, subst, ◌∙◌, arith}
use Rattle.std.specs.Prelude.{is_some, vec_capacity}
use Rattle.span_store.specs.Held.{HeldSpan, begins_in, page_in}
use Rattle.span_store.specs.Order.{InOrder, IsRank, first_at, no_span, with_cut}
use Rattle.span_store.specs.Pieces.{piece_at, spans_in}
use Rattle.span_store.proofs.Filed.{IsInner, cut_in_made, inner_is}
use Rattle.span_store.proofs.Kept.{IsGrown, cut_length, grown, piece_read}
use Rattle.span_store.proofs.filing.cut_in.Given.{Over}
use Rattle.span_store.proofs.filing.cut_in.Goals.{After-cut, After-first, After-index_mut, After-rank-index}
use Rattle.span_store.proofs.filing.cut_in.Goals as goal

-- the span
inner : (g : Over) (c : After-rank-index g) →
    IsInner c.piece_with_room-piece.new.pieces.items c.args.page c.piece_with_room-piece.result c.rank-index.result
inner g c =
    let qs = c.piece_with_room-piece.new.pieces.items in
    let same = sym c.piece_with_room-piece.ensures.spans in
    inner_is qs c.args.page c.piece_with_room-piece.result c.rank-index.result c.piece_with_room-piece.ensures.row.filled
    (subst (InOrder 0) same c.requires.order) c.piece_with_room-piece.ensures.piece
    (subst (λ (p : List HeldSpan). IsRank p c.args.page c.rank-index.result)
    (piece_read qs c.piece_with_room-piece.result c.index.result.now c.piece_with_room-piece.ensures.piece.within c.index.ensures)
    c.rank-index.ensures)
    (subst (λ (rows : List HeldSpan). is_some (page_in rows c.args.page) ≡ true) same c.requires.held)
    (subst (λ (rows : List HeldSpan). begins_in rows c.args.page ≡ false) same c.requires.inner)

-- where it begins
begin : (g : Over) (c : After-first g) → c.first.result
    ≡ first_at (piece_at c.piece_with_room-piece.new.pieces.items c.piece_with_room-piece.result) (c.rank-index.result - 1)
begin g c =
    c.first.ensures ∙ ap (λ (s : HeldSpan). s.first) c.span.ensures
    ∙ ap (λ (p : List HeldSpan). first_at p (c.rank-index.result - 1)) (piece_read c.piece_with_room-piece.new.pieces.items
    c.piece_with_room-piece.result c.index-2.result.now c.piece_with_room-piece.ensures.piece.within c.index-2.ensures)

-- the piece, as the code sees it
seen : (g : Over) (c : After-index_mut g) →
    c.index_mut.result.now ≡ piece_at c.piece_with_room-piece.new.pieces.items c.piece_with_room-piece.result
seen g c =
    piece_read c.piece_with_room-piece.new.pieces.items c.piece_with_room-piece.result c.index_mut.result.now
    c.piece_with_room-piece.ensures.piece.within c.index_mut.ensures.value

-- the piece with the span cut
made : (g : Over) (c : After-cut g) →
    c.index_mut.result.now ≡ piece_at c.piece_with_room-piece.new.pieces.items c.piece_with_room-piece.result →
    c.cut.new.self ≡ with_cut (piece_at c.piece_with_room-piece.new.pieces.items c.piece_with_room-piece.result)
    (c.rank-index.result - 1) (c.args.page - c.first.result)
made g c here = c.cut.ensures ∙ ap (λ (p : List HeldSpan). with_cut p (c.rank-index.result - 1) (c.args.page - c.first.result)) here

one_more : (g : Over) (c : After-cut g) →
    c.index_mut.result.now ≡ piece_at c.piece_with_room-piece.new.pieces.items c.piece_with_room-piece.result →
    IsInner c.piece_with_room-piece.new.pieces.items c.args.page c.piece_with_room-piece.result c.rank-index.result →
    IsGrown c.piece_with_room-piece.new.pieces.items c.piece_with_room-piece.new.spare.items c.piece_with_room-piece.result
    (vec_capacity c.piece_with_room-piece.new.pieces) (vec_capacity c.piece_with_room-piece.new.spare) c.cut.new.self
one_more g c here its =
    grown c.piece_with_room-piece.new.pieces.items c.piece_with_room-piece.new.spare.items c.piece_with_room-piece.result
    (vec_capacity c.piece_with_room-piece.new.pieces) (vec_capacity c.piece_with_room-piece.new.spare) c.cut.new.self
    c.piece_with_room-piece.ensures.row c.piece_with_room-piece.ensures.piece.within c.piece_with_room-piece.ensures.free
    (ap length (made g c here) ∙ cut_length (piece_at c.piece_with_room-piece.new.pieces.items c.piece_with_room-piece.result)
    (c.rank-index.result - 1) (c.args.page - c.first.result) its.last.at.inner)

pub overflow_sub-index : goal.overflow_sub-index
overflow_sub-index g c =
    let its = inner g (goal.at.overflow_sub-index g c).After-rank-index in
    omega (arith, its.some)

pub span-requires : goal.span-requires
span-requires g c =
    let its = inner g (goal.at.span-requires g c).After-rank-index in
    let here = piece_read c.piece_with_room-piece.new.pieces.items c.piece_with_room-piece.result c.index-2.result.now
    c.piece_with_room-piece.ensures.piece.within c.index-2.ensures in
    omega (arith, its.last.at.inner, ap length here)

pub overflow_sub-before : goal.overflow_sub-before
overflow_sub-before g c =
    let at = goal.at.overflow_sub-before g c in
    omega (arith, (inner g at.After-rank-index).from, begin g at.After-first)

pub cut-requires-clause-within : goal.cut-requires-clause-within
cut-requires-clause-within g c =
    let at = goal.at.cut-requires-clause-within g c in
    omega (arith, (inner g at.After-rank-index).last.at.inner, ap length (seen g at.After-index_mut))

pub cut-requires-clause-some : goal.cut-requires-clause-some
cut-requires-clause-some g c =
    let at = goal.at.cut-requires-clause-some g c in
    omega (arith, (inner g at.After-rank-index).from, begin g at.After-first)

pub cut-requires-clause-fewer : goal.cut-requires-clause-fewer
cut-requires-clause-fewer g c =
    let at = goal.at.cut-requires-clause-fewer g c in
    let its = inner g at.After-rank-index in
    let long = ap (λ (p : List HeldSpan). length (get_or p (c.rank-index.result - 1) no_span).pages) (seen g at.After-index_mut) in
    omega (arith, its.from, its.to, begin g at.After-first, long)

pub returns-clause-row : goal.returns-clause-row
returns-clause-row g c =
    let at = goal.at.returns-clause-row g c in
    (one_more g at.After-cut (seen g at.After-index_mut) (inner g at.After-rank-index)).row

pub returns-clause-spans : goal.returns-clause-spans
returns-clause-spans g c =
    let at = goal.at.returns-clause-spans g c in
    cut_in_made c.piece_with_room-piece.new.pieces.items (spans_in c.args.pieces.now.items) c.args.page c.piece_with_room-piece.result
    c.rank-index.result (c.args.page - c.first.result) c.cut.new.self c.piece_with_room-piece.ensures.spans
    (inner g at.After-rank-index) (ap (λ (k : ℕ). c.args.page - k) (begin g at.After-first))
    (made g at.After-cut (seen g at.After-index_mut))

pub returns-clause-room : goal.returns-clause-room
returns-clause-room g c n room =
    let at = goal.at.returns-clause-room g c in
    (one_more g at.After-cut (seen g at.After-index_mut) (inner g at.After-rank-index)).room n (c.piece_with_room-piece.ensures.room n room)

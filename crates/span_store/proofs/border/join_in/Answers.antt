-- The first span is still where it was once the second was taken out, and takes it in.
use Rattle.std.proofs.Common.{◌≡◌, ℕ, List, length, get_or, set, refl, sym, ap, subst, ◌∙◌, arith}
use Rattle.std.specs.Prelude.{vec_capacity}
use Rattle.std.proofs.lemmas.List.{length-set}
use Rattle.span_store.specs.Held.{HeldSpan, span_of}
use Rattle.span_store.specs.Order.{as_one, no_span}
use Rattle.span_store.specs.Pieces.{AreEnough, IsSameRow, piece_at, rank_of, spans_in}
use Rattle.span_store.proofs.SpanLists.{end_of}
use Rattle.span_store.proofs.InPieces.{at_rank}
use Rattle.span_store.proofs.Turns.{same_row_set}
use Rattle.span_store.proofs.Borders.{IsFront, front_is, join_is}
use Rattle.span_store.proofs.Kept.{piece_read, row_same}
use Rattle.span_store.proofs.border.join_in.Given.{Over}
use Rattle.span_store.proofs.border.join_in.Goals.{After-index_mut, After-join, After-take_out-next}
use Rattle.span_store.proofs.border.join_in.Goals as goal

front : (g : Over) (c : After-take_out-next g) →
    IsFront c.args.pieces.now.items c.take_out-next.new.pieces.items c.args.at.front.piece c.args.at.front.index
front g c =
    front_is c.args.pieces.now.items c.take_out-next.new.pieces.items c.args.at.front.piece c.args.at.front.index
    c.args.at.next.piece c.args.at.next.index c.requires.next c.requires.before c.take_out-next.ensures.before

-- its piece, as the code sees it
here : (g : Over) (c : After-index_mut g) →
    IsFront c.args.pieces.now.items c.take_out-next.new.pieces.items c.args.at.front.piece c.args.at.front.index →
    c.index_mut.result.now ≡ piece_at c.take_out-next.new.pieces.items c.args.at.front.piece
here g c it =
    piece_read c.take_out-next.new.pieces.items c.args.at.front.piece c.index_mut.result.now it.at.within c.index_mut.ensures.value

-- the row is as full as before
same : (g : Over) (c : After-join g) →
    IsFront c.args.pieces.now.items c.take_out-next.new.pieces.items c.args.at.front.piece c.args.at.front.index →
    c.index_mut.result.now ≡ piece_at c.take_out-next.new.pieces.items c.args.at.front.piece →
    IsSameRow c.take_out-next.new.pieces.items (set c.take_out-next.new.pieces.items c.args.at.front.piece c.join.new.self)
same g c it seen =
    same_row_set c.take_out-next.new.pieces.items c.args.at.front.piece c.join.new.self it.at.within
    (ap length c.join.ensures ∙ length-set c.index_mut.result.now c.args.at.front.index (as_one
    (get_or c.index_mut.result.now c.args.at.front.index no_span) (span_of g.S.Span.start g.S.Span.contents c.take_out-next.result))
    ∙ ap length seen)

pub join-requires-clause-within : goal.join-requires-clause-within
join-requires-clause-within g c =
    let at = goal.at.join-requires-clause-within g c in
    let it = front g at.After-take_out-next in
    omega (arith, it.at.inner, ap length (here g at.After-index_mut it))

pub join-requires-clause-meets : goal.join-requires-clause-meets
join-requires-clause-meets g c =
    let at = goal.at.join-requires-clause-meets g c in
    let it = front g at.After-take_out-next in
    let own : get_or c.index_mut.result.now c.args.at.front.index no_span
    ≡ get_or (spans_in c.args.pieces.now.items) (rank_of c.args.pieces.now.items c.args.at.front.piece c.args.at.front.index) no_span =
    ap (λ (p : List HeldSpan). get_or p c.args.at.front.index no_span) (here g at.After-index_mut it) ∙ it.own
    ∙ sym (at_rank c.args.pieces.now.items c.args.at.front.piece c.args.at.front.index c.requires.before.at) in
    ap (λ (s : HeldSpan). s.first) c.take_out-next.ensures.span ∙ c.requires.meets ∙ sym (ap end_of own)

pub returns-clause-row : goal.returns-clause-row
returns-clause-row g c =
    let at = goal.at.returns-clause-row g c in
    let it = front g at.After-take_out-next in
    row_same c.take_out-next.new.pieces.items c.take_out-next.new.spare.items
    (set c.take_out-next.new.pieces.items c.args.at.front.piece c.join.new.self) (vec_capacity c.take_out-next.new.pieces)
    (vec_capacity c.take_out-next.new.spare) (vec_capacity c.take_out-next.new.pieces) c.take_out-next.ensures.row
    (same g at.After-join it (here g at.After-index_mut it)) (omega arith)

pub returns-clause-spans : goal.returns-clause-spans
returns-clause-spans g c =
    let at = goal.at.returns-clause-spans g c in
    let it = front g at.After-take_out-next in
    let now = c.take_out-next.new.pieces.items in
    let i = c.args.at.front.piece in
    let j = c.args.at.front.index in
    let t = span_of g.S.Span.start g.S.Span.contents c.take_out-next.result in
    ap (λ (q : List HeldSpan). spans_in (set now i q)) (c.join.ensures
    ∙ ap (λ (p : List HeldSpan). set p j (as_one (get_or p j no_span) t)) (here g at.After-index_mut it))
    ∙ join_is c.args.pieces.now.items now i j c.args.at.next.piece c.args.at.next.index (get_or (piece_at now i) j no_span) t
    c.requires.next c.requires.before it c.take_out-next.ensures.spans c.take_out-next.ensures.span refl

pub returns-clause-room : goal.returns-clause-room
returns-clause-room g c n room =
    let at = goal.at.returns-clause-room g c in
    let it = front g at.After-take_out-next in
    let row = same g at.After-join it (here g at.After-index_mut it) in
    subst (λ (k : ℕ). AreEnough (length c.take_out-next.new.spare.items) k n) (sym row.loaded) (c.take_out-next.ensures.room n room)

-- The piece that had the span is shorter, or spare where it has none left.
use Rattle.std.proofs.Common.{◌≡◌, ℕ, suc, ◌+◌, ◌<◌, ◌≤◌, ◌++◌, ◌∷◌, [], List, length, take, drop, get_or, set, refl, sym, ap}
use Rattle.std.proofs.Common.{subst, ◌∙◌, arith, length-append}
use Rattle.std.specs.Prelude.{vec_capacity}
use Rattle.std.proofs.lemmas.List.{get_or-set_same, length-set}
use Rattle.span_store.specs.Held.{HeldSpan, span_of}
use Rattle.span_store.specs.Order.{no_span}
use Rattle.span_store.specs.Pieces.{IsAt, IsStocked, rank_of, spans_in}
use Rattle.span_store.proofs.InPieces.{at_rank, length-without, without_set}
use Rattle.span_store.proofs.Filed.{spare_push, taken_all, taken_set}
use Rattle.span_store.proofs.Kept.{IsOut, out_made, piece_read}
use Rattle.span_store.proofs.filing.take_out.Given.{Over}
use Rattle.span_store.proofs.filing.take_out.Goals.{After-len, After-push_reserved}
use Rattle.span_store.proofs.filing.take_out.Goals as goal

-- the span is that of its place
out_span : (ps : List (List HeldSpan)) (i j : ℕ) (p : List HeldSpan) (r : HeldSpan) → IsAt ps i j → p ≡ get_or ps i p →
    r ≡ get_or p j no_span → r ≡ get_or (spans_in ps) (rank_of ps i j) no_span
out_span ps i j p r at read e =
    e ∙ ap (λ (x : List HeldSpan). get_or x j no_span) (piece_read ps i p at.within read) ∙ sym (at_rank ps i j at)

-- a piece that has some left
some_left : (ps spare : List (List HeldSpan)) (i j a b : ℕ) (p q : List HeldSpan) → IsStocked ps spare a b → IsAt ps i j → p ≡ get_or
    ps i p →
    q ≡ take j p ++ drop (j + 1) p → 1 ≤ length q → IsOut ps spare (set ps i q) spare i j a b
some_left ps spare i j a b p q row at read e some =
    let here = piece_read ps i p at.within read in
    let taken = taken_set ps i j q row.filled at.within at.inner (e ∙ ap (λ (x : List HeldSpan). take j x ++ drop (j + 1) x) here) some in
    let count = length-set ps i q in
    out_made ps spare (set ps i q) spare i j a b a b row at.within taken row.empty (omega (arith, count)) (omega (arith, count))
    (omega arith) (omega arith)

-- a piece that has none left: it was taken out of the row, as x
none_left : (ps spare now left : List (List HeldSpan)) (i j a b c d : ℕ) (p q x : List HeldSpan) → IsStocked ps spare a b → IsAt ps i j →
    p ≡ get_or ps i p → q ≡ take j p ++ drop (j + 1) p → length q ≡ 0 → now ≡ take i (set ps i q) ++ drop (i + 1) (set ps i q) →
    x ≡ get_or (set ps i q) i x → left ≡ spare ++ (x ∷ []) → c ≡ a → d ≡ b → IsOut ps spare now left i j c d
none_left ps spare now left i j a b c d p q x row at read e none is out put places spare_places =
    let here = piece_read ps i p at.within read in
    let within = at.within in
    let taken = taken_all ps i j q row.filled at.within at.inner (e ∙ ap (λ (x : List HeldSpan). take j x ++ drop (j + 1) x) here) none in
    let next : i + 1 ≡ suc i = omega arith in
    let made : now ≡ take i ps ++ drop (suc i) ps =
    is ∙ ap (λ (k : ℕ). take i (set ps i q) ++ drop k (set ps i q)) next ∙ without_set ps i q within in
    let empty : x ≡ q = out ∙ get_or-set_same ps i q x within in
    let count = length-without ps i within in
    let more_spare = ap length put ∙ length-append spare (x ∷ []) in
    let nothing : x ≡ [] = nil x (omega (arith, none, ap length empty)) in
    subst (λ (qs : List (List HeldSpan)). IsOut ps spare qs left i j c d) (sym made)
    (out_made ps spare (take i ps ++ drop (suc i) ps) left i j a b c d row within taken
    (ap spans_in put ∙ spare_push spare x row.empty nothing) (omega (arith, count, more_spare)) (omega (arith, count))
    (omega (arith, places)) (omega (arith, spare_places)))
  where
    nil : (xs : List HeldSpan) → length xs ≡ 0 → xs ≡ []
    nil [] e = refl
    nil (y ∷ xs) e = absurd (omega (arith, e))

-- how many spans the piece has left, as the code sees it
seen : (g : Over) (c : After-len g) → length c.remove-span.new.self ≡ c.len.result
seen g c =
    sym (ap length (c.index.ensures ∙ get_or-set_same c.args.pieces.now.items c.args.at.piece c.remove-span.new.self c.index.result.now
    c.requires.at.within)) ∙ sym c.len.ensures

stays : (g : Over) (c : After-len g) → 0 < c.len.result →
    IsOut c.args.pieces.now.items c.args.spare.now.items (set c.args.pieces.now.items c.args.at.piece c.remove-span.new.self)
    c.args.spare.now.items c.args.at.piece c.args.at.index (vec_capacity c.args.pieces.now) (vec_capacity c.args.spare.now)
stays g c some =
    some_left c.args.pieces.now.items c.args.spare.now.items c.args.at.piece c.args.at.index (vec_capacity c.args.pieces.now)
    (vec_capacity c.args.spare.now) c.index_mut.result.now c.remove-span.new.self c.requires.row c.requires.at c.index_mut.ensures.value
    c.remove-span.ensures.rest (omega (arith, some, seen g c))

goes : (g : Over) (c : After-push_reserved g) → length c.remove-span.new.self ≡ 0 →
    IsOut c.args.pieces.now.items c.args.spare.now.items c.remove-empty.new.self.items c.push_reserved.new.self.items
    c.args.at.piece c.args.at.index (vec_capacity c.remove-empty.new.self) (vec_capacity c.push_reserved.new.self)
goes g c none =
    none_left c.args.pieces.now.items c.args.spare.now.items c.remove-empty.new.self.items c.push_reserved.new.self.items
    c.args.at.piece c.args.at.index (vec_capacity c.args.pieces.now) (vec_capacity c.args.spare.now)
    (vec_capacity c.remove-empty.new.self) (vec_capacity c.push_reserved.new.self) c.index_mut.result.now c.remove-span.new.self
    c.remove-empty.result c.requires.row c.requires.at c.index_mut.ensures.value c.remove-span.ensures.rest none
    c.remove-empty.ensures.by_index.2 c.remove-empty.ensures.value c.push_reserved.ensures.items
    c.remove-empty.ensures.capacity c.push_reserved.ensures.capacity

pub returns-then-len-gt0-clause-row : goal.returns-then-len-gt0-clause-row
returns-then-len-gt0-clause-row g c = (stays g (goal.at.returns-then-len-gt0-clause-row g c).After-len c.if-len-gt0.true).row

pub returns-then-len-gt0-clause-span : goal.returns-then-len-gt0-clause-span
returns-then-len-gt0-clause-span g c =
    out_span c.args.pieces.now.items c.args.at.piece c.args.at.index c.index_mut.result.now
    (span_of g.S.Span.start g.S.Span.contents c.remove-span.result) c.requires.at c.index_mut.ensures.value c.remove-span.ensures.span

pub returns-then-len-gt0-clause-spans : goal.returns-then-len-gt0-clause-spans
returns-then-len-gt0-clause-spans g c = (stays g (goal.at.returns-then-len-gt0-clause-spans g c).After-len c.if-len-gt0.true).spans

pub returns-then-len-gt0-clause-before : goal.returns-then-len-gt0-clause-before
returns-then-len-gt0-clause-before g c = (stays g (goal.at.returns-then-len-gt0-clause-before g c).After-len c.if-len-gt0.true).before

pub returns-then-len-gt0-clause-room : goal.returns-then-len-gt0-clause-room
returns-then-len-gt0-clause-room g c = (stays g (goal.at.returns-then-len-gt0-clause-room g c).After-len c.if-len-gt0.true).room

pub returns-clause-row : goal.returns-clause-row
returns-clause-row g c =
    let at = goal.at.returns-clause-row g c in
    (goes g at.After-push_reserved (omega (arith, seen g at.After-len, c.if-len-gt0.false))).row

pub returns-clause-span : goal.returns-clause-span
returns-clause-span g c =
    out_span c.args.pieces.now.items c.args.at.piece c.args.at.index c.index_mut.result.now
    (span_of g.S.Span.start g.S.Span.contents c.remove-span.result) c.requires.at c.index_mut.ensures.value c.remove-span.ensures.span

pub returns-clause-spans : goal.returns-clause-spans
returns-clause-spans g c =
    let at = goal.at.returns-clause-spans g c in
    (goes g at.After-push_reserved (omega (arith, seen g at.After-len, c.if-len-gt0.false))).spans

pub returns-clause-before : goal.returns-clause-before
returns-clause-before g c =
    let at = goal.at.returns-clause-before g c in
    (goes g at.After-push_reserved (omega (arith, seen g at.After-len, c.if-len-gt0.false))).before

pub returns-clause-room : goal.returns-clause-room
returns-clause-room g c =
    let at = goal.at.returns-clause-room g c in
    (goes g at.After-push_reserved (omega (arith, seen g at.After-len, c.if-len-gt0.false))).room

-- The full piece keeps 64 spans, and the spare one has the others.
use Rattle.std.proofs.Common.{◌≡◌, ℕ, ◌+◌, ◌<◌, ◌++◌, ◌∷◌, [], List, length, take, drop, get_or, set, refl, sym, ap, subst}
use Rattle.std.proofs.Common.{◌∙◌, arith, length-append}
use Rattle.std.specs.Prelude.{vec_capacity}
use Rattle.span_store.specs.Held.{HeldSpan}
use Rattle.span_store.specs.Pieces.{IsStocked, piece_at, with_split}
use Rattle.span_store.proofs.InPieces.{in_two, insert_set}
use Rattle.span_store.proofs.Filed.{spare_front, split_is}
use Rattle.span_store.proofs.Kept.{piece_read, row_made}
use Rattle.span_store.proofs.row.split.Goals as goal

-- the two pieces
made : (ps now : List (List HeldSpan)) (i j : ℕ) (p a b : List HeldSpan) → i < length ps → p ≡ get_or ps i p → j ≡ i + 1 →
    a ≡ take 64 p → b ≡ drop 64 p → now ≡ take j (set ps i a) ++ (b ∷ drop j (set ps i a)) → now ≡ with_split ps i
made ps now i j p a b within read e front back is =
    let here = piece_read ps i p within read in
    is ∙ insert_set ps i j a b within e
    ∙ ap (λ (x : List HeldSpan). in_two ps i x b) (front ∙ ap (take 64) here)
    ∙ ap (λ (x : List HeldSpan). in_two ps i (take 64 (piece_at ps i)) x) (back ∙ ap (drop 64) here)

made_row : (ps spare now left : List (List HeldSpan)) (i m n k l : ℕ) (p : List HeldSpan) → IsStocked ps spare m n → i < length ps →
    length (piece_at ps i) ≡ 128 → spare ≡ left ++ (p ∷ []) → now ≡ with_split ps i → k ≡ m → l ≡ n → IsStocked now left k l
made_row ps spare now left i m n k l p row within full e is places spare_places =
    let its = split_is ps i row.filled within full in
    let count = its.count in
    let one = ap length e ∙ length-append left (p ∷ []) in
    subst (λ (qs : List (List HeldSpan)). IsStocked qs left k l) (sym is)
    (row_made ps spare (with_split ps i) left m n k l row its.filled (spare_front spare left p e row.empty).0
    (omega (arith, count, one)) (omega (arith, places)) (omega (arith, spare_places)))

pub index_mut-requires : goal.index_mut-requires
index_mut-requires g c = let ok = c.args.pieces.now.ok.0 in omega (arith, ok, c.requires.within)

pub halve-requires-clause-some : goal.halve-requires-clause-some
halve-requires-clause-some g c =
    let here = piece_read c.args.pieces.now.items c.args.index c.index_mut.result.now c.requires.within c.index_mut.ensures.value in
    omega (arith, ap length here, c.requires.full)

pub halve-requires-clause-most : goal.halve-requires-clause-most
halve-requires-clause-most g c =
    let here = piece_read c.args.pieces.now.items c.args.index c.index_mut.result.now c.requires.within c.index_mut.ensures.value in
    omega (arith, ap length here, c.requires.full)

pub halve-requires-clause-empty : goal.halve-requires-clause-empty
halve-requires-clause-empty g c =
    (spare_front c.args.spare.now.items c.pop.new.self.items c.in-Some.back c.in-Some.ensures.items c.requires.row.empty).1

pub returns-clause-row : goal.returns-clause-row
returns-clause-row g c =
    made_row c.args.pieces.now.items c.args.spare.now.items c.put.new.spans.items c.pop.new.self.items c.args.index
    (vec_capacity c.args.pieces.now) (vec_capacity c.args.spare.now) (vec_capacity c.put.new.spans) (vec_capacity c.pop.new.self)
    c.in-Some.back c.requires.row c.requires.within c.requires.full c.in-Some.ensures.items
    (made c.args.pieces.now.items c.put.new.spans.items c.args.index (c.args.index + 1) c.index_mut.result.now c.halve.new.self
    c.halve.new.back c.requires.within c.index_mut.ensures.value refl c.halve.ensures.front c.halve.ensures.back c.put.ensures.items)
    c.put.ensures.room c.pop.ensures.capacity

-- A full piece is split, and one of its two halves is the page's.
use Rattle.std.proofs.Common.{◌≡◌, ℕ, ◌+◌, ◌<◌, ◌≤◌, List, length, get_or, refl, ap, subst, ◌∙◌}
use Rattle.std.proofs.Common.{inl, inr, arith}
use Rattle.span_store.specs.Held.{HeldSpan}
use Rattle.span_store.specs.Order.{first_at}
use Rattle.span_store.specs.Pieces.{AreWithinLimit, IsPieceOf, piece_at, with_split}
use Rattle.span_store.proofs.InPieces.{filled_at}
use Rattle.span_store.proofs.Filed.{IsRoomy, roomy_split, split_first, split_is, split_second}
use Rattle.span_store.proofs.Kept.{piece_read}
use Rattle.span_store.proofs.row.piece_with_room.Given.{Over}
use Rattle.span_store.proofs.row.piece_with_room.Goals.{After-first}
use Rattle.span_store.proofs.row.piece_with_room.Goals as goal

-- the piece p that the page belongs to is full
record IsFull (ps : List (List HeldSpan)) (page i : ℕ) : Type 0 where
  of : IsPieceOf ps page i
  all : length (piece_at ps i) ≡ 128

full : (seen ps : List (List HeldSpan)) (page i len : ℕ) (p : List HeldSpan) → seen ≡ ps → IsPieceOf seen page i → AreWithinLimit ps →
    p ≡ get_or ps i p → len ≡ length p → 128 ≤ len → IsFull ps page i
full seen ps page i len p same seen_of filled read long more =
    let of = subst (λ (qs : List (List HeldSpan)). IsPieceOf qs page i) same seen_of in
    let most = (filled_at ps i filled of.within).1 in
    record { of = of; all = omega (arith, most, ap length (piece_read ps i p of.within read), more, long) }

-- its second half, as the code sees it, once it is split
record IsHalf (ps qs : List (List HeldSpan)) (i : ℕ) (p : List HeldSpan) : Type 0 where
  some : 1 ≤ length p
  is : p ≡ piece_at (with_split ps i) (i + 1)

half : (ps qs : List (List HeldSpan)) (page i : ℕ) (p : List HeldSpan) → IsFull ps page i → AreWithinLimit ps → AreWithinLimit qs →
    qs ≡ with_split ps i → p ≡ get_or qs (i + 1) p → IsHalf ps qs i p
half ps qs page i p it filled filled_now made read =
    let count = (split_is ps i filled it.of.within it.all).count in
    let within : i + 1 < length qs = omega (arith, it.of.within, count, ap length made) in
    let here = piece_read qs (i + 1) p within read in
    let some = (filled_at qs (i + 1) filled_now within).0 in
    record {
      some = omega (arith, some, ap length here);
      is = here ∙ ap (λ (rs : List (List HeldSpan)). piece_at rs (i + 1)) made;
    }

-- the piece of the page is the second half where this begins at the page or before it, and else the first
roomy : (ps spare qs left : List (List HeldSpan)) (page i begun : ℕ) (p : List HeldSpan) → IsFull ps page i → AreWithinLimit ps →
    qs ≡ with_split ps i → length left + 1 ≡ length spare → IsHalf ps qs i p → begun ≡ first_at p 0 →
    (begun ≤ page → IsRoomy ps spare qs left page (i + 1)) × (page < begun → IsRoomy ps spare qs left page i)
roomy ps spare qs left page i begun p it filled made one second e =
    let begin : begun ≡ first_at (piece_at (with_split ps i) (i + 1)) 0 = e ∙ ap (λ (q : List HeldSpan). first_at q 0) second.is in (
      λ before. roomy_split ps spare qs left page i (i + 1) filled it.of it.all made one
          (split_second ps page i (i + 1) it.of refl (omega (arith, before, begin))) (inr refl),
      λ behind. roomy_split ps spare qs left page i i filled it.of it.all made one
          (split_first ps page i it.of (omega (arith, it.all)) (omega (arith, behind, begin))) (inl refl),
    )

halves : (g : Over) (c : After-first g) →
    (c.first.result ≤ c.args.page → IsRoomy c.args.pieces.now.items c.args.spare.now.items c.split.new.pieces.items c.split.new.spare.items
    c.args.page (c.piece_of-index.result + 1)) × (c.args.page < c.first.result → IsRoomy c.args.pieces.now.items c.args.spare.now.items
    c.split.new.pieces.items c.split.new.spare.items c.args.page c.piece_of-index.result)
halves g c =
    let ps = c.args.pieces.now.items in
    let qs = c.split.new.pieces.items in
    let i = c.piece_of-index.result in
    let it = full c.as_slice.result.now ps c.args.page i c.len.result c.index.result.now c.as_slice.ensures.value c.piece_of-index.ensures
    c.requires.row.filled c.index.ensures c.len.ensures c.if-len-lt-LIMIT.false in
    roomy ps c.args.spare.now.items qs c.split.new.spare.items c.args.page i c.first.result c.index-2.result.now it c.requires.row.filled
    c.split.ensures.pieces c.split.ensures.spare (half ps qs c.args.page i c.index-2.result.now it c.requires.row.filled
    c.split.ensures.row.filled c.split.ensures.pieces c.index-2.ensures) c.first.ensures

pub split-requires-clause-full : goal.split-requires-clause-full
split-requires-clause-full g c =
    (full c.as_slice.result.now c.args.pieces.now.items c.args.page c.piece_of-index.result c.len.result c.index.result.now
    c.as_slice.ensures.value c.piece_of-index.ensures c.requires.row.filled c.index.ensures c.len.ensures c.if-len-lt-LIMIT.false).all

pub first-requires : goal.first-requires
first-requires g c =
    let it = full c.as_slice.result.now c.args.pieces.now.items c.args.page c.piece_of-index.result c.len.result c.index.result.now
    c.as_slice.ensures.value c.piece_of-index.ensures c.requires.row.filled c.index.ensures c.len.ensures c.if-len-lt-LIMIT.false in
    (half c.args.pieces.now.items c.split.new.pieces.items c.args.page c.piece_of-index.result c.index-2.result.now it
    c.requires.row.filled c.split.ensures.row.filled c.split.ensures.pieces c.index-2.ensures).some

pub returns-then-first-page-clause-spans : goal.returns-then-first-page-clause-spans
returns-then-first-page-clause-spans g c = ((halves g (goal.at.returns-then-first-page-clause-spans g c).After-first).0
    c.if-first-page.true).spans

pub returns-then-first-page-clause-piece : goal.returns-then-first-page-clause-piece
returns-then-first-page-clause-piece g c = ((halves g (goal.at.returns-then-first-page-clause-piece g c).After-first).0
    c.if-first-page.true).piece

pub returns-then-first-page-clause-free : goal.returns-then-first-page-clause-free
returns-then-first-page-clause-free g c = ((halves g (goal.at.returns-then-first-page-clause-free g c).After-first).0
    c.if-first-page.true).free

pub returns-then-first-page-clause-room : goal.returns-then-first-page-clause-room
returns-then-first-page-clause-room g c = ((halves g (goal.at.returns-then-first-page-clause-room g c).After-first).0
    c.if-first-page.true).room

pub returns-else-first-page-clause-spans : goal.returns-else-first-page-clause-spans
returns-else-first-page-clause-spans g c = ((halves g (goal.at.returns-else-first-page-clause-spans g c).After-first).1
    c.if-first-page.false).spans

pub returns-else-first-page-clause-piece : goal.returns-else-first-page-clause-piece
returns-else-first-page-clause-piece g c = ((halves g (goal.at.returns-else-first-page-clause-piece g c).After-first).1
    c.if-first-page.false).piece

pub returns-else-first-page-clause-free : goal.returns-else-first-page-clause-free
returns-else-first-page-clause-free g c = ((halves g (goal.at.returns-else-first-page-clause-free g c).After-first).1
    c.if-first-page.false).free

pub returns-else-first-page-clause-room : goal.returns-else-first-page-clause-room
returns-else-first-page-clause-room g c = ((halves g (goal.at.returns-else-first-page-clause-room g c).After-first).1
    c.if-first-page.false).room

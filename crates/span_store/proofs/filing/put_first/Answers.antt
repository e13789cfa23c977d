-- The first piece has the span alone.
use Rattle.std.proofs.Common.{◌≡◌, ℕ, ◌+◌, ◌++◌, ◌∷◌, [], List, length, take, drop}
use Rattle.std.proofs.Common.{sym, ap, subst, ◌∙◌, inl, inr, arith, length-append}
use Rattle.std.specs.Prelude.{vec_capacity}
use Rattle.span_store.specs.Held.{HeldSpan, span_of}
use Rattle.span_store.specs.Pieces.{AreEnough, IsInserted, IsStocked, load, spans_in}
use Rattle.span_store.proofs.Filed.{put_none, spare_front}
use Rattle.span_store.proofs.Kept.{row_made}
use Rattle.span_store.proofs.filing.put_first.Given.{Over}
use Rattle.span_store.proofs.filing.put_first.Goals.{After-push_reserved}
use Rattle.span_store.proofs.filing.put_first.Goals as goal

-- what a first piece q, of a spare one p, makes of the row
record IsFirst (ps spare now left : List (List HeldSpan)) (k l : ℕ) (r : HeldSpan) : Type 0 where
  row : IsStocked now left k l
  spans : IsInserted r (spans_in ps) (spans_in now)
  room : (n : ℕ) → AreEnough (length spare) (load ps) (n + 1) → AreEnough (length left) (load now) n

first_is : (ps spare now left : List (List HeldSpan)) (m n k l : ℕ) (p q : List HeldSpan) (r : HeldSpan) → IsStocked ps spare m n →
    length ps ≡ 0 → spare ≡ left ++ (p ∷ []) → q ≡ take 0 p ++ (r ∷ drop 0 p) → now ≡ ps ++ (q ∷ []) → k ≡ m → l ≡ n →
    IsFirst ps spare now left k l r
first_is (x ∷ ps) spare now left m n k l p q r kept none e is made places spare_places = absurd (omega (arith, none))
first_is [] spare now left m n k l p q r kept none e is made places spare_places =
    let split = spare_front spare left p e kept.empty in
    let alone : q ≡ r ∷ [] = is ∙ ap (λ (x : List HeldSpan). r ∷ x) split.1 in
    let count = ap length e ∙ length-append left (p ∷ []) in
    let one : length q ≡ 1 = ap length alone in
    subst (λ (qs : List (List HeldSpan)). IsFirst [] spare qs left k l r) (sym made) (record {
      row = row_made [] spare (q ∷ []) left m n k l kept (omega (arith, one), omega (arith, one), tt) split.0
          (omega (arith, count)) (omega (arith, places)) (omega (arith, spare_places));
      spans = put_none [] r q none alone;
      room = λ n had. elim had [
        | inl few ↦ inl (omega (arith, few, count))
        | inr many ↦ inr (omega (arith, many, count, one))
      ];
    })

first : (g : Over) (c : After-push_reserved g) →
    IsFirst c.args.pieces.now.items c.args.spare.now.items c.push_reserved.new.self.items c.pop.new.self.items
    (vec_capacity c.push_reserved.new.self) (vec_capacity c.pop.new.self) (span_of g.S.Span.start g.S.Span.contents c.args.span)
first g c =
    first_is c.args.pieces.now.items c.args.spare.now.items c.push_reserved.new.self.items c.pop.new.self.items
    (vec_capacity c.args.pieces.now) (vec_capacity c.args.spare.now)
    (vec_capacity c.push_reserved.new.self) (vec_capacity c.pop.new.self) c.in-Some.piece c.add.new.self
    (span_of g.S.Span.start g.S.Span.contents c.args.span) c.requires.row c.requires.none c.in-Some.ensures.items c.add.ensures
    c.push_reserved.ensures.items c.push_reserved.ensures.capacity c.pop.ensures.capacity

pub add-requires-clause-room : goal.add-requires-clause-room
add-requires-clause-room g c =
    let none = ap length (spare_front c.args.spare.now.items c.pop.new.self.items c.in-Some.piece c.in-Some.ensures.items
    c.requires.row.empty).1 in
    omega (arith, none)

pub returns-clause-row : goal.returns-clause-row
returns-clause-row g c = (first g (goal.at.returns-clause-row g c).After-push_reserved).row

pub returns-clause-spans : goal.returns-clause-spans
returns-clause-spans g c = (first g (goal.at.returns-clause-spans g c).After-push_reserved).spans

pub returns-clause-room : goal.returns-clause-room
returns-clause-room g c = (first g (goal.at.returns-clause-room g c).After-push_reserved).room

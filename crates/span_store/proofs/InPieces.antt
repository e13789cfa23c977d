-- Spans in pieces as one list of spans, and what a change of one piece makes of it.
use Rattle.std.proofs.Common.{◌≡◌, ℕ, zero, suc, ◌+◌, ◌-◌, ◌*◌, ◌<◌, ◌≤◌, List, [], ◌∷◌, ◌++◌, length, take}
use Rattle.std.proofs.Common.{drop, get_or, set, refl, sym, ap, subst, ◌∙◌, inl, inr, arith, length-append}
use Rattle.std.proofs.Common.{drop-cons, take-append-drop}
use Rattle.std.proofs.lemmas.Bool.{cases_lt}
use Rattle.std.proofs.lemmas.List.{append_assoc, append-nil, drop_all, drop-append-le, get_or_append_left, get_or-append-add}
use Rattle.std.proofs.lemmas.List.{set_split, take_all, take-append-le}
use Rattle.std.proofs.Math.Seq.{drop-append-add, take-append-add}
use Rattle.span_store.specs.Held.{HeldSpan}
use Rattle.span_store.specs.Order.{IsRank, first_at, no_span}
use Rattle.span_store.specs.Pieces.{AreWithinLimit, AreEnough, IsAt, IsAtOrEnd, IsBefore, IsLastBegun, IsPieceOf}
use Rattle.span_store.specs.Pieces.{above_half, count_before, load, piece_at, rank_of, spans_in}

-- a list between others
mid_take : {X : Type 0} (xs p ys : List X) (i k : ℕ) → k ≡ length xs + i → i ≤ length p → take k (xs ++ (p ++ ys)) ≡ xs ++ take i p
mid_take xs p ys i k e fits =
    ap (λ (n : ℕ). take n (xs ++ (p ++ ys))) e ∙ take-append-add xs (p ++ ys) i ∙ ap (λ (r : List _). xs ++ r) (take-append-le i p ys fits)

mid_drop : {X : Type 0} (xs p ys : List X) (i k : ℕ) → k ≡ length xs + i → i ≤ length p → drop k (xs ++ (p ++ ys)) ≡ drop i p ++ ys
mid_drop xs p ys i k e fits =
    ap (λ (n : ℕ). drop n (xs ++ (p ++ ys))) e ∙ drop-append-add xs (p ++ ys) i ∙ drop-append-le i p ys fits

mid_get : {X : Type 0} (xs p ys : List X) (i k : ℕ) (d : X) → k ≡ length xs + i → i < length p →
    get_or (xs ++ (p ++ ys)) k d ≡ get_or p i d
mid_get xs p ys i k d e fits =
    ap (λ (n : ℕ). get_or (xs ++ (p ++ ys)) n d) e ∙ get_or-append-add xs (p ++ ys) i d ∙ get_or_append_left p ys d i fits

-- the spans of pieces
pub spans_in-append : (xs ys : List (List HeldSpan)) → spans_in (xs ++ ys) ≡ spans_in xs ++ spans_in ys
spans_in-append [] ys = refl
spans_in-append (x ∷ xs) ys =
    ap (λ (r : List HeldSpan). x ++ r) (spans_in-append xs ys) ∙ sym (append_assoc x (spans_in xs) (spans_in ys))

pub spans_in-split : (ps : List (List HeldSpan)) (i : ℕ) → i < length ps →
    spans_in ps ≡ spans_in (take i ps) ++ (piece_at ps i ++ spans_in (drop (suc i) ps))
spans_in-split ps i within =
    ap spans_in (sym (take-append-drop i ps) ∙ ap (λ (r : List (List HeldSpan)). take i ps ++ r) (drop-cons ps i [] within))
    ∙ spans_in-append (take i ps) (piece_at ps i ∷ drop (suc i) ps)

spans_in-set : (ps : List (List HeldSpan)) (i : ℕ) (q : List HeldSpan) → i < length ps →
    spans_in (set ps i q) ≡ spans_in (take i ps) ++ (q ++ spans_in (drop (suc i) ps))
spans_in-set ps i q within =
    ap spans_in (set_split ps i q within) ∙ spans_in-append (take i ps) (q ∷ drop (suc i) ps)

pub length-pieces : (ps : List (List HeldSpan)) (i : ℕ) → i < length ps →
    length (spans_in ps) ≡ count_before ps i + (length (piece_at ps i) + length (spans_in (drop (suc i) ps)))
length-pieces ps i within =
    ap length (spans_in-split ps i within)
    ∙ length-append (spans_in (take i ps)) (piece_at ps i ++ spans_in (drop (suc i) ps))
    ∙ ap (λ (n : ℕ). count_before ps i + n) (length-append (piece_at ps i) (spans_in (drop (suc i) ps)))

-- a span of a piece among all spans
pub span_in : (ps : List (List HeldSpan)) (i j k : ℕ) (d : HeldSpan) → i < length ps → j < length (piece_at ps i) →
    k ≡ count_before ps i + j → get_or (spans_in ps) k d ≡ get_or (piece_at ps i) j d
span_in ps i j k d within inner e =
    ap (λ (xs : List HeldSpan). get_or xs k d) (spans_in-split ps i within)
    ∙ mid_get (spans_in (take i ps)) (piece_at ps i) (spans_in (drop (suc i) ps)) j k d e inner

-- spans of one piece, from a to b, in place of which others stand
pub edited : (ps : List (List HeldSpan)) (i a b k l : ℕ) (m q : List HeldSpan) → i < length ps → a ≤ length (piece_at ps i) →
    b ≤ length (piece_at ps i) → k ≡ count_before ps i + a → l ≡ count_before ps i + b →
    q ≡ take a (piece_at ps i) ++ (m ++ drop b (piece_at ps i)) →
    spans_in (set ps i q) ≡ take k (spans_in ps) ++ (m ++ drop l (spans_in ps))
edited ps i a b k l m q within first last at_k at_l e =
    let left = spans_in (take i ps) in
    let p = piece_at ps i in
    let right = spans_in (drop (suc i) ps) in
    let split = spans_in-split ps i within in
    let fore : take k (spans_in ps) ≡ left ++ take a p =
    ap (take k) split ∙ mid_take left p right a k at_k first in
    let rear : drop l (spans_in ps) ≡ drop b p ++ right =
    ap (drop l) split ∙ mid_drop left p right b l at_l last in
    spans_in-set ps i q within
    ∙ ap (λ (r : List HeldSpan). left ++ (r ++ right)) e
    ∙ ap (λ (r : List HeldSpan). left ++ r) (append_assoc (take a p) (m ++ drop b p) right
    ∙ ap (λ (r : List HeldSpan). take a p ++ r) (append_assoc m (drop b p) right))
    ∙ sym (append_assoc left (take a p) (m ++ (drop b p ++ right)))
    ∙ ap (λ (r : List HeldSpan). r ++ (m ++ (drop b p ++ right))) (sym fore)
    ∙ ap (λ (r : List HeldSpan). take k (spans_in ps) ++ (m ++ r)) (sym rear)

-- a piece that has no span may go
pub spans_in-without : (ps : List (List HeldSpan)) (i : ℕ) → i < length ps → piece_at ps i ≡ [] →
    spans_in (take i ps ++ drop (suc i) ps) ≡ spans_in ps
spans_in-without ps i within none =
    spans_in-append (take i ps) (drop (suc i) ps)
    ∙ ap (λ (p : List HeldSpan). spans_in (take i ps) ++ (p ++ spans_in (drop (suc i) ps))) (sym none)
    ∙ sym (spans_in-split ps i within)

pub without_set : (ps : List (List HeldSpan)) (i : ℕ) (q : List HeldSpan) → i < length ps →
    take i (set ps i q) ++ drop (suc i) (set ps i q) ≡ take i ps ++ drop (suc i) ps
without_set [] i q within = absurd (omega arith)
without_set (p ∷ ps) zero q within = refl
without_set (p ∷ ps) (suc i) q within = ap (λ (r : List (List HeldSpan)). p ∷ r) (without_set ps i q (omega arith))

-- a piece in two
abbrev pub in_two : List (List HeldSpan) → ℕ → List HeldSpan → List HeldSpan → List (List HeldSpan)
in_two ps i a b = take i ps ++ (a ∷ b ∷ drop (suc i) ps)

pub insert_set : (ps : List (List HeldSpan)) (i j : ℕ) (a b : List HeldSpan) → i < length ps → j ≡ i + 1 →
    take j (set ps i a) ++ (b ∷ drop j (set ps i a)) ≡ in_two ps i a b
insert_set [] i j a b within e = absurd (omega arith)
insert_set (p ∷ ps) zero zero a b within e = absurd (omega (arith, e))
insert_set (p ∷ ps) zero (suc zero) a b within e = refl
insert_set (p ∷ ps) zero (suc (suc j)) a b within e = absurd (omega (arith, e))
insert_set (p ∷ ps) (suc i) zero a b within e = absurd (omega (arith, e))
insert_set (p ∷ ps) (suc i) (suc j) a b within e =
    ap (λ (r : List (List HeldSpan)). p ∷ r) (insert_set ps i j a b (omega arith) (omega (arith, e)))

pub spans_in-two : (ps : List (List HeldSpan)) (i : ℕ) (a b : List HeldSpan) → i < length ps → piece_at ps i ≡ a ++ b →
    spans_in (in_two ps i a b) ≡ spans_in ps
spans_in-two ps i a b within e =
    spans_in-append (take i ps) (a ∷ b ∷ drop (suc i) ps)
    ∙ ap (λ (r : List HeldSpan). spans_in (take i ps) ++ r) (sym (append_assoc a b (spans_in (drop (suc i) ps))))
    ∙ ap (λ (p : List HeldSpan). spans_in (take i ps) ++ (p ++ spans_in (drop (suc i) ps))) (sym e)
    ∙ sym (spans_in-split ps i within)

pub length-two : (ps : List (List HeldSpan)) (i : ℕ) (a b : List HeldSpan) → i < length ps → length (in_two ps i a b) ≡ length ps + 1
length-two [] i a b within = absurd (omega arith)
length-two (p ∷ ps) zero a b within = omega arith
length-two (p ∷ ps) (suc i) a b within = let e = length-two ps i a b (omega arith) in omega (arith, e)

pub length-without : (ps : List (List HeldSpan)) (i : ℕ) → i < length ps → length (take i ps ++ drop (suc i) ps) + 1 ≡ length ps
length-without [] i within = absurd (omega arith)
length-without (p ∷ ps) zero within = omega arith
length-without (p ∷ ps) (suc i) within = let e = length-without ps i (omega arith) in omega (arith, e)

-- pieces of 1 to 128 spans
pub filled_at : (ps : List (List HeldSpan)) (i : ℕ) → AreWithinLimit ps → i < length ps →
    (1 ≤ length (piece_at ps i)) × (length (piece_at ps i) ≤ 128)
filled_at [] i filled within = absurd (omega arith)
filled_at (p ∷ ps) zero filled within = (filled.0, filled.1)
filled_at (p ∷ ps) (suc i) filled within = filled_at ps i filled.2 (omega arith)

pub filled_set : (ps : List (List HeldSpan)) (i : ℕ) (q : List HeldSpan) → AreWithinLimit ps → i < length ps → 1 ≤ length q →
    length q ≤ 128 → AreWithinLimit (set ps i q)
filled_set [] i q filled within some most = absurd (omega arith)
filled_set (p ∷ ps) zero q filled within some most = (some, most, filled.2)
filled_set (p ∷ ps) (suc i) q filled within some most = (filled.0, filled.1, filled_set ps i q filled.2 (omega arith) some most)

pub filled_two : (ps : List (List HeldSpan)) (i : ℕ) (a b : List HeldSpan) → AreWithinLimit ps → i < length ps → 1 ≤ length a →
    length a ≤ 128 → 1 ≤ length b → length b ≤ 128 → AreWithinLimit (in_two ps i a b)
filled_two [] i a b filled within some most some_b most_b = absurd (omega arith)
filled_two (p ∷ ps) zero a b filled within some most some_b most_b = (some, most, (some_b, most_b, filled.2))
filled_two (p ∷ ps) (suc i) a b filled within some most some_b most_b =
    (filled.0, filled.1, filled_two ps i a b filled.2 (omega arith) some most some_b most_b)

pub filled_without : (ps : List (List HeldSpan)) (i : ℕ) → AreWithinLimit ps → i < length ps → AreWithinLimit (take i ps ++ drop (suc i) ps)
filled_without [] i filled within = absurd (omega arith)
filled_without (p ∷ ps) zero filled within = filled.2
filled_without (p ∷ ps) (suc i) filled within = (filled.0, filled.1, filled_without ps i filled.2 (omega arith))

-- how many spans they have above the half
pub above_set : (ps : List (List HeldSpan)) (i : ℕ) (q : List HeldSpan) → i < length ps →
    above_half (set ps i q) + (length (piece_at ps i) - 64) ≡ above_half ps + (length q - 64)
above_set [] i q within = absurd (omega arith)
above_set (p ∷ ps) zero q within = omega arith
above_set (p ∷ ps) (suc i) q within = let e = above_set ps i q (omega arith) in omega (arith, e)

pub load_some : (ps : List (List HeldSpan)) (i : ℕ) → i < length ps → load ps ≡ above_half ps
load_some [] i within = absurd (omega arith)
load_some (p ∷ ps) i within = refl

pub above_two : (ps : List (List HeldSpan)) (i : ℕ) (a b : List HeldSpan) → i < length ps →
    above_half (in_two ps i a b) + (length (piece_at ps i) - 64) ≡ above_half ps + ((length a - 64) + (length b - 64))
above_two [] i a b within = absurd (omega arith)
above_two (p ∷ ps) zero a b within = omega arith
above_two (p ∷ ps) (suc i) a b within = let e = above_two ps i a b (omega arith) in omega (arith, e)

pub above_without : (ps : List (List HeldSpan)) (i : ℕ) → i < length ps → above_half (take i ps ++ drop (suc i) ps) ≤ above_half ps
above_without [] i within = absurd (omega arith)
above_without (p ∷ ps) zero within = omega arith
above_without (p ∷ ps) (suc i) within = let e = above_without ps i (omega arith) in omega (arith, e)

pub above_most : (ps : List (List HeldSpan)) → AreWithinLimit ps → above_half ps ≤ 64 * length ps
above_most [] filled = omega arith
above_most (p ∷ ps) filled = let e = above_most ps filled.2 in let most = filled.1 in omega (arith, e, most)

-- room for n more spans: there is a spare piece where n isn't 0
pub spare_some : (spare above n : ℕ) → AreEnough spare above (n + 1) → 0 < spare
spare_some spare above n room = elim room [ inl few ↦ omega (arith, few) | inr many ↦ omega (arith, many) ]

-- one span more, where no piece was split, and where one was
pub room_put : (spare above now n : ℕ) → AreEnough spare above (n + 1) → now ≤ above + 1 → AreEnough spare now n
room_put spare above now n room less = elim room [ inl few ↦ inl (omega (arith, few)) | inr many ↦ inr (omega (arith, many, less)) ]

pub room_split : (spare left above now n : ℕ) → AreEnough spare above (n + 1) → left + 1 ≡ spare → now + 64 ≤ above →
    AreEnough left (now + 1) n
room_split spare left above now n room one less = elim room [
  | inl few ↦ inl (omega (arith, few, one))
  | inr many ↦ inr (omega (arith, many, one, less))
]

pub room_more : (spare left above now n : ℕ) → AreEnough spare above n → spare ≤ left → now ≤ above → AreEnough left now n
room_more spare left above now n room more less = elim room [
  | inl few ↦ inl (omega (arith, few, more))
  | inr many ↦ inr (omega (arith, many, more, less))
]

pub count_next : (ps : List (List HeldSpan)) (i : ℕ) → i < length ps → count_before ps (suc i) ≡ count_before ps i + length (piece_at ps i)
count_next [] i within = absurd (omega arith)
count_next (p ∷ ps) zero within = ap length (append-nil p) ∙ omega arith
count_next (p ∷ ps) (suc i) within =
    let e = count_next ps i (omega arith) in
    let a = length-append p (spans_in (take (suc i) ps)) in
    let b = length-append p (spans_in (take i ps)) in
    omega (arith, e, a, b)

-- where no span of the piece that a page belongs to begins at the page or before it, it is the first piece
no_rank : (ps : List (List HeldSpan)) (page i j : ℕ) → AreWithinLimit ps → IsPieceOf ps page i → IsRank (piece_at ps i) page j → j ≡
    0 → i ≡ 0
no_rank ps page i j filled of rank none = elim (cases_lt 0 i) [
  | inl later ↦
      let some = (filled_at ps i filled of.within).0 in
      let begun = of.before later in
      let behind : page < first_at (piece_at ps i) 0 =
      subst (λ (k : ℕ). page < first_at (piece_at ps i) k) none (rank.behind (omega (arith, none, some))) in
      absurd (omega (arith, begun, behind))
  | inr first ↦ omega (arith, first)
]

-- the place of a page in the piece that it belongs to is its place among all spans
pub rank_in : (ps : List (List HeldSpan)) (page i j : ℕ) → AreWithinLimit ps → IsPieceOf ps page i → IsRank (piece_at ps i) page j →
    IsRank (spans_in ps) page (rank_of ps i j)
rank_in ps page i j filled of rank =
    let p = piece_at ps i in
    let right = spans_in (drop (suc i) ps) in
    let within : i < length ps = of.within in
    let some = (filled_at ps i filled within).0 in
    let all = length-pieces ps i within in
    let fits : j ≤ length p = rank.within in
    record {
      within = omega (arith, fits, all);
      before = λ more. elim (cases_lt 0 j) [
        | inl inner ↦
            let here = ap (λ (s : HeldSpan). s.first)
            (span_in ps i (j - 1) (rank_of ps i j - 1) no_span within (omega (arith, inner, fits)) (omega (arith, inner))) in
            let begun = rank.before inner in
            omega (arith, here, begun)
        | inr out ↦
            let zero_j : j ≡ 0 = omega (arith, out) in
            let first : count_before ps i ≡ 0 = ap (count_before ps) (no_rank ps page i j filled of rank zero_j) in
            absurd (omega (arith, more, first, zero_j))
      ];
      behind = λ less. elim (cases_lt j (length p)) [
        | inl inner ↦
            let here = ap (λ (s : HeldSpan). s.first) (span_in ps i j (rank_of ps i j) no_span within inner refl) in
            let behind = rank.behind inner in
            omega (arith, here, behind)
        | inr out ↦ elim (cases_lt (suc i) (length ps)) [
          | inl next ↦
              let more : i + 1 ≡ suc i = omega arith in
              let behind : page < first_at (piece_at ps (suc i)) 0 =
              subst (λ (k : ℕ). page < first_at (piece_at ps k) 0) more (of.behind (omega (arith, next))) in
              let some_next = (filled_at ps (suc i) filled next).0 in
              let at : count_before ps (suc i) ≡ count_before ps i + length p = count_next ps i within in
              let here = ap (λ (s : HeldSpan). s.first)
              (span_in ps (suc i) 0 (rank_of ps i j) no_span next (omega (arith, some_next)) (omega (arith, at, out, fits))) in
              omega (arith, here, behind)
          | inr last ↦
              let empty : length right ≡ 0 = ap (λ (r : List (List HeldSpan)). length (spans_in r)) (drop_all (suc i) ps last) in
              absurd (omega (arith, less, all, out, empty))
        ]
      ];
    }

-- and no span at all begins there or before
pub rank_none : (ps : List (List HeldSpan)) (page i j : ℕ) → AreWithinLimit ps → IsPieceOf ps page i → IsRank (piece_at ps i) page j →
    j ≡ 0 →
    IsRank (spans_in ps) page 0
rank_none ps page i j filled of rank none =
    let first : count_before ps i ≡ 0 = ap (count_before ps) (no_rank ps page i j filled of rank none) in
    subst (IsRank (spans_in ps) page) (omega (arith, first, none)) (rank_in ps page i j filled of rank)

-- where there is no piece no span begins
pub rank_empty : (ps : List (List HeldSpan)) (page : ℕ) → length ps ≡ 0 → IsRank (spans_in ps) page 0
rank_empty [] page none =
    record { within = omega arith; before = λ h. absurd (omega arith); behind = λ h. absurd (omega arith) }
rank_empty (p ∷ ps) page none = absurd (omega (arith, none))

-- the last span that begins at a page or before it
pub last_begun_is : (ps : List (List HeldSpan)) (page i k : ℕ) → AreWithinLimit ps → IsPieceOf ps page i → IsRank (piece_at ps i) page k →
    0 < k → IsLastBegun ps page i (k - 1)
last_begun_is ps page i k filled of rank some =
    let fits = rank.within in
    record {
      at = record { within = of.within; inner = omega (arith, fits, some) };
      rank = subst (IsRank (spans_in ps) page) (omega (arith, some)) (rank_in ps page i k filled of rank);
    }

-- the span at a place is the one of its rank
pub at_rank : (ps : List (List HeldSpan)) (i j : ℕ) → IsAt ps i j → get_or (spans_in ps) (rank_of ps i j) no_span ≡ get_or
    (piece_at ps i) j no_span
at_rank ps i j at = span_in ps i j (rank_of ps i j) no_span at.within at.inner refl

pub at_within : (ps : List (List HeldSpan)) (i j : ℕ) → IsAt ps i j → rank_of ps i j < length (spans_in ps)
at_within ps i j at =
    let all = length-pieces ps i at.within in
    let inner = at.inner in
    omega (arith, all, inner)

-- behind all pieces all spans are before
pub end_rank : (ps : List (List HeldSpan)) (i j : ℕ) → length ps ≤ i → length (spans_in ps) ≤ rank_of ps i j
end_rank ps i j past =
    let all : count_before ps i ≡ length (spans_in ps) = ap (λ (r : List (List HeldSpan)). length (spans_in r)) (take_all i ps past) in
    omega (arith, all)

-- a place whose rank is that of a span has it
pub at_is : (ps : List (List HeldSpan)) (i j : ℕ) → IsAtOrEnd ps i j → rank_of ps i j < length (spans_in ps) → IsAt ps i j
at_is ps i j at less = elim (cases_lt i (length ps)) [
  | inl within ↦ record { within = within; inner = at within }
  | inr past ↦ absurd (let past = end_rank ps i j past in omega (arith, less, past))
]

-- the place behind the last span of a piece
pub next_rank : (ps : List (List HeldSpan)) (i j : ℕ) → IsAt ps i j → length (piece_at ps i) ≤ j + 1 → rank_of ps (i + 1) 0 ≡ rank_of
    ps i j + 1
next_rank ps i j at last =
    let next : i + 1 ≡ suc i = omega arith in
    let inner = at.inner in
    let count : count_before ps (i + 1) ≡ count_before ps i + length (piece_at ps i) =
    ap (count_before ps) next ∙ count_next ps i at.within in
    omega (arith, count, last, inner)

-- the place of the last span of the piece before one
pub before_first : (ps : List (List HeldSpan)) (k l m : ℕ) → AreWithinLimit ps → IsAt ps k l → 0 < k → l ≡ 0 → m ≡ length
    (piece_at ps (k - 1)) →
    IsBefore ps (k - 1) (m - 1) k l
before_first ps zero l m filled at some none e = absurd (omega (arith, some))
before_first ps (suc i) l m filled at some none e =
    let same : suc i - 1 ≡ i = omega arith in
    let within = at.within in
    let inside : i < length ps = omega (arith, within) in
    let least = (filled_at ps i filled inside).0 in
    let count = count_next ps i inside in
    let long : m ≡ length (piece_at ps i) = e ∙ ap (λ (n : ℕ). length (piece_at ps n)) same in
    subst (λ (n : ℕ). IsBefore ps n (m - 1) (suc i) l) (sym same) (record {
      at = record { within = inside; inner = omega (arith, least, long) };
      rank = omega (arith, count, none, long, least);
      order = inl (omega arith);
    })

pub before_same : (ps : List (List HeldSpan)) (i l : ℕ) → IsAt ps i l → 0 < l → IsBefore ps i (l - 1) i l
before_same ps i l at some =
    let inner = at.inner in
    record {
      at = record { within = at.within; inner = omega (arith, inner, some) };
      rank = omega (arith, some);
      order = inr (refl, omega (arith, some));
    }

-- another span in place of one
pub put_at : (ps : List (List HeldSpan)) (i j : ℕ) (s : HeldSpan) → IsAt ps i j →
    spans_in (set ps i (set (piece_at ps i) j s)) ≡ set (spans_in ps) (rank_of ps i j) s
put_at ps i j s at =
    let inner = at.inner in
    edited ps i j (suc j) (rank_of ps i j) (suc (rank_of ps i j)) (s ∷ []) (set (piece_at ps i) j s) at.within (omega (arith, inner))
    (omega (arith, inner)) refl (omega arith) (set_split (piece_at ps i) j s inner)
    ∙ sym (set_split (spans_in ps) (rank_of ps i j) s (at_within ps i j at))

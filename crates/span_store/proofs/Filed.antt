-- What one span more, one less, a cut and a join leave of pieces.
use Rattle.std.proofs.Common.{◌≡◌, ℕ, zero, suc, ◌+◌, ◌-◌, ◌<◌, ◌≤◌, ◌⊎◌, true, false, List, [], ◌∷◌, ◌++◌}
use Rattle.std.proofs.Common.{length, take, drop, get_or, set, refl, sym, ap, subst, ◌∙◌, inl, inr, arith}
use Rattle.std.proofs.Common.{length-append, length-drop, take-append-drop}
use Rattle.std.specs.Prelude.{is_some}
use Rattle.std.proofs.lemmas.Bool.{cases_lt, cases_eq, false≢true}
use Rattle.std.proofs.lemmas.List.{append-nil, get_or-set_same, length-set, length-take-le, take-append-le, take-set, take-take}
use Rattle.span_store.specs.Held.{HeldSpan, begins_in, page_in}
use Rattle.span_store.specs.Order.{InOrder, IsRank, back_part, first_at, front_part, no_span, with_cut}
use Rattle.span_store.specs.Pieces.{AreWithinLimit, AreEnough, IsCutIn, IsLastBegun, IsPieceOf, IsInserted, IsSameUpTo}
use Rattle.span_store.specs.Pieces.{above_half, load, piece_at, rank_of, spans_in, with_split}
use Rattle.span_store.proofs.SpanLists.{IsIn, end_of}
use Rattle.span_store.proofs.InPieces.{above_set, above_two, above_without, at_rank, edited, filled_at, filled_set}
use Rattle.span_store.proofs.InPieces.{filled_two, filled_without, last_begun_is, length-two, load_some, rank_empty, rank_in, rank_none}
use Rattle.span_store.proofs.InPieces.{room_split, spans_in-append, spans_in-two, spans_in-without, without_set}
use Rattle.span_store.proofs.Begun.{begins_there, last_held, none_held}

-- one span more
pub put_made : (ps : List (List HeldSpan)) (old : List HeldSpan) (i j : ℕ) (r : HeldSpan) (q : List HeldSpan) → spans_in ps ≡ old →
    AreWithinLimit ps → IsPieceOf ps r.first i → IsRank (piece_at ps i) r.first j → q ≡ take j (piece_at ps i) ++
    (r ∷ drop j (piece_at ps i)) →
    IsInserted r old (spans_in (set ps i q))
put_made ps old i j r q same filled of rank e =
    let k = rank_of ps i j in
    subst (λ (xs : List HeldSpan). IsInserted r xs (spans_in (set ps i q))) same (record {
      place = k;
      rank = rank_in ps r.first i j filled of rank;
      spans = edited ps i j j k k (r ∷ []) q of.within rank.within rank.within refl refl e;
    })

-- the first span
pub put_none : (ps : List (List HeldSpan)) (r : HeldSpan) (q : List HeldSpan) → length ps ≡ 0 → q ≡ r ∷ [] →
    IsInserted r (spans_in ps) (spans_in (ps ++ (q ∷ [])))
put_none [] r q none e = record { place = 0; rank = rank_empty [] r.first none; spans = append-nil q ∙ e }
put_none (p ∷ ps) r q none e = absurd (omega (arith, none))

-- the span of a piece that has a page, and begins before it where no span begins there
pub record IsInner (ps : List (List HeldSpan)) (page i k : ℕ) : Type 0 where
  pub some : 0 < k
  pub last : IsLastBegun ps page i (k - 1)
  pub here : IsIn (spans_in ps) (rank_of ps i (k - 1)) page
  pub same : get_or (spans_in ps) (rank_of ps i (k - 1)) no_span ≡ get_or (piece_at ps i) (k - 1) no_span
  pub from : first_at (piece_at ps i) (k - 1) < page
  pub to : page < end_of (get_or (piece_at ps i) (k - 1) no_span)

pub inner_is : (ps : List (List HeldSpan)) (page i k : ℕ) → AreWithinLimit ps → InOrder 0 (spans_in ps) → IsPieceOf ps page i →
    IsRank (piece_at ps i) page k → is_some (page_in (spans_in ps) page) ≡ true → begins_in (spans_in ps) page ≡ false → IsInner ps page i k
inner_is ps page i k filled order of rank held other = elim (cases_lt 0 k) [
  | inr none ↦ absurd (none_held (spans_in ps) page order (rank_none ps page i k filled of rank (omega (arith, none))) held)
  | inl some ↦
      let last = last_begun_is ps page i k filled of rank some in
      let here = last_held ps page i (k - 1) order last held in
      let same = at_rank ps i (k - 1) last.at in
      let first = ap (λ (s : HeldSpan). s.first) same in
      let end = ap end_of same in
      let low = here.from in
      let high = here.to in
      record {
        some = some;
        last = last;
        here = here;
        same = same;
        from = elim (cases_eq (first_at (spans_in ps) (rank_of ps i (k - 1))) page) [
          | inl begun ↦ absurd (false≢true (sym other ∙ begins_there ps page i (k - 1) order last begun))
          | inr apart ↦ elim (cases_lt (first_at (spans_in ps) (rank_of ps i (k - 1))) page) [
            | inl less ↦ omega (arith, less, first)
            | inr more ↦ absurd (apart (omega (arith, more, low)))
          ]
        ];
        to = omega (arith, high, end);
      }
]

-- one span cut
pub cut_in_made : (ps : List (List HeldSpan)) (old : List HeldSpan) (page i k n : ℕ) (q : List HeldSpan) → spans_in ps ≡ old →
    IsInner ps page i k → n ≡ page - first_at (piece_at ps i) (k - 1) → q ≡ with_cut (piece_at ps i) (k - 1) n →
    IsCutIn page old (spans_in (set ps i q))
cut_in_made ps old page i k n q same its e is =
    let rows = spans_in ps in
    let m = rank_of ps i (k - 1) in
    let s = get_or rows m no_span in
    let t = get_or (piece_at ps i) (k - 1) no_span in
    let first : s.first ≡ t.first = ap (λ (x : HeldSpan). x.first) its.same in
    let from = its.from in
    let inner = its.last.at.inner in
    let count : n ≡ page - s.first = e ∙ ap (λ (x : ℕ). page - x) (sym first) in
    subst (λ (xs : List HeldSpan). IsCutIn page xs (spans_in (set ps i q))) same (record {
      place = m;
      within = its.here.within;
      from = omega (arith, from, first);
      to = its.here.to;
      spans =
          edited ps i (k - 1) (suc (k - 1)) m (suc m) (front_part t n ∷ back_part t n ∷ []) q its.last.at.within
          (omega (arith, inner)) (omega (arith, inner)) refl (omega arith) is
          ∙ ap (λ (x : HeldSpan). take m rows ++ (front_part x n ∷ back_part x n ∷ drop (suc m) rows)) (sym its.same)
          ∙ ap (with_cut rows m) count;
    })

-- a piece of 128 spans in two
pub record IsSplit (ps : List (List HeldSpan)) (i : ℕ) : Type 0 where
  pub spans : spans_in (with_split ps i) ≡ spans_in ps
  pub filled : AreWithinLimit (with_split ps i)
  pub count : length (with_split ps i) ≡ length ps + 1
  pub above : above_half (with_split ps i) + 64 ≡ above_half ps

pub split_is : (ps : List (List HeldSpan)) (i : ℕ) → AreWithinLimit ps → i < length ps → length (piece_at ps i) ≡ 128 → IsSplit ps i
split_is ps i filled within full =
    let p = piece_at ps i in
    let front : length (take 64 p) ≡ 64 = length-take-le 64 p (omega (arith, full)) in
    let back : length (drop 64 p) ≡ 64 = let e = length-drop 64 p in omega (arith, e, full) in
    let above = above_two ps i (take 64 p) (drop 64 p) within in
    record {
      spans = spans_in-two ps i (take 64 p) (drop 64 p) within (sym (take-append-drop 64 p));
      filled = filled_two ps i (take 64 p) (drop 64 p) filled within (omega (arith, front)) (omega (arith, front))
          (omega (arith, back)) (omega (arith, back));
      count = length-two ps i (take 64 p) (drop 64 p) within;
      above = omega (arith, above, front, back, full);
    }

-- the pieces of a split
split_at_first : (ps : List (List HeldSpan)) (i : ℕ) (a b : List HeldSpan) → i < length ps →
    piece_at (take i ps ++ (a ∷ b ∷ drop (suc i) ps)) i ≡ a
split_at_first [] i a b within = absurd (omega arith)
split_at_first (p ∷ ps) zero a b within = refl
split_at_first (p ∷ ps) (suc i) a b within = split_at_first ps i a b (omega arith)

split_at_second : (ps : List (List HeldSpan)) (i j : ℕ) (a b : List HeldSpan) → i < length ps → j ≡ i + 1 →
    piece_at (take i ps ++ (a ∷ b ∷ drop (suc i) ps)) j ≡ b
split_at_second [] i j a b within e = absurd (omega arith)
split_at_second (p ∷ ps) zero zero a b within e = absurd (omega (arith, e))
split_at_second (p ∷ ps) zero (suc zero) a b within e = refl
split_at_second (p ∷ ps) zero (suc (suc j)) a b within e = absurd (omega (arith, e))
split_at_second (p ∷ ps) (suc i) zero a b within e = absurd (omega (arith, e))
split_at_second (p ∷ ps) (suc i) (suc j) a b within e = split_at_second ps i j a b (omega arith) (omega (arith, e))

split_at_next : (ps : List (List HeldSpan)) (i j : ℕ) (a b : List HeldSpan) → i < length ps → i < j →
    piece_at (take i ps ++ (a ∷ b ∷ drop (suc i) ps)) (suc j) ≡ piece_at ps j
split_at_next [] i j a b within less = absurd (omega arith)
split_at_next (p ∷ ps) zero zero a b within less = absurd (omega arith)
split_at_next (p ∷ ps) zero (suc j) a b within less = refl
split_at_next (p ∷ ps) (suc i) zero a b within less = absurd (omega arith)
split_at_next (p ∷ ps) (suc i) (suc j) a b within less = split_at_next ps i j a b (omega arith) (omega arith)

first_at-take : (p : List HeldSpan) → 1 ≤ length p → first_at (take 64 p) 0 ≡ first_at p 0
first_at-take [] some = refl
first_at-take (s ∷ p) some = refl

-- a page belongs to the first or to the second of the two
pub split_first : (ps : List (List HeldSpan)) (page i : ℕ) → IsPieceOf ps page i → 1 ≤ length (piece_at ps i) →
    page < first_at (piece_at (with_split ps i) (i + 1)) 0 → IsPieceOf (with_split ps i) page i
split_first ps page i of some behind =
    let p = piece_at ps i in
    let within = of.within in
    let count = length-two ps i (take 64 p) (drop 64 p) within in
    record {
      within = omega (arith, within, count);
      before = λ later.
          let begun = of.before later in
          let here = ap (λ (x : List HeldSpan). first_at x 0) (split_at_first ps i (take 64 p) (drop 64 p) within) ∙ first_at-take p some in
          omega (arith, begun, here);
      behind = λ _. behind;
    }

pub split_second : (ps : List (List HeldSpan)) (page i j : ℕ) → IsPieceOf ps page i → j ≡ i + 1 →
    first_at (piece_at (with_split ps i) j) 0 ≤ page → IsPieceOf (with_split ps i) page j
split_second ps page i j of e begun =
    let p = piece_at ps i in
    let within = of.within in
    let count = length-two ps i (take 64 p) (drop 64 p) within in
    record {
      within = omega (arith, within, count, e);
      before = λ _. begun;
      behind = λ more.
          let behind = of.behind (omega (arith, more, count, e)) in
          let next : piece_at (with_split ps i) (suc j) ≡ piece_at ps j =
          split_at_next ps i j (take 64 p) (drop 64 p) within (omega (arith, e)) in
          let there = ap (λ (x : List HeldSpan). first_at x 0)
          (ap (piece_at (with_split ps i)) (let n : j + 1 ≡ suc j = omega arith in n) ∙ next
          ∙ ap (piece_at ps) e) in
          omega (arith, behind, there);
    }

pub split_lengths : (ps : List (List HeldSpan)) (i j : ℕ) → i < length ps → length (piece_at ps i) ≡ 128 → (j ≡ i) ⊎ (j ≡ i + 1) →
    length (piece_at (with_split ps i) j) ≡ 64
split_lengths ps i j within full which =
    let p = piece_at ps i in
    let front : length (take 64 p) ≡ 64 = length-take-le 64 p (omega (arith, full)) in
    let back : length (drop 64 p) ≡ 64 = let e = length-drop 64 p in omega (arith, e, full) in
    elim which [
      | inl same ↦ ap (λ (k : ℕ). length (piece_at (with_split ps i) k)) same
          ∙ ap length (split_at_first ps i (take 64 p) (drop 64 p) within) ∙ front
      | inr next ↦ ap length (split_at_second ps i j (take 64 p) (drop 64 p) within next) ∙ back
    ]

-- the piece at j, to which the page belongs, has room for one span more
pub record IsRoomy (ps spare qs left : List (List HeldSpan)) (page j : ℕ) : Type 0 where
  pub spans : spans_in qs ≡ spans_in ps
  pub piece : IsPieceOf qs page j
  pub free : length (piece_at qs j) < 128
  pub room : (n : ℕ) → AreEnough (length spare) (load ps) (n + 1) → AreEnough (length left) (load qs + 1) n

pub roomy_split : (ps spare qs left : List (List HeldSpan)) (page i j : ℕ) → AreWithinLimit ps → IsPieceOf ps page i →
    length (piece_at ps i) ≡ 128 → qs ≡ with_split ps i → length left + 1 ≡ length spare → IsPieceOf (with_split ps i) page j →
    (j ≡ i) ⊎ (j ≡ i + 1) → IsRoomy ps spare qs left page j
roomy_split ps spare qs left page i j filled of full is one there which =
    let within = of.within in
    let its = split_is ps i filled within full in
    let half = split_lengths ps i j within full which in
    let above = its.above in
    let count = its.count in
    let old = load_some ps i within in
    let new = load_some (with_split ps i) i (omega (arith, count, within)) in
    subst (λ (rs : List (List HeldSpan)). IsRoomy ps spare rs left page j) (sym is) (record {
      spans = its.spans;
      piece = there;
      free = omega (arith, half);
      room = λ n room. room_split (length spare) (length left) (load ps) (load (with_split ps i)) n room one
          (omega (arith, above, old, new));
    })

-- one span less
pub record IsTaken (ps now : List (List HeldSpan)) (i j : ℕ) : Type 0 where
  pub spans : spans_in now ≡ take (rank_of ps i j) (spans_in ps) ++ drop (rank_of ps i j + 1) (spans_in ps)
  pub filled : AreWithinLimit now
  pub above : above_half now ≤ above_half ps
  pub before : IsSameUpTo i j ps now

-- a row without its j-th span
removed_length : (p : List HeldSpan) (j : ℕ) → j < length p → length (take j p ++ drop (j + 1) p) + 1 ≡ length p
removed_length p j less =
    let a = length-append (take j p) (drop (j + 1) p) in
    let b = length-take-le j p (omega (arith, less)) in
    let c = length-drop (j + 1) p in
    omega (arith, a, b, c, less)

take_front : {X : Type 0} (xs ys : List X) (i : ℕ) → i ≤ length xs → take i (take i xs ++ ys) ≡ take i xs
take_front xs ys i fits =
    let long = length-take-le i xs fits in
    take-append-le i (take i xs) ys (omega (arith, long)) ∙ take-take i i xs (omega arith)

taken_spans : (ps : List (List HeldSpan)) (i j : ℕ) (q : List HeldSpan) → i < length ps → j < length (piece_at ps i) →
    q ≡ take j (piece_at ps i) ++ drop (j + 1) (piece_at ps i) →
    spans_in (set ps i q) ≡ take (rank_of ps i j) (spans_in ps) ++ drop (rank_of ps i j + 1) (spans_in ps)
taken_spans ps i j q within inner e =
    edited ps i j (j + 1) (rank_of ps i j) (rank_of ps i j + 1) [] q within (omega (arith, inner)) (omega (arith, inner))
    refl (omega arith) e

pub taken_set : (ps : List (List HeldSpan)) (i j : ℕ) (q : List HeldSpan) → AreWithinLimit ps → i < length ps → j < length (piece_at ps i) →
    q ≡ take j (piece_at ps i) ++ drop (j + 1) (piece_at ps i) → 1 ≤ length q → IsTaken ps (set ps i q) i j
taken_set ps i j q filled within inner e some =
    let p = piece_at ps i in
    let most = (filled_at ps i filled within).1 in
    let count : length q + 1 ≡ length p = ap (λ (x : List HeldSpan). length x + 1) e ∙ removed_length p j inner in
    let above = above_set ps i q within in
    record {
      spans = taken_spans ps i j q within inner e;
      filled = filled_set ps i q filled within some (omega (arith, count, most));
      above = omega (arith, above, count);
      before = record {
        pieces = take-set ps i q;
        spans = λ _. ap (take j) (get_or-set_same ps i q [] within ∙ e) ∙ take_front p (drop (j + 1) p) j (omega (arith, inner));
      };
    }

pub taken_all : (ps : List (List HeldSpan)) (i j : ℕ) (q : List HeldSpan) → AreWithinLimit ps → i < length ps → j < length (piece_at ps i) →
    q ≡ take j (piece_at ps i) ++ drop (j + 1) (piece_at ps i) → length q ≡ 0 → IsTaken ps (take i ps ++ drop (suc i) ps) i j
taken_all ps i j q filled within inner e none =
    let p = piece_at ps i in
    let count : length q + 1 ≡ length p = ap (λ (x : List HeldSpan). length x + 1) e ∙ removed_length p j inner in
    let within_set : i < length (set ps i q) = let l = length-set ps i q in omega (arith, l, within) in
    record {
      spans = ap spans_in (sym (without_set ps i q within))
          ∙ spans_in-without (set ps i q) i within_set (get_or-set_same ps i q [] within ∙ nothing q none)
          ∙ taken_spans ps i j q within inner e;
      filled = filled_without ps i filled within;
      above = above_without ps i within;
      before = record {
        pieces = take_front ps (drop (suc i) ps) i (omega (arith, within));
        spans = λ some. absurd (omega (arith, some, count, none, inner));
      };
    }
  where
    nothing : (xs : List HeldSpan) → length xs ≡ 0 → xs ≡ []
    nothing [] e = refl
    nothing (x ∷ xs) e = absurd (omega (arith, e))

-- spare pieces stay empty
pub spare_front : (spare rest : List (List HeldSpan)) (p : List HeldSpan) → spare ≡ rest ++ (p ∷ []) → spans_in spare ≡ [] →
    (spans_in rest ≡ []) × (p ≡ [])
spare_front spare rest p e none = parts (spans_in rest) p (sym (spans_in-append rest (p ∷ [])
    ∙ ap (λ (x : List HeldSpan). spans_in rest ++ x) (append-nil p)) ∙ (sym (ap spans_in e) ∙ none))
  where
    parts : (xs ys : List HeldSpan) → xs ++ ys ≡ [] → (xs ≡ []) × (ys ≡ [])
    parts [] ys e = (refl, e)
    parts (x ∷ xs) ys e = absurd (let n = ap length e in omega (arith, n))

pub spare_push : (spare : List (List HeldSpan)) (p : List HeldSpan) → spans_in spare ≡ [] → p ≡ [] → spans_in (spare ++ (p ∷ [])) ≡ []
spare_push spare p none e =
    spans_in-append spare (p ∷ []) ∙ ap (λ (x : List HeldSpan). x ++ (p ++ [])) none ∙ append-nil p ∙ e

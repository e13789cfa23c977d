-- Two spans in pieces that meet, once the second was taken out, and once they are one.
use Rattle.std.proofs.Common.{◌≡◌, ℕ, zero, suc, ◌+◌, ◌<◌, ◌≤◌, List, [], ◌∷◌, ◌++◌, length, take, drop, get_or}
use Rattle.std.proofs.Common.{set, refl, sym, ap, subst, ◌∙◌, inl, inr, arith}
use Rattle.std.proofs.lemmas.Bool.{cases_lt}
use Rattle.std.proofs.lemmas.List.{get_or-take, length-take, length-take-le, set_split, take-take}
use Rattle.std.proofs.Math.ListN.{get_or-eq_default}
use Rattle.span_store.specs.Held.{HeldSpan}
use Rattle.span_store.specs.Order.{as_one, first_at, no_span, with_join}
use Rattle.span_store.specs.Pieces.{IsAt, IsBefore, IsBorderAt, IsSameUpTo, piece_at, rank_of, spans_in}
use Rattle.span_store.proofs.InPieces.{at_rank, at_within, edited}

-- the second begins where the first ends
pub border_meets : (ps : List (List HeldSpan)) (page i j k l : ℕ) → IsBorderAt ps page i j k l →
    first_at (spans_in ps) (rank_of ps k l)
    ≡ first_at (spans_in ps) (rank_of ps i j) + length (get_or (spans_in ps) (rank_of ps i j) no_span).pages
border_meets ps page i j k l met =
    ap (first_at (spans_in ps)) met.before.rank ∙ met.border.next ∙ sym met.border.end

-- the first of the two is still where it was
pub record IsFront (ps now : List (List HeldSpan)) (i j : ℕ) : Type 0 where
  pub at : IsAt now i j
  pub own : get_or (piece_at now i) j no_span ≡ get_or (piece_at ps i) j no_span
  pub rank : rank_of now i j ≡ rank_of ps i j

-- a place in a piece that has a span is that of a piece
within_by : (ps : List (List HeldSpan)) (i j : ℕ) → j < length (piece_at ps i) → i < length ps
within_by ps i j inner = elim (cases_lt i (length ps)) [
  | inl within ↦ within
  | inr past ↦ absurd (let none = ap length (get_or-eq_default ps [] past) in omega (arith, inner, none))
]

pub front_is : (ps now : List (List HeldSpan)) (i j k l : ℕ) → IsAt ps k l → IsBefore ps i j k l → IsSameUpTo k l ps now → IsFront ps
    now i j
front_is ps now i j k l next before same = elim before.order [
  | inl earlier ↦
      let piece : piece_at now i ≡ piece_at ps i =
      sym (get_or-take k now i [] earlier) ∙ ap (λ (r : List (List HeldSpan)). piece_at r i) same.pieces ∙ get_or-take k ps i [] earlier in
      let own = before.at.inner in
      let inner : j < length (piece_at now i) = omega (arith, own, ap length piece) in
      let pieces : take i now ≡ take i ps =
      sym (take-take i k now (omega (arith, earlier))) ∙ ap (take i) same.pieces ∙ take-take i k ps (omega (arith, earlier)) in
      record {
        at = record { within = within_by now i j inner; inner = inner };
        own = ap (λ (p : List HeldSpan). get_or p j no_span) piece;
        rank = ap (λ (r : List (List HeldSpan)). length (spans_in r) + j) pieces;
      }
  | inr here ↦
      let less = here.1 in
      let some : 0 < l = omega (arith, less) in
      let below : j < l = omega (arith, less) in
      let spans = same.spans some in
      let all : length (take l (piece_at ps k)) ≡ l = let fits = next.inner in length-take-le l (piece_at ps k) (omega (arith, fits)) in
      let least = length-take l (piece_at now k) in
      let long : l ≤ length (piece_at now k) = omega (arith, least, all, ap length spans) in
      let inner : j < length (piece_at now k) = omega (arith, long, below) in
      let made : IsFront ps now k j = record {
        at = record { within = within_by now k j inner; inner = inner };
        own = sym (get_or-take l (piece_at now k) j no_span below)
            ∙ ap (λ (p : List HeldSpan). get_or p j no_span) spans ∙ get_or-take l (piece_at ps k) j no_span below;
        rank = ap (λ (r : List (List HeldSpan)). length (spans_in r) + j) same.pieces;
      } in
      subst (λ (n : ℕ). IsFront ps now n j) (sym here.0) made
]

-- the two spans as one
pub join_is : (ps now : List (List HeldSpan)) (i j k l : ℕ) (s t : HeldSpan) → IsAt ps k l → IsBefore ps i j k l → IsFront ps now i j →
    spans_in now ≡ take (rank_of ps k l) (spans_in ps) ++ drop (rank_of ps k l + 1) (spans_in ps) →
    t ≡ get_or (spans_in ps) (rank_of ps k l) no_span → s ≡ get_or (piece_at now i) j no_span →
    spans_in (set now i (set (piece_at now i) j (as_one s t))) ≡ with_join (spans_in ps) (rank_of ps i j)
join_is ps now i j k l s t after before front e last read =
    let rows = spans_in ps in
    let m = rank_of ps i j in
    let rank = before.rank in
    let next : rank_of ps k l ≡ suc m = omega (arith, rank) in
    let all = at_within ps k l after in
    let second : t ≡ get_or rows (suc m) no_span = last ∙ ap (λ (n : ℕ). get_or rows n no_span) next in
    let first : s ≡ get_or rows m no_span = read ∙ front.own ∙ sym (at_rank ps i j before.at) in
    let whole = as_one s t in
    let at = front.rank in
    let inner = front.at.inner in
    let left : spans_in now ≡ take (suc m) rows ++ drop (suc (suc m)) rows =
    e ∙ ap (λ (n : ℕ). take n rows ++ drop (n + 1) rows) next
    ∙ ap (λ (n : ℕ). take (suc m) rows ++ drop n rows) (let s : suc m + 1 ≡ suc (suc m) = omega arith in s) in
    edited now i j (suc j) m (suc m) (whole ∷ []) (set (piece_at now i) j whole) front.at.within (omega (arith, inner))
    (omega (arith, inner)) (sym at) (omega (arith, at)) (set_split (piece_at now i) j whole inner)
    ∙ ap (λ (xs : List HeldSpan). take m xs ++ (whole ∷ drop (suc m) xs)) left
    ∙ cut_list rows m whole (omega (arith, all, next))
    ∙ ap (λ (x : HeldSpan). take m rows ++ (as_one x t ∷ drop (suc (suc m)) rows)) first
    ∙ ap (λ (x : HeldSpan). take m rows ++ (as_one (get_or rows m no_span) x ∷ drop (suc (suc m)) rows)) second
  where
    cut_list : (xs : List HeldSpan) (m : ℕ) (s : HeldSpan) → suc m < length xs →
        take m (take (suc m) xs ++ drop (suc (suc m)) xs) ++ (s ∷ drop (suc m) (take (suc m) xs ++ drop (suc (suc m)) xs))
        ≡ take m xs ++ (s ∷ drop (suc (suc m)) xs)
    cut_list [] m s within = absurd (omega arith)
    cut_list (x ∷ xs) zero s within = refl
    cut_list (x ∷ xs) (suc m) s within = ap (λ (r : List HeldSpan). x ∷ r) (cut_list xs m s (omega (arith, within)))

-- The last span in pieces that begins at a page or before it: the only one that can have the page, or begin there.
use Rattle.std.proofs.Common.{◌≡◌, ℕ, ◌+◌, ◌-◌, true, false, List, get_or, subst, ◌∙◌}
use Rattle.std.proofs.Common.{arith}
use Rattle.std.specs.Prelude.{is_some}
use Rattle.std.proofs.lemmas.Bool.{eq-eqb, ne_eqb}
use Rattle.span_store.specs.Held.{HeldSpan, begins_in, is_border_in, page_in}
use Rattle.span_store.specs.Order.{InOrder, IsRank, first_at, no_span}
use Rattle.span_store.specs.Pieces.{IsBefore, IsBorderAt, IsLastBegun, rank_of, spans_in}
use Rattle.span_store.proofs.SpanLists.{IsIn, IsNear, end_of, near-begins, near-held, near-place, place-some}
use Rattle.span_store.proofs.InPieces.{at_within}
use Rattle.span_store.proofs.Holds.{begun_at}
use Rattle.span_store.proofs.Joins.{no_border}

pub last_near : (ps : List (List HeldSpan)) (page i j : ℕ) → InOrder 0 (spans_in ps) → IsLastBegun ps page i j →
    IsNear (spans_in ps) (rank_of ps i j) page
last_near ps page i j order last =
    subst (λ (k : ℕ). IsNear (spans_in ps) k page) (omega arith) (near-place (spans_in ps) page (rank_of ps i j + 1) order last.rank)

pub last_held : (ps : List (List HeldSpan)) (page i j : ℕ) → InOrder 0 (spans_in ps) → IsLastBegun ps page i j →
    is_some (page_in (spans_in ps) page) ≡ true → IsIn (spans_in ps) (rank_of ps i j) page
last_held ps page i j order last held = near-held (spans_in ps) (rank_of ps i j) page (last_near ps page i j order last) held

-- where none begins the page isn't held, and none begins there
pub none_held : (rows : List HeldSpan) (page : ℕ) → InOrder 0 rows → IsRank rows page 0 → is_some (page_in rows page) ≡ true → ⊥
none_held rows page order rank held = let some = place-some rows page 0 order rank held in omega (arith, some)

pub none_begins : (rows : List HeldSpan) (page : ℕ) → InOrder 0 rows → IsRank rows page 0 → begins_in rows page ≡ true → ⊥
none_begins rows page order rank begun = let some = (begun_at rows page 0 order rank begun).some in omega (arith, some)

-- the span begins at the page, or no span does
pub begins_there : (ps : List (List HeldSpan)) (page i j : ℕ) → InOrder 0 (spans_in ps) → IsLastBegun ps page i j →
    first_at (spans_in ps) (rank_of ps i j) ≡ page → begins_in (spans_in ps) page ≡ true
begins_there ps page i j order last same =
    near-begins (spans_in ps) (rank_of ps i j) page (last_near ps page i j order last) (at_within ps i j last.at)
    ∙ eq-eqb (first_at (spans_in ps) (rank_of ps i j)) page same

pub begins_not : (ps : List (List HeldSpan)) (page i j : ℕ) → InOrder 0 (spans_in ps) → IsLastBegun ps page i j →
    (first_at (spans_in ps) (rank_of ps i j) ≡ page → ⊥) → begins_in (spans_in ps) page ≡ false
begins_not ps page i j order last other =
    near-begins (spans_in ps) (rank_of ps i j) page (last_near ps page i j order last) (at_within ps i j last.at)
    ∙ ne_eqb (first_at (spans_in ps) (rank_of ps i j)) page other

pub begun_first : (ps : List (List HeldSpan)) (page i j : ℕ) → InOrder 0 (spans_in ps) → IsLastBegun ps page i j →
    begins_in (spans_in ps) page ≡ true → first_at (spans_in ps) (rank_of ps i j) ≡ page
begun_first ps page i j order last begun =
    subst (λ (k : ℕ). first_at (spans_in ps) k ≡ page) (omega arith)
    (begun_at (spans_in ps) page (rank_of ps i j + 1) order last.rank begun).first

-- two spans that meet at the page are this one and the one before it
pub no_border_none : (rows : List HeldSpan) (page : ℕ) → InOrder 0 rows → IsRank rows page 0 → is_border_in rows page ≡ false
no_border_none rows page order rank =
    no_border rows page 0 order rank (λ met. let some = met.some in absurd (omega (arith, some)))

pub no_border_first : (ps : List (List HeldSpan)) (page i j : ℕ) → InOrder 0 (spans_in ps) → IsLastBegun ps page i j →
    rank_of ps i j ≡ 0 → is_border_in (spans_in ps) page ≡ false
no_border_first ps page i j order last none =
    no_border (spans_in ps) page (rank_of ps i j + 1) order last.rank
    (λ met. let some = met.some in absurd (omega (arith, some, none)))

pub no_border_begun : (ps : List (List HeldSpan)) (page i j : ℕ) → InOrder 0 (spans_in ps) → IsLastBegun ps page i j →
    (first_at (spans_in ps) (rank_of ps i j) ≡ page → ⊥) → is_border_in (spans_in ps) page ≡ false
no_border_begun ps page i j order last other =
    no_border (spans_in ps) page (rank_of ps i j + 1) order last.rank (λ met.
    let some = met.some in
    let e : rank_of ps i j + 1 - 2 + 1 ≡ rank_of ps i j = omega (arith, some) in
    absurd (other (subst (λ (k : ℕ). first_at (spans_in ps) k ≡ page) e met.border.next)))

pub no_border_end : (ps : List (List HeldSpan)) (page a b i j : ℕ) → InOrder 0 (spans_in ps) → IsLastBegun ps page i j →
    IsBefore ps a b i j → (end_of (get_or (spans_in ps) (rank_of ps a b) no_span) ≡ page → ⊥) → is_border_in (spans_in ps) page ≡ false
no_border_end ps page a b i j order last before other =
    no_border (spans_in ps) page (rank_of ps i j + 1) order last.rank (λ met.
    let rank = before.rank in
    let e : rank_of ps i j + 1 - 2 ≡ rank_of ps a b = omega (arith, rank) in
    absurd (other (subst (λ (k : ℕ). end_of (get_or (spans_in ps) k no_span) ≡ page) e met.border.end)))

pub border_made : (ps : List (List HeldSpan)) (page a b i j : ℕ) → IsLastBegun ps page i j → IsBefore ps a b i j →
    first_at (spans_in ps) (rank_of ps i j) ≡ page → end_of (get_or (spans_in ps) (rank_of ps a b) no_span) ≡ page →
    IsBorderAt ps page a b i j
border_made ps page a b i j last before begun ended =
    let rank = before.rank in
    let within = at_within ps i j last.at in
    record {
      border = record {
        within = omega (arith, rank, within);
        end = ended;
        next = subst (λ (k : ℕ). first_at (spans_in ps) k ≡ page) rank begun;
      };
      next = last.at;
      before = before;
    }

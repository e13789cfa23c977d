-- What one turn of a write leaves of the spans.
use Rattle.std.proofs.Common.{◌≡◌, ℕ, ◌+◌, ◌-◌, ◌<◌, Bool, List, [], length}
use Rattle.std.proofs.Common.{get_or, set, refl, sym, ap, subst, ◌∙◌, arith}
use Rattle.std.specs.Prelude.{IsTrue}
use Rattle.std.proofs.lemmas.List.{get_or-set_same, length-set, take-set}
use Rattle.page_port.specs.Pages.{AreOf, KeepsOthers}
use Rattle.span_store.specs.Held.{HeldSpan}
use Rattle.span_store.specs.Order.{EachSized, InOrder, IsOver, no_span}
use Rattle.span_store.specs.Pieces.{IsAt, IsOverAt, IsSameRow, piece_at, rank_of, spans_in}
use Rattle.span_store.proofs.SpanLists.{IsNear, near-next}
use Rattle.span_store.proofs.Runs.{IsPart, IsTurn}
use Rattle.span_store.proofs.Overwrites.{EachSized-set, InOrder-shape, IsOver-more, written_part}
use Rattle.span_store.proofs.InPieces.{above_set, at_within, filled_at, filled_set, load_some, put_at}

-- rows of pieces that are alike
pub same_row_refl : (ps : List (List HeldSpan)) → IsSameRow ps ps
same_row_refl ps = record { count = refl; filled = λ filled. filled; loaded = refl }

pub same_row_then : (ps qs rs : List (List HeldSpan)) → IsSameRow ps qs → IsSameRow qs rs → IsSameRow ps rs
same_row_then ps qs rs first second = record {
  count = second.count ∙ first.count;
  filled = λ filled. second.filled (first.filled filled);
  loaded = second.loaded ∙ first.loaded;
}

pub same_row_set : (ps : List (List HeldSpan)) (i : ℕ) (q : List HeldSpan) → i < length ps → length q ≡ length (piece_at ps i) →
    IsSameRow ps (set ps i q)
same_row_set ps i q within long =
    let count = length-set ps i q in
    let above = above_set ps i q within in
    let old = load_some ps i within in
    let new = load_some (set ps i q) i (omega (arith, within, count)) in
    record {
      count = count;
      filled = λ filled.
          let its = filled_at ps i filled within in
          let some = its.0 in
          let most = its.1 in
          filled_set ps i q filled within (omega (arith, some, long)) (omega (arith, most, long));
      loaded = omega (arith, above, old, new, long);
    }

-- the span at j of the piece at i, once s and now t, was written on `count` pages from `page` on; before it `done` pages were
pub record IsWritten (told : Bool) (unit first done page count i j : ℕ) (old ps qs : List (List HeldSpan)) (s t : HeldSpan) : Type 0 where
  pub over : IsOver page count (spans_in ps) (spans_in qs)
  pub all : IsOver first (done + count) (spans_in old) (spans_in qs)
  pub row : IsSameRow old qs
  pub sized : EachSized told unit (spans_in qs)
  pub at : IsAt qs i j
  pub here : get_or (spans_in qs) (rank_of qs i j) no_span ≡ t
  pub begin : t.first ≡ s.first
  pub long : length t.pages ≡ length s.pages

pub written_is : (told : Bool) (unit first done page count i j n : ℕ) (old ps : List (List HeldSpan)) (p q : List HeldSpan) (s : HeldSpan) →
    IsTurn ps page i j s → page ≡ first + done → IsOver first done (spans_in old) (spans_in ps) → IsSameRow old ps →
    EachSized told unit (spans_in ps) → p ≡ piece_at ps i → IsOverAt j page n p q → n ≡ count →
    (IsTrue told → AreOf unit (get_or q j no_span).pages) →
    IsWritten told unit first done page count i j old ps (set ps i q) s (get_or q j no_span)
written_is told unit first done page count i j n old ps p q s turn at so_far row sized here over same each =
    let rows = spans_in ps in
    let k = rank_of ps i j in
    let t = get_or q j no_span in
    let within = turn.at.within in
    let inner = turn.at.inner in
    let piece : q ≡ set (piece_at ps i) j t = over.spans ∙ ap (λ (r : List HeldSpan). set r j t) here in
    let own : get_or p j no_span ≡ s = ap (λ (r : List HeldSpan). get_or r j no_span) here ∙ turn.own in
    let is : spans_in (set ps i q) ≡ set rows k t = ap (λ (r : List HeldSpan). spans_in (set ps i r)) piece ∙ put_at ps i j t turn.at in
    let size : length q ≡ length (piece_at ps i) = ap length piece ∙ length-set (piece_at ps i) j t in
    let begin : t.first ≡ s.first = over.first ∙ ap (λ (u : HeldSpan). u.first) own in
    let others : KeepsOthers (page - s.first) n s.pages t.pages =
    subst (λ (u : HeldSpan). KeepsOthers (page - u.first) n u.pages t.pages) own over.others in
    let written : IsOver page count rows (set rows k t) =
    written_part rows k page count (page - s.first) n s t turn.here.within turn.same turn.from refl same begin others in
    let all = IsOver-more first done count (spans_in old) rows (set rows k t) so_far
    (subst (λ (m : ℕ). IsOver m count rows (set rows k t)) at written) in
    let count_now = length-set ps i q in
    let size_now : length (piece_at (set ps i q) i) ≡ length (piece_at ps i) = ap length (get_or-set_same ps i q [] within) ∙ size in
    let rank : rank_of (set ps i q) i j ≡ k = ap (λ (r : List (List HeldSpan)). length (spans_in r) + j) (take-set ps i q) in
    record {
      over = subst (IsOver page count rows) (sym is) written;
      all = subst (IsOver first (done + count) (spans_in old)) (sym is) all;
      row = same_row_then old ps (set ps i q) row (same_row_set ps i q within size);
      sized = subst (EachSized told unit) (sym is) (EachSized-set told unit rows k t turn.here.within sized each);
      at = record { within = omega (arith, within, count_now); inner = omega (arith, inner, size_now) };
      here = ap (get_or_of (set ps i q)) rank ∙ ap (λ (r : List HeldSpan). get_or r k no_span) is
          ∙ get_or-set_same rows k t no_span turn.here.within;
      begin = begin;
      long = others.count;
    }
  where
    get_or_of : List (List HeldSpan) → ℕ → HeldSpan
    get_or_of qs m = get_or (spans_in qs) m no_span

-- the next span is near the page behind what was written, where the run goes on
pub written_next : (told : Bool) (unit first done page count i j a b pages : ℕ) (old ps qs : List (List HeldSpan)) (s t : HeldSpan) →
    IsWritten told unit first done page count i j old ps qs s t → InOrder 0 (spans_in old) → rank_of qs a b ≡ rank_of qs i j + 1 →
    IsPart s.first (length s.pages) page done pages count → done + count < pages → IsNear (spans_in qs) (rank_of qs a b) (page + count)
written_next told unit first done page count i j a b pages old ps qs s t it order next part less =
    let rows = spans_in qs in
    let end = ap (λ (u : HeldSpan). u.first + length u.pages) it.here in
    let begin = it.begin in
    let long = it.long in
    subst (λ (k : ℕ). IsNear rows k (page + count)) (sym next)
    (subst (λ (k : ℕ). IsNear rows (rank_of qs i j + 1) k) (omega (arith, end, begin, long, part.next less))
    (near-next rows (rank_of qs i j) (InOrder-shape 0 (spans_in old) rows it.all.shape order) (at_within qs i j it.at)))

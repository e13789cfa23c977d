-- The pages that were popped are held, and the others are still to come.
use Rattle.std.proofs.Common.{◌≡◌, ℕ, ◌+◌, ◌≤◌, ◌||◌, List, ◌++◌, length, map}
use Rattle.std.specs.List.{AllByRecursion}
use Rattle.std.specs.Option.{option_or}
use Rattle.std.specs.Prelude.{vec_len}
use Rattle.span_store.specs.Held.{AllSized, begins, page_at}
use Rattle.tree_splice.specs.Fresh.{FreshPage, AreAllOf, fresh_at, fresh_page, is_on_pages, page_numbers}
use Rattle.tree_splice.proofs.fresh_pages.FreshPages.hold.Given as goal

abbrev pub invariant-moves : goal.invariant-moves
invariant-moves g l = record {
  single : AllByRecursion (λ s. length (g.S.Span.contents s.span) ≡ 1) l.segments.items;
  done : (done : List FreshPage)
      × (l.fn.self.pages ≡ map (fresh_page (λ s. s.space) (λ s. g.S.Span.start s.span) (λ s. g.S.Span.contents s.span)) l.segments.items ++
      done)
      × ((q : ℕ) → page_at l.held q ≡ option_or (fresh_at done q) (page_at l.fn.held q))
      × ((q : ℕ) → begins l.held q ≡ (is_on_pages q (page_numbers done) || begins l.fn.held q))
      × (length l.held.spans ≡ length l.fn.held.spans + length done);
  room : l.fn.held.room ≤ l.held.room;
  sized : (size : ℕ) → AreAllOf g.S.Span.tells size l.fn.self.pages → AllSized g.S.Span.tells size l.fn.held
      → AllSized g.S.Span.tells size l.held;
}

abbrev pub decreases-moves : goal.decreases-moves
decreases-moves g l = vec_len l.segments

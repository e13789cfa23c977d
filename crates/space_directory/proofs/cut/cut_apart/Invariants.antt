use Rattle.std.proofs.Common.{◌≡◌, ℕ, ◌+◌, ◌-◌, ◌<◌, ◌≤◌, length, take, [], false, None}
use Rattle.std.specs.Prelude.{vec_len, vec_capacity, slice_index_or}
use Rattle.std.specs.List.{AllByRecursion}
use Rattle.page_port.specs.Pages.{IsSized}
use Rattle.block_model.specs.Block.{has_page}
use Rattle.space_directory.specs.Slots.{span_in, page_held}
use Rattle.space_directory.specs.Held.{IsSlot}
use Rattle.space_directory.specs.Opening.{IsRest, StandApart, held_where, pages_of_all, unfree}
use Rattle.space_directory.proofs.cut.cut_apart.Given as goal

-- the pages before `at` are in their places, and the rest of the span has the others
abbrev pub invariant-runs : goal.invariant-runs
invariant-runs g l = record {
  rest : IsRest g.S.Span.start g.S.Span.contents (g.S.Span.start l.fn.span) (g.S.Span.contents l.fn.span) l.at l.rest;
  within : l.at ≤ length l.map;
  slots : (size : ℕ) → IsSized g.S.Span.tells size (g.S.Span.contents l.fn.span) → (p : ℕ) → p < l.at →
      IsSlot g.S.Span.start g.S.Span.contents g.S.Span.tells size (g.S.Span.start l.fn.span + p) (has_page l.map p)
      (span_in l.slots.items p);
  empty : (p : ℕ) → l.at ≤ p → span_in l.slots.items p ≡ None;
  count : length l.slots.items ≡ length l.map;
  used : pages_of_all g.S.Span.start g.S.Span.contents l.used.items
      ≡ unfree (g.S.Span.start l.fn.span) (take l.at l.map) (take l.at (g.S.Span.contents l.fn.span));
  held : (p : ℕ) → p < l.at → page_held g.S.Span.contents (span_in l.slots.items p)
      ≡ slice_index_or (held_where l.map (g.S.Span.contents l.fn.span)) p [];
  apart : StandApart g.S.Span.start g.S.Span.contents l.used.items;
  ends : AllByRecursion (λ span. g.S.Span.start span + length (g.S.Span.contents span) ≤ g.S.Span.start l.fn.span + l.at) l.used.items;
  gap : l.at < length l.map → has_page l.map l.at ≡ false →
      AllByRecursion (λ span. g.S.Span.start span + length (g.S.Span.contents span) < g.S.Span.start
      l.fn.span + l.at) l.used.items;
  fewer : vec_len l.used ≤ l.at;
  room : length l.map ≤ vec_capacity l.used;
}

abbrev pub decreases-runs : goal.decreases-runs
decreases-runs g l = length l.map - l.at

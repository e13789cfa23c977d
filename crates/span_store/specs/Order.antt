-- The order in which the spans are kept: by their pages, none of which is in two of them.
use Rattle.std.specs.Prelude.{take, drop, ◌++◌, suc, ◌≡◌, ℕ, ◌+◌, ◌-◌, ◌<◌, ◌≤◌, Bool, IsTrue}
use Rattle.std.specs.Prelude.{List, [], ◌∷◌, length, slice_index_or, is_some, None}
use Rattle.std.specs.List.{All}
use Rattle.page_port.specs.Pages.{AreOf}
use Rattle.span_store.specs.Held.{HeldSpan, page_in}

-- each span has a page, the first begins at `low` or later, and each other one where the one before
-- it ends or later
abbrev pub InOrder : ℕ → List HeldSpan → Type 0
InOrder low [] = Unit {0}
InOrder low (s ∷ spans) =
    (low ≤ s.first) × (1 ≤ length s.pages) × InOrder (s.first + length s.pages) spans

-- no span
abbrev pub no_span : HeldSpan
no_span = record { first = 0; pages = [] }

-- the first pages of the spans
abbrev pub first_at : List HeldSpan → ℕ → ℕ
first_at spans i = (slice_index_or spans i no_span).first

-- just the first k spans begin at the page or before it, where the spans are in order
pub record IsRank (spans : List HeldSpan) (page k : ℕ) : Type 0 where
  pub within : k ≤ length spans
  pub before : 0 < k → first_at spans (k - 1) ≤ page
  pub behind : k < length spans → page < first_at spans k

-- the first n pages of a span, and those behind them
abbrev pub front_part : HeldSpan → ℕ → HeldSpan
front_part s n = record { first = s.first; pages = take n s.pages }

abbrev pub back_part : HeldSpan → ℕ → HeldSpan
back_part s n = record { first = s.first + n; pages = drop n s.pages }

-- the span at i is cut behind its first n pages
abbrev pub with_cut : List HeldSpan → ℕ → ℕ → List HeldSpan
with_cut spans i n =
    take i spans ++ (front_part (slice_index_or spans i no_span) n
    ∷ back_part (slice_index_or spans i no_span) n ∷ drop (suc i) spans)

-- the span at i ends where the one behind it begins, at this page
pub record IsBorder (spans : List HeldSpan) (page i : ℕ) : Type 0 where
  pub within : i + 1 < length spans
  pub end : (slice_index_or spans i no_span).first
      + length (slice_index_or spans i no_span).pages ≡ page
  pub next : first_at spans (i + 1) ≡ page

-- a span and the one behind it as one
abbrev pub as_one : HeldSpan → HeldSpan → HeldSpan
as_one s t = record { first = s.first; pages = s.pages ++ t.pages }

-- the span at i and the one behind it are one
abbrev pub with_join : List HeldSpan → ℕ → List HeldSpan
with_join spans i =
    take i spans ++ (as_one (slice_index_or spans i no_span) (slice_index_or spans (suc i) no_span)
    ∷ drop (suc (suc i)) spans)

-- the n pages from `first` on are pages of these spans
abbrev pub HaveRun : List HeldSpan → ℕ → ℕ → Type 0
HaveRun spans first n = (q : ℕ) → first ≤ q → q < first + n → IsTrue (is_some (page_in spans q))

-- none of the n pages from `first` on is a page of these spans
abbrev pub LackRun : List HeldSpan → ℕ → ℕ → Type 0
LackRun spans first n = (q : ℕ) → first ≤ q → q < first + n → page_in spans q ≡ None

-- where the spans tell, each page of each of them has `size` bytes
abbrev pub EachSized : Bool → ℕ → List HeldSpan → Type 0
EachSized told size spans = IsTrue told → All (λ s. AreOf size s.pages) spans

-- the spans have the same first pages, and as many pages each
abbrev pub HaveSameShape : List HeldSpan → List HeldSpan → Type 0
HaveSameShape [] [] = Unit {0}
HaveSameShape [] (t ∷ new) = ⊥
HaveSameShape (s ∷ old) [] = ⊥
HaveSameShape (s ∷ old) (t ∷ new) =
    (t.first ≡ s.first) × (length t.pages ≡ length s.pages) × HaveSameShape old new

-- the n pages from `first` on may hold something else
pub record IsOver (first n : ℕ) (old new : List HeldSpan) : Type 0 where
  pub shape : HaveSameShape old new
  pub before : (q : ℕ) → q < first → page_in new q ≡ page_in old q
  pub behind : (q : ℕ) → first + n ≤ q → page_in new q ≡ page_in old q

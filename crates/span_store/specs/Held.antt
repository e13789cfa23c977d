-- What is held: spans, and through them pages.
use Rattle.std.specs.Prelude.{◌≡◌, ℕ, ◌+◌, ◌-◌, ◌<◌, ◌≤◌, ◌==◌, ◌&&◌, Bool, IsTrue, List, [], ◌∷◌}
use Rattle.std.specs.Prelude.{length, map, nat_le, nat_lt, Option, None, is_some, IfSome}
use Rattle.std.specs.Prelude.{unwrap_or, slice_get, if◌then◌else◌}
use Rattle.std.specs.List.{list_any}
use Rattle.std.specs.Option.{option_or}
use Rattle.tree_model.specs.Tree.{Pages}

-- pages in a row that are held: the number of the first, and what each holds
pub record HeldSpan : Type 0 where
  pub first : ℕ
  pub pages : List (List ℕ)

-- a span as contracts see it
abbrev pub span_of : {X : Type 0} → (X → ℕ) → (X → List (List ℕ)) → X → HeldSpan
span_of start contents span = record { first = start span; pages = contents span }

abbrev pub spans_of : {X : Type 0} → (X → ℕ) → (X → List (List ℕ)) → List X → List HeldSpan
spans_of start contents spans = map (span_of start contents) spans

-- what a span holds on a page, and none where the page isn't one of its
abbrev pub page_of : HeldSpan → ℕ → Option (List ℕ)
page_of s q = if nat_le s.first q then slice_get s.pages (q - s.first) else None

-- what these spans hold on a page, and none where it is a page of none of them
abbrev pub page_in : List HeldSpan → ℕ → Option (List ℕ)
page_in [] q = None
page_in (s ∷ spans) q = option_or (page_of s q) (page_in spans q)

-- what stands on each page of these spans: nothing where it isn't one
abbrev pub bytes_in : List HeldSpan → Pages
bytes_in spans q = unwrap_or (page_in spans q) []

-- does one of these spans begin at the page?
abbrev pub begins_in : List HeldSpan → ℕ → Bool
begins_in spans q = list_any (λ s. s.first == q) spans

-- the spans that are held, and for how many there is room
pub record Held : Type 0 where
  pub spans : List HeldSpan
  pub room : ℕ

-- what a page holds, and none where it isn't held. The bytes count only where the spans tell them
abbrev pub page_at : Held → ℕ → Option (List ℕ)
page_at held q = page_in held.spans q

-- is the page held?
abbrev pub has : Held → ℕ → Bool
has held q = is_some (page_at held q)

-- what stands on each page: nothing where it isn't held
abbrev pub bytes_on : Held → Pages
bytes_on held = bytes_in held.spans

-- does a span begin at the page?
abbrev pub begins : Held → ℕ → Bool
begins held q = begins_in held.spans q

-- does one of these spans end before the page, and another begin at it?
abbrev pub is_border_in : List HeldSpan → ℕ → Bool
is_border_in spans q = nat_lt 0 q && (is_some (page_in spans (q - 1)) && begins_in spans q)

-- is it so with the spans that are held?
abbrev pub is_border : Held → ℕ → Bool
is_border held q = is_border_in held.spans q

-- no page is held
abbrev pub IsEmpty : Held → Type 0
IsEmpty held = (q : ℕ) → page_at held q ≡ None

-- the n pages from `first` on are held
abbrev pub HoldsRun : Held → ℕ → ℕ → Type 0
HoldsRun held first n = (q : ℕ) → first ≤ q → q < first + n → IsTrue (has held q)

-- none of the n pages from `first` on is held
abbrev pub LacksRun : Held → ℕ → ℕ → Type 0
LacksRun held first n = (q : ℕ) → first ≤ q → q < first + n → page_at held q ≡ None

-- where the pages that are held end: one behind the last of them, 0 where none is held
pub record IsEnd (held : Held) (end : ℕ) : Type 0 where
  pub behind : (q : ℕ) → IsTrue (has held q) → q < end
  pub last : 0 < end → IsTrue (has held (end - 1))

-- where the spans tell, each page that is held has `size` bytes
abbrev pub AllSized : Bool → ℕ → Held → Type 0
AllSized told size held =
    IsTrue told → (q : ℕ) → IfSome (page_at held q) (λ page. length page ≡ size)

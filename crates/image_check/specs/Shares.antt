-- Spans that go to the owners of their pages.
use Rattle.std.specs.Prelude.{◌≡◌, ℕ, ◌<◌, ◌&&◌, ◌⊎◌, Bool, false, not, IsTrue, nat_eq}
use Rattle.std.specs.Prelude.{None}
use Rattle.std.specs.Prelude.{is_some, List, [], ◌∷◌, length, slice_index_or, if◌then◌else◌}
use Rattle.std.specs.Prelude.{sum_by}
use Rattle.std.specs.Option.{option_or}
use Rattle.geometry_model.specs.Numbers.{Numbers}
use Rattle.geometry_model.specs.Pages.{is_data_page}
use Rattle.span_store.specs.Held.{HeldSpan, Held, has, page_in, page_of, page_at}
use Rattle.image_check.specs.declared.owner.Owner.{Owner}
use Rattle.image_check.specs.declared.owner.Owner.TheVariants.{Free, Nobody, Object}
use Rattle.image_check.specs.Owners.{KeptWalk, owner_at}

-- no page is in two of the spans
abbrev pub ShareNoPage : List HeldSpan → Type 0
ShareNoPage [] = Unit {0}
ShareNoPage (s ∷ spans) =
    ((q : ℕ) → IsTrue (is_some (page_of s q)) → page_in spans q ≡ None) × ShareNoPage spans

-- nothing is held
abbrev pub no_pages : Held
no_pages = record { spans = []; room = 0 }

-- what object o holds
abbrev pub holdings_of : List Held → ℕ → Held
holdings_of objects o = slice_index_or objects o no_pages

-- each owner is one of the first `count` objects
abbrev pub AreOwnersBelow : ℕ → KeptWalk → Type 0
AreOwnersBelow count kept = (q o : ℕ) → owner_at kept q ≡ Object o → o < count

-- only data pages are held
abbrev pub HoldsData : Numbers → Held → Type 0
HoldsData n held = (q : ℕ) → IsTrue (has held q) → IsTrue (is_data_page n q)

-- is the page this object's?
abbrev pub is_of : ℕ → Owner → Bool
is_of o Free = false
is_of o Nobody = false
is_of o (Object owner) = nat_eq owner o

-- as giving spans out asks: each of their pages has an owner among the objects, which doesn't hold
-- it yet, and none is in two of them
pub record AsksShare (kept : KeptWalk) (spans : List HeldSpan) (objects : List Held) : Type 0 where
  pub apart : ShareNoPage spans
  pub inside : (q : ℕ) → IsTrue (is_some (page_in spans q)) → q < length kept.owners
  pub owner : (q : ℕ) → IsTrue (is_some (page_in spans q)) →
      (o : ℕ) × (owner_at kept q ≡ Object o) × (o < length objects)
  pub lacks : (o q : ℕ) → IsTrue (is_some (page_in spans q)) →
      page_at (holdings_of objects o) q ≡ None

-- some of the pages of the spans went to their owners, and each other one is still in a span
pub record AreShared (kept : KeptWalk) (spans left : List HeldSpan)
    (old new : List Held) : Type 0 where
  pub count : length new ≡ length old
  pub left_pages : (q : ℕ) → (page_in left q ≡ page_in spans q) ⊎ (page_in left q ≡ None)
  pub objects : (o q : ℕ) → o < length old → page_at (holdings_of new o) q
      ≡ option_or (page_at (holdings_of old o) q) (if is_of o (owner_at kept q)
      && not (is_some (page_in left q)) then page_in spans q else None)

-- all pages that were held are in spans, each in one
pub record AreTaken (old new : Held) (spans : List HeldSpan) : Type 0 where
  pub pages : (q : ℕ) → page_in spans q ≡ page_at old q
  pub apart : ShareNoPage spans
  pub left : new.spans ≡ []

-- how many pages spans have
abbrev pub page_total : {X : Type 0} → (X → List (List ℕ)) → List X → ℕ
page_total contents spans = sum_by (λ span. length (contents span)) spans

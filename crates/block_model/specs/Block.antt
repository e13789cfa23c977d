-- Sets of pages, their blocks, and the block that a grant takes. A set of pages of a space is a
-- list with one test a page. How a block is computed is left to Place.antt.
use Rattle.std.specs.Prelude.{◌≡◌, ℕ, suc, ◌+◌, ◌*◌, ◌^◌, ◌<◌, ◌≤◌, Bool, false, IsTrue, List}
use Rattle.std.specs.Prelude.{◌++◌, take, drop, replicate, slice_index_or, count_by, Option, Some}
use Rattle.std.specs.Prelude.{None}

-- whether a page is in the set; a page past the end of the list is not
abbrev pub has_page : List Bool → ℕ → Bool
has_page pages page = slice_index_or pages page false

-- the n pages from `first` on are all in the set
pub record HasRun (pages : List Bool) (first n : ℕ) : Type 0 where
  pub each : (page : ℕ) → first ≤ page → page < first + n → IsTrue (has_page pages page)

-- block `number` of an order is the 2 ^ order pages from number * 2 ^ order on, all of them free
abbrev pub IsBlock : List Bool → ℕ → ℕ → Type 0
IsBlock free order number = HasRun free (number * 2 ^ order) (2 ^ order)

-- a block that lies in no larger block
pub record IsMaximal (free : List Bool) (order number : ℕ) : Type 0 where
  pub block : IsBlock free order number
  pub alone : (i r : ℕ) → order < i → IsBlock free i r → r * 2 ^ i ≤ number * 2 ^ order →
      number * 2 ^ order + 2 ^ order ≤ r * 2 ^ i + 2 ^ i → ⊥

-- the least order whose blocks have n pages or more
pub record IsOrder (n order : ℕ) : Type 0 where
  pub holds : n ≤ 2 ^ order
  pub least : (i : ℕ) → n ≤ 2 ^ i → order ≤ i

-- no block has n pages or more
pub record HasNoRoom (free : List Bool) (n : ℕ) : Type 0 where
  pub none : (i r : ℕ) → n ≤ 2 ^ i → IsBlock free i r → ⊥

-- the lowest of the maximal blocks that have the least order with n pages or more
pub record IsBest (free : List Bool) (n order number : ℕ) : Type 0 where
  pub fits : n ≤ 2 ^ order
  pub maximal : IsMaximal free order number
  pub least : (i r : ℕ) → IsMaximal free i r → n ≤ 2 ^ i → order ≤ i
  pub lowest : (r : ℕ) → IsMaximal free order r → number ≤ r

-- where n pages are granted: from the first page of the best block on, and nowhere just where no
-- block has n pages or more
abbrev pub IsPlace : List Bool → ℕ → Option ℕ → Type 0
IsPlace free n (Some page) = (order : ℕ) × (number : ℕ) × (page ≡ number * 2 ^ order)
    × IsBest free n order number
IsPlace free n None = HasNoRoom free n

-- the greatest order of a block, or none where no page is free
abbrev pub IsLargest : List Bool → Option ℕ → Type 0
IsLargest free (Some order) = ((number : ℕ) × IsBlock free order number)
    × ((i r : ℕ) → IsBlock free i r → i ≤ order)
IsLargest free None = HasNoRoom free 1

-- one more than the greatest order of a block, and 0 where no page is free
pub record IsHint (free : List Bool) (hint : ℕ) : Type 0 where
  pub above : (i r : ℕ) → IsBlock free i r → i < hint
  pub reached : (order : ℕ) → hint ≡ suc order → (number : ℕ) × IsBlock free order number

-- how many pages are in the set
abbrev pub count_of : List Bool → ℕ
count_of pages = count_by (λ is_in. is_in) pages

-- the set in which the n pages from `first` on are in or out, and all others as before
abbrev pub with_run : List Bool → ℕ → ℕ → Bool → List Bool
with_run pages first n is_in = take first pages ++ (replicate n is_in ++ drop (first + n) pages)

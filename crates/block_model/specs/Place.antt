-- The place of a grant, the largest block and the order of a number of pages, computed on a list.
-- Laws.antt proves that they are what Block.antt says. A proof that evaluates one of them names it
-- in a line `unfolding`.
use Rattle.std.specs.Prelude.{ℕ, ◌*◌, Bool, true, false, ◌&&◌, ◌||◌, not, if◌then◌else◌, nat_le}
use Rattle.std.specs.Prelude.{zero, suc, List, [], ◌∷◌, length, Option, Some, None}

-- the blocks of the next order: two neighbours that are both free
abbrev pub halves : List Bool → List Bool
halves [] = []
halves (a ∷ []) = []
halves (a ∷ b ∷ rest) = (a && b) ∷ halves rest

-- the blocks whose buddy is not free; an odd one at the end has no buddy
abbrev pub unmerged : List Bool → List Bool
unmerged [] = []
unmerged (a ∷ []) = a ∷ []
unmerged (a ∷ b ∷ rest) = (a && not b) ∷ (b && not a) ∷ unmerged rest

abbrev pub next : Option ℕ → Option ℕ
next None = None
next (Some q) = Some (suc q)

-- the place of the first test that is true
abbrev pub first_true : List Bool → Option ℕ
first_true [] = None
first_true (true ∷ bits) = Some 0
first_true (false ∷ bits) = next (first_true bits)

abbrev pub is_any : List Bool → Bool
is_any [] = false
is_any (bit ∷ bits) = bit || is_any bits

-- the lowest maximal block of this order, where its `size` pages hold n
abbrev pub found_at : List Bool → ℕ → ℕ → Option ℕ
found_at blocks size n = if nat_le n size then first_true (unmerged blocks) else None

-- the place for n pages among blocks of `size` pages and of the next `levels` orders
abbrev pub place_from : ℕ → List Bool → ℕ → ℕ → Option ℕ
place_from zero blocks size n = None
place_from (suc levels) blocks size n =
    elim (found_at blocks size n) [
      | Some q ↦ Some (q * size)
      | None ↦ place_from levels (halves blocks) (2 * size) n
    ]

-- the first of n pages that a grant takes, where there is room
unfoldable pub place : List Bool → ℕ → Option ℕ
place free n = place_from (length free) free 1 n

-- how many orders, of this one and the next `levels`, have a block
abbrev pub orders_from : ℕ → List Bool → ℕ
orders_from zero blocks = 0
orders_from (suc levels) blocks = elim (is_any blocks) [
  | true ↦
      suc (orders_from levels (halves blocks))
  | false ↦ 0
]

-- one more than the greatest order of a block, and 0 where no page is free
unfoldable pub hint_of : List Bool → ℕ
hint_of free = orders_from (length free) free

abbrev pub order_before : ℕ → Option ℕ
order_before zero = None
order_before (suc order) = Some order

-- the greatest order of a block
unfoldable pub largest : List Bool → Option ℕ
largest free = order_before (orders_from (length free) free)

-- the least order, from `order` on, whose blocks have n pages or more
abbrev pub order_from : ℕ → ℕ → ℕ → ℕ → ℕ
order_from zero size order n = order
order_from (suc steps) size order n =
    elim (nat_le n size) [ true ↦ order | false ↦ order_from steps (2 * size) (suc order) n ]

-- the least order whose blocks have n pages or more
unfoldable pub least_order : ℕ → ℕ
least_order n = order_from n 1 0 n

-- The five numbers that fix a store, their ranges, and the numbers that follow from them.
use Rattle.std.specs.Prelude.{ℕ, ◌+◌, ◌-◌, ◌*◌, ◌/◌, ◌^◌, ◌≤◌, Bool, ◌==◌, ◌&&◌, ◌||◌, nat_le}
use Rattle.std.specs.Prelude.{IsTrue}

-- a store has pages of `page` bytes, and `spaces` spaces of `2 ^ order` data pages each; its
-- catalog has `catalog` pages, and `threshold` is the one that a new object gets where none is
-- asked for
pub record Numbers : Type 0 where
  pub page : ℕ
  pub order : ℕ
  pub spaces : ℕ
  pub catalog : ℕ
  pub threshold : ℕ

-- a page has 256, 512, 1024, 2048 or 4096 bytes
abbrev pub is_page_size : ℕ → Bool
is_page_size size = size == 256 || (size == 512 || (size == 1024 || (size == 2048 || size == 4096)))

-- the numbers are those of a store. The bitmap of a space, `2 ^ order` bits, takes at most half
-- of a page
pub record IsInRange (n : Numbers) : Type 0 where
  pub page_size : IsTrue (is_page_size n.page)
  pub order_low : 4 ≤ n.order
  pub order_high : 2 ^ n.order ≤ 4 * n.page
  pub spaces_low : 1 ≤ n.spaces
  pub spaces_high : n.spaces ≤ 256
  pub catalog_low : 1 ≤ n.catalog
  pub catalog_high : n.catalog ≤ 16
  pub threshold_low : 1 ≤ n.threshold
  pub threshold_high : 2 * n.threshold ≤ 2 ^ n.order

-- the same as a test
unfoldable pub is_in_range : Numbers → Bool
is_in_range n =
    is_page_size n.page
    && ((nat_le 4 n.order && nat_le (2 ^ n.order) (4 * n.page))
    && ((nat_le 1 n.spaces && nat_le n.spaces 256)
    && ((nat_le 1 n.catalog && nat_le n.catalog 16)
    && (nat_le 1 n.threshold && nat_le (2 * n.threshold) (2 ^ n.order)))))

-- the data pages of a space
abbrev pub space_pages : Numbers → ℕ
space_pages n = 2 ^ n.order

-- all pages: the superblock, the catalog, and for each space a directory page and its data pages
abbrev pub pages : Numbers → ℕ
pages n = 1 + n.catalog + n.spaces * (1 + space_pages n)

-- the objects: a catalog entry has 16 bytes
abbrev pub objects : Numbers → ℕ
objects n = n.catalog * n.page / 16

-- the pairs that a node page has room for: 8 bytes at its head, 12 for a pair
abbrev pub fan_out : Numbers → ℕ
fan_out n = (n.page - 8) / 12

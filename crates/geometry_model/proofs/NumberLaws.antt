-- What the ranges say: the test and the record agree, and how large the numbers get.
use Rattle.std.proofs.Common.{◌≡◌, ℕ, ◌+◌, ◌*◌, ◌/◌, ◌^◌, ◌<◌, ◌≤◌, true, IsTrue, arith, ◌⊎◌, inl, inr, ap, ◌∙◌, mul_left_comm}
use Rattle.std.proofs.lemmas.Bool.Decides.{leb_tells, nat_tests}
use Rattle.std.proofs.lemmas.Nat.{mul-le}
use Rattle.std.proofs.Math.Pow.{pow_mono}
use Rattle.geometry_model.specs.Numbers.{Numbers, IsInRange, is_in_range, is_page_size, space_pages, pages, objects, fan_out}

-- numbers that pass the test are in range
pub IsInRange-from_test : (n : Numbers) → is_in_range n ≡ true → IsInRange n
unfolding is_in_range
IsInRange-from_test n h =
    let size : is_page_size n.page ≡ true = grind (arith, nat_tests) in
    record {
      page_size = size;
      order_low = grind (arith, nat_tests);
      order_high = grind (arith, nat_tests);
      spaces_low = grind (arith, nat_tests);
      spaces_high = grind (arith, nat_tests);
      catalog_low = grind (arith, nat_tests);
      catalog_high = grind (arith, nat_tests);
      threshold_low = grind (arith, nat_tests);
      threshold_high = grind (arith, nat_tests);
    }

-- numbers in range pass the test
pub is_in_range-true : (n : Numbers) → IsInRange n → is_in_range n ≡ true
unfolding is_in_range
is_in_range-true n h = grind (arith, nat_tests)

-- the five page sizes
pub page_size-cases : (size : ℕ) → IsTrue (is_page_size size) →
    (size ≡ 256) ⊎ ((size ≡ 512) ⊎ ((size ≡ 1024) ⊎ ((size ≡ 2048) ⊎ (size ≡ 4096))))
page_size-cases size h = grind (arith, nat_tests)

pub page_size-low : (size : ℕ) → IsTrue (is_page_size size) → 256 ≤ size
page_size-low size h = grind (arith, page_size-cases size h)

pub page_size-high : (size : ℕ) → IsTrue (is_page_size size) → size ≤ 4096
page_size-high size h = grind (arith, page_size-cases size h)

-- a space has 16 to 16,384 data pages
pub space_pages-low : (n : Numbers) → IsInRange n → 16 ≤ space_pages n
space_pages-low n h = pow_mono h.order_low

pub space_pages-high : (n : Numbers) → IsInRange n → space_pages n ≤ 16384
space_pages-high n h = omega (arith, h.order_high, page_size-high n.page h.page_size)

-- a store has at most 4,194,577 pages
pub pages-high : (n : Numbers) → IsInRange n → pages n ≤ 4194577
pages-high n h =
    let rows : n.spaces * (1 + space_pages n) ≤ 256 * (1 + 16384) =
    mul-le n.spaces (1 + space_pages n) 256 (1 + 16384) h.spaces_high (omega (arith, space_pages-high n h)) in
    omega (arith, h.catalog_high)

-- a node has room for 20 to 340 pairs
pub fan_out-low : (n : Numbers) → IsInRange n → 20 ≤ fan_out n
fan_out-low n h = omega (arith, page_size-low n.page h.page_size)

pub fan_out-high : (n : Numbers) → IsInRange n → fan_out n ≤ 340
fan_out-high n h = omega (arith, page_size-high n.page h.page_size)

-- the pairs of a full node lie on its page
pub fan_out-fits : (n : Numbers) → IsInRange n → 8 + 12 * fan_out n ≤ n.page
fan_out-fits n h = omega (arith, page_size-low n.page h.page_size)

-- there are 16 to 4,096 objects
pub objects-low : (n : Numbers) → IsInRange n → 16 ≤ objects n
objects-low n h =
    let rows : 1 * 256 ≤ n.catalog * n.page = mul-le 1 256 n.catalog n.page h.catalog_low (page_size-low n.page h.page_size) in
    omega (arith, rows)

pub objects-high : (n : Numbers) → IsInRange n → objects n ≤ 4096
objects-high n h =
    let rows : n.catalog * n.page ≤ 16 * 4096 = mul-le n.catalog n.page 16 4096 h.catalog_high (page_size-high n.page h.page_size) in
    omega (arith, rows)

-- a page has sixteen times some number of bytes
sixteens : (size : ℕ) → IsTrue (is_page_size size) → size ≡ 16 * (size / 16)
sixteens size h = grind (arith, page_size-cases size h)

-- the entries of all objects fill the catalog pages
pub objects-bytes : (n : Numbers) → IsInRange n → 16 * objects n ≡ n.catalog * n.page
objects-bytes n h =
    let parts : n.page ≡ 16 * (n.page / 16) = sixteens n.page h.page_size in
    let bytes : n.catalog * n.page ≡ 16 * (n.catalog * (n.page / 16)) = ap (λ p. n.catalog * p) parts
    ∙ mul_left_comm n.catalog 16 (n.page / 16) in
    omega (arith, bytes)

-- a space whose bitmap takes at most half of a page has an order of at most 14
pub order-at_most : (order page : ℕ) → 2 ^ order ≤ 4 * page → page ≤ 4096 → order ≤ 14
order-at_most order page fits small =
    elim (leb_tells order 14) as (λ _. order ≤ 14) [
      | inl low ↦ low.1
      | inr high ↦ absurd (let over : 15 ≤ order = omega (arith, high.1) in
          let more : 2 ^ 15 ≤ 2 ^ order = pow_mono over in omega (arith, more))
    ]

pub order-high : (n : Numbers) → IsInRange n → n.order ≤ 14
order-high n h = order-at_most n.order n.page h.order_high (page_size-high n.page h.page_size)

-- a page has bytes
pub page-some : (n : Numbers) → IsInRange n → 0 < n.page
page-some n range = let low = page_size-low n.page range.page_size in omega (arith, low)

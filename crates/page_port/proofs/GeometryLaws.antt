-- How large the numbers of a store get.
use Rattle.std.proofs.Common.{◌≡◌, ℕ, ◌+◌, ◌-◌, ◌*◌, ◌/◌, ◌%◌, ◌^◌, ◌<◌, ◌≤◌, Some, None, inl, inr, arith}
use Rattle.std.proofs.Math.Pow.{pow_mono}
use Rattle.std.proofs.lemmas.Bool.Decides.{leb_tells, nat_tests}
use Rattle.std.proofs.lemmas.Nat.{mul-le}
use Rattle.geometry_model.specs.Numbers.{Numbers, IsInRange, space_pages, pages}
use Rattle.geometry_model.specs.Pages.{place}
use Rattle.geometry_model.proofs.PageLaws.{place-catalog}
use Rattle.geometry_model.proofs.NumberLaws.{page_size-high, space_pages-high}

-- the number of a directory page fits 32 bits, for each number of a space in 16 bits
pub directory_page-fits : (n : Numbers) (s : ℕ) → IsInRange n → s < 2 ^ 16 → s * (1 + space_pages n) ≤ 65535 * 16385
directory_page-fits n s h low = mul-le s (1 + space_pages n) 65535 16385 (omega arith) (omega (arith, space_pages-high n h))

pub spaces-fit : (n : Numbers) → IsInRange n → n.spaces * (1 + space_pages n) ≤ 256 * 16385
spaces-fit n h = mul-le n.spaces (1 + space_pages n) 256 16385 h.spaces_high (omega (arith, space_pages-high n h))

pub catalog-fits : (n : Numbers) → IsInRange n → n.catalog * n.page ≤ 16 * 4096
catalog-fits n h = mul-le n.catalog n.page 16 4096 h.catalog_high (page_size-high n.page h.page_size)

-- a page at the head of a space's row is its directory, and no data page
pub place-head : (n : Numbers) (page : ℕ) → (page - (1 + n.catalog)) % (1 + space_pages n) ≡ 0 → place n page ≡ None
unfolding place
place-head n page h = grind (arith, nat_tests, h)

-- the space and the place of a page behind it
pub place-behind : (n : Numbers) (page : ℕ) → 1 + n.catalog ≤ page → page < pages n →
    0 < (page - (1 + n.catalog)) % (1 + space_pages n) →
    place n page ≡ Some ((page - (1 + n.catalog)) / (1 + space_pages n), (page - (1 + n.catalog)) % (1 + space_pages n) - 1)
unfolding place
place-behind n page low high more = grind (arith, nat_tests)

pub place-before : (n : Numbers) (page : ℕ) → page < 1 + n.catalog → place n page ≡ None
place-before n page h = place-catalog n page (omega arith)

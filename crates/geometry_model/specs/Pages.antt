-- Which page is whose: directories, data pages, and the space and place of a data page.
use Rattle.std.specs.Prelude.{◌≡◌, ℕ, ◌+◌, ◌-◌, ◌*◌, ◌/◌, ◌%◌, ◌<◌, ◌≤◌, Bool, ◌&&◌, nat_lt}
use Rattle.std.specs.Prelude.{nat_le, Option, Some, None, if◌then◌else◌, is_some}
use Rattle.geometry_model.specs.Numbers.{Numbers, space_pages, pages}

-- the directory page of space s
abbrev pub directory_page : Numbers → ℕ → ℕ
directory_page n s = 1 + n.catalog + s * (1 + space_pages n)

-- the first data page of space s, which follows its directory
abbrev pub first_page : Numbers → ℕ → ℕ
first_page n s = directory_page n s + 1

-- the data page at a place of space s
abbrev pub data_page : Numbers → ℕ → ℕ → ℕ
data_page n s at = first_page n s + at

-- `page` is the data page at place `at` of space `s`
pub record IsPlace (n : Numbers) (page s at : ℕ) : Type 0 where
  pub in_store : s < n.spaces
  pub in_space : at < space_pages n
  pub is_page : page ≡ data_page n s at

-- the pages from `first` on are `count` data pages of space s
pub record IsInSpace (n : Numbers) (s first count : ℕ) : Type 0 where
  pub in_store : s < n.spaces
  pub from : first_page n s ≤ first
  pub to : first + count ≤ first_page n s + space_pages n

-- space and place of a data page, and none for every other page
unfoldable pub place : Numbers → ℕ → Option (ℕ × ℕ)
place n page =
    let from = page - (1 + n.catalog) in
    let at = from % (1 + space_pages n) in
    if nat_le (1 + n.catalog) page && (nat_lt page (pages n) && nat_lt 0 at)
    then Some (from / (1 + space_pages n), at - 1) else None

-- is it a data page?
abbrev pub is_data_page : Numbers → ℕ → Bool
is_data_page n page = is_some (place n page)

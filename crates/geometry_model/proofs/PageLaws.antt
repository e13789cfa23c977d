-- A data page has one space and one place.
use Rattle.std.specs.Prelude.{unwrap_or}
use Rattle.std.proofs.Common.{◌≡◌, ℕ, ◌+◌, ◌-◌, ◌*◌, ◌/◌, ◌%◌, ◌<◌, ◌≤◌, Bool, true, false, ◌&&◌, nat_lt, nat_le}
use Rattle.std.proofs.Common.{refl, arith, Option, Some, None, if◌then◌else◌, mul-le-mul_right, ap, sym, ◌∙◌}
use Rattle.std.proofs.lemmas.Bool.Decides.{nat_tests}
use Rattle.std.proofs.lemmas.Nat.{div-mul-add, mod-mul-add, same_from_place, div_below, div-add-mod', mod_below}
use Rattle.geometry_model.specs.Numbers.{Numbers, space_pages, pages}
use Rattle.geometry_model.specs.Pages.{directory_page, first_page, data_page, IsPlace, IsInSpace, place}

-- a data page lies behind its directory and before the store's end
pub data_page-below : (n : Numbers) (s at : ℕ) → s < n.spaces → at < space_pages n → data_page n s at < pages n
data_page-below n s at hs ha =
    let rows : (s + 1) * (1 + space_pages n) ≤ n.spaces * (1 + space_pages n) = mul-le-mul_right (1 + space_pages n) (omega arith) in
    omega (arith, rows)

pub directory_page-below : (n : Numbers) (s : ℕ) → s < n.spaces → directory_page n s < pages n
directory_page-below n s hs =
    let rows : (s + 1) * (1 + space_pages n) ≤ n.spaces * (1 + space_pages n) = mul-le-mul_right (1 + space_pages n) (omega arith) in
    omega (arith, rows)

-- the place of a data page is the one that it was made of
pub place-data_page : (n : Numbers) (s at : ℕ) → s < n.spaces → at < space_pages n →
    place n (data_page n s at) ≡ Some (s, at)
unfolding place
place-data_page n s at hs ha =
    let row : at + 1 < 1 + space_pages n = omega arith in
    let from : data_page n s at - (1 + n.catalog) ≡ s * (1 + space_pages n) + (at + 1) = omega arith in
    let space : (data_page n s at - (1 + n.catalog)) / (1 + space_pages n) ≡ s =
    ap (λ k. k / (1 + space_pages n)) from ∙ div-mul-add s (1 + space_pages n) (at + 1) row in
    let place_in : (data_page n s at - (1 + n.catalog)) % (1 + space_pages n) ≡ at + 1 =
    ap (λ k. k % (1 + space_pages n)) from ∙ mod-mul-add s (1 + space_pages n) (at + 1) row in
    let below : data_page n s at < pages n = data_page-below n s at hs ha in
    grind (arith, nat_tests, space, place_in, below)

-- what a choice between a pair and nothing gives, where it gives a pair
from_choice : (test : Bool) (s at s2 at2 : ℕ) → if◌then◌else◌ {A = Option (ℕ × ℕ)} test (Some (s, at)) None ≡ Some (s2, at2) →
    (test ≡ true) × (s ≡ s2) × (at ≡ at2)
from_choice true s at s2 at2 h =
    let same : unwrap_or (Some (s, at)) (s, at) ≡ unwrap_or (Some (s2, at2)) (s, at) = ap (λ o. unwrap_or o (s, at)) h in
    (refl, ap (λ (p : ℕ × ℕ). p.0) same, ap (λ (p : ℕ × ℕ). p.1) same)
from_choice false s at s2 at2 h = absurd (cc)

-- a page that has a place is the data page there
pub IsPlace-from_place : (n : Numbers) (page s at : ℕ) → place n page ≡ Some (s, at) → IsPlace n page s at
unfolding place
IsPlace-from_place n page s at h =
    let row : ℕ = page - (1 + n.catalog) in
    let width : ℕ = 1 + space_pages n in
    let chosen = from_choice (nat_le (1 + n.catalog) page && (nat_lt page (pages n) && nat_lt 0 (row % width)))
    (row / width) (row % width - 1) s at h in
    let behind : 1 + n.catalog ≤ page = grind (arith, nat_tests, chosen.0) in
    let before : page < pages n = grind (arith, nat_tests, chosen.0) in
    let is_data : 0 < row % width = grind (arith, nat_tests, chosen.0) in
    let whole : row / width * width + row % width ≡ row = div-add-mod' row width in
    let store : row / width < n.spaces = div_below row width n.spaces (omega arith) (omega arith) in
    let within : row % width < width = mod_below row width (omega arith) in
    let rows : row / width * width ≡ s * width = ap (λ k. k * width) chosen.1 in
    record {
      in_store = omega (arith, store, chosen.1);
      in_space = omega (arith, within, is_data, chosen.2);
      is_page = omega (arith, whole, rows, is_data, behind, chosen.2);
    }

-- the place that a page has by its parts is the one that `place` gives
pub place-of_IsPlace : (n : Numbers) (page s at : ℕ) → IsPlace n page s at → place n page ≡ Some (s, at)
place-of_IsPlace n page s at h = ap (place n) h.is_page ∙ place-data_page n s at h.in_store h.in_space

-- a page with no place is no data page
pub place-none : (n : Numbers) (page : ℕ) → place n page ≡ None → (s at : ℕ) → IsPlace n page s at → ⊥
place-none n page none s at h = let some = place-of_IsPlace n page s at h in cc

-- a data page has one space and one place
pub IsPlace-unique : (n : Numbers) (page s at s2 at2 : ℕ) → IsPlace n page s at → IsPlace n page s2 at2 → (s ≡ s2) × (at ≡ at2)
IsPlace-unique n page s at s2 at2 h h2 =
    let one : data_page n s at ≡ data_page n s2 at2 = sym h.is_page ∙ h2.is_page in
    let places = same_from_place s at s2 at2 (1 + space_pages n) (omega (arith, h.in_space))
    (omega (arith, h2.in_space)) (omega (arith, one)) in
    places

-- pages of two spaces differ
pub IsInSpace-apart : (n : Numbers) (s first count s2 first2 count2 : ℕ) → IsInSpace n s first count → IsInSpace n s2 first2 count2 →
    s < s2 → first + count < first2
IsInSpace-apart n s first count s2 first2 count2 h h2 less =
    let rows : (s + 1) * (1 + space_pages n) ≤ s2 * (1 + space_pages n) = mul-le-mul_right (1 + space_pages n) (omega arith) in
    omega (arith, rows, h.to, h2.from)

-- a page of a run in a space is a data page of that space
pub IsPlace-in_run : (n : Numbers) (s first count page : ℕ) → IsInSpace n s first count → first ≤ page → page < first + count →
    IsPlace n page s (page - first_page n s)
IsPlace-in_run n s first count page h low high = record {
  in_store = h.in_store;
  in_space = omega (arith, h.from, h.to);
  is_page = omega (arith, h.from);
}

-- a run of data pages lies behind the catalog and before the store's end
pub IsInSpace-below : (n : Numbers) (s first count : ℕ) → IsInSpace n s first count → first + count ≤ pages n
IsInSpace-below n s first count h =
    let rows : (s + 1) * (1 + space_pages n) ≤ n.spaces * (1 + space_pages n) =
    mul-le-mul_right (1 + space_pages n) (omega (arith, h.in_store)) in
    omega (arith, rows, h.to)

pub IsInSpace-behind : (n : Numbers) (s first count : ℕ) → IsInSpace n s first count → n.catalog + 2 ≤ first
IsInSpace-behind n s first count h = omega (arith, h.from)

-- no directory page and no page of the catalog has a place
pub place-directory : (n : Numbers) (s : ℕ) → place n (directory_page n s) ≡ None
unfolding place
place-directory n s =
    let from : directory_page n s - (1 + n.catalog) ≡ s * (1 + space_pages n) + 0 = omega arith in
    let at : (directory_page n s - (1 + n.catalog)) % (1 + space_pages n) ≡ 0 =
    ap (λ k. k % (1 + space_pages n)) from ∙ mod-mul-add s (1 + space_pages n) 0 (omega arith) in
    grind (arith, nat_tests, at)

pub place-catalog : (n : Numbers) (page : ℕ) → page ≤ n.catalog → place n page ≡ None
unfolding place
place-catalog n page h = grind (arith, nat_tests)

pub place-past : (n : Numbers) (page : ℕ) → pages n ≤ page → place n page ≡ None
unfolding place
place-past n page h = grind (arith, nat_tests)

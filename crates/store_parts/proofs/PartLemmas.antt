-- What the parts of a store hold on each page, each of which is just once in them.
use Rattle.std.proofs.Common.{◌≡◌, ℕ, zero, suc, ◌+◌, ◌-◌, ◌*◌, ◌/◌, ◌<◌}
use Rattle.std.proofs.Common.{◌≤◌, Bool, true, false, cond, List, [], ◌∷◌}
use Rattle.std.proofs.Common.{ap, subst, ◌∙◌, arith, inl, inr, Option, Some, None}
use Rattle.std.proofs.Common.{is_some, unwrap_or, nat_le, count_by}
use Rattle.std.specs.Prelude.{slice_get}
use Rattle.std.specs.List.{list_any}
use Rattle.std.proofs.lemmas.Bool.{cases_Bool, false≢true, le-leb, lt-leb, or_left, or_right}
use Rattle.std.proofs.lemmas.List.Sums.{sum_by-cons}
use Rattle.std.proofs.lemmas.Nat.{div-mul-add}
use Rattle.base_laws.proofs.OptionLaws.{some-if}
use Rattle.geometry_model.specs.Numbers.{Numbers, pages, space_pages}
use Rattle.geometry_model.specs.Pages.{directory_page, place, IsPlace}
use Rattle.geometry_model.proofs.PageLaws.{directory_page-below, data_page-below, place-directory, place-of_IsPlace, IsPlace-from_place}
use Rattle.tree_model.specs.Tree.{Pages}
use Rattle.span_store.specs.Held.{bytes_on, has}
use Rattle.object_body.specs.Places.{is_free_place}
use Rattle.store_format.specs.Writing.{front_count}
use Rattle.store_parts.specs.Fixed.{front_held, directory_held}
use Rattle.store_parts.specs.Parts.{PartsView, StoredView, AreParts, IsAtHand}
use Rattle.store_parts.specs.Pages.{ArePartsOnce, ShowParts, held_place, holders}

-- ---- the one object that holds a page

abbrev pub object_page : List StoredView → Pages
object_page [] q = []
object_page (x ∷ xs) q = cond (has x.pages q) (bytes_on x.pages q) (object_page xs q)

abbrev pub holds : ℕ → StoredView → Bool
holds q x = has x.pages q

some-holder : (xs : List StoredView) (o q : ℕ) (x : StoredView) → slice_get xs o ≡ Some x → has x.pages q ≡ true →
    1 ≤ count_by (holds q) xs
some-holder [] o q x at is = absurd (false≢true (ap is_some at))
some-holder (y ∷ ys) zero q x at is =
    let same : y ≡ x = ap (λ (o : Option StoredView). unwrap_or o y) at in
    let one : ◌≡◌ {A = ℕ} (cond (has y.pages q) 1 0) 1 = ap (λ (b : Bool). cond {A = ℕ} b 1 0) (ap (holds q) same ∙ is) in
    omega (arith, sum_by-cons (λ (z : StoredView). cond (holds q z) 1 0) y ys, one)
some-holder (y ∷ ys) (suc o) q x at is =
    omega (arith, sum_by-cons (λ (z : StoredView). cond (holds q z) 1 0) y ys, some-holder ys o q x at is)

pub one-holder : (xs : List StoredView) (o q : ℕ) (x : StoredView) → count_by (holds q) xs ≤ 1 → slice_get xs o ≡ Some x →
    has x.pages q ≡ true → object_page xs q ≡ bytes_on x.pages q
one-holder [] o q x most at is = absurd (false≢true (ap is_some at))
one-holder (y ∷ ys) zero q x most at is =
    let same : y ≡ x = ap (λ (o : Option StoredView). unwrap_or o y) at in
    ap (λ (b : Bool). cond b (bytes_on y.pages q) (object_page ys q)) (ap (holds q) same ∙ is)
    ∙ ap (λ (z : StoredView). bytes_on z.pages q) same
one-holder (y ∷ ys) (suc o) q x most at is =
    let split = sum_by-cons (λ (z : StoredView). cond (holds q z) 1 0) y ys in
    let later = some-holder ys o q x at is in
    elim (cases_Bool (has y.pages q)) [
      | inl mine ↦
          let one : ◌≡◌ {A = ℕ} (cond (has y.pages q) 1 0) 1 = ap (λ (b : Bool). cond {A = ℕ} b 1 0) mine in absurd (omega (
            arith,
            split,
            later,
            one,
            most,
          ))
      | inr other ↦
          ap (λ (b : Bool). cond b (bytes_on y.pages q) (object_page ys q)) other
          ∙ one-holder ys o q x (omega (arith, split, most)) at is
    ]

-- where the count isn't 0 some object holds the page
pub found-holder : (xs : List StoredView) (q : ℕ) → 1 ≤ count_by (holds q) xs → list_any (holds q) xs ≡ true
found-holder [] q some = absurd (omega (arith, some))
found-holder (y ∷ ys) q some =
    let split = sum_by-cons (λ (z : StoredView). cond (holds q z) 1 0) y ys in
    elim (cases_Bool (has y.pages q)) [
      | inl mine ↦ or_left (has y.pages q) (list_any (holds q) ys) mine
      | inr other ↦
          let none : ◌≡◌ {A = ℕ} (cond (has y.pages q) 1 0) 0 = ap (λ (b : Bool). cond {A = ℕ} b 1 0) other in
          or_right (has y.pages q) (list_any (holds q) ys) (found-holder ys q (omega (arith, split, none, some)))
    ]

-- ---- all pages

abbrev pub place_page : PartsView → ℕ → Option (ℕ × ℕ) → List ℕ
place_page parts q None =
    directory_held parts.fixed ((q - front_count parts.numbers) / (1 + space_pages parts.numbers))
place_page parts q (Some spot) =
    cond (is_free_place parts.spaces spot.0 spot.1) (held_place parts.spaces spot.0 spot.1) (object_page parts.objects q)

abbrev pub part_page : PartsView → Pages
part_page parts q =
    cond (nat_le (front_count parts.numbers) q) (place_page parts q (place parts.numbers q)) (front_held parts.fixed q)

behind-front : (parts : PartsView) (q : ℕ) → front_count parts.numbers ≤ q →
    part_page parts q ≡ place_page parts q (place parts.numbers q)
behind-front parts q from =
    ap (λ (b : Bool). cond b (place_page parts q (place parts.numbers q)) (front_held parts.fixed q))
    (le-leb (front_count parts.numbers) q from)

part-directory : (parts : PartsView) (s : ℕ) → part_page parts (directory_page parts.numbers s) ≡ directory_held parts.fixed s
part-directory parts s =
    let n = parts.numbers in
    let q : ℕ = directory_page n s in
    let row : q - front_count n ≡ s * (1 + space_pages n) + 0 = omega arith in
    let number : (q - front_count n) / (1 + space_pages n) ≡ s =
    ap (λ (k : ℕ). k / (1 + space_pages n)) row ∙ div-mul-add s (1 + space_pages n) 0 (omega arith) in
    behind-front parts q (omega arith)
    ∙ (ap (place_page parts q) (place-directory n s) ∙ ap (directory_held parts.fixed) number)

part-place : (parts : PartsView) (q s at : ℕ) → IsPlace parts.numbers q s at →
    part_page parts q ≡ cond (is_free_place parts.spaces s at) (held_place parts.spaces s at) (object_page parts.objects q)
part-place parts q s at here =
    behind-front parts q (omega (arith, here.is_page)) ∙ ap (place_page parts q) (place-of_IsPlace parts.numbers q s at here)

-- the pages of an object at hand are data pages of the store
pub on-data : (tells : Bool) (n : Numbers) (x : StoredView) → IsAtHand tells n x → (q : ℕ) → has x.pages q ≡ true →
    is_some (place n q) ≡ true
on-data tells n x hand q is =
    subst (λ (m : Numbers). is_some (place m q) ≡ true) hand.numbers (hand.keeps.on_data q is)

-- the place of a held page, which isn't free
pub held-place : (parts : PartsView) (o q : ℕ) (x : StoredView) → is_some (place parts.numbers q) ≡ true → ArePartsOnce parts →
    slice_get parts.objects o ≡ Some x → has x.pages q ≡ true →
    (s : ℕ) × (at : ℕ) × IsPlace parts.numbers q s at × (is_free_place parts.spaces s at ≡ false) × (holders parts q ≡ 1)
held-place parts o q x here_data once at is =
    let spot = some-if (place parts.numbers q) here_data in
    let here : IsPlace parts.numbers q spot.0.0 spot.0.1 = IsPlace-from_place parts.numbers q spot.0.0 spot.0.1 spot.1 in
    let count = once q spot.0.0 spot.0.1 here in
    let some = some-holder parts.objects o q x at is in
    elim (cases_Bool (is_free_place parts.spaces spot.0.0 spot.0.1)) [
      | inl free ↦
          let none : ◌≡◌ {A = ℕ} (cond (is_free_place parts.spaces spot.0.0 spot.0.1) 0 1) 0 = ap (λ (b : Bool). cond {A = ℕ} b 0 1)
          free in
          absurd (omega (arith, count, none, some))
      | inr used ↦ (
        spot.0.0,
        spot.0.1,
        here,
        used,
        count ∙ ap (λ (b : Bool). cond {A = ℕ} b 0 1) used,
      )
    ]

pub parts-shown : (tells : Bool) (parts : PartsView) → AreParts tells parts → ArePartsOnce parts → ShowParts parts (part_page parts)
parts-shown tells parts sound once = record {
  front = λ q inside. ap (λ (b : Bool). cond b (place_page parts q (place parts.numbers q)) (front_held parts.fixed q))
      (lt-leb (front_count parts.numbers) q inside);
  directories = λ s store. part-directory parts s;
  free = λ q s at here free. part-place parts q s at here
      ∙ ap (λ (b : Bool). cond b (held_place parts.spaces s at) (object_page parts.objects q)) free;
  held = λ o q x at is.
      let spot = held-place parts o q x (on-data tells parts.numbers x (sound.objects o x at) q is) once at is in
      part-place parts q spot.0 spot.1 spot.2
      ∙ (ap (λ (b : Bool). cond b (held_place parts.spaces spot.0 spot.1) (object_page parts.objects q)) spot.3
      ∙ one-holder parts.objects o q x (omega (arith, spot.4)) at is);
}

placed-below : (n : Numbers) (q s at : ℕ) → IsPlace n q s at → q < pages n
placed-below n q s at here = omega (arith, here.is_page, data_page-below n s at here.in_store here.in_space)

-- pages that are alike show the same parts
pub parts-alike : (tells : Bool) (parts : PartsView) (at now : Pages) → AreParts tells parts →
    ((q : ℕ) → q < pages parts.numbers → now q ≡ at q) → ShowParts parts at → ShowParts parts now
parts-alike tells parts at now sound same shown = record {
  front = λ q inside. same q (omega (arith, inside)) ∙ shown.front q inside;
  directories = λ s store. same (directory_page parts.numbers s) (directory_page-below parts.numbers s store) ∙ shown.directories s store;
  free = λ q s place here free. same q (placed-below parts.numbers q s place here) ∙ shown.free q s place here free;
  held = λ o q x found is.
      let spot = some-if (place parts.numbers q) (on-data tells parts.numbers x (sound.objects o x found) q is) in
      same q (placed-below parts.numbers q spot.0.0 spot.0.1 (IsPlace-from_place parts.numbers q spot.0.0 spot.0.1 spot.1))
      ∙ shown.held o q x found is;
}

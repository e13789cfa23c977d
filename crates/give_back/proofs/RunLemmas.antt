-- A run of data pages lies in one space.
use Rattle.std.proofs.Common.{◌≡◌, ℕ, suc, zero, ◌+◌, ◌-◌, ◌<◌, ◌≤◌, IsTrue, subst}
use Rattle.std.proofs.Common.{arith, inl, inr}
use Rattle.std.proofs.lemmas.Bool.{cases_lt}
use Rattle.base_laws.proofs.OptionLaws.{some-if}
use Rattle.geometry_model.specs.Numbers.{Numbers, space_pages}
use Rattle.geometry_model.specs.Pages.{IsPlace, IsInSpace, directory_page, is_data_page, place}
use Rattle.geometry_model.proofs.PageLaws.{IsPlace-unique, IsPlace-from_place, place-none, place-directory}
use Rattle.superdirectory.specs.Rest.{Frame}
use Rattle.superdirectory.specs.Grants.{IsRunIn}
use Rattle.object_body.specs.Places.{IsStore}

-- the place of a data page
pub data-place : (n : Numbers) (page : ℕ) → IsTrue (is_data_page n page) → (s : ℕ) × (at : ℕ) × IsPlace n page s at
data-place n page is_data =
    let found = some-if (place n page) is_data in
    (found.0.0, found.0.1, IsPlace-from_place n page found.0.0 found.0.1 found.1)

-- two data pages side by side lie in one space: behind the last page of a space stands a directory
next-place : (n : Numbers) (page s at s2 at2 : ℕ) → IsPlace n page s at → IsPlace n (page + 1) s2 at2 → s2 ≡ s
next-place n page s at s2 at2 here next = elim (cases_lt (at + 1) (space_pages n)) [
  | inl inside ↦ (IsPlace-unique n (page + 1) s2 at2 s (at + 1) next (record {
    in_store = here.in_store;
    in_space = inside;
    is_page = omega (arith, here.is_page);
  })).0
  | inr last ↦
      let behind : page + 1 ≡ directory_page n (s + 1) = omega (arith, here.is_page, here.in_space, last) in
      absurd (place-none n (directory_page n (s + 1)) (place-directory n (s + 1)) s2 at2
      (subst (λ q. IsPlace n q s2 at2) behind next))
]

-- each page of a run of data pages lies in the space of the first
each-place : (n : Numbers) (first pages s at : ℕ) → IsPlace n first s at →
    ((q : ℕ) → first ≤ q → q < first + pages → IsTrue (is_data_page n q)) →
    (i : ℕ) → i < pages → (k : ℕ) × IsPlace n (first + i) s k
each-place n first pages s at here all zero less =
    let same : first ≡ first + 0 = omega arith in (at, subst (λ q. IsPlace n q s at) same here)
each-place n first pages s at here all (suc i) less =
    let before = each-place n first pages s at here all i (omega (arith, less)) in
    let same : first + suc i ≡ first + i + 1 = omega arith in
    let there = data-place n (first + suc i) (all (first + suc i) (omega arith) (omega (arith, less))) in
    let alike = next-place n (first + i) s before.0 there.0 there.1 before.1
    (subst (λ q. IsPlace n q there.0 there.1) same there.2) in
    (there.1, subst (λ k. IsPlace n (first + suc i) k there.1) alike there.2)

pub data-run : (n : Numbers) (first pages s at : ℕ) → IsPlace n first s at → 1 ≤ pages →
    ((q : ℕ) → first ≤ q → q < first + pages → IsTrue (is_data_page n q)) → IsInSpace n s first pages
data-run n first pages s at here some all =
    let last = each-place n first pages s at here all (pages - 1) (omega (arith, some)) in
    record {
      in_store = here.in_store;
      from = omega (arith, here.is_page);
      to = omega (arith, last.1.is_page, last.1.in_space, some);
    }

-- a run in a space of the store
pub run-in_frame : (n : Numbers) (frame : Frame) (s first pages : ℕ) → IsStore n frame → 1 ≤ pages →
    IsInSpace n s first pages → IsRunIn frame s first pages
run-in_frame n frame s first pages store some run =
    let here = store.firsts s run.in_store in
    record {
      named = omega (arith, run.in_store, store.number);
      some = some;
      from = omega (arith, run.from, here);
      to = omega (arith, run.to, here, store.pages);
    }

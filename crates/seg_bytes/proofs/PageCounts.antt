-- How many pages so many bytes fill, part by part.
use Rattle.std.proofs.Common.{◌≡◌, ℕ, ◌+◌, ◌-◌, ◌*◌, ◌/◌, ◌%◌, ◌<◌, ◌≤◌, min, Bool, false, sym, ap, ◌∙◌, inl, inr, arith}
use Rattle.std.specs.Prelude.{◌==◌}
use Rattle.std.proofs.lemmas.Bool.{cases_lt, eqb-false}
use Rattle.std.proofs.lemmas.Nat.{div-mul-add, mod-mul-add, mod_below}
use Rattle.std.proofs.Math.Nat.{mod-add-div}
use Rattle.tree_model.specs.Tree.{page_count}
use Rattle.tree_model.proofs.PageCountLaws.{count-behind, count-none}

-- bytes that fit a page fill one
pub page_count-one : (size b : ℕ) → 0 < b → b ≤ size → page_count size b ≡ 1
page_count-one size b some less =
    let same : b + (size - 1) ≡ 1 * size + (b - 1) = omega arith in
    ap (λ (k : ℕ). k / size) same ∙ div-mul-add 1 size (b - 1) (omega arith)

-- bytes of a part of a page touch it where there are any
pub page_count-part : (size b : ℕ) → 0 < size → b < size → page_count size b ≡ min 1 b
page_count-part size b some less = elim (cases_lt 0 b) [
  | inl more ↦ page_count-one size b more (omega arith) ∙ (let one : 1 ≡ min 1 b = omega arith in one)
  | inr none ↦
      let zero_b : b ≡ 0 = omega arith in
      ap (page_count size) zero_b ∙ count-none size some ∙ (let same : 0 ≡ min 1 b = omega arith in same)
]

-- bytes from byte `skip` on
pub page_count-from : (size skip n : ℕ) → 0 < size → page_count size (skip + n) ≡ skip / size + page_count size (skip % size + n)
page_count-from size skip n some =
    let parts : skip + n ≡ skip / size * size + (skip % size + n) = omega (arith, mod-add-div skip size) in
    ap (page_count size) parts ∙ count-behind size (skip / size) (skip % size + n) some

-- whole pages, and a part of one
pub page_count-parts : (size n : ℕ) → 0 < size → page_count size n ≡ n / size + min 1 (n % size)
page_count-parts size n some =
    let parts : n ≡ n / size * size + n % size = omega (arith, mod-add-div n size) in
    ap (page_count size) parts ∙ count-behind size (n / size) (n % size) some
    ∙ ap (λ (k : ℕ). n / size + k) (page_count-part size (n % size) some (mod_below n size some))

-- the rest of a page that was begun, and what follows
pub page_count-head : (size r n head : ℕ) → 0 < r → r < size → head ≡ min (size - r) n →
    page_count size (r + n) ≡ 1 + page_count size (n - head)
page_count-head size r n head begun within e = elim (cases_lt (size - r) n) [
  | inl more ↦
      let parts : r + n ≡ 1 * size + (n - head) = omega arith in
      ap (page_count size) parts ∙ count-behind size 1 (n - head) (omega arith)
  | inr less ↦
      let one : page_count size (r + n) ≡ 1 = page_count-one size (r + n) (omega arith) (omega arith) in
      let nothing : n - head ≡ 0 = omega arith in
      let none : page_count size (n - head) ≡ 0 = ap (page_count size) nothing ∙ count-none size (omega arith) in
      omega (arith, one, none)
]

-- as many bytes as a page has are one page
pub one_page : (size bytes : ℕ) → 0 < size → bytes ≡ size → bytes / size ≡ 1
one_page size bytes some e =
    let same : bytes ≡ 1 * size + 0 = omega arith in
    ap (λ (k : ℕ). k / size) same ∙ div-mul-add 1 size 0 some

-- a count that isn't 0
pub some_left : (n : ℕ) (none : Bool) → none ≡ (n == 0) → none ≡ false → 0 < n
some_left n none test e = elim (cases_lt 0 n) [
  | inl some ↦ some
  | inr nothing ↦ absurd (eqb-false n 0 (sym test ∙ e) (omega arith))
]

-- the bytes of whole pages
pub whole_part : (pages size part : ℕ) → 0 < size → part ≡ pages * size → (part % size ≡ 0) × (part / size ≡ pages)
whole_part pages size part some e =
    let same : part ≡ pages * size + 0 = omega arith in
    (ap (λ (k : ℕ). k % size) same ∙ mod-mul-add pages size 0 some, ap (λ (k : ℕ). k / size) same ∙ div-mul-add pages size 0 some)

-- the pages that bytes fill, by a quotient that is rounded up
pub ceil_pages : (size unit n pages : ℕ) → 0 < size → unit ≡ size → pages ≡ n / unit + min 1 (n % unit) →
    pages * unit ≡ page_count size n * size
ceil_pages size unit n pages some same e =
    ap (λ (k : ℕ). k * unit) e ∙ ap (λ (u : ℕ). (n / u + min 1 (n % u)) * u) same
    ∙ ap (λ (k : ℕ). k * size) (sym (page_count-parts size n some))

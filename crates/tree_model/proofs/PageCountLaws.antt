-- The pages that bytes fill: a number of pages is enough just where its bytes are; and the bytes of a run of pages,
-- part by part.
use Rattle.std.proofs.Common.{◌≡◌, ℕ, zero, suc, ◌+◌, ◌-◌, ◌*◌, ◌<◌, ◌≤◌, List, ◌++◌, min, sym, ap, arith, ◌∙◌, inl}
use Rattle.std.proofs.Common.{inr, append-nil, append_assoc}
use Rattle.std.proofs.Math.Nat.{add-mul, mul-le-mul_right, le_of_mul-le-mul_right}
use Rattle.std.proofs.lemmas.Nat.{div_below, div-add-mod', mod_below}
use Rattle.std.proofs.lemmas.Bool.{cases_lt}
use Rattle.tree_model.specs.Content.{run_bytes}
use Rattle.tree_model.specs.Tree.{Pages, page_count}

-- the pages hold the bytes
pub count-holds : (size bytes : ℕ) → 0 < size → bytes ≤ page_count size bytes * size
count-holds size bytes some =
    let whole = div-add-mod' (bytes + (size - 1)) size in
    let rest = mod_below (bytes + (size - 1)) size some in
    omega (arith, whole, rest)

-- pages that hold the bytes are enough
pub count-enough : (size bytes pages : ℕ) → 0 < size → bytes ≤ pages * size → page_count size bytes ≤ pages
count-enough size bytes pages some holds =
    let next : (pages + 1) * size ≡ pages * size + 1 * size = add-mul pages 1 size in
    let below = div_below (bytes + (size - 1)) size (pages + 1) some (omega (arith, next, holds, some)) in
    omega (arith, below)

-- pages that don't hold the bytes are fewer
pub count-more : (size bytes pages : ℕ) → 0 < size → pages * size < bytes → pages < page_count size bytes
count-more size bytes pages some short =
    let holds = count-holds size bytes some in
    elim (cases_lt pages (page_count size bytes)) [
      | inl more ↦ more
      | inr few ↦
          let less : page_count size bytes * size ≤ pages * size = mul-le-mul_right size few in
          absurd (omega (arith, less, holds, short))
    ]

-- fewer pages hold less
pub count-less : (size bytes pages : ℕ) → 0 < size → pages < page_count size bytes → pages * size < bytes
count-less size bytes pages some few =
    elim (cases_lt (pages * size) bytes) [
      | inl less ↦ less
      | inr holds ↦ let enough = count-enough size bytes pages some holds in absurd (omega (arith, enough, few))
    ]

pub count-rises : (size a b : ℕ) → 0 < size → a ≤ b → page_count size a ≤ page_count size b
count-rises size a b some le =
    let holds = count-holds size b some in
    count-enough size a (page_count size b) some (omega (arith, holds, le))

-- full pages
pub count-full : (size pages : ℕ) → 0 < size → page_count size (pages * size) ≡ pages
count-full size pages some =
    let high = count-enough size (pages * size) pages some (omega arith) in
    let holds = count-holds size (pages * size) some in
    let low = le_of_mul-le-mul_right {m = pages} {n = page_count size (pages * size)} {k = size} holds some in
    omega (arith, high, low)

pub count-none : (size : ℕ) → 0 < size → page_count size 0 ≡ 0
count-none size some = let no_bytes : 0 ≡ 0 * size = omega arith in ap (page_count size) no_bytes ∙ count-full size 0 some

-- bytes behind full pages
pub count-behind : (size pages bytes : ℕ) → 0 < size → page_count size (pages * size + bytes) ≡ pages + page_count size bytes
count-behind size pages bytes some =
    let rest = count-holds size bytes some in
    let all : (pages + page_count size bytes) * size ≡ pages * size + page_count size bytes * size =
    add-mul pages (page_count size bytes) size in
    let high = count-enough size (pages * size + bytes) (pages + page_count size bytes) some (omega (arith, all, rest)) in
    let whole = count-holds size (pages * size + bytes) some in
    elim (cases_lt (page_count size (pages * size + bytes)) (pages + page_count size bytes)) [
      | inr low ↦ omega (arith, high, low)
      | inl few ↦
          elim (cases_lt (page_count size (pages * size + bytes)) pages) [
            | inl none ↦
                let all = page_count size (pages * size + bytes) in
                let less : (all + 1) * size ≤ pages * size = mul-le-mul_right size (omega arith) in
                let one : (all + 1) * size ≡ all * size + 1 * size = add-mul all 1 size in
                absurd (omega (arith, less, one, whole, some))
            | inr some_pages ↦
                let k = page_count size (pages * size + bytes) - pages in
                let split : (pages + k) * size ≡ pages * size + k * size = add-mul pages k size in
                let same : page_count size (pages * size + bytes) ≡ pages + k = omega (arith, some_pages) in
                let rows : page_count size (pages * size + bytes) * size ≡ (pages + k) * size = ap (λ (j : ℕ). j * size) same in
                let short = count-less size bytes k some (omega (arith, few, some_pages)) in
                absurd (omega (arith, split, rows, whole, short))
          ]
    ]

-- the bytes on the pages of a run that is not long enough fill it
pub count-min : (size bytes pages : ℕ) → 0 < size → page_count size (min bytes (pages * size)) ≡ min (page_count size bytes) pages
count-min size bytes pages some =
    elim (cases_lt (pages * size) bytes) [
      | inl short ↦
          let cut : min bytes (pages * size) ≡ pages * size = omega (arith, short) in
          let more = count-more size bytes pages some short in
          ap (page_count size) cut ∙ (count-full size pages some ∙ omega (arith, more))
      | inr holds ↦
          let all : min bytes (pages * size) ≡ bytes = omega (arith, holds) in
          let enough = count-enough size bytes pages some holds in
          ap (page_count size) all ∙ omega (arith, enough)
    ]

-- where there is a byte there is a page
pub count-some : (size bytes : ℕ) → 0 < size → 0 < bytes → 0 < page_count size bytes
count-some size bytes some byte = count-more size bytes 0 some (omega (arith, byte))

-- the bytes of a run of pages and of the run behind it
pub run_bytes-add : (at : Pages) (first a b : ℕ) → run_bytes at first (a + b) ≡ run_bytes at first a ++ run_bytes at (first + a) b
run_bytes-add at first zero b =
    let all : zero + b ≡ b = omega arith in
    let here : first + zero ≡ first = omega arith in
    ap (run_bytes at first) all ∙ ap (λ (f : ℕ). run_bytes at f b) (sym here)
run_bytes-add at first (suc a) b =
    let count : suc a + b ≡ suc (a + b) = omega arith in
    let next : first + 1 + a ≡ first + suc a = omega arith in
    ap (run_bytes at first) count
    ∙ ap (λ (xs : List ℕ). at first ++ xs) (run_bytes-add at (first + 1) a b)
    ∙ sym (append_assoc (at first) (run_bytes at (first + 1) a) (run_bytes at (first + 1 + a) b))
    ∙ ap (λ (f : ℕ). (at first ++ run_bytes at (first + 1) a) ++ run_bytes at f b) next

-- the bytes of one page
pub run_bytes-one : (at : Pages) (first : ℕ) → run_bytes at first 1 ≡ at first
run_bytes-one at first = append-nil (at first)

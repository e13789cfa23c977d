-- The sizes of the nodes that are made of a row of pairs: each is at least half full, where there are enough pairs.
use Rattle.std.proofs.Common.{◌≡◌, ℕ, zero, suc, ◌+◌, ◌-◌, ◌*◌, ◌/◌, ◌%◌, ◌<◌, ◌≤◌, List, [], ◌∷◌, length, take, drop}
use Rattle.std.proofs.Common.{replicate, refl, ap, subst, arith, ◌∙◌, inl, inr, length-append, length-take, length-drop}
use Rattle.std.proofs.Common.{sum_by}
use Rattle.std.specs.List.{AllByRecursion}
use Rattle.std.proofs.lemmas.Bool.{cases_lt}
use Rattle.std.proofs.lemmas.Nat.{le-div, div-add-mod', mul-le}
use Rattle.std.proofs.Math.Nat.{mul-le-mul_right, mul_comm}
use Rattle.std.proofs.lemmas.List.{length-replicate}
use Rattle.std.proofs.lemmas.List.Sums.{sum_by-cons}
use Rattle.base_laws.proofs.ListLaws.{all-append}
use Rattle.tree_model.specs.declared.entry.Pair.{Pair}
use Rattle.layout_model.specs.Levels.{PageNode, sizes_of, cut_into, on_pages}
use Rattle.tree_model.proofs.PageCountLaws.{count-holds, count-enough, count-less, count-some}

-- ---- all items of a list

pub all-take : {X : Type 0} (P : X → Type 0) (k : ℕ) (xs : List X) → AllByRecursion P xs → AllByRecursion P (take k xs)
all-take P zero xs all = tt
all-take P (suc k) [] all = tt
all-take P (suc k) (x ∷ xs) all = (all.0, all-take P k xs all.1)

pub all-drop : {X : Type 0} (P : X → Type 0) (k : ℕ) (xs : List X) → AllByRecursion P xs → AllByRecursion P (drop k xs)
all-drop P zero xs all = all
all-drop P (suc k) [] all = tt
all-drop P (suc k) (x ∷ xs) all = all-drop P k xs all.1

pub all-same : {X : Type 0} (P : X → Type 0) (k : ℕ) (x : X) → (0 < k → P x) → AllByRecursion P (replicate k x)
all-same P zero x holds = tt
all-same P (suc k) x holds = (holds (omega arith), all-same P k x (λ some. holds (omega arith)))

-- ---- the sizes of nodes that are made

-- so many pairs or more
abbrev pub Low : ℕ → PageNode → Type 0
Low least node = least ≤ length node.pairs

abbrev pub High : ℕ → PageNode → Type 0
High most node = length node.pairs ≤ most

abbrev pub total : List ℕ → ℕ
total ns = sum_by (λ n. n) ns

-- nodes have the sizes that they were cut to
pub made-sizes : (P : ℕ → Type 0) (pages sizes : List ℕ) (pairs : List Pair) → total sizes ≤ length pairs → AllByRecursion P sizes →
    AllByRecursion (λ (node : PageNode). P (length node.pairs)) (on_pages pages (cut_into sizes pairs))
made-sizes P pages [] pairs fits all = tt
made-sizes P [] (n ∷ sizes) pairs fits all =
    let sum = sum_by-cons (λ (k : ℕ). k) n sizes in
    let count = length-take n pairs in
    let left = length-drop n pairs in
    let same : n ≡ length (take n pairs) = omega (arith, sum, count, fits) in
    (subst P same all.0, made-sizes P [] sizes (drop n pairs) (omega (arith, sum, left, fits)) all.1)
made-sizes P (page ∷ pages) (n ∷ sizes) pairs fits all =
    let sum = sum_by-cons (λ (k : ℕ). k) n sizes in
    let count = length-take n pairs in
    let left = length-drop n pairs in
    let same : n ≡ length (take n pairs) = omega (arith, sum, count, fits) in
    (subst P same all.0, made-sizes P pages sizes (drop n pairs) (omega (arith, sum, left, fits)) all.1)

pub made-length : (pages sizes : List ℕ) (pairs : List Pair) → length (on_pages pages (cut_into sizes pairs)) ≡ length sizes
made-length pages [] pairs = refl
made-length [] (n ∷ sizes) pairs = ap suc (made-length [] sizes (drop n pairs))
made-length (page ∷ pages) (n ∷ sizes) pairs = ap suc (made-length pages sizes (drop n pairs))

-- as many nodes as hold the pairs
abbrev pub nodes : ℕ → ℕ → ℕ
nodes f n = (n + (f - 1)) / f

pub sizes-length : (f n : ℕ) → 0 < f → length (sizes_of f n) ≡ nodes f n
sizes-length f n some =
    let g = nodes f n in
    let both = length-append (replicate (n % g) (n / g + 1)) (replicate (g - n % g) (n / g)) in
    let large = length-replicate (n % g) (n / g + 1) in
    let small = length-replicate (g - n % g) (n / g) in
    elim (cases_lt 0 g) [
      | inl any ↦
          let less : n % g < g = omega arith in
          omega (arith, both, large, small, less)
      | inr none ↦
          let no_pair : n ≡ 0 = elim (cases_lt 0 n) [
            | inl pair ↦ let one = count-some f n some pair in absurd (omega (arith, one, none))
            | inr nothing ↦ omega (arith, nothing)
          ] in
          let no_node : g ≡ 0 = omega (arith, none) in
          let rest : n % g ≡ 0 = ap (λ (k : ℕ). k % g) no_pair ∙ (ap (λ (j : ℕ). 0 % j) no_node) in
          omega (arith, both, large, small, rest)
    ]

-- what holds of both sizes holds of all
sizes-all : (P : ℕ → Type 0) (f n : ℕ) → (0 < n % nodes f n → P (n / nodes f n + 1)) →
    (0 < nodes f n - n % nodes f n → P (n / nodes f n)) → AllByRecursion P (sizes_of f n)
sizes-all P f n large small =
    let g = nodes f n in
    all-append P (replicate (n % g) (n / g + 1)) (replicate (g - n % g) (n / g))
    (all-same P (n % g) (n / g + 1) large) (all-same P (g - n % g) (n / g) small)

-- no node has more than f pairs
pub sizes-high : (f n : ℕ) → 0 < f → AllByRecursion (λ k. k ≤ f) (sizes_of f n)
sizes-high f n some =
    let g = nodes f n in
    let holds = count-holds f n some in
    let turned = mul_comm g f in
    let whole = div-add-mod' n g in
    sizes-all (λ k. k ≤ f) f n
    (λ rest. elim (cases_lt (n / g) f) [
      | inl less ↦ omega (arith, less)
      | inr more ↦
          let rows : f * g ≤ n / g * g = mul-le-mul_right g more in
          absurd (omega (arith, rows, whole, rest, holds, turned))
    ])
    (λ any. elim (cases_lt f (n / g)) [
      | inr less ↦ less
      | inl more ↦
          let rows : (f + 1) * g ≤ n / g * g = mul-le-mul_right g (omega (arith, more)) in
          let one : (f + 1) * g ≡ f * g + g = grind arith in
          absurd (omega (arith, rows, one, whole, any, holds, turned))
    ])

-- each has at least one
pub sizes-some : (f n : ℕ) → 0 < f → AllByRecursion (λ k. 1 ≤ k) (sizes_of f n)
sizes-some f n some =
    let g = nodes f n in
    sizes-all (λ k. 1 ≤ k) f n (λ rest. omega arith)
    (λ any.
    let rows : n * 1 ≤ n * f = mul-le n 1 n f (omega arith) (omega (arith, some)) in
    let few = count-enough f n n some (omega (arith, rows)) in
    let one : 1 * g ≤ n = omega (arith, few) in
    le-div 1 n g (omega (arith, any)) one)

-- and half of f at least, where there are so many pairs
pub sizes-low : (f n : ℕ) → 4 ≤ f → f / 2 ≤ n → AllByRecursion (λ k. f / 2 ≤ k) (sizes_of f n)
sizes-low f n four enough =
    let g = nodes f n in
    let some : 0 < f = omega (arith, four) in
    let pair : 0 < n = omega (arith, four, enough) in
    let any = count-some f n some pair in
    let half : f / 2 * g ≤ n = elim (cases_lt 1 g) [
      | inr one ↦
          let same : g ≡ 1 = omega (arith, any, one) in
          let rows : f / 2 * g ≡ f / 2 * 1 = ap (λ (k : ℕ). f / 2 * k) same in
          omega (arith, rows, enough)
      | inl many ↦
          let less = count-less f n (g - 1) some (omega (arith, many)) in
          let twice : f / 2 * g ≤ f / 2 * (2 * (g - 1)) = mul-le (f / 2) g (f / 2) (2 * (g - 1)) (omega arith) (omega (arith, many)) in
          let turned : f / 2 * (2 * (g - 1)) ≡ (g - 1) * (2 * (f / 2)) = grind arith in
          let short : (g - 1) * (2 * (f / 2)) ≤ (g - 1) * f = mul-le (g - 1) (2 * (f / 2)) (g - 1) f (omega arith) (omega arith) in
          omega (arith, less, twice, turned, short)
    ] in
    let low = le-div (f / 2) n g any half in
    sizes-all (λ k. f / 2 ≤ k) f n (λ rest. omega (arith, low)) (λ rest. low)

-- Segments that use each page of a store at most once have no more bytes than its pages.
use Rattle.std.proofs.Common.{◌≡◌, ℕ, zero, suc, ◌+◌, ◌*◌, ◌<◌, ◌≤◌, min, List, [], ◌∷◌, map, refl, arith, inl, inr}
use Rattle.std.proofs.Common.{mul-le-mul_right}
use Rattle.std.specs.List.{AllByRecursion}
use Rattle.std.proofs.lemmas.List.Sums.{sum_by-cons}
use Rattle.geometry_model.specs.Numbers.{Numbers, pages}
use Rattle.geometry_model.proofs.PageLaws.{IsInSpace-below}
use Rattle.tree_model.specs.declared.entry.Pair.{Pair}
use Rattle.tree_model.specs.Tree.{IsSegment, bytes_of, page_count}
use Rattle.tree_model.proofs.PageCountLaws.{count-holds}
use Rattle.layout_model.specs.declared.extent.Extent.{Extent}
use Rattle.moment_model.specs.Version.{covers, uses, segment_run}
use Rattle.moment_laws.proofs.GrantLemmas.{covers-cases}

-- how often runs use the pages below a number
abbrev uses_below : ℕ → List Extent → ℕ
uses_below zero runs = 0
uses_below (suc q) runs = uses q runs + uses_below q runs

below-none : (q : ℕ) → uses_below q [] ≡ 0
below-none zero = refl
below-none (suc q) = omega (arith, below-none q)

below-cons : (q : ℕ) (run : Extent) (runs : List Extent) →
    uses_below q (run ∷ runs) ≡ uses_below q (run ∷ []) + uses_below q runs
below-cons zero run runs = omega arith
below-cons (suc q) run runs =
    let whole = sum_by-cons (covers q) run runs in
    let alone = sum_by-cons (covers q) run [] in
    omega (arith, whole, alone, below-cons q run runs)

-- a run is used as often as it has pages
below-one : (q : ℕ) (run : Extent) → uses_below q (run ∷ []) + min q run.page ≡ min q (run.page + run.pages)
below-one zero run = omega arith
below-one (suc q) run =
    let alone = sum_by-cons (covers q) run [] in
    let before = below-one q run in
    elim (covers-cases q run) [
      | inl inside ↦
          let one = inside.0 in
          let from = inside.1 in
          let to = inside.2 in
          omega (arith, alone, before, one, from, to)
      | inr outside ↦
          let none = outside.0 in
          elim outside.1 [
            | inl front ↦ omega (arith, alone, before, none, front)
            | inr behind ↦ omega (arith, alone, before, none, behind)
          ]
    ]

below-once : (q : ℕ) (runs : List Extent) → ((page : ℕ) → uses page runs ≤ 1) → uses_below q runs ≤ q
below-once zero runs once = omega arith
below-once (suc q) runs once = omega (arith, once q, below-once q runs once)

bytes-used : (n : Numbers) (entries : List Pair) → 0 < n.page → AllByRecursion (IsSegment n) entries →
    bytes_of entries ≤ uses_below (pages n) (map (segment_run n.page) entries) * n.page
bytes-used n [] some each = omega arith
bytes-used n (p ∷ ps) some each =
    let run = segment_run n.page p in
    let whole = sum_by-cons (λ (x : Pair). x.bytes) p ps in
    let parts = below-cons (pages n) run (map (segment_run n.page) ps) in
    let one = below-one (pages n) run in
    let within = IsInSpace-below n each.0.together.0 p.page (page_count n.page p.bytes) each.0.together.1 in
    let pages_of_run : uses_below (pages n) (run ∷ []) ≡ page_count n.page p.bytes = omega (arith, one, within) in
    let all : uses_below (pages n) (map (segment_run n.page) (p ∷ ps))
    ≡ page_count n.page p.bytes + uses_below (pages n) (map (segment_run n.page) ps) = omega (arith, parts, pages_of_run) in
    let here = count-holds n.page p.bytes some in
    let rest = bytes-used n ps some each.1 in
    rw all (omega (arith, whole, here, rest))

pub bytes-within : (n : Numbers) (entries : List Pair) → 0 < n.page → AllByRecursion (IsSegment n) entries →
    ((page : ℕ) → uses page (map (segment_run n.page) entries) ≤ 1) → bytes_of entries ≤ pages n * n.page
bytes-within n entries some each once =
    let used = bytes-used n entries some each in
    let most = below-once (pages n) (map (segment_run n.page) entries) once in
    let rows : uses_below (pages n) (map (segment_run n.page) entries) * n.page ≤ pages n * n.page = mul-le-mul_right n.page most in
    omega (arith, used, rows)

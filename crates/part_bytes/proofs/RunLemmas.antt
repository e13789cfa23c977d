-- Bytes on runs of pages: which pages they are on, and the segments that they are.
use Rattle.std.proofs.Common.{inl, inr, ◌⊎◌, ◌≡◌, ℕ, ◌+◌, ◌-◌, ◌*◌, ◌<◌, ◌≤◌, min, List, [], ◌∷◌, ◌++◌, length, map, take, drop}
use Rattle.std.proofs.Common.{refl, sym, ap, ◌∙◌, subst, arith}
use Rattle.std.proofs.lemmas.Bool.{cases_lt}
use Rattle.std.proofs.lemmas.List.{length-take, length-drop, take-append-drop}
use Rattle.std.proofs.lemmas.List.Sums.{sum_by-cons}
use Rattle.std.proofs.lemmas.List.Concat.{flat_map-cons}
use Rattle.std.proofs.Math.Nat.{add-mul, mul-le-mul_right}
use Rattle.std.specs.Prelude.{sum}
use Rattle.tree_model.specs.Content.{content, segment_bytes}
use Rattle.tree_model.specs.Tree.{Pages, page_count}
use Rattle.tree_model.proofs.PageCountLaws.{count-holds, count-enough, count-behind, count-full, count-none}
use Rattle.layout_model.specs.declared.extent.Extent.{Extent}
use Rattle.layout_model.specs.Layout.{segments_on}
use Rattle.moment_model.specs.Version.{covers}
use Rattle.span_store.proofs.Runs.{run_bytes-same}
use Rattle.seg_bytes.specs.Written.{StandFrom}
use Rattle.part_bytes.specs.Runs.{StandOn}
use Rattle.moment_laws.proofs.GrantLemmas.{covers-on}

-- bytes stand where they stood, as long as their pages are the same
pub StandFrom-same : (at other : Pages) (size first : ℕ) (bytes : List ℕ) →
    ((q : ℕ) → first ≤ q → q < first + page_count size (length bytes) → at q ≡ other q) →
    StandFrom other size first bytes → StandFrom at size first bytes
StandFrom-same at other size first bytes same stands =
    let run = run_bytes-same at other first (page_count size (length bytes)) same in
    record { filled = run ∙ stands.filled; content = ap (take (length bytes)) run ∙ stands.content }

none_left : (bytes : List ℕ) → length bytes ≡ 0 → [] ≡ bytes
none_left [] e = refl
none_left (b ∷ bytes) e = cc

-- a stretch of a run and what is behind it fill no more pages than the bytes
pub count-stretch : (size left pages count : ℕ) → 0 < size → count ≡ min left (pages * size) →
    page_count size count + page_count size (left - count) ≤ page_count size left
count-stretch size left pages count some e = elim (cases_lt left (pages * size)) [
  | inl less ↦
      let all : count ≡ left = omega (arith, e, less) in
      let none : left - count ≡ 0 = omega (arith, all) in
      let a = ap (page_count size) all in
      let b = ap (page_count size) none ∙ count-none size some in
      omega (arith, a, b)
  | inr full ↦
      let all : count ≡ pages * size = omega (arith, e, full) in
      let a = ap (page_count size) all ∙ count-full size pages some in
      let b = ap (λ (n : ℕ). page_count size (left - n)) all in
      let parts : left ≡ pages * size + (left - pages * size) = omega (arith, full) in
      let c = ap (page_count size) parts ∙ count-behind size pages (left - pages * size) some in
      omega (arith, a, b, c)
]

-- bytes on runs that have room for them are the content of the segments that they make there
pub StandOn-content : (at : Pages) (size : ℕ) (runs : List Extent) (bytes : List ℕ) → 0 < size →
    page_count size (length bytes) ≤ sum (map (λ run. run.pages) runs) → StandOn at size runs bytes →
    content at size (segments_on size (length bytes) runs) ≡ bytes
StandOn-content at size [] bytes some room stands =
    let held = count-holds size (length bytes) some in
    let zero' : page_count size (length bytes) ≡ 0 = omega (arith, room) in
    let rows : page_count size (length bytes) * size ≡ 0 * size = ap (λ (n : ℕ). n * size) zero' in
    let none : page_count size (length bytes) * size ≡ 0 = omega (arith, rows) in
    none_left bytes (omega (arith, held, none))
StandOn-content at size (run ∷ runs) bytes some room stands =
    let most : ℕ = run.pages * size in
    let size_of : length (take most bytes) ≡ min (length bytes) most = omega (arith, length-take most bytes) in
    let here : segment_bytes at size (record { bytes = min (length bytes) most; page = run.page }) ≡ take most bytes =
    subst (λ (n : ℕ). segment_bytes at size (record { bytes = n; page = run.page }) ≡ take most bytes) size_of stands.0.content in
    let left : length (drop most bytes) ≡ length bytes - most = length-drop most bytes in
    let pages_left = sum (map (λ (r : Extent). r.pages) runs) in
    let all_pages = sum_by-cons (λ (n : ℕ). n) run.pages (map (λ (r : Extent). r.pages) runs) in
    let holds = count-holds size (length bytes) some in
    let enough : page_count size (length bytes) * size ≤ (run.pages + pages_left) * size =
    mul-le-mul_right size (omega (arith, room, all_pages)) in
    let rows : (run.pages + pages_left) * size ≡ most + pages_left * size = add-mul run.pages pages_left size in
    let room' : page_count size (length (drop most bytes)) ≤ pages_left =
    count-enough size (length (drop most bytes)) pages_left some (omega (arith, left, holds, enough, rows)) in
    flat_map-cons (segment_bytes at size) (record { bytes = min (length bytes) most; page = run.page })
    (segments_on size (length bytes - most) runs)
    ∙ ap (λ (l : List ℕ). l ++ content at size (segments_on size (length bytes - most) runs)) here
    ∙ ap (λ (n : ℕ). take most bytes ++ content at size (segments_on size n runs)) (sym left)
    ∙ ap (λ (l : List ℕ). take most bytes ++ l) (StandOn-content at size runs (drop most bytes) some room' stands.1)
    ∙ take-append-drop most bytes

-- ---- pages of runs

pub covers_off : (q : ℕ) (run : Extent) → covers q run ≡ 0 → (q < run.page) ⊎ (run.page + run.pages ≤ q)
covers_off q run e = elim (cases_lt q run.page) [
  | inl before ↦ inl before
  | inr from ↦ elim (cases_lt q (run.page + run.pages)) [
    | inl to ↦ absurd (let one = covers-on q run (omega (arith, from)) to in omega (arith, one, e))
    | inr behind ↦ inr (omega (arith, behind))
  ]
]

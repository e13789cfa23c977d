-- The pages of segments that have one of some bytes, and what a read costs.
use Rattle.std.proofs.Common.{◌≡◌, ℕ, ◌+◌, ◌-◌, ◌*◌, ◌%◌, ◌<◌, ◌≤◌, Bool, List, [], ◌∷◌, length, ap, arith, inl, inr, nat_eq}
use Rattle.std.specs.Prelude.{if◌then◌else◌, min}
use Rattle.std.proofs.lemmas.Bool.{cases_Bool, cases_lt}
use Rattle.std.proofs.lemmas.List.{length-map}
use Rattle.std.proofs.lemmas.Nat.{div-add-mod', mod_below, mul-le}
use Rattle.std.proofs.Math.Nat.{add-mul, mul-le-mul_right}
use Rattle.geometry_model.specs.Numbers.{Numbers}
use Rattle.tree_model.specs.declared.entry.Pair.{Pair}
use Rattle.tree_model.specs.declared.entry.Placed.{Placed}
use Rattle.tree_model.specs.Range.{in_range, pairs_of, start_of}
use Rattle.tree_model.specs.Tree.{page_count}
use Rattle.tree_model.proofs.PageCountLaws.{count-enough, count-holds}
use Rattle.layout_model.specs.Pack.{Packed}
use Rattle.moment_model.specs.Costs.{read_cost, segments_met}
use Rattle.content_laws.specs.Spelling.{HaveBytes}
use Rattle.cost_laws.proofs.MetLemmas.{met-few}
use Rattle.cost_laws.proofs.PartCostLemmas.{count-sum}
use Rattle.seg_bytes.specs.Segments.{pages_touched, touched}

-- bytes that don't begin on a page's first byte touch one page more at most
touched-once : (size skip count : ℕ) → 0 < size → pages_touched size skip count ≤ page_count size count + 1
touched-once size skip count some =
    elim (cases_Bool (nat_eq count 0)) [
      | inl none ↦
          let step : pages_touched size skip count ≡ 0 =
          ap (λ (b : Bool). if b then 0 else page_count size (skip % size + count)) none in
          omega (arith, step)
      | inr any ↦
          let step : pages_touched size skip count ≡ page_count size (skip % size + count) =
          ap (λ (b : Bool). if b then 0 else page_count size (skip % size + count)) any in
          let below = mod_below skip size some in
          let one = count-enough size (skip % size) 1 some (omega (arith, below)) in
          let sum = count-sum size (skip % size) count some in
          omega (arith, step, one, sum)
    ]

-- bytes in two parts fill one page more at most than together
count-apart : (size a b : ℕ) → 0 < size → page_count size a + page_count size b ≤ page_count size (a + b) + 1
count-apart size a b some =
    let one = div-add-mod' (a + (size - 1)) size in
    let two = div-add-mod' (b + (size - 1)) size in
    let all = count-holds size (a + b) some in
    let both = add-mul (page_count size a) (page_count size b) size in
    elim (cases_lt (page_count size (a + b) + 1) (page_count size a + page_count size b)) [
      | inr less ↦ less
      | inl more ↦
          let rows : (page_count size (a + b) + 2) * size ≤ (page_count size a + page_count size b) * size =
          mul-le-mul_right size (omega (arith, more)) in
          let split = add-mul (page_count size (a + b)) 2 size in
          absurd (omega (arith, one, two, all, both, rows, split, some))
    ]

-- so bytes in a row of segments touch two pages more at most for each of them
touched-few : (size : ℕ) (entries : List Pair) (skip count : ℕ) → 0 < size →
    touched size entries skip count ≤ page_count size count + 2 * length entries
touched-few size [] skip count some = omega arith
touched-few size (p ∷ ps) skip count some =
    let here = min count (p.bytes - skip) in
    let rest = count - (p.bytes - skip) in
    let one = touched-once size skip here some in
    let more = touched-few size ps (skip - p.bytes) rest some in
    let apart = count-apart size here rest some in
    let whole : here + rest ≡ count = omega arith in
    let same = ap (page_count size) whole in
    omega (arith, one, more, apart, same)

pub read-cheap : (n : Numbers) (height threshold : ℕ) (entries : List Pair) (at count : ℕ) → 0 < n.page → HaveBytes entries →
    Packed n.page threshold entries →
    height * length (in_range at (at + count) 0 entries)
    + touched n.page (pairs_of (in_range at (at + count) 0 entries)) (at - start_of (in_range at (at + count) 0 entries)) count
    ≤ read_cost n count height threshold
read-cheap n height threshold entries at count some have packed =
    let segments = in_range at (at + count) 0 entries in
    let met = segments_met n count threshold in
    let row : at + count - at ≡ count = omega arith in
    let bound = met-few n threshold entries 0 at (at + count) some have packed in
    let same : segments_met n (at + count - at) threshold ≡ met = ap (λ (k : ℕ). segments_met n k threshold) row in
    let few : length segments ≤ met = omega (arith, bound, same) in
    let pages = touched-few n.page (pairs_of segments) (at - start_of segments) count some in
    let long = length-map segments (λ (s : Placed). s.pair) in
    let levels : height * length segments ≤ height * met = mul-le height (length segments) height met (omega arith) few in
    let rows : met * (height + 2) ≡ height * met + 2 * met = grind arith in
    omega (arith, few, pages, long, levels, rows)

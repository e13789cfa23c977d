-- The segments that have a byte of a range: of two neighbours one has the threshold's pages, so few lie within the range.
use Rattle.std.proofs.Common.{◌≡◌, ℕ, ◌+◌, ◌-◌, ◌*◌, ◌/◌, ◌<◌, ◌≤◌, true, false, List, [], ◌∷◌, length}
use Rattle.std.proofs.Common.{refl, ap, arith, ◌∙◌, ◌⊎◌, inl, inr}
use Rattle.std.specs.Prelude.{min, max}
use Rattle.std.specs.List.{filter}
use Rattle.std.proofs.lemmas.Bool.{cases_Bool, cases_lt, ltb-true}
use Rattle.std.proofs.lemmas.Nat.{le-div, div-add-mod'}
use Rattle.geometry_model.specs.Numbers.{Numbers}
use Rattle.tree_model.specs.declared.entry.Pair.{Pair}
use Rattle.tree_model.specs.Range.{in_range, is_in_range}
use Rattle.tree_model.specs.Tree.{page_count}
use Rattle.tree_model.proofs.PageCountLaws.{count-less}
use Rattle.layout_model.specs.Pack.{Packed}
use Rattle.moment_model.specs.Costs.{segments_met}
use Rattle.content_laws.specs.Spelling.{HaveBytes}

-- ---- one segment

skip : (from to start : ℕ) (p : Pair) (ps : List Pair) → is_in_range from to (record { start = start; pair = p }) ≡ false →
    in_range from to start (p ∷ ps) ≡ in_range from to (start + p.bytes) ps
skip from to start p ps out = rw (out, in_range, filter) refl

meet : (from to start : ℕ) (p : Pair) (ps : List Pair) → is_in_range from to (record { start = start; pair = p }) ≡ true →
    in_range from to start (p ∷ ps) ≡ record { start = start; pair = p } ∷ in_range from to (start + p.bytes) ps
meet from to start p ps inside = rw (inside, in_range, filter) refl

-- no segment behind the range is met
none-behind : (from to start : ℕ) (ps : List Pair) → to ≤ start → length (in_range from to start ps) ≡ 0
none-behind from to start [] behind = refl
none-behind from to start (p ∷ ps) behind =
    elim (cases_Bool (is_in_range from to (record { start = start; pair = p }))) [
      | inl inside ↦
          let less = ltb-true (max from start) (min to (start + p.bytes)) inside in
          absurd (omega (arith, less, behind))
      | inr out ↦ ap length (skip from to start p ps out) ∙ none-behind from to (start + p.bytes) ps (omega (arith, behind))
    ]

-- with one more segment at most one more is met
one-more : (from to start : ℕ) (p : Pair) (ps : List Pair) →
    length (in_range from to start (p ∷ ps)) ≤ length (in_range from to (start + p.bytes) ps) + 1
one-more from to start p ps =
    elim (cases_Bool (is_in_range from to (record { start = start; pair = p }))) [
      | inl inside ↦ let long = ap length (meet from to start p ps inside) in omega (arith, long)
      | inr out ↦ let long = ap length (skip from to start p ps out) in omega (arith, long)
    ]

-- ---- pairs of neighbours

-- a segment of the threshold's pages has so many bytes
abbrev large : ℕ → ℕ → ℕ
large size threshold = (threshold - 1) * size + 1

large-bytes : (size threshold : ℕ) (p : Pair) → 0 < size → 1 ≤ p.bytes → threshold ≤ page_count size p.bytes →
    large size threshold ≤ p.bytes
large-bytes size threshold p some byte enough =
    elim (cases_lt 0 threshold) [
      | inl any ↦
          let less = count-less size p.bytes (threshold - 1) some (omega (arith, any, enough)) in
          omega (arith, less)
      | inr none ↦
          let rows : (threshold - 1) * size ≡ 0 * size = ap (λ (k : ℕ). k * size) (omega (arith, none)) in
          omega (arith, rows, byte)
    ]

-- two neighbours have them together
both-large : (size threshold : ℕ) (p q : Pair) → 0 < size → 1 ≤ p.bytes → 1 ≤ q.bytes →
    (threshold ≤ page_count size p.bytes) ⊎ (threshold ≤ page_count size q.bytes) → large size threshold ≤ p.bytes + q.bytes
both-large size threshold p q some byte byte2 (inl one) = let enough = large-bytes size threshold p some byte one in omega (arith, enough)
both-large size threshold p q some byte byte2 (inr two) = let enough = large-bytes size threshold q some byte2 two in omega (arith, enough)

-- a row without as many bytes holds one fewer
fewer : (wide bytes taken : ℕ) → 0 < wide → wide ≤ taken → taken ≤ bytes → (bytes - taken) / wide + 1 ≤ bytes / wide
fewer wide bytes taken some enough within =
    let k = (bytes - taken) / wide in
    let whole = div-add-mod' (bytes - taken) wide in
    let rows : (k + 1) * wide ≡ k * wide + wide = grind arith in
    le-div (k + 1) bytes wide some (omega (arith, whole, rows, enough, within))

-- from a segment in the range on
rest-few : (size threshold from to start : ℕ) (ps : List Pair) → 0 < size → HaveBytes ps → Packed size threshold ps →
    length (in_range from to start ps) ≤ 2 * ((to - start) / large size threshold) + 2
rest-few size threshold from to start [] some have packed = omega arith
rest-few size threshold from to start (p ∷ []) some have packed =
    let one = one-more from to start p [] in
    omega (arith, one)
rest-few size threshold from to start (p ∷ q ∷ ps) some have packed =
    let next = start + p.bytes + q.bytes in
    let one = one-more from to start p (q ∷ ps) in
    let two = one-more from to (start + p.bytes) q ps in
    elim (cases_lt next to) [
      | inr past ↦
          let none = none-behind from to next ps past in
          omega (arith, one, two, none)
      | inl within ↦
          let more = rest-few size threshold from to next ps some have.1.1 (packed-rest q ps packed.1) in
          let wide = both-large size threshold p q some have.0 have.1.0 packed.0 in
          let left : to - next ≡ (to - start) - (p.bytes + q.bytes) = omega (arith, within) in
          let same : (to - next) / large size threshold ≡ ((to - start) - (p.bytes + q.bytes)) / large size threshold =
          ap (λ (k : ℕ). k / large size threshold) left in
          let less = fewer (large size threshold) (to - start) (p.bytes + q.bytes) (omega arith) wide (omega (arith, within)) in
          omega (arith, one, two, more, same, less)
    ]
  where
    packed-rest : (q : Pair) (ps : List Pair) → Packed size threshold (q ∷ ps) → Packed size threshold ps
    packed-rest q [] packed = tt
    packed-rest q (r ∷ rs) packed = packed.1

-- a shorter row holds no more
less-held : (wide a b : ℕ) → 0 < wide → a ≤ b → a / wide ≤ b / wide
less-held wide a b some less =
    let whole = div-add-mod' a wide in
    le-div (a / wide) b wide some (omega (arith, whole, less))

pub met-few : (n : Numbers) (threshold : ℕ) (entries : List Pair) (start from to : ℕ) → 0 < n.page → HaveBytes entries →
    Packed n.page threshold entries → length (in_range from to start entries) ≤ segments_met n (to - from) threshold
met-few n threshold [] start from to some have packed = omega arith
met-few n threshold (p ∷ ps) start from to some have packed =
    elim (cases_Bool (is_in_range from to (record { start = start; pair = p }))) [
      | inr out ↦
          let long = ap length (skip from to start p ps out) in
          let more = met-few n threshold ps (start + p.bytes) from to some have.1 (packed-behind p ps packed) in
          omega (arith, long, more)
      | inl inside ↦
          let long = ap length (meet from to start p ps inside) in
          let reach = ltb-true (max from start) (min to (start + p.bytes)) inside in
          let more = rest-few n.page threshold from to (start + p.bytes) ps some have.1 (packed-behind p ps packed) in
          let less = less-held (large n.page threshold) (to - (start + p.bytes)) (to - from) (omega arith) (omega (arith, reach)) in
          omega (arith, long, more, less)
    ]
  where
    packed-behind : (p : Pair) (ps : List Pair) → Packed n.page threshold (p ∷ ps) → Packed n.page threshold ps
    packed-behind p [] packed = tt
    packed-behind p (q ∷ qs) packed = packed.1

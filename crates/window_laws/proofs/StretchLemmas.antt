-- The entries in a range are those from one number on and before another, where a number counts the entries in front.
use Rattle.std.proofs.Common.{◌≡◌, ℕ, zero, suc, ◌+◌, ◌-◌, ◌<◌, ◌≤◌, min, max, true, false, List, [], ◌∷◌, ◌++◌}
use Rattle.std.proofs.Common.{length, take, drop, refl, sym, ap, arith, ◌∙◌, inl, inr, nat_eq}
use Rattle.std.specs.Prelude.{nat_le}
use Rattle.std.proofs.lemmas.Bool.{cases_Bool, cases_lt, leb-true, leb-false, ne_eqb, lt-ltb, le-ltb}
use Rattle.std.proofs.lemmas.List.{drop_all, take_all, take-take, drop-drop, length-drop, length-take, length-take-le}
use Rattle.std.proofs.lemmas.List.Sums.{sum_by-cons, sum_by-append}
use Rattle.tree_model.specs.declared.entry.Pair.{Pair}
use Rattle.tree_model.specs.declared.entry.Placed.{Placed}
use Rattle.tree_model.specs.Range.{is_in_range, in_range, pairs_of, placed, start_of}
use Rattle.tree_model.specs.Tree.{bytes_of}
use Rattle.tree_model.proofs.RangeLemmas.{placed-append}
use Rattle.layout_model.specs.Parts.{count_ended, count_begun}
use Rattle.layout_laws.proofs.LevelLemmas.{take-two}
use Rattle.content_laws.specs.Spelling.{HaveBytes}
use Rattle.content_laws.proofs.SideLemmas.{count_ended-behind, count_ended-within, count_begun-more}
use Rattle.window_laws.specs.Searches.{first_end, last_start}
use Rattle.window_laws.specs.Window.{window_from, window_start, window_at}
use Rattle.window_laws.proofs.CountLemmas.{count_begun-start}

-- the entries from number i on and before number j, each at its place
abbrev pub stretch : ℕ → ℕ → List Pair → List Placed
stretch i j entries = placed (bytes_of (take i entries)) (take (j - i) (drop i entries))

-- ---- a range is a stretch

-- behind the range nothing is in it
pub in_range-past : (from to start : ℕ) (ps : List Pair) → to ≤ start → in_range from to start ps ≡ []
in_range-past from to start [] past = refl
in_range-past from to start (p ∷ ps) past =
    let out : is_in_range from to (record { start = start; pair = p }) ≡ false =
    le-ltb (max from start) (min to (start + p.bytes)) (omega (arith, past)) in
    let rest = in_range-past from to (start + p.bytes) ps (omega (arith, past)) in
    rw (out, rest) refl

-- an entry in the range is the first in it
in_range-first : (from to start : ℕ) (p : Pair) (ps : List Pair) → max from start < min to (start + p.bytes) →
    in_range from to start (p ∷ ps) ≡ record { start = start; pair = p } ∷ in_range from to (start + p.bytes) ps
in_range-first from to start p ps meet =
    let here : is_in_range from to (record { start = start; pair = p }) ≡ true = lt-ltb (max from start) (min to (start + p.bytes)) meet in
    rw here refl

-- from the start of the entries on, those are in the range that begin before its end
in_range-front : (from to start : ℕ) (ps : List Pair) → HaveBytes ps → from ≤ start → from < to →
    in_range from to start ps ≡ placed start (take (count_begun (to - start) ps) ps)
in_range-front from to start [] have early some = refl
in_range-front from to start (p ∷ ps) have early some =
    elim (cases_lt start to) [
      | inr past ↦
          let none : to - start ≡ 0 = omega (arith, past) in
          let count : count_begun (to - start) (p ∷ ps) ≡ 0 = ap (λ (j : ℕ). count_begun j (p ∷ ps)) none ∙ count_begun-start (p ∷ ps) in
          in_range-past from to start (p ∷ ps) past ∙ ap (λ (j : ℕ). placed start (take j (p ∷ ps))) (sym count)
      | inl less ↦
          let byte = have.0 in
          let one : Placed = record { start = start; pair = p } in
          let k : nat_eq (to - start) 0 ≡ false = ne_eqb (to - start) 0 (λ none. omega (arith, none, less)) in
          let far : to - (start + p.bytes) ≡ to - start - p.bytes = omega arith in
          let more = in_range-front from to (start + p.bytes) ps have.1 (omega (arith, early)) some in
          in_range-first from to start p ps (omega (arith, less, byte, early, some))
          ∙ (ap (λ (ss : List Placed). one ∷ ss) (more ∙ ap (λ (j : ℕ). placed (start + p.bytes) (take (count_begun j ps) ps)) far)
          ∙ ap (λ (j : ℕ). placed start (take j (p ∷ ps))) (sym (count_begun-more (to - start) p ps k)))
    ]

-- from a place in the entries on, those are in the range that don't end there or before it and begin before its end
in_range-counts : (from to start : ℕ) (ps : List Pair) → HaveBytes ps → start ≤ from → from < to →
    in_range from to start ps
    ≡ placed (start + bytes_of (take (count_ended (from - start) ps) ps))
    (take (count_begun (to - start) ps - count_ended (from - start) ps) (drop (count_ended (from - start) ps) ps))
in_range-counts from to start [] have late some = refl
in_range-counts from to start (p ∷ ps) have late some =
    let byte = have.0 in
    let F : ℕ → ℕ → List Placed = λ c d. placed (start + bytes_of (take c (p ∷ ps))) (take (d - c) (drop c (p ∷ ps))) in
    let G : ℕ → ℕ → List Placed = λ c d. placed (start + p.bytes + bytes_of (take c ps)) (take (d - c) (drop c ps)) in
    let k : nat_eq (to - start) 0 ≡ false = ne_eqb (to - start) 0 (λ none. omega (arith, none, late, some)) in
    let begun = count_begun-more (to - start) p ps k in
    let far : to - (start + p.bytes) ≡ to - start - p.bytes = omega arith in
    elim (cases_Bool (nat_le p.bytes (from - start))) [
      | inl h ↦
          let behind = leb-true p.bytes (from - start) h in
          let ended = count_ended-behind (from - start) p ps h in
          let near : from - (start + p.bytes) ≡ from - start - p.bytes = omega arith in
          let c = count_ended (from - start - p.bytes) ps in
          let d = count_begun (to - start - p.bytes) ps in
          let out : is_in_range from to (record { start = start; pair = p }) ≡ false =
          le-ltb (max from start) (min to (start + p.bytes)) (omega (arith, behind, late)) in
          let skipped : in_range from to start (p ∷ ps) ≡ in_range from to (start + p.bytes) ps = rw out refl in
          let more = in_range-counts from to (start + p.bytes) ps have.1 (omega (arith, behind, late)) some in
          let sum = sum_by-cons (λ (q : Pair). q.bytes) p (take c ps) in
          let place : start + p.bytes + bytes_of (take c ps) ≡ start + bytes_of (p ∷ take c ps) = omega (arith, sum) in
          let wide : d - c ≡ suc d - suc c = omega arith in
          skipped
          ∙ (more
          ∙ (ap (λ (j : ℕ). G (count_ended j ps) (count_begun (to - (start + p.bytes)) ps)) near
          ∙ (ap (λ (j : ℕ). G c (count_begun j ps)) far
          ∙ (ap (λ (j : ℕ). placed j (take (d - c) (drop c ps))) place
          ∙ (ap (λ (j : ℕ). placed (start + bytes_of (p ∷ take c ps)) (take j (drop c ps))) wide
          ∙ (ap (λ (j : ℕ). F j (suc d)) (sym ended)
          ∙ ap (λ (j : ℕ). F (count_ended (from - start) (p ∷ ps)) j) (sym begun)))))))
      | inr h ↦
          let within = leb-false p.bytes (from - start) h in
          let ended = count_ended-within (from - start) p ps h in
          let d = count_begun (to - start - p.bytes) ps in
          let one : Placed = record { start = start; pair = p } in
          let more = in_range-front from to (start + p.bytes) ps have.1 (omega (arith, within, late)) some in
          let place : start ≡ start + 0 = omega arith in
          let wide : suc d ≡ suc d - 0 = omega arith in
          in_range-first from to start p ps (omega (arith, within, late, some, byte))
          ∙ (ap (λ (ss : List Placed). one ∷ ss) (more ∙ ap (λ (j : ℕ). placed (start + p.bytes) (take (count_begun j ps) ps)) far)
          ∙ (ap (λ (j : ℕ). placed j (take (suc d) (p ∷ ps))) place
          ∙ (ap (λ (j : ℕ). placed (start + 0) (take j (p ∷ ps))) wide
          ∙ (ap (λ (j : ℕ). F j (suc d)) (sym ended)
          ∙ ap (λ (j : ℕ). F (count_ended (from - start) (p ∷ ps)) j) (sym begun)))))
    ]

-- the entries in a range are the stretch from the first that doesn't end before it to the first that begins behind it
pub in_range-stretch : (from to : ℕ) (ps : List Pair) → HaveBytes ps → from < to →
    in_range from to 0 ps ≡ stretch (count_ended from ps) (count_begun to ps) ps
in_range-stretch from to ps have some =
    let F : ℕ → ℕ → ℕ → List Placed = λ start c d. placed start (take (d - c) (drop c ps)) in
    let near : from - 0 ≡ from = omega arith in
    let far : to - 0 ≡ to = omega arith in
    let c = count_ended from ps in
    let place : 0 + bytes_of (take c ps) ≡ bytes_of (take c ps) = omega arith in
    in_range-counts from to 0 ps have (omega arith) some
    ∙ (ap (λ (j : ℕ). F (0 + bytes_of (take (count_ended j ps) ps)) (count_ended j ps) (count_begun (to - 0) ps)) near
    ∙ (ap (λ (j : ℕ). F (0 + bytes_of (take c ps)) c (count_begun j ps)) far
    ∙ ap (λ (j : ℕ). F j c (count_begun to ps)) place))

-- ---- stretches

-- the bytes of the first i and the next m are those of the first i + m
pub bytes_of-next : (i m : ℕ) (ps : List Pair) → bytes_of (take i ps) + bytes_of (take m (drop i ps)) ≡ bytes_of (take (i + m) ps)
bytes_of-next i m ps =
    sym (sum_by-append (λ (p : Pair). p.bytes) (take i ps) (take m (drop i ps))) ∙ ap bytes_of (take-two i m ps)

-- two stretches that adjoin are one
pub stretch-join : (i j l : ℕ) (ps : List Pair) → i ≤ j → j ≤ l → stretch i j ps ++ stretch j l ps ≡ stretch i l ps
stretch-join i j l ps first second =
    let start = bytes_of (take i ps) in
    let front = take (j - i) (drop i ps) in
    let back = take (l - j) (drop j ps) in
    let reach : i + (j - i) ≡ j = omega (arith, first) in
    let place : bytes_of (take j ps) ≡ start + bytes_of front =
    ap (λ (k : ℕ). bytes_of (take k ps)) (sym reach) ∙ sym (bytes_of-next i (j - i) ps) in
    let rest : drop j ps ≡ drop (j - i) (drop i ps) = ap (λ (k : ℕ). drop k ps) (sym reach) ∙ sym (drop-drop (j - i) i ps) in
    let wide : j - i + (l - j) ≡ l - i = omega (arith, first, second) in
    let whole : front ++ back ≡ take (l - i) (drop i ps) =
    ap (λ (qs : List Pair). front ++ take (l - j) qs) rest
    ∙ (take-two (j - i) (l - j) (drop i ps) ∙ ap (λ (k : ℕ). take k (drop i ps)) wide) in
    ap (λ (k : ℕ). placed start front ++ placed k back) place
    ∙ (sym (placed-append start front back) ∙ ap (placed start) whole)

-- a stretch without an entry
pub stretch-none : (i : ℕ) (ps : List Pair) → stretch i i ps ≡ []
stretch-none i ps =
    let none : i - i ≡ 0 = omega arith in
    ap (λ (k : ℕ). placed (bytes_of (take i ps)) (take k (drop i ps))) none

pub stretch-past : (i j : ℕ) (ps : List Pair) → length ps ≤ i → stretch i j ps ≡ []
stretch-past i j ps past =
    let none : drop i ps ≡ [] = drop_all i ps past in
    let few : 0 ≤ j - i = omega arith in
    ap (λ (qs : List Pair). placed (bytes_of (take i ps)) (take (j - i) qs)) none
    ∙ ap (placed (bytes_of (take i ps))) (take_all {A = Pair} (j - i) [] few)

-- the entry of a number, and the bytes up to its end
pub record IsNumber (i : ℕ) (ps : List Pair) : Type 0 where
  pub entry : Pair
  pub rest : List Pair
  pub here : drop i ps ≡ entry ∷ rest
  pub next : bytes_of (take (suc i) ps) ≡ bytes_of (take i ps) + entry.bytes
  pub some : 1 ≤ entry.bytes

pub is_number : (i : ℕ) (ps : List Pair) → HaveBytes ps → i < length ps → IsNumber i ps
is_number i [] have fits = let none : i < 0 = fits in absurd (omega (arith, none))
is_number zero (p ∷ ps) have fits =
    let sum = sum_by-cons (λ (q : Pair). q.bytes) p [] in
    let one : bytes_of (p ∷ []) ≡ 0 + p.bytes = omega (arith, sum) in
    record { entry = p; rest = ps; here = refl; next = one; some = have.0 }
is_number (suc i) (p ∷ ps) have fits =
    let long : suc i < suc (length ps) = fits in
    let more = is_number i ps have.1 (omega (arith, long)) in
    let sum = sum_by-cons (λ (q : Pair). q.bytes) p (take i ps) in
    let sum2 = sum_by-cons (λ (q : Pair). q.bytes) p (take (suc i) ps) in
    let next = more.next in
    record { entry = more.entry; rest = more.rest; here = more.here; next = omega (arith, sum, sum2, next); some = more.some }

-- where a stretch with an entry begins, and where the first of its entries ends
pub record HasFirst (i j : ℕ) (ps : List Pair) : Type 0 where
  pub start : start_of (stretch i j ps) ≡ bytes_of (take i ps)
  pub first : first_end (stretch i j ps) ≡ bytes_of (take (suc i) ps)

pub stretch-first : (i j : ℕ) (ps : List Pair) → HaveBytes ps → i < j → i < length ps → HasFirst i j ps
stretch-first i j ps have some fits =
    let number = is_number i ps have fits in
    let p = number.entry in
    let start = bytes_of (take i ps) in
    let wide : j - i ≡ suc (j - i - 1) = omega (arith, some) in
    let same : stretch i j ps ≡ record { start = start; pair = p } ∷ placed (start + p.bytes) (take (j - i - 1) number.rest) =
    ap (λ (qs : List Pair). placed start (take (j - i) qs)) number.here
    ∙ ap (λ (k : ℕ). placed start (take k (p ∷ number.rest))) wide in
    record { start = ap start_of same; first = ap first_end same ∙ sym number.next }

-- the pairs of entries at their places
pub pairs_of-placed : (start : ℕ) (ps : List Pair) → pairs_of (placed start ps) ≡ ps
pairs_of-placed start [] = refl
pairs_of-placed start (p ∷ ps) = ap (λ (qs : List Pair). p ∷ qs) (pairs_of-placed (start + p.bytes) ps)

-- where a stretch ends
pub stretch-end : (i j : ℕ) (ps : List Pair) → i ≤ j → bytes_of (take i ps) + bytes_of (pairs_of (stretch i j ps)) ≡ bytes_of (take j ps)
stretch-end i j ps order =
    let reach : i + (j - i) ≡ j = omega (arith, order) in
    ap (λ (qs : List Pair). bytes_of (take i ps) + bytes_of qs) (pairs_of-placed (bytes_of (take i ps)) (take (j - i) (drop i ps)))
    ∙ (bytes_of-next i (j - i) ps ∙ ap (λ (k : ℕ). bytes_of (take k ps)) reach)

-- where the last of some entries begins
last_start-placed : (start : ℕ) (ps : List Pair) → 0 < length ps → last_start (placed start ps) ≡ start + bytes_of (take (length ps - 1) ps)
last_start-placed start [] some = let none : 0 < 0 = some in absurd (omega (arith, none))
last_start-placed start (p ∷ []) some =
    let place : start ≡ start + 0 = omega arith in place
last_start-placed start (p ∷ q ∷ rest) some =
    let one : 0 < suc (length rest) = omega arith in
    let more = last_start-placed (start + p.bytes) (q ∷ rest) one in
    let step : suc (suc (length rest)) - 1 ≡ suc (suc (length rest) - 1) = omega arith in
    let sum = sum_by-cons (λ (r : Pair). r.bytes) p (take (suc (length rest) - 1) (q ∷ rest)) in
    let place : start + p.bytes + bytes_of (take (suc (length rest) - 1) (q ∷ rest))
    ≡ start + bytes_of (p ∷ take (suc (length rest) - 1) (q ∷ rest)) =
    omega (arith, sum) in
    more ∙ (place ∙ ap (λ (k : ℕ). start + bytes_of (take k (p ∷ q ∷ rest))) (sym step))

-- where the last entry of a stretch begins
pub stretch-last : (i j : ℕ) (ps : List Pair) → i < j → j ≤ length ps → last_start (stretch i j ps) ≡ bytes_of (take (j - 1) ps)
stretch-last i j ps some fits =
    let rest = drop i ps in
    let left = length-drop i ps in
    let long : length (take (j - i) rest) ≡ j - i = length-take-le (j - i) rest (omega (arith, left, fits)) in
    let short : length (take (j - i) rest) - 1 ≡ j - i - 1 = omega (arith, long) in
    let less : j - i - 1 ≤ j - i = omega arith in
    let reach : i + (j - i - 1) ≡ j - 1 = omega (arith, some) in
    last_start-placed (bytes_of (take i ps)) (take (j - i) rest) (omega (arith, long, some))
    ∙ (ap (λ (k : ℕ). bytes_of (take i ps) + bytes_of (take k (take (j - i) rest))) short
    ∙ (ap (λ (qs : List Pair). bytes_of (take i ps) + bytes_of qs) (take-take (j - i - 1) (j - i) rest less)
    ∙ (bytes_of-next i (j - i - 1) ps ∙ ap (λ (k : ℕ). bytes_of (take k ps)) reach)))

-- the bytes before an entry of a window
pub window-border : (k : ℕ) (entries : List Pair) (at removed : ℕ) → k ≤ length (window_at entries at removed) →
    bytes_of (take (window_from at entries + k) entries) ≡ window_start at entries + bytes_of (take k (window_at entries at removed))
window-border k entries at removed fits =
    let from = window_from at entries in
    let m = count_begun (at + removed) entries + 1 - from in
    let long = length-take m (drop from entries) in
    let short : k ≤ m = omega (arith, long, fits) in
    sym (bytes_of-next from k entries)
    ∙ ap (λ (qs : List Pair). window_start at entries + bytes_of qs) (sym (take-take k m (drop from entries) short))

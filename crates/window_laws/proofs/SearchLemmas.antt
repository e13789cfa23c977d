-- A search around a place, and one more on each side, find the window.
use Rattle.std.proofs.Common.{◌≡◌, ℕ, zero, suc, ◌+◌, ◌-◌, ◌<◌, ◌≤◌, min, Bool, true, false, List, [], ◌∷◌, ◌++◌}
use Rattle.std.proofs.Common.{length, take, drop, refl, sym, ap, arith, ◌∙◌, inl, inr, nat_eq}
use Rattle.std.specs.Prelude.{nat_le, nat_lt, if◌then◌else◌}
use Rattle.std.proofs.lemmas.Bool.{cases_Bool, cases_lt, leb-true, leb-false, ltb-true, ltb-false, lt-leb, eqb-true, ne_eqb}
use Rattle.std.proofs.lemmas.List.Sums.{sum_by-cons}
use Rattle.tree_model.specs.declared.entry.Pair.{Pair}
use Rattle.tree_model.specs.declared.entry.Placed.{Placed}
use Rattle.tree_model.specs.Range.{pairs_of, placed, start_of}
use Rattle.tree_model.specs.Tree.{bytes_of}
use Rattle.layout_model.specs.Parts.{count_ended, count_begun}
use Rattle.content_laws.specs.Spelling.{HaveBytes}
use Rattle.content_laws.proofs.SideLemmas.{count_ended-count_begun, count_ended-within_list, count_ended-behind}
use Rattle.content_laws.proofs.SideLemmas.{count_ended-within, count_begun-more, count_begun-within_list}
use Rattle.window_laws.specs.Searches.{first_end, last_start, end_of, met_around, met_before, met_behind, with_neighbours}
use Rattle.window_laws.specs.Window.{window_start, window_at}
use Rattle.window_laws.proofs.CountLemmas.{is_behind, ended-bytes, count_begun-start, border-number}
use Rattle.window_laws.proofs.StretchLemmas.{stretch, in_range-past, in_range-stretch, stretch-join, stretch-none}
use Rattle.window_laws.proofs.StretchLemmas.{stretch-past, is_number, pairs_of-placed, stretch-first, stretch-end}
use Rattle.window_laws.proofs.StretchLemmas.{stretch-last}

-- ---- counts at a place between two borders

-- the entry behind those that end at a place or before it ends behind the place
ended-next : (at : ℕ) (ps : List Pair) → count_ended at ps < length ps → at < bytes_of (take (suc (count_ended at ps)) ps)
ended-next at [] fits = let none : 0 < 0 = fits in absurd (omega (arith, none))
ended-next at (p ∷ ps) fits =
    let long : count_ended at (p ∷ ps) < suc (length ps) = fits in
    elim (cases_Bool (nat_le p.bytes at)) [
      | inr h ↦
          let less = leb-false p.bytes at h in
          let none = count_ended-within at p ps h in
          let sum = sum_by-cons (λ (q : Pair). q.bytes) p [] in
          let one : at < bytes_of (p ∷ []) = omega (arith, sum, less) in
          let same = ap (λ (k : ℕ). bytes_of (take (suc k) (p ∷ ps))) none in
          omega (arith, same, one)
      | inl h ↦
          let step = count_ended-behind at p ps h in
          let more = ended-next (at - p.bytes) ps (omega (arith, step, long)) in
          let sum = sum_by-cons (λ (q : Pair). q.bytes) p (take (suc (count_ended (at - p.bytes) ps)) ps) in
          let same = ap (λ (k : ℕ). bytes_of (take (suc k) (p ∷ ps))) step in
          omega (arith, same, sum, more)
    ]

-- those that begin before a place reach to it
pub begun-reach : (at : ℕ) (ps : List Pair) → at ≤ bytes_of ps → at ≤ bytes_of (take (count_begun at ps) ps)
begun-reach at [] within = within
begun-reach at (p ∷ ps) within =
    let all = sum_by-cons (λ (q : Pair). q.bytes) p ps in
    elim (cases_Bool (nat_eq at 0)) [
      | inl k ↦
          let none = eqb-true at 0 k in
          omega (arith, none)
      | inr k ↦
          let step = count_begun-more at p ps k in
          let more = begun-reach (at - p.bytes) ps (omega (arith, all, within)) in
          let sum = sum_by-cons (λ (q : Pair). q.bytes) p (take (count_begun (at - p.bytes) ps) ps) in
          let same = ap (λ (k : ℕ). bytes_of (take k (p ∷ ps))) step in
          omega (arith, same, sum, more)
    ]

-- the last of them begins before it
begun-last : (at : ℕ) (ps : List Pair) → 0 < at → bytes_of (take (count_begun at ps - 1) ps) < at
begun-last at [] some =
    let none : 0 < at = some in none
begun-last at (p ∷ ps) some =
    let k : nat_eq at 0 ≡ false = ne_eqb at 0 (λ none. omega (arith, none, some)) in
    let step = count_begun-more at p ps k in
    let d = count_begun (at - p.bytes) ps in
    let less : count_begun at (p ∷ ps) - 1 ≡ d = omega (arith, step) in
    let same = ap (λ (j : ℕ). bytes_of (take j (p ∷ ps))) less in
    elim (cases_lt 0 d) [
      | inr none ↦
          let zero_d : d ≡ 0 = omega (arith, none) in
          let start : bytes_of (take d (p ∷ ps)) ≡ 0 = ap (λ (j : ℕ). bytes_of (take j (p ∷ ps))) zero_d in
          omega (arith, same, start, some)
      | inl one ↦
          elim (cases_lt p.bytes at) [
            | inr past ↦
                let spent : at - p.bytes ≡ 0 = omega (arith, past) in
                let none : d ≡ 0 = ap (λ (j : ℕ). count_begun j ps) spent ∙ count_begun-start ps in
                absurd (omega (arith, none, one))
            | inl inside ↦
                let more = begun-last (at - p.bytes) ps (omega (arith, inside)) in
                let front : d ≡ suc (d - 1) = omega (arith, one) in
                let whole = ap (λ (j : ℕ). bytes_of (take j (p ∷ ps))) front in
                let sum = sum_by-cons (λ (q : Pair). q.bytes) p (take (d - 1) ps) in
                omega (arith, same, whole, sum, more, inside)
          ]
    ]

-- fewer end at a place within the entries than begin before a later one
ended-less : (from to : ℕ) (ps : List Pair) → from < to → from < bytes_of ps → count_ended from ps < count_begun to ps
ended-less from to [] some within = let none : from < 0 = within in absurd (omega (arith, none))
ended-less from to (p ∷ ps) some within =
    let all = sum_by-cons (λ (q : Pair). q.bytes) p ps in
    let k : nat_eq to 0 ≡ false = ne_eqb to 0 (λ none. omega (arith, none, some)) in
    let begun = count_begun-more to p ps k in
    elim (cases_Bool (nat_le p.bytes from)) [
      | inr h ↦ let none = count_ended-within from p ps h in omega (arith, none, begun)
      | inl h ↦
          let behind = leb-true p.bytes from h in
          let step = count_ended-behind from p ps h in
          let more = ended-less (from - p.bytes) (to - p.bytes) ps (omega (arith, some, behind)) (omega (arith, all, within, behind)) in
          omega (arith, step, begun, more)
    ]

-- at a place in entry number c, or at its start, the c entries in front have ended
ended-inside : (at c : ℕ) (ps : List Pair) → HaveBytes ps → c < length ps → bytes_of (take c ps) ≤ at → at < bytes_of (take (suc c) ps) →
    count_ended at ps ≡ c
ended-inside at c ps have fits low high =
    let number = is_number c ps have fits in
    let next = number.next in
    let q = number.entry in
    let far = at - bytes_of (take c ps) in
    let past = is_behind 1 at c ps have (omega (arith, fits)) low in
    let count = past.ended in
    let none : count_ended far (drop c ps) ≡ 0 =
    ap (λ (qs : List Pair). count_ended far qs) number.here
    ∙ count_ended-within far q number.rest (lt-leb q.bytes far (omega (arith, next, low, high))) in
    omega (arith, count, none)

-- at a place in entry number c, or at its end, it and those in front have begun
begun-inside : (at c : ℕ) (ps : List Pair) → HaveBytes ps → c < length ps → bytes_of (take c ps) < at → at ≤ bytes_of (take (suc c) ps) →
    count_begun at ps ≡ suc c
begun-inside at c ps have fits low high =
    let number = is_number c ps have fits in
    let next = number.next in
    let q = number.entry in
    let far = at - bytes_of (take c ps) in
    let past = is_behind 1 at c ps have (omega (arith, fits)) (omega (arith, low)) in
    let count = past.begun in
    let k : nat_eq far 0 ≡ false = ne_eqb far 0 (λ none. omega (arith, none, low)) in
    let spent : far - q.bytes ≡ 0 = omega (arith, next, high) in
    let rest : count_begun (far - q.bytes) number.rest ≡ 0 =
    ap (λ (j : ℕ). count_begun j number.rest) spent ∙ count_begun-start number.rest in
    let step = count_begun-more far q number.rest k in
    let same = ap (λ (qs : List Pair). count_begun far qs) number.here in
    omega (arith, count, same, step, rest)

-- ---- the neighbours

-- the byte before a border is in the entry in front of it
before-border : (i : ℕ) (ps : List Pair) → HaveBytes ps → i ≤ length ps → met_before ps (bytes_of (take i ps)) ≡ stretch (i - 1) i ps
before-border zero ps have fits = let none : 0 ≤ 0 = omega arith in in_range-past 0 0 0 ps none
before-border (suc i) ps have fits =
    let number = is_number i ps have (omega (arith, fits)) in
    let next = number.next in
    let byte = number.some in
    let place = bytes_of (take (suc i) ps) in
    let some : place - 1 < place = omega (arith, next, byte) in
    let ended : count_ended (place - 1) ps ≡ i =
    ended-inside (place - 1) i ps have (omega (arith, fits)) (omega (arith, next, byte)) some in
    let border = border-number (suc i) ps have fits in
    let front : i ≡ suc i - 1 = omega arith in
    in_range-stretch (place - 1) place ps have some
    ∙ (ap (λ (j : ℕ). stretch j (count_begun place ps) ps) (ended ∙ front)
    ∙ ap (λ (j : ℕ). stretch (suc i - 1) j ps) border.1)

-- the byte behind a border is in the entry behind it
behind-border : (j : ℕ) (ps : List Pair) → HaveBytes ps → j ≤ length ps → met_behind ps (bytes_of (take j ps)) ≡ stretch j (j + 1) ps
behind-border j ps have fits =
    let place = bytes_of (take j ps) in
    let some : place < place + 1 = omega arith in
    let border = border-number j ps have fits in
    let found : met_behind ps place ≡ stretch j (count_begun (place + 1) ps) ps =
    in_range-stretch place (place + 1) ps have some ∙ ap (λ (i : ℕ). stretch i (count_begun (place + 1) ps) ps) border.0 in
    elim (cases_lt j (length ps)) [
      | inr past ↦ found ∙ (stretch-past j (count_begun (place + 1) ps) ps past ∙ sym (stretch-past j (j + 1) ps past))
      | inl inside ↦
          let number = is_number j ps have inside in
          let next = number.next in
          let byte = number.some in
          let begun = begun-inside (place + 1) j ps have inside some (omega (arith, next, byte)) in
          let wide : suc j ≡ j + 1 = omega arith in
          found ∙ ap (λ (l : ℕ). stretch j l ps) (begun ∙ wide)
    ]

-- ---- the searches

-- the segments that the first search meets, as numbers: it begins in or at the end of number `low`, and ends in or at
-- the end of the one before number `high`
record IsMet (entries : List Pair) (at removed low high : ℕ) : Type 0 where
  order : low < high
  fits : high ≤ length entries
  starts : bytes_of (take low entries) ≤ at - 1
  passes : at - 1 < bytes_of (take (suc low) entries)
  reaches : min (at + removed + 1) (bytes_of entries) ≤ bytes_of (take high entries)
  lasts : bytes_of (take (high - 1) entries) < min (at + removed + 1) (bytes_of entries)

-- in front the window has the entry before the place besides
front-found : (entries : List Pair) (at removed i j : ℕ) → HaveBytes entries → IsMet entries at removed i j →
    ((if nat_lt at (bytes_of (take (suc i) entries)) then met_before entries (bytes_of (take i entries)) else [])
    ≡ stretch (count_ended at entries - 1) i entries) × (count_ended at entries - 1 ≤ i)
front-found entries at removed i j have met =
    let order = met.order in
    let fits = met.fits in
    let starts = met.starts in
    let passes = met.passes in
    let k = count_ended at entries - 1 in
    let within : i < length entries = omega (arith, order, fits) in
    elim (cases_Bool (nat_lt at (bytes_of (take (suc i) entries)))) [
      | inl h ↦
          let less = ltb-true at (bytes_of (take (suc i) entries)) h in
          let count = ended-inside at i entries have within (omega (arith, starts)) less in
          let one : i - 1 ≡ k = omega (arith, count) in
          let found : met_before entries (bytes_of (take i entries)) ≡ stretch k i entries =
          before-border i entries have (omega (arith, within)) ∙ ap (λ (m : ℕ). stretch m i entries) one in
          (rw h found, omega (arith, count))
      | inr h ↦
          let past = ltb-false at (bytes_of (take (suc i) entries)) h in
          let border = border-number (suc i) entries have (omega (arith, within)) in
          let here : at ≡ bytes_of (take (suc i) entries) = omega (arith, past, passes) in
          let count : count_ended at entries ≡ suc i = ap (λ (m : ℕ). count_ended m entries) here ∙ border.0 in
          let one : k ≡ i = omega (arith, count) in
          let none : [] ≡ stretch k i entries = sym (ap (λ (m : ℕ). stretch m i entries) one ∙ stretch-none i entries) in
          (rw h none, omega (arith, one))
    ]

-- behind the window has the entry after what is removed besides
back-found : (entries : List Pair) (at removed i j : ℕ) → HaveBytes entries → at + removed ≤ bytes_of entries →
    IsMet entries at removed i j →
    ((if nat_lt (bytes_of (take (j - 1) entries)) (at + removed) then met_behind entries (bytes_of (take j entries)) else [])
    ≡ stretch j (count_begun (at + removed) entries + 1) entries) × (j ≤ count_begun (at + removed) entries + 1)
back-found entries at removed i j have within met =
    let order = met.order in
    let fits = met.fits in
    let reaches = met.reaches in
    let lasts = met.lasts in
    let e = at + removed in
    let w = count_begun e entries + 1 in
    let last : suc (j - 1) ≡ j = omega (arith, order) in
    let ends : bytes_of (take (suc (j - 1)) entries) ≡ bytes_of (take j entries) = ap (λ (m : ℕ). bytes_of (take m entries)) last in
    elim (cases_Bool (nat_lt (bytes_of (take (j - 1) entries)) e)) [
      | inl h ↦
          let less = ltb-true (bytes_of (take (j - 1) entries)) e h in
          let count = begun-inside e (j - 1) entries have (omega (arith, order, fits)) less (omega (arith, ends, reaches, within)) in
          let one : j + 1 ≡ w = omega (arith, count, last) in
          let found : met_behind entries (bytes_of (take j entries)) ≡ stretch j w entries =
          behind-border j entries have fits ∙ ap (λ (m : ℕ). stretch j m entries) one in
          (rw h found, omega (arith, one))
      | inr h ↦
          let past = ltb-false (bytes_of (take (j - 1) entries)) e h in
          let border = border-number (j - 1) entries have (omega (arith, fits)) in
          let here : e ≡ bytes_of (take (j - 1) entries) = omega (arith, past, lasts) in
          let count : count_begun e entries ≡ j - 1 = ap (λ (m : ℕ). count_begun m entries) here ∙ border.1 in
          let one : w ≡ j = omega (arith, count, order) in
          let none : [] ≡ stretch j w entries = sym (ap (λ (m : ℕ). stretch j m entries) one ∙ stretch-none j entries) in
          (rw h none, omega (arith, one))
    ]

-- the first search meets a stretch
met-is : (entries : List Pair) (at removed : ℕ) → HaveBytes entries → 0 < bytes_of entries → at + removed ≤ bytes_of entries →
    IsMet entries at removed (count_ended (at - 1) entries) (count_begun (min (at + removed + 1) (bytes_of entries)) entries)
met-is entries at removed have some within =
    let from = at - 1 in
    let to = min (at + removed + 1) (bytes_of entries) in
    let inside : from < bytes_of entries = omega (arith, some, within) in
    let less : from < to = omega (arith, some, within) in
    let order = ended-less from to entries less inside in
    let fits = count_begun-within_list to entries in
    let reach : count_ended from entries ≤ count_ended from entries = omega arith in
    record {
      order = order;
      fits = fits;
      starts = ended-bytes from (count_ended from entries) entries reach;
      passes = ended-next from entries (omega (arith, order, fits));
      reaches = begun-reach to entries (omega arith);
      lasts = begun-last to entries (omega (arith, less));
    }

-- the searches find the window
found-some : (entries : List Pair) (at removed : ℕ) → HaveBytes entries → 0 < bytes_of entries → at + removed ≤ bytes_of entries →
    with_neighbours entries at removed (met_around entries at removed) ≡ placed (window_start at entries) (window_at entries at removed)
found-some entries at removed have some within =
    let from = at - 1 in
    let e = at + removed in
    let to = min (e + 1) (bytes_of entries) in
    let i = count_ended from entries in
    let j = count_begun to entries in
    let k = count_ended at entries - 1 in
    let w = count_begun e entries + 1 in
    let met = met-is entries at removed have some within in
    let order = met.order in
    let fits = met.fits in
    let less : from < to = omega (arith, some, within) in
    let middle = stretch i j entries in
    let found : met_around entries at removed ≡ middle = in_range-stretch from to entries have less in
    let first = stretch-first i j entries have order (omega (arith, order, fits)) in
    let front = front-found entries at removed i j have met in
    let back = back-found entries at removed i j have within met in
    let front_order = front.1 in
    let back_order = back.1 in
    let F : ℕ → ℕ → List Placed = λ end start. if nat_lt at end then met_before entries start else [] in
    let G : ℕ → ℕ → List Placed = λ start end. if nat_lt start e then met_behind entries end else [] in
    let fronts : F (first_end middle) (start_of middle) ≡ stretch k i entries =
    ap (λ (m : ℕ). F m (start_of middle)) first.first
    ∙ (ap (λ (m : ℕ). F (bytes_of (take (suc i) entries)) m) first.start ∙ front.0) in
    let ends : end_of middle ≡ bytes_of (take j entries) =
    ap (λ (m : ℕ). m + bytes_of (pairs_of middle)) first.start ∙ stretch-end i j entries (omega (arith, order)) in
    let backs : G (last_start middle) (end_of middle) ≡ stretch j w entries =
    ap (λ (m : ℕ). G m (end_of middle)) (stretch-last i j entries order fits)
    ∙ (ap (λ (m : ℕ). G (bytes_of (take (j - 1) entries)) m) ends ∙ back.0) in
    ap (with_neighbours entries at removed) found
    ∙ (ap (λ (ss : List Placed). ss ++ (middle ++ G (last_start middle) (end_of middle))) fronts
    ∙ (ap (λ (ss : List Placed). stretch k i entries ++ (middle ++ ss)) backs
    ∙ (ap (λ (ss : List Placed). stretch k i entries ++ ss) (stretch-join i j w entries (omega (arith, order)) back_order)
    ∙ stretch-join k i w entries front_order (omega (arith, order, back_order)))))

pub searches-find : (entries : List Pair) (at removed : ℕ) → HaveBytes entries → at + removed ≤ bytes_of entries →
    with_neighbours entries at removed (met_around entries at removed) ≡ placed (window_start at entries) (window_at entries at removed)
searches-find [] at removed have within =
    ap (λ (ss : List Placed). ss ++ (if nat_lt 0 (at + removed) then [] else [])) (none (nat_lt at 0)) ∙ none (nat_lt 0 (at + removed))
  where
    none : (b : Bool) → ◌≡◌ {A = List Placed} (if b then [] else []) []
    none true = refl
    none false = refl
searches-find (p ∷ ps) at removed have within =
    let sum = sum_by-cons (λ (q : Pair). q.bytes) p ps in
    let byte = have.0 in
    found-some (p ∷ ps) at removed have (omega (arith, sum, byte)) within

-- a window has no entry only where there is none
start-found : (entries : List Pair) (at removed : ℕ) → HaveBytes entries →
    start_of (placed (window_start at entries) (window_at entries at removed)) ≡ window_start at entries
start-found [] at removed have = refl
start-found (p ∷ ps) at removed have =
    let entries = p ∷ ps in
    let some : 0 < suc (length ps) = omega arith in
    let fits : count_ended at entries ≤ suc (length ps) = count_ended-within_list at entries in
    let order = count_ended-count_begun at (at + removed) entries (omega arith) have in
    let inside : count_ended at entries - 1 < suc (length ps) = omega (arith, fits) in
    let first = stretch-first (count_ended at entries - 1)
    (count_begun (at + removed) entries + 1) entries have (omega (arith, order)) inside in
    first.start

-- segments that are the window have its entries and begin where it does
pub segments-found : (entries : List Pair) (at removed : ℕ) (segments : List Placed) → HaveBytes entries →
    segments ≡ placed (window_start at entries) (window_at entries at removed) →
    (pairs_of segments ≡ window_at entries at removed) × (start_of segments ≡ window_start at entries)
segments-found entries at removed segments have found = (
  ap pairs_of found ∙ pairs_of-placed (window_start at entries) (window_at entries at removed),
  ap start_of found ∙ start-found entries at removed have,
)

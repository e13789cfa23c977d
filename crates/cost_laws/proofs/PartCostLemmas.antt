-- The parts of a plan: how many they are, and how many pages the made ones have.
use Rattle.std.proofs.Common.{◌≡◌, ℕ, suc, ◌+◌, ◌-◌, ◌*◌, ◌/◌, ◌%◌, ◌<◌, ◌≤◌, Bool, true, ◌&&◌, List, [], ◌∷◌, ◌++◌}
use Rattle.std.proofs.Common.{length, map, take, drop, replicate, refl, sym, ap, arith, ◌∙◌, inl, inr, length-append}
use Rattle.std.proofs.Common.{length-take, length-drop, nat_eq, nat_lt, sum_by}
use Rattle.std.specs.Prelude.{if◌then◌else◌, min, nat_le}
use Rattle.std.proofs.lemmas.Bool.{cases_Bool, cases_lt, and_parts, eqb-true, eqb-false, ltb-true}
use Rattle.std.proofs.lemmas.List.{length-map, length-replicate}
use Rattle.std.proofs.lemmas.List.Folds.{sum_by-replicate}
use Rattle.std.proofs.lemmas.List.Sums.{sum_by-append, sum_by-cons}
use Rattle.std.proofs.lemmas.Nat.{div-add-mod'}
use Rattle.std.proofs.Math.Nat.{add-mul, mul-le-mul_right}
use Rattle.geometry_model.specs.Numbers.{Numbers, space_pages}
use Rattle.tree_model.specs.declared.entry.Pair.{Pair}
use Rattle.tree_model.specs.Tree.{page_count}
use Rattle.tree_model.proofs.PageCountLaws.{count-behind, count-enough, count-full, count-holds, count-more, count-none}
use Rattle.layout_model.specs.declared.change.Change.{Change}
use Rattle.layout_model.specs.declared.part.Part.{Part}
use Rattle.layout_model.specs.declared.part.Part.TheVariants.{Keep, Make}
use Rattle.layout_model.specs.Pack.{is_small, pack_from, pack}
use Rattle.layout_model.specs.Parts.{part_bytes, head_of, left_of, right_of, one_before, one_after, pieces, parts_of, without_pages}
use Rattle.layout_model.specs.Plan.{made_part_bytes}
use Rattle.layout_laws.proofs.MergingLemmas.{pack_from-merges, pack_from-keeps}
use Rattle.content_laws.specs.Spelling.{HaveBytes}
use Rattle.content_laws.proofs.PlanLemmas.{one_before-cases, one_after-cases, outer_front, outer_back, plan-whole}
use Rattle.change_laws.proofs.LayingLemmas.{merged_plan}

-- ---- pages

-- two rows of bytes as one fill no more pages
pub count-sum : (size a b : ℕ) → 0 < size → page_count size (a + b) ≤ page_count size a + page_count size b
count-sum size a b some =
    let one = count-holds size a some in
    let two = count-holds size b some in
    let rows = add-mul (page_count size a) (page_count size b) size in
    count-enough size (a + b) (page_count size a + page_count size b) some (omega (arith, one, two, rows))

-- a head ends at the next border of a page
head-short : (size at : ℕ) (entries : List Pair) → 0 < size → head_of size at entries ≤ size
head-short size at [] some = omega arith
head-short size at (p ∷ ps) some =
    elim (cases_Bool (nat_le p.bytes at)) [
      | inl behind ↦
          let step : head_of size at (p ∷ ps) ≡ head_of size (at - p.bytes) ps = rw (behind, head_of) in
          let more = head-short size (at - p.bytes) ps some in
          omega (arith, step, more)
      | inr within ↦
          let step : head_of size at (p ∷ ps) ≡ min (page_count size at * size) p.bytes - at =
          rw (within, head_of) in
          let rows = div-add-mod' (at + (size - 1)) size in
          omega (arith, step, rows, some)
    ]

-- ---- what made parts weigh

-- the pages of a made part
abbrev pub made_weight : ℕ → Part → ℕ
made_weight size (Keep p) = 0
made_weight size (Make bytes) = page_count size bytes

-- the pages that a part may bring to those that are made: a kept one brings its own where it is small
abbrev pub weight : ℕ → ℕ → Part → ℕ
weight size least (Keep p) = if nat_lt (page_count size p.bytes) least then page_count size p.bytes else 0
weight size least (Make bytes) = page_count size bytes

pub made-weighs : (size : ℕ) (parts : List Part) → sum_by (page_count size) (made_part_bytes parts) ≡ sum_by (made_weight size) parts
made-weighs size [] = refl
made-weighs size (Keep p ∷ rest) =
    let more = made-weighs size rest in
    let all = sum_by-cons (made_weight size) (Keep p) rest in
    omega (arith, more, all)
made-weighs size (Make bytes ∷ rest) =
    let more = made-weighs size rest in
    let all = sum_by-cons (made_weight size) (Make bytes) rest in
    let one = sum_by-cons (page_count size) bytes (made_part_bytes rest) in
    omega (arith, more, all, one)

made-light : (size least : ℕ) (part : Part) → made_weight size part ≤ weight size least part
made-light size least (Keep p) = omega arith
made-light size least (Make bytes) = omega arith

small-weight : (size least : ℕ) (part : Part) → is_small size least part ≡ true → weight size least part ≡ page_count size (part_bytes part)
small-weight size least (Make bytes) small = refl
small-weight size least (Keep p) small = ap (λ (b : Bool). if b then page_count size p.bytes else 0) small

kept-weight : (size least : ℕ) (p : Pair) → weight size least (Keep p) ≤ least - 1
kept-weight size least p =
    elim (cases_Bool (nat_lt (page_count size p.bytes) least)) [
      | inl small ↦
          let step : weight size least (Keep p) ≡ page_count size p.bytes =
          ap (λ (b : Bool). if b then page_count size p.bytes else 0) small in
          let less = ltb-true (page_count size p.bytes) least small in
          omega (arith, step, less)
      | inr large ↦
          let step : weight size least (Keep p) ≡ 0 = ap (λ (b : Bool). if b then page_count size p.bytes else 0) large in
          omega (arith, step)
    ]

kept-weights : (size least : ℕ) (xs : List Pair) → sum_by (weight size least) (map Keep xs) ≤ length xs * (least - 1)
kept-weights size least [] = omega arith
kept-weights size least (x ∷ xs) =
    let all = sum_by-cons (weight size least) (Keep x) (map Keep xs) in
    let one = kept-weight size least x in
    let more = kept-weights size least xs in
    let rows : suc (length xs) * (least - 1) ≡ (least - 1) + length xs * (least - 1) = grind arith in
    omega (arith, all, one, more, rows)

made-weights : (size least : ℕ) (ns : List ℕ) → sum_by (weight size least) (map Make ns) ≡ sum_by (page_count size) ns
made-weights size least [] = refl
made-weights size least (x ∷ xs) =
    let all = sum_by-cons (weight size least) (Make x) (map Make xs) in
    let one = sum_by-cons (page_count size) x xs in
    let more = made-weights size least xs in
    omega (arith, all, one, more)

-- merging makes no more than the parts weigh
pack_from-light : (size least : ℕ) (part : Part) (rest : List Part) → 0 < size →
    sum_by (made_weight size) (pack_from size least part rest) ≤ weight size least part + sum_by (weight size least) rest
pack_from-light size least part [] some =
    let one = sum_by-cons (made_weight size) part [] in
    let light = made-light size least part in
    omega (arith, one, light)
pack_from-light size least part (next ∷ rest) some =
    let all = sum_by-cons (weight size least) next rest in
    elim (cases_Bool (is_small size least part && is_small size least next)) [
      | inl both ↦
          let tests = and_parts (is_small size least part) (is_small size least next) both in
          let step = ap (sum_by (made_weight size)) (pack_from-merges size least part next rest both) in
          let more = pack_from-light size least (Make (part_bytes part + part_bytes next)) rest some in
          let sum = count-sum size (part_bytes part) (part_bytes next) some in
          let one = small-weight size least part tests.0 in
          let two = small-weight size least next tests.1 in
          omega (arith, all, step, more, sum, one, two)
      | inr apart ↦
          let step = ap (sum_by (made_weight size)) (pack_from-keeps size least part next rest apart) in
          let one = sum_by-cons (made_weight size) part (pack_from size least next rest) in
          let more = pack_from-light size least next rest some in
          let light = made-light size least part in
          omega (arith, all, step, one, more, light)
    ]

pack-light : (size least : ℕ) (parts : List Part) → 0 < size →
    sum_by (made_weight size) (pack size least parts) ≤ sum_by (weight size least) parts
pack-light size least [] some = omega arith
pack-light size least (part ∷ rest) some =
    let all = sum_by-cons (weight size least) part rest in
    let light = pack_from-light size least part rest some in
    omega (arith, all, light)

-- nor more parts
pack_from-few : (size least : ℕ) (part : Part) (rest : List Part) → length (pack_from size least part rest) ≤ suc (length rest)
pack_from-few size least part [] = omega arith
pack_from-few size least part (next ∷ rest) =
    elim (cases_Bool (is_small size least part && is_small size least next)) [
      | inl both ↦
          let step = ap length (pack_from-merges size least part next rest both) in
          let more = pack_from-few size least (Make (part_bytes part + part_bytes next)) rest in
          omega (arith, step, more)
      | inr apart ↦
          let step = ap length (pack_from-keeps size least part next rest apart) in
          let more = pack_from-few size least next rest in
          omega (arith, step, more)
    ]

pack-few : (size least : ℕ) (parts : List Part) → length (pack size least parts) ≤ length parts
pack-few size least [] = omega arith
pack-few size least (part ∷ rest) = pack_from-few size least part rest

-- ---- pieces

-- the pieces of bytes have their pages together
pieces-pages : (size pages bytes : ℕ) → 0 < size → sum_by (page_count size) (pieces (pages * size) bytes) ≡ page_count size bytes
pieces-pages size pages bytes some =
    let most = pages * size in
    let full = bytes / most in
    let rest = bytes % most in
    let last = if nat_eq rest 0 then [] else rest ∷ [] in
    let all = sum_by-append (page_count size) (replicate full most) last in
    let front = sum_by-replicate (page_count size) full most in
    let one : full * page_count size most ≡ full * pages = ap (λ (k : ℕ). full * k) (count-full size pages some) in
    let whole = div-add-mod' bytes most in
    let rows : full * most ≡ full * pages * size = grind arith in
    let split : bytes ≡ full * pages * size + rest = omega (arith, whole, rows) in
    let count : page_count size bytes ≡ full * pages + page_count size rest =
    ap (page_count size) split ∙ count-behind size (full * pages) rest some in
    let behind : sum_by (page_count size) last ≡ page_count size rest = elim (cases_Bool (nat_eq rest 0)) [
      | inl none ↦
          let nothing = eqb-true rest 0 none in
          ap (λ (b : Bool). sum_by (page_count size) (if b then [] else rest ∷ [])) none
          ∙ sym (ap (page_count size) nothing ∙ count-none size some)
      | inr any ↦
          let single = sum_by-cons (page_count size) rest [] in
          let step : sum_by (page_count size) last ≡ sum_by (page_count size) (rest ∷ []) =
          ap (λ (b : Bool). sum_by (page_count size) (if b then [] else rest ∷ [])) any in
          omega (arith, step, single)
    ] in
    omega (arith, all, front, one, count, behind)

-- and are as many as hold them
pieces-count : (most bytes : ℕ) → 0 < most → length (pieces most bytes) ≤ page_count most bytes
pieces-count most bytes some =
    let full = bytes / most in
    let rest = bytes % most in
    let last = if nat_eq rest 0 then [] else rest ∷ [] in
    let all = length-append (replicate full most) last in
    let front = length-replicate full most in
    let whole = div-add-mod' bytes most in
    elim (cases_Bool (nat_eq rest 0)) [
      | inl none ↦
          let nothing = eqb-true rest 0 none in
          let step : length last ≡ 0 = ap (λ (b : Bool). length (if b then [] else rest ∷ [])) none in
          let even : full * most ≡ bytes = omega (arith, whole, nothing) in
          let count : page_count most bytes ≡ full = ap (page_count most) (sym even) ∙ count-full most full some in
          omega (arith, all, front, step, count)
      | inr any ↦
          let byte = eqb-false rest 0 any in
          let step : length last ≡ 1 = ap (λ (b : Bool). length (if b then [] else rest ∷ [])) any in
          elim (cases_lt 0 rest) [
            | inr nothing ↦ absurd (byte (omega (arith, nothing)))
            | inl more ↦
                let count = count-more most bytes full some (omega (arith, whole, more)) in
                omega (arith, all, front, step, count)
          ]
    ]

-- ---- the parts of a change

left-few : (at : ℕ) (entries : List Pair) → length (left_of at entries) ≤ 1
left-few at [] = omega arith
left-few at (p ∷ ps) =
    elim (cases_Bool (nat_le p.bytes at)) [
      | inl behind ↦
          let step : left_of at (p ∷ ps) ≡ left_of (at - p.bytes) ps = rw (behind, left_of) in
          let long = ap length step in
          let more = left-few (at - p.bytes) ps in
          omega (arith, long, more)
      | inr within ↦
          elim (cases_Bool (nat_eq at 0)) [
            | inl first ↦
                let step : left_of at (p ∷ ps) ≡ [] = rw (within, first, left_of) in
                let long = ap length step in
                omega (arith, long)
            | inr inside ↦
                let step : left_of at (p ∷ ps) ≡ record { bytes = at; page = p.page } ∷ [] = rw (within, inside, left_of) in
                let long = ap length step in
                omega (arith, long)
          ]
    ]

without-few : (size pages : ℕ) (p : Pair) → length (without_pages size pages p) ≤ 1
without-few size pages p =
    elim (cases_Bool (nat_lt (pages * size) p.bytes)) [
      | inl more ↦
          let step : without_pages size pages p ≡ record { bytes = p.bytes - pages * size; page = p.page + pages } ∷ [] =
          rw (more, without_pages) in
          let long = ap length step in
          omega (arith, long)
      | inr none ↦
          let step : without_pages size pages p ≡ [] = rw (none, without_pages) in
          let long = ap length step in
          omega (arith, long)
    ]

right-few : (size at : ℕ) (entries : List Pair) → length (right_of size at entries) ≤ 1
right-few size at [] = omega arith
right-few size at (p ∷ ps) =
    elim (cases_Bool (nat_le p.bytes at)) [
      | inl behind ↦
          let step : right_of size at (p ∷ ps) ≡ right_of size (at - p.bytes) ps = rw (behind, right_of) in
          let long = ap length step in
          let more = right-few size (at - p.bytes) ps in
          omega (arith, long, more)
      | inr within ↦
          elim (cases_Bool (nat_eq at 0)) [
            | inl first ↦
                let step : right_of size at (p ∷ ps) ≡ [] = rw (within, first, right_of) in
                let long = ap length step in
                omega (arith, long)
            | inr inside ↦
                let step : right_of size at (p ∷ ps) ≡ without_pages size (page_count size at) p = rw (within, inside, right_of) in
                let long = ap length step in
                let few = without-few size (page_count size at) p in
                omega (arith, long, few)
          ]
    ]

before-few : (at : ℕ) (entries : List Pair) → length (one_before at entries) ≤ 1
before-few at entries =
    elim (one_before-cases at entries) [
      | inl none ↦ let long = ap length none in omega (arith, long)
      | inr one ↦ let long = ap length one.2 in omega (arith, long)
    ]

after-few : (at : ℕ) (entries : List Pair) → length (one_after at entries) ≤ 1
after-few at entries =
    elim (one_after-cases at entries) [
      | inl none ↦ let long = ap length none in omega (arith, long)
      | inr one ↦ let long = ap length one.1 in omega (arith, long)
    ]

-- what the parts of a change weigh: the new bytes with their head, and four kept ones that are small; and how many they are
pub record IsLight (size least most : ℕ) (change : Change) (parts : List Part) : Type 0 where
  pub pages : sum_by (weight size least) parts ≤ page_count size change.added + 1 + 4 * (least - 1)
  pub count : length parts ≤ page_count most change.added + 5

parts-light : (size least pages : ℕ) (entries : List Pair) (change : Change) → 0 < size → 0 < pages →
    IsLight size least (pages * size) change (parts_of size (pages * size) entries change.at change.removed change.added)
parts-light size least pages entries change some any =
    let most = pages * size in
    let at = change.at in
    let end = change.at + change.removed in
    let front = one_before at entries ++ left_of at entries in
    let back = right_of size end entries ++ one_after end entries in
    let head = head_of size end entries in
    let bytes = change.added + head in
    let made = map Make (pieces most bytes) in
    let W = sum_by (weight size least) in
    let rows : 1 * size ≤ most = mul-le-mul_right size (omega (arith, any)) in
    let wide : 0 < most = omega (arith, rows, some) in
    let front_long = length-append (one_before at entries) (left_of at entries) in
    let back_long = length-append (right_of size end entries) (one_after end entries) in
    let b = before-few at entries in
    let l = left-few at entries in
    let r = right-few size end entries in
    let a = after-few end entries in
    let short = head-short size end entries some in
    let head_page = count-enough size head 1 some (omega (arith, short)) in
    let head_piece = count-enough most head 1 wide (omega (arith, short, rows)) in
    let page = count-sum size change.added head some in
    let piece = count-sum most change.added head wide in
    let one = sum_by-append (weight size least) (map Keep front) (made ++ map Keep back) in
    let two = sum_by-append (weight size least) made (map Keep back) in
    let kept = kept-weights size least front in
    let kept2 = kept-weights size least back in
    let four : length front * (least - 1) ≤ 2 * (least - 1) = mul-le-mul_right (least - 1) (omega (arith, front_long, b, l)) in
    let four2 : length back * (least - 1) ≤ 2 * (least - 1) = mul-le-mul_right (least - 1) (omega (arith, back_long, r, a)) in
    let new : W made ≡ page_count size bytes = made-weights size least (pieces most bytes) ∙ pieces-pages size pages bytes some in
    let count1 = length-append (map Keep front) (made ++ map Keep back) in
    let count2 = length-append made (map Keep back) in
    let long_front = length-map front Keep in
    let long_back = length-map back Keep in
    let long_made = length-map (pieces most bytes) Make in
    let pieces_few = pieces-count most bytes wide in
    let sides : length (map Keep front ++ (made ++ map Keep back)) ≡ length (map Keep front) + (length made + length (map Keep back)) =
    omega (arith, count1, count2) in
    let sides_few : length front + length back ≤ 4 = omega (arith, front_long, back_long, b, l, r, a) in
    record {
      pages = omega (arith, one, two, kept, kept2, four, four2, new, page, head_page);
      count = omega (arith, sides, sides_few, long_front, long_back, long_made, pieces_few, piece, head_piece);
    }

-- ---- the plan of a change

kept-none : (size : ℕ) (xs : List Pair) → sum_by (made_weight size) (map Keep xs) ≡ 0
kept-none size [] = refl
kept-none size (x ∷ xs) =
    let all = sum_by-cons (made_weight size) (Keep x) (map Keep xs) in
    let more = kept-none size xs in
    omega (arith, all, more)

-- between kept parts just the made ones weigh
between : (size : ℕ) (xs ys : List Pair) (parts : List Part) →
    sum_by (made_weight size) (map Keep xs ++ (parts ++ map Keep ys)) ≡ sum_by (made_weight size) parts
between size xs ys parts =
    let one = sum_by-append (made_weight size) (map Keep xs) (parts ++ map Keep ys) in
    let two = sum_by-append (made_weight size) parts (map Keep ys) in
    let front = kept-none size xs in
    let back = kept-none size ys in
    omega (arith, one, two, front, back)

taken-few : (k j : ℕ) (parts : List Part) → length (take k (drop j parts)) ≤ length parts
taken-few k j parts =
    let one = length-take k (drop j parts) in
    let two = length-drop j parts in
    omega (arith, one, two)

-- a plan whose parts are merged: the pages of its made parts, and how many parts it has
pub record IsSmallPlan (n : Numbers) (least : ℕ) (entries : List Pair) (pages : ℕ) (change : Change) : Type 0 where
  pub made : sum_by (page_count n.page) (made_part_bytes (merged_plan n least entries pages change).parts)
      ≤ page_count n.page change.added + 1 + 4 * (least - 1)
  pub count : length (merged_plan n least entries pages change).parts ≤ page_count (space_pages n * n.page) change.added + 5

pub plan-small : (n : Numbers) (least : ℕ) (entries : List Pair) (pages : ℕ) (change : Change) → 0 < n.page → 0 < space_pages n →
    HaveBytes entries → IsSmallPlan n least entries pages change
plan-small n least entries pages change some space have =
    let size = n.page in
    let most = space_pages n * size in
    let parts = parts_of size most entries change.at change.removed change.added in
    let packed = pack size least parts in
    let plan = merged_plan n least entries pages change in
    let light = parts-light size least (space_pages n) entries change some space in
    let whole = ap (sum_by (made_weight size)) (plan-whole size least most entries pages change have) in
    let inner = between size (take plan.from entries) (drop (plan.from + plan.count) entries) plan.parts in
    let outer = between size (outer_front change.at entries) (outer_back (change.at + change.removed) entries) packed in
    let weighs = made-weighs size plan.parts in
    let less = pack-light size least parts some in
    let few = pack-few size least parts in
    let bound = light.pages in
    let number = light.count in
    let cut : length plan.parts ≤ length packed = taken-few _ _ packed in
    record {
      made = omega (arith, whole, inner, outer, weighs, less, bound);
      count = omega (arith, few, number, cut);
    }

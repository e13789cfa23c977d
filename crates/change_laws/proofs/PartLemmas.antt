-- The parts of a change, merged or not: what is kept are segments of the store on pages that were used, and what is
-- made fits into a space.
use Rattle.std.proofs.Common.{◌≡◌, ℕ, ◌+◌, ◌*◌, ◌/◌, ◌%◌, ◌<◌, ◌≤◌, true, ◌&&◌, List, [], ◌∷◌, ◌++◌, map}
use Rattle.std.proofs.Common.{replicate, refl, sym, ap, subst, arith, ◌∙◌, inl, inr, nat_eq}
use Rattle.std.specs.List.{AllByRecursion}
use Rattle.std.proofs.lemmas.Bool.{cases_Bool, cases_lt, ltb-true, eqb-false, and_parts}
use Rattle.std.proofs.lemmas.Nat.{mod_below, mul-le}
use Rattle.std.proofs.Math.Nat.{add-mul, mul-le-mul_right}
use Rattle.geometry_model.specs.Numbers.{Numbers, space_pages}
use Rattle.tree_model.specs.declared.entry.Pair.{Pair}
use Rattle.tree_model.specs.Tree.{page_count, IsSegment}
use Rattle.layout_model.specs.declared.part.Part.{Part}
use Rattle.layout_model.specs.declared.part.Part.TheVariants.{Keep, Make}
use Rattle.layout_model.specs.declared.change.Change.{Change}
use Rattle.layout_model.specs.Parts.{part_bytes, head_of, pieces, parts_of}
use Rattle.layout_model.specs.Pack.{is_small, pack_from, pack}
use Rattle.layout_model.specs.Plan.{plan_packed}
use Rattle.layout_laws.proofs.MergingLemmas.{pack_from-merges, pack_from-keeps}
use Rattle.content_laws.specs.Spelling.{HaveBytes, all_parts}
use Rattle.tree_model.proofs.PageCountLaws.{count-holds}
use Rattle.content_laws.proofs.SideLemmas.{front, back}
use Rattle.content_laws.proofs.PlanLemmas.{outer_front, outer_back, plan-whole, window-whole}
use Rattle.base_laws.proofs.ListLaws.{all-append, all-map}
use Rattle.change_laws.proofs.SizeLemmas.{all-same}
use Rattle.change_laws.proofs.PieceLemmas.{back-segments, front-segments, segments_uses, segments_uses-append}
use Rattle.change_laws.proofs.PieceLemmas.{segments_uses-cons, sides-uses}

-- ---- parts

-- a kept part is a segment of the store, and a made one has a byte and fits into a space
abbrev pub GoodPart : Numbers → Part → Type 0
GoodPart n (Keep p) = IsSegment n p
GoodPart n (Make bytes) = (1 ≤ bytes) × (bytes ≤ space_pages n * n.page)

-- the kept ones of some parts
abbrev pub keeps : List Part → List Pair
keeps [] = []
keeps (Keep p ∷ rest) = p ∷ keeps rest
keeps (Make bytes ∷ rest) = keeps rest

pub part-some : (n : Numbers) (part : Part) → GoodPart n part → 1 ≤ part_bytes part
part-some n (Keep p) good = good.some
part-some n (Make bytes) good = good.0

-- two small parts as one
merged-good : (n : Numbers) (least : ℕ) (part next : Part) → 0 < n.page → 2 * least ≤ space_pages n → GoodPart n part → GoodPart n next →
    (is_small n.page least part && is_small n.page least next) ≡ true → GoodPart n (Make (part_bytes part + part_bytes next))
merged-good n least part next some high good good2 both =
    let tests = and_parts (is_small n.page least part) (is_small n.page least next) both in
    let few = ltb-true (page_count n.page (part_bytes part)) least tests.0 in
    let few2 = ltb-true (page_count n.page (part_bytes next)) least tests.1 in
    let holds = count-holds n.page (part_bytes part) some in
    let holds2 = count-holds n.page (part_bytes next) some in
    let rows : page_count n.page (part_bytes part) * n.page ≤ least * n.page = mul-le-mul_right n.page (omega (arith, few)) in
    let rows2 : page_count n.page (part_bytes next) * n.page ≤ least * n.page = mul-le-mul_right n.page (omega (arith, few2)) in
    let twice : (least + least) * n.page ≡ least * n.page + least * n.page = add-mul least least n.page in
    let space : (least + least) * n.page ≤ space_pages n * n.page = mul-le-mul_right n.page (omega (arith, high)) in
    let one = part-some n part good in
    (omega (arith, one), omega (arith, holds, holds2, rows, rows2, twice, space))

pack_from-good : (n : Numbers) (least : ℕ) (part : Part) (rest : List Part) → 0 < n.page →
    2 * least ≤ space_pages n → GoodPart n part → AllByRecursion (GoodPart n) rest →
    AllByRecursion (GoodPart n) (pack_from n.page least part rest)
pack_from-good n least part [] some high good all = (good, tt)
pack_from-good n least part (next ∷ rest) some high good all =
    elim (cases_Bool (is_small n.page least part && is_small n.page least next)) [
      | inl both ↦
          subst (AllByRecursion (GoodPart n)) (sym (pack_from-merges n.page least part next rest both))
          (pack_from-good n least (Make (part_bytes part + part_bytes next)) rest some high
          (merged-good n least part next some high good all.0 both) all.1)
      | inr apart ↦
          subst (AllByRecursion (GoodPart n)) (sym (pack_from-keeps n.page least part next rest apart))
          (good, pack_from-good n least next rest some high all.0 all.1)
    ]

pub pack-good : (n : Numbers) (least : ℕ) (parts : List Part) → 0 < n.page → 2 * least ≤ space_pages n → AllByRecursion (GoodPart n) parts →
    AllByRecursion (GoodPart n) (pack n.page least parts)
pack-good n least [] some high all = tt
pack-good n least (part ∷ rest) some high all = pack_from-good n least part rest some high all.0 all.1

keeps-front : (part : Part) (rest : List Part) (page size : ℕ) →
    segments_uses page size (keeps rest) ≤ segments_uses page size (keeps (part ∷ rest))
keeps-front (Keep p) rest page size = let one = segments_uses-cons page size p (keeps rest) in omega (arith, one)
keeps-front (Make bytes) rest page size = omega arith

keeps-after : (part : Part) (xs ys : List Part) (page size : ℕ) → segments_uses page size (keeps xs) ≤ segments_uses page size (keeps ys) →
    segments_uses page size (keeps (part ∷ xs)) ≤ segments_uses page size (keeps (part ∷ ys))
keeps-after (Keep p) xs ys page size less =
    let one = segments_uses-cons page size p (keeps xs) in
    let two = segments_uses-cons page size p (keeps ys) in
    omega (arith, one, two, less)
keeps-after (Make bytes) xs ys page size less = less

-- merging keeps no more
pack_from-uses : (page size least : ℕ) (part : Part) (rest : List Part) →
    segments_uses page size (keeps (pack_from size least part rest)) ≤ segments_uses page size (keeps (part ∷ rest))
pack_from-uses page size least part [] = omega arith
pack_from-uses page size least part (next ∷ rest) =
    let P : List Part → Type 0 = λ parts. segments_uses page size (keeps parts) ≤ segments_uses page size (keeps (part ∷ next ∷ rest)) in
    elim (cases_Bool (is_small size least part && is_small size least next)) [
      | inl both ↦
          let more = pack_from-uses page size least (Make (part_bytes part + part_bytes next)) rest in
          let first = keeps-front part (next ∷ rest) page size in
          let second = keeps-front next rest page size in
          let less : segments_uses page size (keeps
          (pack_from size least (Make (part_bytes part + part_bytes next)) rest)) ≤ segments_uses page size
          (keeps rest) = more in
          subst P (sym (pack_from-merges size least part next rest both)) (omega (arith, less, first, second))
      | inr apart ↦
          subst P (sym (pack_from-keeps size least part next rest apart))
          (keeps-after part (pack_from size least next rest)
          (next ∷ rest) page size (pack_from-uses page size least next rest))
    ]

pub pack-uses : (page size least : ℕ) (parts : List Part) →
    segments_uses page size (keeps (pack size least parts)) ≤ segments_uses page size (keeps parts)
pack-uses page size least [] = omega arith
pack-uses page size least (part ∷ rest) = pack_from-uses page size least part rest

pub keeps-append : (xs ys : List Part) → keeps (xs ++ ys) ≡ keeps xs ++ keeps ys
keeps-append [] ys = refl
keeps-append (Keep p ∷ xs) ys = ap (λ (zs : List Pair). p ∷ zs) (keeps-append xs ys)
keeps-append (Make bytes ∷ xs) ys = keeps-append xs ys

pub keeps-kept : (xs : List Pair) → keeps (map Keep xs) ≡ xs
keeps-kept [] = refl
keeps-kept (x ∷ xs) = ap (λ (zs : List Pair). x ∷ zs) (keeps-kept xs)

pub keeps-made : (ns : List ℕ) → keeps (map Make ns) ≡ []
keeps-made [] = refl
keeps-made (x ∷ xs) = keeps-made xs

-- ---- the parts of a change

good-kept : (n : Numbers) (xs : List Pair) → AllByRecursion (IsSegment n) xs → AllByRecursion (GoodPart n) (map Keep xs)
good-kept n [] all = tt
good-kept n (x ∷ xs) all = (all.0, good-kept n xs all.1)

good-made : (n : Numbers) (ns : List ℕ) → AllByRecursion (λ k. (1 ≤ k) × (k ≤ space_pages n * n.page)) ns →
    AllByRecursion (GoodPart n) (map Make ns)
good-made n [] all = tt
good-made n (x ∷ xs) all = (all.0, good-made n xs all.1)

pieces-good : (most bytes : ℕ) → 0 < most → AllByRecursion (λ k. (1 ≤ k) × (k ≤ most)) (pieces most bytes)
pieces-good most bytes some =
    let P : ℕ → Type 0 = λ k. (1 ≤ k) × (k ≤ most) in
    let full : AllByRecursion P (replicate (bytes / most) most) =
    all-same P (bytes / most) most (λ any. (omega (arith, some), omega arith)) in
    elim (cases_Bool (nat_eq (bytes % most) 0)) [
      | inl none ↦
          let step : pieces most bytes ≡ replicate (bytes / most) most ++ [] = rw (none, pieces) in
          subst (AllByRecursion P) (sym step) (all-append P (replicate (bytes / most) most) [] full tt)
      | inr rest ↦
          let any = eqb-false (bytes % most) 0 rest in
          let low : 1 ≤ bytes % most = elim (cases_lt 0 (bytes % most)) [
            | inl byte ↦ omega (arith, byte)
            | inr nothing ↦ absurd (any (omega (arith, nothing)))
          ] in
          let below = mod_below bytes most some in
          let step : pieces most bytes ≡ replicate (bytes / most) most ++ (bytes % most ∷ []) = rw (rest, pieces) in
          subst (AllByRecursion P) (sym step) (all-append P (replicate (bytes / most) most)
          (bytes % most ∷ []) full ((low, omega (arith, below)), tt))
    ]

pub all-left : {X : Type 0} (P : X → Type 0) (xs ys : List X) → AllByRecursion P (xs ++ ys) → AllByRecursion P xs
all-left P [] ys all = tt
all-left P (x ∷ xs) ys all = (all.0, all-left P xs ys all.1)

pub all-right : {X : Type 0} (P : X → Type 0) (xs ys : List X) → AllByRecursion P (xs ++ ys) → AllByRecursion P ys
all-right P [] ys all = all
all-right P (x ∷ xs) ys all = all-right P xs ys all.1

-- entries that are segments of the store have bytes
pub segments-have : (n : Numbers) (entries : List Pair) → AllByRecursion (IsSegment n) entries → HaveBytes entries
segments-have n entries all = all-map (IsSegment n) (λ p. 1 ≤ p.bytes) (λ p is. is.some) entries all

-- all parts in the plan of a change
pub plan-good : (n : Numbers) (least spare : ℕ) (entries : List Pair) (change : Change) → 0 < n.page →
    0 < space_pages n → 2 * least ≤ space_pages n → AllByRecursion (IsSegment n) entries →
    AllByRecursion (GoodPart n) (all_parts entries
    (plan_packed n.page entries spare change
    (pack n.page least (parts_of n.page (space_pages n * n.page) entries change.at change.removed
    change.added))))
plan-good n least spare entries change some space high all =
    let a = change.at in
    let e = change.at + change.removed in
    let most = space_pages n * n.page in
    let have = segments-have n entries all in
    let window = parts_of n.page most entries a change.removed change.added in
    let fs = map Keep (outer_front a entries) in
    let bs = map Keep (outer_back e entries) in
    let rows : 1 * 1 ≤ most = mul-le 1 1 (space_pages n) n.page (omega (arith, space)) (omega (arith, some)) in
    let made = map Make (pieces most (change.added + head_of n.page e entries)) in
    let sides : AllByRecursion (GoodPart n) (map Keep (front a entries) ++ (made ++ map Keep (back n.page e entries))) =
    all-append (GoodPart n) (map Keep (front a entries)) (made ++ map Keep (back n.page e entries))
    (good-kept n (front a entries) (front-segments n a entries some all))
    (all-append (GoodPart n) made (map Keep (back n.page e entries))
    (good-made n (pieces most (change.added + head_of n.page e entries))
    (pieces-good most (change.added + head_of n.page e entries) (omega (arith, rows))))
    (good-kept n (back n.page e entries) (back-segments n e entries some all))) in
    let whole : AllByRecursion (GoodPart n) (fs ++ (window ++ bs)) =
    subst (AllByRecursion (GoodPart n)) (sym
    (window-whole n.page most entries a change.removed change.added have)) sides in
    let rest = all-right (GoodPart n) fs (window ++ bs) whole in
    let packed = pack-good n least window some high (all-left (GoodPart n) window bs rest) in
    subst (AllByRecursion (GoodPart n)) (sym (plan-whole n.page least most entries spare change have))
    (all-append (GoodPart n) fs (pack n.page least window ++ bs) (all-left (GoodPart n) fs (window ++ bs) whole)
    (all-append (GoodPart n) (pack n.page least window) bs packed (all-right (GoodPart n) window bs rest)))

-- and they keep the pages of the entries, each once
pub plan-uses : (page size least most spare : ℕ) (entries : List Pair) (change : Change) → 0 < size → HaveBytes entries →
    segments_uses page size (keeps (all_parts entries
    (plan_packed size entries spare change
    (pack size least (parts_of size most entries change.at change.removed change.added)))))
    ≤ segments_uses page size entries
plan-uses page size least most spare entries change some have =
    let a = change.at in
    let e = change.at + change.removed in
    let U : List Part → ℕ = λ parts. segments_uses page size (keeps parts) in
    let window = parts_of size most entries a change.removed change.added in
    let fs = map Keep (outer_front a entries) in
    let bs = map Keep (outer_back e entries) in
    let made = map Make (pieces most (change.added + head_of size e entries)) in
    let join : (xs ys : List Part) → U (xs ++ ys) ≡ U xs + U ys =
    λ xs ys. ap (segments_uses page size) (keeps-append xs ys)
    ∙ segments_uses-append page size (keeps xs) (keeps ys) in
    let new : U (all_parts entries (plan_packed size entries spare change (pack size least window)))
    ≡ U (fs ++ (pack size least window ++ bs)) = ap U (plan-whole size least most entries spare change have) in
    let old : U (fs ++ (window ++ bs)) ≡ U (map Keep (front a entries)
    ++ (made ++ map Keep (back size e entries))) =
    ap U (window-whole size most entries a change.removed change.added have) in
    let new1 = join fs (pack size least window ++ bs) in
    let new2 = join (pack size least window) bs in
    let old1 = join fs (window ++ bs) in
    let old2 = join window bs in
    let less = pack-uses page size least window in
    let sides1 = join (map Keep (front a entries)) (made ++ map Keep (back size e entries)) in
    let sides2 = join made (map Keep (back size e entries)) in
    let fronts : U (map Keep (front a entries)) ≡ segments_uses page size (front a entries) =
    ap (segments_uses page size) (keeps-kept (front a entries)) in
    let backs : U (map Keep (back size e entries)) ≡ segments_uses page size (back size e entries) =
    ap (segments_uses page size) (keeps-kept (back size e entries)) in
    let none : U made ≡ 0 = ap (segments_uses page size) (keeps-made (pieces most (change.added + head_of size e entries))) in
    let bound = sides-uses page size a e entries some (omega arith) in
    omega (arith, new, old, new1, new2, old1, old2, less, sides1, sides2, fronts, backs, none, bound)

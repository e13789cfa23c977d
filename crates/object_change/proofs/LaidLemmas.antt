-- The entries of a plan on its runs: their bytes, and that each has one.
use Rattle.std.proofs.Common.{inl, inr, ◌≡◌, ℕ, ◌+◌, ◌-◌, ◌*◌, ◌<◌, ◌≤◌, min, List, [], ◌∷◌, ◌++◌, map, sum, take, drop}
use Rattle.std.proofs.Common.{refl, sym, ap, subst, arith, ◌∙◌}
use Rattle.std.specs.List.{AllByRecursion}
use Rattle.std.proofs.lemmas.Bool.{cases_lt}
use Rattle.std.proofs.lemmas.List.{drop-map, take-map}
use Rattle.std.proofs.lemmas.List.Sums.{sum_by-append, sum_by-cons}
use Rattle.std.proofs.lemmas.Nat.{mul-le}
use Rattle.base_laws.proofs.ListLaws.{all-append}
use Rattle.tree_model.specs.declared.entry.Pair.{Pair}
use Rattle.tree_model.specs.Tree.{bytes_of, page_count}
use Rattle.tree_model.proofs.PageCountLaws.{count-holds, count-none, count-some}
use Rattle.content_laws.specs.Spelling.{HaveBytes}
use Rattle.layout_model.specs.declared.extent.Extent.{Extent}
use Rattle.layout_model.specs.declared.request.Request.{Request}
use Rattle.layout_model.specs.Layout.{laid_parts, segments_on}
use Rattle.layout_model.specs.Parts.{part_bytes}
use Rattle.layout_model.specs.Plan.{made_part_bytes}
use Rattle.layout_laws.specs.Merging.{parts_bytes}
use Rattle.change_laws.proofs.SegmentLemmas.{count-minus}
use Rattle.edit_parts.specs.declared.part.Part.{Part}
use Rattle.edit_parts.specs.declared.part.Part.TheVariants.{Keep, Make}
use Rattle.edit_parts.specs.Parts.{layout_part}
use Rattle.edit_parts.specs.Pieces.{pieces_bytes}
use Rattle.part_store.specs.Asking.{AreOfAll, AreRowsOf, IsAskable, rows}
use Rattle.written_laws.proofs.AskedLemmas.{one-run}

-- a part has a byte
abbrev pub HasByte : Part → Type 0
HasByte part = 1 ≤ part_bytes (layout_part part)

abbrev pages_of : List Extent → List ℕ
pages_of runs = map (λ run. run.pages) runs

-- entries with so many bytes together, each with one at least
pub record HaveAll (bytes : ℕ) (entries : List Pair) : Type 0 where
  pub count : bytes_of entries ≡ bytes
  pub some : HaveBytes entries

-- ---- one part

segments-count : (size bytes : ℕ) (runs : List Extent) → bytes ≤ sum (pages_of runs) * size → bytes_of (segments_on size bytes runs) ≡ bytes
segments-count size bytes [] fits = omega (arith, fits)
segments-count size bytes (run ∷ rest) fits =
    let first : Pair = record { bytes = min bytes (run.pages * size); page = run.page } in
    let one = sum_by-cons (λ (p : Pair). p.bytes) first (segments_on size (bytes - run.pages * size) rest) in
    let all = sum_by-cons (λ (k : ℕ). k) run.pages (pages_of rest) in
    let spread : (run.pages + sum (pages_of rest)) * size ≡ run.pages * size + sum (pages_of rest) * size = omega arith in
    let rows : sum (pages_of (run ∷ rest)) * size ≡ (run.pages + sum (pages_of rest)) * size = ap (λ (k : ℕ). k * size) all in
    let more = segments-count size (bytes - run.pages * size) rest (omega (arith, fits, rows, spread)) in
    omega (arith, one, more)

-- runs with just the pages of the bytes, each with one at least
segments-some : (size bytes : ℕ) (runs : List Extent) → 0 < size → sum (pages_of runs) ≡ page_count size bytes →
    AllByRecursion (λ k. 1 ≤ k) (pages_of runs) → HaveBytes (segments_on size bytes runs)
segments-some size bytes [] some whole each = tt
segments-some size bytes (run ∷ rest) some whole each =
    let all = sum_by-cons (λ (k : ℕ). k) run.pages (pages_of rest) in
    let page : 1 ≤ run.pages = each.0 in
    let byte : 1 ≤ bytes = elim (cases_lt 0 bytes) [
      | inl more ↦ omega (arith, more)
      | inr none ↦
          let nothing : bytes ≡ 0 = omega (arith, none) in
          let no_page : page_count size bytes ≡ 0 = ap (page_count size) nothing ∙ count-none size some in
          absurd (omega (arith, no_page, whole, all, page))
    ] in
    let one : 1 * 1 ≤ run.pages * size = mul-le 1 1 run.pages size page (omega (arith, some)) in
    let left = count-minus size bytes run.pages some in
    (omega (arith, byte, one), segments-some size (bytes - run.pages * size) rest some (omega (arith, whole, all, left)) each.1)

each-some : (least : ℕ) (ks : List ℕ) → 1 ≤ least → AllByRecursion (λ k. least ≤ k) ks → AllByRecursion (λ k. 1 ≤ k) ks
each-some least [] some all = tt
each-some least (k ∷ ks) some all = (let here = all.0 in omega (arith, here, some), each-some least ks some all.1)

-- one run that has the pages of the bytes
pub one-all : (size bytes : ℕ) (run : Extent) → 0 < size → 1 ≤ bytes → page_count size bytes ≤ run.pages →
    HaveAll bytes (segments_on size bytes (run ∷ []))
one-all size bytes run some byte enough =
    let holds = count-holds size bytes some in
    let page = count-some size bytes some byte in
    let all = sum_by-cons (λ (k : ℕ). k) run.pages [] in
    let rows = mul-le (page_count size bytes) size run.pages size enough (omega arith) in
    let same : sum (pages_of (run ∷ [])) * size ≡ (run.pages + 0) * size = ap (λ (k : ℕ). k * size) all in
    let plain : (run.pages + 0) * size ≡ run.pages * size = omega arith in
    let one : 1 * 1 ≤ run.pages * size = mul-le 1 1 run.pages size (omega (arith, page, enough)) (omega (arith, some)) in
    record {
      count = segments-count size bytes (run ∷ []) (omega (arith, holds, rows, same, plain));
      some = (omega (arith, byte, one), tt);
    }

row-all : (size threshold bytes want : ℕ) (runs : List Extent) → 0 < size → 1 ≤ threshold → 1 ≤ bytes → page_count size bytes ≤ want →
    AreRowsOf threshold (record { want = want; need = page_count size bytes }) (pages_of runs) → HaveAll bytes (segments_on size bytes runs)
row-all size threshold bytes want runs some least byte wish (inl whole) =
    let one = one-run want runs whole in
    subst (λ (rs : List Extent). HaveAll bytes (segments_on size bytes rs)) (sym one.1)
    (one-all size bytes one.0 some byte (omega (arith, one.2, wish)))
row-all size threshold bytes want runs some least byte wish (inr halves) =
    let holds = count-holds size bytes some in
    let page = count-some size bytes some byte in
    let whole = halves.0 in
    let rows : sum (pages_of runs) * size ≡ page_count size bytes * size = ap (λ (k : ℕ). k * size) whole in
    record {
      count = segments-count size bytes runs (omega (arith, holds, rows));
      some = segments-some size bytes runs some whole
          (each-some (min (page_count size bytes) threshold) (pages_of runs) (omega (arith, page, least)) halves.1);
    }

-- ---- all parts

all-both : (a b : ℕ) (xs ys : List Pair) → HaveAll a xs → HaveAll b ys → HaveAll (a + b) (xs ++ ys)
all-both a b xs ys one two = record {
  count = (let both = sum_by-append (λ (p : Pair). p.bytes) xs ys in let x = one.count in let y = two.count in omega (arith, both, x, y));
  some = all-append (λ (p : Pair). 1 ≤ p.bytes) xs ys one.some two.some;
}

all-kept : (pair : Pair) (b : ℕ) (ys : List Pair) → 1 ≤ pair.bytes → HaveAll b ys → HaveAll (pair.bytes + b) (pair ∷ ys)
all-kept pair b ys some two = record {
  count = (let one = sum_by-cons (λ (p : Pair). p.bytes) pair ys in let y = two.count in omega (arith, one, y));
  some = (some, two.some);
}

pub laid-all : (size limit threshold : ℕ) (parts : List Part) (requests : List Request) (counts : List ℕ) (runs : List Extent) → 0 < size →
    1 ≤ threshold → map (λ (r : Request). r.need) requests ≡ map (page_count size) (made_part_bytes (map layout_part parts)) →
    AllByRecursion (IsAskable limit) requests → AreOfAll threshold requests (rows counts (pages_of runs)) →
    AllByRecursion HasByte parts → HaveAll (parts_bytes (map layout_part parts)) (laid_parts size (map layout_part parts)
    (rows counts runs))
laid-all size limit threshold [] requests counts runs some least needs asked suited bytes = record { count = refl; some = tt }
laid-all size limit threshold (Keep pair ∷ parts) requests counts runs some least needs asked suited bytes =
    all-kept pair (parts_bytes (map layout_part parts)) (laid_parts size (map layout_part parts) (rows counts runs)) bytes.0
    (laid-all size limit threshold parts requests counts runs some least needs asked suited bytes.1)
laid-all size limit threshold (Make pieces ∷ parts) [] counts runs some least needs asked suited bytes =
    let never : [] ≡ page_count size (pieces_bytes pieces) ∷ map (page_count size) (made_part_bytes (map layout_part parts)) = needs in
    absurd (cc)
laid-all size limit threshold (Make pieces ∷ parts) (request ∷ requests) [] runs some least needs asked suited bytes = absurd suited
laid-all size limit threshold (Make pieces ∷ parts) (request ∷ requests) (k ∷ counts) runs some least needs asked suited bytes =
    let own = take k runs in
    let all : request.need ∷ map (λ (r : Request). r.need) requests
    ≡ page_count size (pieces_bytes pieces) ∷ map (page_count size) (made_part_bytes (map layout_part parts)) = needs in
    let need : request.need ≡ page_count size (pieces_bytes pieces) = cc in
    let needs_left : map (λ (r : Request). r.need) requests ≡ map (page_count size) (made_part_bytes (map layout_part parts)) = cc in
    let wish = asked.0.wish in
    let row = subst (AreRowsOf threshold request) (take-map (λ (run : Extent). run.pages) k runs) suited.0 in
    let row2 = subst (λ (j : ℕ). AreRowsOf threshold (record { want = request.want; need = j }) (pages_of own)) need row in
    all-both (pieces_bytes pieces) (parts_bytes (map layout_part parts)) (segments_on size (pieces_bytes pieces) own)
    (laid_parts size (map layout_part parts) (rows counts (drop k runs)))
    (row-all size threshold (pieces_bytes pieces) request.want own some least bytes.0 (omega (arith, need, wish)) row2)
    (laid-all size limit threshold parts requests counts (drop k runs) some least needs_left asked.1
    (subst (λ (ks : List ℕ). AreOfAll threshold requests (rows counts ks)) (drop-map (λ (run : Extent). run.pages) k runs) suited.1)
    bytes.1)

-- parts of which none is made
pub kept-all : (size : ℕ) (parts : List Part) (runs : List (List Extent)) → made_part_bytes (map layout_part parts) ≡ [] →
    AllByRecursion HasByte parts → HaveAll (parts_bytes (map layout_part parts)) (laid_parts size (map layout_part parts) runs)
kept-all size [] runs none bytes = record { count = refl; some = tt }
kept-all size (Keep pair ∷ parts) runs none bytes =
    all-kept pair (parts_bytes (map layout_part parts)) (laid_parts size (map layout_part parts) runs) bytes.0
    (kept-all size parts runs none bytes.1)
kept-all size (Make pieces ∷ parts) runs none bytes =
    let some : pieces_bytes pieces ∷ made_part_bytes (map layout_part parts) ≡ [] = none in absurd (cc)

-- parts of which one is made, on one run
pub spare-all : (size bytes : ℕ) (parts : List Part) (run : Extent) → 0 < size → made_part_bytes (map layout_part parts) ≡ bytes ∷ [] →
    page_count size bytes ≤ run.pages → AllByRecursion HasByte parts →
    HaveAll (parts_bytes (map layout_part parts)) (laid_parts size (map layout_part parts) ((run ∷ []) ∷ []))
spare-all size bytes [] run some one enough all = absurd (cc)
spare-all size bytes (Keep pair ∷ parts) run some one enough all =
    all-kept pair (parts_bytes (map layout_part parts)) (laid_parts size (map layout_part parts) ((run ∷ []) ∷ [])) all.0
    (spare-all size bytes parts run some one enough all.1)
spare-all size bytes (Make pieces ∷ parts) run some one enough all =
    let made : pieces_bytes pieces ∷ made_part_bytes (map layout_part parts) ≡ bytes ∷ [] = one in
    let same : pieces_bytes pieces ≡ bytes = cc in
    let none : made_part_bytes (map layout_part parts) ≡ [] = cc in
    let count = ap (page_count size) same in
    all-both (pieces_bytes pieces) (parts_bytes (map layout_part parts)) (segments_on size (pieces_bytes pieces) (run ∷ []))
    (laid_parts size (map layout_part parts) [])
    (one-all size (pieces_bytes pieces) run some all.0 (omega (arith, count, enough)))
    (kept-all size parts [] none all.1)

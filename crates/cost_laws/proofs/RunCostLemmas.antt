-- The runs that the parts of a plan are granted: how many halving added, and how many pages they have.
use Rattle.std.proofs.Common.{◌≡◌, ℕ, suc, ◌+◌, ◌-◌, ◌*◌, ◌≤◌, Bool, Some, None, List, [], ◌∷◌, true, false, sym, refl, subst}
use Rattle.std.proofs.Common.{◌++◌, length, map, refl, ap, subst, arith, ◌∙◌, inl, inr, length-append, nat_eq, sum_by}
use Rattle.std.specs.Prelude.{if◌then◌else◌}
use Rattle.std.proofs.lemmas.Bool.{cases_Bool, eqb-true}
use Rattle.std.proofs.lemmas.List.Sums.{sum_by-cons}
use Rattle.std.proofs.Math.Nat.{add-mul, mul-le-mul_right}
use Rattle.tree_model.specs.Tree.{page_count}
use Rattle.layout_model.specs.declared.extent.Extent.{Extent}
use Rattle.layout_model.specs.declared.part.Part.{Part}
use Rattle.layout_model.specs.declared.part.Part.TheVariants.{Keep, Make}
use Rattle.layout_model.specs.Layout.{segments_on, laid_parts, left_over, spare_behind}
use Rattle.layout_model.specs.Plan.{extent, extent_pages}
use Rattle.layout_laws.specs.Halving.{runs_pages, AreLong}
use Rattle.layout_laws.proofs.HalvingLemmas.{runs_pages-append}
use Rattle.moment_laws.specs.Granting.{page_run, runs_of_parts}
use Rattle.change_laws.specs.Suiting.{HoldsPart, AllHold, AllExact}

-- the runs of a part beyond its first
abbrev pub added : List Extent → ℕ
added runs = length runs - 1

-- ---- lists of runs

pub pages-single : (pages : List ℕ) → runs_pages (map page_run pages) ≡ length pages
pages-single [] = refl
pages-single (page ∷ pages) = let more = pages-single pages in omega (arith, more)

pub pages-of_parts : (run : List Extent) (runs : List (List Extent)) →
    runs_pages (runs_of_parts (run ∷ runs)) ≡ runs_pages run + runs_pages (runs_of_parts runs)
pages-of_parts run runs = runs_pages-append run (runs_of_parts runs)

-- ---- entries on runs

segments-count : (size bytes : ℕ) (runs : List Extent) → length (segments_on size bytes runs) ≡ length runs
segments-count size bytes [] = refl
segments-count size bytes (run ∷ rest) = ap suc (segments-count size (bytes - run.pages * size) rest)

-- parts have an entry each, and one for each piece that was added
pub laid-few : (size : ℕ) (parts : List Part) (runs : List (List Extent)) →
    length (laid_parts size parts runs) ≤ length parts + sum_by added runs
laid-few size [] runs = omega arith
laid-few size (Keep p ∷ rest) runs = let more = laid-few size rest runs in omega (arith, more)
laid-few size (Make bytes ∷ rest) [] = let more = laid-few size rest [] in omega (arith, more)
laid-few size (Make bytes ∷ rest) (run ∷ runs) =
    let more = laid-few size rest runs in
    let all = sum_by-cons added run runs in
    let both = length-append (segments_on size bytes run) (laid_parts size rest runs) in
    let here = segments-count size bytes run in
    omega (arith, more, all, both, here)

-- ---- one part

long-pages : (least : ℕ) (runs : List Extent) → AreLong least runs → length runs * least ≤ runs_pages runs
long-pages least [] long = omega arith
long-pages least (run ∷ rest) long =
    let more = long-pages least rest long.1 in
    let first = long.0 in
    let rows : suc (length rest) * least ≡ least + length rest * least = grind arith in
    omega (arith, more, first, rows)

-- each added piece has the threshold's pages
part-added : (size least bytes : ℕ) (runs : List Extent) → HoldsPart size least bytes runs → added runs * least ≤ page_count size bytes
part-added size least bytes runs (inl single) =
    let one : added runs ≡ 0 = ap added single.1 in
    let none : added runs * least ≡ 0 * least = ap (λ (k : ℕ). k * least) one in
    omega (arith, none)
part-added size least bytes runs (inr halves) =
    let all = long-pages least runs halves.1.long in
    let together = halves.1.together in
    let fewer : added runs * least ≤ length runs * least = mul-le-mul_right least (omega arith) in
    omega (arith, all, together, fewer)

extent-pages : (page pages : ℕ) → extent_pages (extent page pages) ≡ pages
extent-pages page pages =
    elim (cases_Bool (nat_eq pages 0)) [
      | inl none ↦
          let nothing = eqb-true pages 0 none in
          let step : extent page pages ≡ None = rw (none, extent) in
          let count = ap extent_pages step in
          omega (arith, nothing, count)
      | inr some ↦
          let step : extent page pages ≡ Some (record { page = page; pages = pages }) = rw (some, extent) in
          ap extent_pages step
    ]

-- a run has the pages that are needed and those that are left over
part-left : (size least bytes : ℕ) (runs : List Extent) → HoldsPart size least bytes runs →
    runs_pages runs ≤ page_count size bytes + extent_pages (left_over (page_count size bytes) runs)
part-left size least bytes runs (inr halves) = let together = halves.1.together in omega (arith, together)
part-left size least bytes runs (inl single) =
    let need = page_count size bytes in
    let run = single.0 in
    let enough = single.2 in
    let all : runs_pages runs ≡ run.pages + 0 = ap runs_pages single.1 in
    let left : extent_pages (left_over need runs) ≡ extent_pages (extent (run.page + need) (run.pages - need)) =
    ap (λ rs. extent_pages (left_over need rs)) single.1 in
    let rest = extent-pages (run.page + need) (run.pages - need) in
    omega (arith, all, left, rest, enough)

-- ---- all parts

-- the runs of parts of these bytes: each added piece has the threshold's pages, and there are no more pages than are needed
-- and set aside
pub record AreShared (size least : ℕ) (appends : Bool) (ns : List ℕ) (runs : List (List Extent)) : Type 0 where
  pub few : sum_by added runs * least ≤ sum_by (page_count size) ns
  pub pages : runs_pages (runs_of_parts runs)
      ≤ sum_by (page_count size) ns + extent_pages (if appends then spare_behind size ns runs else None)

shared-last : (size least : ℕ) (appends : Bool) (bytes : ℕ) (runs : List Extent) →
    AllHold size least (bytes ∷ []) (runs ∷ []) → AllExact size appends (bytes ∷ []) (runs ∷ []) →
    AreShared size least appends (bytes ∷ []) (runs ∷ [])
shared-last size least appends bytes runs hold exact =
    let need = page_count size bytes in
    let one = sum_by-cons (page_count size) bytes [] in
    let two = sum_by-cons added runs [] in
    let alone : sum_by added (runs ∷ []) ≡ added runs = omega (arith, two) in
    let rows : sum_by added (runs ∷ []) * least ≡ added runs * least = ap (λ (k : ℕ). k * least) alone in
    let few = part-added size least bytes runs hold.0 in
    record { few = omega (arith, one, rows, few); pages = pages appends exact }
  where
    pages : (appends : Bool) → AllExact size appends (bytes ∷ []) (runs ∷ []) →
        runs_pages (runs_of_parts (runs ∷ []))
        ≤ sum_by (page_count size) (bytes ∷ []) + extent_pages (if appends then spare_behind size (bytes ∷ []) (runs ∷ []) else None)
    pages true exact =
        let one = sum_by-cons (page_count size) bytes [] in
        let single = pages-of_parts runs [] in
        let left_pages = part-left size least bytes runs hold.0 in
        omega (arith, one, single, left_pages)
    pages false exact =
        let one = sum_by-cons (page_count size) bytes [] in
        let single = pages-of_parts runs [] in
        let just = exact.0 in
        omega (arith, one, single, just)

pub all-shared : (size least : ℕ) (appends : Bool) (ns : List ℕ) (runs : List (List Extent)) →
    AllHold size least ns runs → AllExact size appends ns runs → AreShared size least appends ns runs
all-shared size least appends [] runs hold exact =
    subst (AreShared size least appends []) (sym exact) (record { few = omega arith; pages = omega arith })
all-shared size least appends (bytes ∷ ns) [] hold exact = absurd hold
all-shared size least true (bytes ∷ []) (run ∷ runs) hold exact =
    subst (λ rs. AreShared size least true (bytes ∷ []) (run ∷ rs)) (sym exact) (shared-last size least true bytes run (hold.0, tt) refl)
all-shared size least false (bytes ∷ []) (run ∷ runs) hold exact =
    subst (λ rs. AreShared size least false (bytes ∷ []) (run ∷ rs)) (sym exact.1)
    (shared-last size least false bytes run (hold.0, tt) (exact.0, refl))
all-shared size least appends (bytes ∷ next ∷ ns) (run ∷ runs) hold exact =
    let parts = just appends exact in
    let rest = all-shared size least appends (next ∷ ns) runs hold.1 parts.1 in
    let pages_run = parts.0 in
    let few = part-added size least bytes run hold.0 in
    let one = sum_by-cons (page_count size) bytes (next ∷ ns) in
    let two = sum_by-cons added run runs in
    let rows : sum_by added (run ∷ runs) * least ≡ added run * least + sum_by added runs * least =
    ap (λ (k : ℕ). k * least) two ∙ add-mul (added run) (sum_by added runs) least in
    let both = pages-of_parts run runs in
    let less = rest.few in
    let pages = rest.pages in
    let behind : (if appends then spare_behind size (bytes ∷ next ∷ ns) (run ∷ runs) else None)
    ≡ (if appends then spare_behind size (next ∷ ns) runs else None) = refl in
    let set_aside = ap extent_pages behind in
    record { few = omega (arith, one, rows, few, less); pages = omega (arith, one, both, pages_run, pages, set_aside) }
  where
    just : (appends : Bool) → AllExact size appends (bytes ∷ next ∷ ns) (run ∷ runs) →
        (runs_pages run ≡ page_count size bytes) × AllExact size appends (next ∷ ns) runs
    just true exact = exact
    just false exact = exact

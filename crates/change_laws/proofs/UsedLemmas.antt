-- The runs that are granted for parts are used by the new segments and the new spare.
use Rattle.std.proofs.Common.{◌≡◌, ℕ, ◌+◌, ◌-◌, ◌*◌, ◌<◌, ◌≤◌, min, Bool, true, false, Option, Some, None, List, []}
use Rattle.std.proofs.Common.{◌∷◌, map, sym, ap, subst, arith, inl, inr, nat_eq}
use Rattle.std.specs.Prelude.{if◌then◌else◌}
use Rattle.std.proofs.lemmas.Bool.{cases_Bool, eqb-true}
use Rattle.std.proofs.lemmas.List.Sums.{sum_by-cons}
use Rattle.tree_model.specs.declared.entry.Pair.{Pair}
use Rattle.tree_model.specs.Tree.{page_count}
use Rattle.layout_model.specs.declared.extent.Extent.{Extent}
use Rattle.layout_model.specs.declared.part.Part.{Part}
use Rattle.layout_model.specs.declared.part.Part.TheVariants.{Keep, Make}
use Rattle.layout_model.specs.Plan.{past, made_part_bytes}
use Rattle.layout_model.specs.Layout.{segments_on, laid_parts, left_over, spare_behind}
use Rattle.layout_laws.specs.Halving.{runs_pages}
use Rattle.tree_model.proofs.PageCountLaws.{count-min}
use Rattle.moment_model.specs.Version.{covers, uses, segment_run, spare_uses}
use Rattle.moment_laws.specs.Granting.{runs_of_parts}
use Rattle.moment_laws.proofs.GrantLemmas.{uses-append, covers-cases}
use Rattle.change_laws.proofs.PieceLemmas.{segments_uses, segments_uses-cons, segments_uses-append}
use Rattle.change_laws.specs.Suiting.{HoldsPart, AllHold, AllExact}
use Rattle.change_laws.proofs.SegmentLemmas.{count-minus}
use Rattle.change_laws.proofs.LayingLemmas.{covers-split}

-- ---- runs

-- bytes that fill their runs use all of them
full-used : (page size bytes : ℕ) (runs : List Extent) → 0 < size → runs_pages runs ≤ page_count size bytes →
    uses page runs ≤ segments_uses page size (segments_on size bytes runs)
full-used page size bytes [] some full = omega arith
full-used page size bytes (run ∷ rest) some full =
    let seg : Pair = record { bytes = min bytes (run.pages * size); page = run.page } in
    let count = count-min size bytes run.pages some in
    let left = count-minus size bytes run.pages some in
    let more = full-used page size (bytes - run.pages * size) rest some (omega (arith, left, full)) in
    let one = segments_uses-cons page size seg (segments_on size (bytes - run.pages * size) rest) in
    let two = sum_by-cons (covers page) run rest in
    let filled : page_count size seg.bytes ≡ run.pages = omega (arith, count, full) in
    let same : covers page (segment_run size seg) ≡ covers page run =
    ap (λ (k : ℕ). covers page (record { page = run.page; pages = k })) filled in
    omega (arith, more, one, two, same)

-- the last part's runs are used by its segments and what is left of them
last-used : (page size least bytes : ℕ) (runs : List Extent) → 0 < size → HoldsPart size least bytes runs →
    uses page runs ≤ segments_uses page size (segments_on size bytes runs) + spare_uses page (left_over (page_count size bytes) runs)
last-used page size least bytes runs some (inr halves) =
    let together = halves.1.together in
    let full = full-used page size bytes runs some (omega (arith, together)) in
    omega (arith, full)
last-used page size least bytes runs some (inl single) =
    let P : List Extent → Type 0 = λ rs. uses page rs ≤ segments_uses page size
    (segments_on size bytes rs) + spare_uses page (left_over (page_count size bytes) rs) in
    let run = single.0 in
    let need = page_count size bytes in
    let fits = single.2 in
    let seg : Pair = record { bytes = min bytes (run.pages * size); page = run.page } in
    let count = count-min size bytes run.pages some in
    let filled : page_count size seg.bytes ≡ need = omega (arith, count, fits) in
    let same : covers page (segment_run size seg) ≡ covers page (record { page = run.page; pages = need }) =
    ap (λ (k : ℕ). covers page (record { page = run.page; pages = k })) filled in
    let one = segments_uses-cons page size seg [] in
    let two = sum_by-cons (covers page) run [] in
    let whole : need + (run.pages - need) ≡ run.pages = omega (arith, fits) in
    let split = covers-split page run.page need (run.pages - need) in
    let all : covers page (record { page = run.page; pages = need + (run.pages - need) }) ≡ covers page run =
    ap (λ (k : ℕ). covers page (record { page = run.page; pages = k })) whole in
    let left = past-covers page run need in
    subst P (sym single.1) (omega (arith, same, one, two, split, all, left))
  where
    no-pages : (page first : ℕ) → covers page (record { page = first; pages = 0 }) ≡ 0
    no-pages page first = elim (covers-cases page (record { page = first; pages = 0 })) [
      | inr out ↦ out.0
      | inl covered ↦ let low = covered.1 in let high = covered.2 in absurd (omega (arith, low, high))
    ]

    past-covers : (page : ℕ) (run : Extent) (few : ℕ) →
        covers page (record {
          page = run.page + few;
          pages =
              run.pages - few;
        }) ≤ spare_uses page (past few (Some run))
    past-covers page run few =
        elim (cases_Bool (nat_eq (run.pages - few) 0)) [
          | inl none ↦
              let nothing = eqb-true (run.pages - few) 0 none in
              let empty : covers page (record { page = run.page + few; pages = run.pages - few })
              ≡ covers page (record { page = run.page + few; pages = 0 }) =
              ap (λ (k : ℕ). covers page (record { page = run.page + few; pages = k })) nothing in
              let step : past few (Some run) ≡ None = rw (none, past) in
              let no_spare : spare_uses page (past few (Some run)) ≡ 0 = ap (spare_uses page) step in
              let zero_run = no-pages page (run.page + few) in
              omega (arith, empty, no_spare, zero_run)
          | inr any ↦
              let step : past few (Some run) ≡ Some (record { page = run.page + few; pages = run.pages - few }) = rw (any, past) in
              let same : spare_uses page (past few (Some run))
              ≡ covers page (record { page = run.page + few; pages = run.pages - few }) =
              ap (spare_uses page) step in
              omega (arith, same)
        ]

-- what is left of the last run of an append
abbrev left_of_last : ℕ → Bool → List ℕ → List (List Extent) → Option Extent
left_of_last size appends ns runs = if appends then spare_behind size ns runs else None

-- the runs of made parts are used
made-used : (page size least : ℕ) (appends : Bool) (ns : List ℕ) (runs : List (List Extent)) → 0 < size →
    AllHold size least ns runs → AllExact size appends ns runs →
    uses page (runs_of_parts runs)
    ≤ segments_uses page size (laid_parts size (map Make ns) runs) + spare_uses page (left_of_last size appends ns runs)
made-used page size least appends [] runs some hold exact = let none : uses page (runs_of_parts runs) ≡ 0 =
    ap (λ rs. uses page (runs_of_parts rs)) exact in omega (arith, none)
made-used page size least appends (bytes ∷ ns) [] some hold exact = absurd exact
made-used page size least true (bytes ∷ []) (run ∷ []) some hold exact =
    let last = last-used page size least bytes run some hold.0 in
    let one = uses-append page run [] in
    let two = segments_uses-append page size (segments_on size bytes run) [] in
    omega (arith, last, one, two)
made-used page size least true (bytes ∷ []) (run ∷ run2 ∷ runs) some hold exact = absurd (many run2 runs exact)
  where
    many : (x : List Extent) (xs : List (List Extent)) → x ∷ xs ≡ [] → ⊥
    many x xs same = cc
made-used page size least false (bytes ∷ []) (run ∷ runs) some hold exact =
    let pages = exact.0 in
    let full = full-used page size bytes run some (omega (arith, pages)) in
    let one = uses-append page run (runs_of_parts runs) in
    let rest : uses page (runs_of_parts runs) ≡ 0 = ap (λ rs. uses page (runs_of_parts rs)) exact.1 in
    let two = segments_uses-append page size (segments_on size bytes run) [] in
    omega (arith, full, one, rest, two)
made-used page size least true (bytes ∷ next ∷ ns) (run ∷ runs) some hold exact =
    let pages = exact.0 in
    let full = full-used page size bytes run some (omega (arith, pages)) in
    let more = made-used page size least true (next ∷ ns) runs some hold.1 exact.1 in
    let one = uses-append page run (runs_of_parts runs) in
    let two = segments_uses-append page size (segments_on size bytes run) (laid_parts size (map Make (next ∷ ns)) runs) in
    omega (arith, full, more, one, two)
made-used page size least false (bytes ∷ next ∷ ns) (run ∷ runs) some hold exact =
    let pages = exact.0 in
    let full = full-used page size bytes run some (omega (arith, pages)) in
    let more = made-used page size least false (next ∷ ns) runs some hold.1 exact.1 in
    let one = uses-append page run (runs_of_parts runs) in
    let two = segments_uses-append page size (segments_on size bytes run) (laid_parts size (map Make (next ∷ ns)) runs) in
    omega (arith, full, more, one, two)

-- kept parts among them use no run
pub laid-made : (page size : ℕ) (parts : List Part) (runs : List (List Extent)) →
    segments_uses page size (laid_parts size (map Make (made_part_bytes parts)) runs) ≤ segments_uses page size
    (laid_parts size parts runs)
laid-made page size [] runs = omega arith
laid-made page size (Keep p ∷ rest) runs =
    let more = laid-made page size rest runs in
    let one = segments_uses-cons page size p (laid_parts size rest runs) in
    omega (arith, more, one)
laid-made page size (Make bytes ∷ rest) [] = laid-made page size rest []
laid-made page size (Make bytes ∷ rest) (run ∷ runs) =
    let more = laid-made page size rest runs in
    let one = segments_uses-append page size (segments_on size bytes run) (laid_parts size (map Make (made_part_bytes rest)) runs) in
    let two = segments_uses-append page size (segments_on size bytes run) (laid_parts size rest runs) in
    omega (arith, more, one, two)

-- the runs of parts are used by what is laid out for them, and by what is left
pub parts-used : (page size least : ℕ) (appends : Bool) (parts : List Part) (runs : List (List Extent)) → 0 < size →
    AllHold size least (made_part_bytes parts) runs → AllExact size appends (made_part_bytes parts) runs →
    uses page (runs_of_parts runs) ≤ segments_uses page size (laid_parts size parts runs)
    + spare_uses page (if appends then spare_behind size (made_part_bytes parts) runs else None)
parts-used page size least appends parts runs some hold exact =
    let made = made-used page size least appends (made_part_bytes parts) runs some hold exact in
    let less = laid-made page size parts runs in
    omega (arith, made, less)

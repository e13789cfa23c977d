-- The segments that stand on the runs that the parts of a change were granted.
use Rattle.std.proofs.Common.{◌≡◌, ℕ, suc, ◌+◌, ◌-◌, ◌*◌, ◌<◌, ◌≤◌, min, Bool, false, ◌&&◌, Some, None, List, [], ◌∷◌}
use Rattle.std.proofs.Common.{◌++◌, length, map, refl, sym, ap, subst, arith, ◌∙◌, ◌⊎◌, inl, inr, nat_eq, nat_lt}
use Rattle.std.specs.List.{AllByRecursion}
use Rattle.std.proofs.lemmas.Bool.{cases_Bool, cases_lt, eqb-false, le-ltb, and_right}
use Rattle.std.proofs.lemmas.List.{map-append}
use Rattle.std.proofs.lemmas.Nat.{mul-le}
use Rattle.std.proofs.lemmas.List.Sums.{sum_by-cons}
use Rattle.std.proofs.Math.Nat.{mul-le-mul_right}
use Rattle.geometry_model.specs.Numbers.{Numbers, space_pages}
use Rattle.tree_model.specs.declared.entry.Pair.{Pair}
use Rattle.tree_model.specs.Tree.{page_count, IsSegment}
use Rattle.layout_model.specs.declared.extent.Extent.{Extent}
use Rattle.layout_model.specs.declared.part.Part.{Part}
use Rattle.layout_model.specs.declared.part.Part.TheVariants.{Keep, Make}
use Rattle.layout_model.specs.Parts.{part_bytes}
use Rattle.layout_model.specs.Pack.{is_small}
use Rattle.layout_model.specs.Plan.{past, made_part_bytes}
use Rattle.layout_model.specs.Layout.{segments_on, laid_parts, left_over, spare_behind}
use Rattle.layout_laws.specs.Halving.{runs_pages, AreLong}
use Rattle.layout_laws.specs.Merging.{AreApart}
use Rattle.layout_laws.proofs.MergingLemmas.{apart-large}
use Rattle.tree_model.proofs.PageCountLaws.{count-behind, count-enough, count-min, count-none, count-some}
use Rattle.moment_model.specs.Version.{covers, uses, segment_run, spare_uses}
use Rattle.moment_laws.specs.Granting.{LiesInSpace, runs_of_parts}
use Rattle.moment_laws.proofs.GrantLemmas.{uses-append}
use Rattle.base_laws.proofs.ListLaws.{all-append}
use Rattle.change_laws.proofs.PartLemmas.{GoodPart, keeps, all-left, all-right}
use Rattle.change_laws.proofs.PieceLemmas.{segments_uses, segments_uses-cons, segments_uses-append, covers-two}
use Rattle.change_laws.proofs.PieceLemmas.{covers-front}
use Rattle.change_laws.proofs.NeighbourLemmas.{both, FirstApart, apart-cons, apart-first, apart-rest}
use Rattle.change_laws.specs.Suiting.{AllHold, HoldsPart}

-- ---- segments on runs

-- the pages of what is left behind full pages
pub count-minus : (size bytes pages : ℕ) → 0 < size → page_count size (bytes - pages * size) ≡ page_count size bytes - pages
count-minus size bytes pages some =
    elim (cases_lt bytes (pages * size)) [
      | inr within ↦
          let split : bytes ≡ pages * size + (bytes - pages * size) = omega (arith, within) in
          let count : page_count size bytes ≡ pages + page_count size (bytes - pages * size) =
          ap (page_count size) split ∙ count-behind size pages (bytes - pages * size) some in
          omega (arith, count)
      | inl past_all ↦
          let nothing : bytes - pages * size ≡ 0 = omega (arith, past_all) in
          let few = count-enough size bytes pages some (omega (arith, past_all)) in
          let none : page_count size (bytes - pages * size) ≡ 0 = ap (page_count size) nothing ∙ count-none size some in
          omega (arith, none, few)
    ]

-- a segment on the first pages of a run
on_run-uses : (page size bytes : ℕ) (run : Extent) → 0 < size →
    covers page (segment_run size (record { bytes = min bytes (run.pages * size); page = run.page })) ≤ covers page
    run
on_run-uses page size bytes run some =
    let count = count-min size bytes run.pages some in
    covers-front page run.page run.pages (page_count size (min bytes (run.pages * size))) (omega (arith, count))

pub segments_on-uses : (page size bytes : ℕ) (runs : List Extent) → 0 < size →
    segments_uses page size (segments_on size bytes runs) ≤ uses page runs
segments_on-uses page size bytes [] some = omega arith
segments_on-uses page size bytes (run ∷ rest) some =
    let seg : Pair = record { bytes = min bytes (run.pages * size); page = run.page } in
    let one = segments_uses-cons page size seg (segments_on size (bytes - run.pages * size) rest) in
    let two = sum_by-cons (covers page) run rest in
    let first = on_run-uses page size bytes run some in
    let more = segments_on-uses page size (bytes - run.pages * size) rest some in
    omega (arith, one, two, first, more)

-- a run in a space isn't longer than it
run-short : (n : Numbers) (run : Extent) → LiesInSpace n run → run.pages ≤ space_pages n
run-short n run lies = let space = lies.1 in omega (arith, space.from, space.to)

-- a segment on a run of a space
on_run-segment : (n : Numbers) (bytes : ℕ) (run : Extent) → 0 < n.page → 1 ≤ bytes → 1 ≤ run.pages → LiesInSpace n run →
    IsSegment n (record { bytes = min bytes (run.pages * n.page); page = run.page })
on_run-segment n bytes run some byte any lies =
    let space = lies.1 in
    let short = run-short n run lies in
    let rows : run.pages * n.page ≤ space_pages n * n.page = mul-le-mul_right n.page short in
    let one : 1 * 1 ≤ run.pages * n.page = mul-le 1 1 run.pages n.page any (omega (arith, some)) in
    let count = count-min n.page bytes run.pages some in
    record {
      some = omega (arith, byte, one);
      most = omega (arith, rows);
      together = (
        lies.0,
        record {
          in_store = space.in_store;
          from = space.from;
          to = omega (arith, space.to, count);
        },
      );
    }

halves-segments : (n : Numbers) (least bytes : ℕ) (runs : List Extent) → 0 < n.page → 1 ≤ least →
    runs_pages runs ≡ page_count n.page bytes → AreLong least runs →
    AllByRecursion (LiesInSpace n) runs → AllByRecursion (IsSegment n) (segments_on n.page bytes runs)
halves-segments n least bytes [] some one pages long lie = tt
halves-segments n least bytes (run ∷ rest) some one pages long lie =
    let first = long.0 in
    let any : 1 ≤ run.pages = omega (arith, first, one) in
    let byte : 1 ≤ bytes = elim (cases_lt 0 bytes) [
      | inl more ↦ omega (arith, more)
      | inr none ↦
          let nothing : bytes ≡ 0 = omega (arith, none) in
          let no_page : page_count n.page bytes ≡ 0 = ap (page_count n.page) nothing ∙ count-none n.page some in
          absurd (omega (arith, no_page, pages, any))
    ] in
    let left = count-minus n.page bytes run.pages some in (
      on_run-segment n bytes run some byte any lie.0,
      halves-segments n least (bytes - run.pages * n.page) rest some one (omega (
        arith,
        left,
        pages,
      )) long.1 lie.1,
    )

pub part-segments : (n : Numbers) (least bytes : ℕ) (runs : List Extent) → 0 < n.page → 1 ≤ least → 1 ≤ bytes →
    HoldsPart n.page least bytes runs →
    AllByRecursion (LiesInSpace n) runs → AllByRecursion (IsSegment n) (segments_on n.page bytes runs)
part-segments n least bytes runs some one byte (inr halves) lie =
    halves-segments n least bytes runs some one halves.1.together halves.1.long lie
part-segments n least bytes runs some one byte (inl single) lie =
    let lie_one : AllByRecursion (LiesInSpace n) (single.0 ∷ []) = subst (AllByRecursion (LiesInSpace n)) single.1 lie in
    let any = count-some n.page bytes some (omega (arith, byte)) in
    let fits = single.2 in
    let P : List Extent → Type 0 = λ rs. AllByRecursion (IsSegment n) (segments_on n.page bytes rs) in
    subst P (sym single.1) (on_run-segment n bytes single.0 some byte (omega (arith, any, fits)) lie_one.0, tt)

-- the segments of a part are one of its pages, or all large as it is
abbrev pub StandFor : ℕ → ℕ → ℕ → List Pair → Type 0
StandFor size least bytes segs =
    ((seg : Pair) × (segs ≡ seg ∷ []) × (page_count size seg.bytes ≡ page_count size bytes))
    ⊎ ((0 < length segs) × AllByRecursion (λ (seg : Pair). is_small size least (Keep seg) ≡ false) segs)

halves-large : (size least bytes : ℕ) (runs : List Extent) → 0 < size → runs_pages runs ≡ page_count size bytes → AreLong least runs →
    AllByRecursion (λ (seg : Pair). is_small size least (Keep seg) ≡ false) (segments_on size bytes runs)
halves-large size least bytes [] some pages long = tt
halves-large size least bytes (run ∷ rest) some pages long =
    let count = count-min size bytes run.pages some in
    let left = count-minus size bytes run.pages some in
    let first = long.0 in (
      le-ltb (page_count size (min bytes (run.pages * size))) least (omega (arith, count, pages, first)),
      halves-large size least (bytes - run.pages * size) rest some (omega (arith, left, pages)) long.1,
    )

part-stands : (size least bytes : ℕ) (runs : List Extent) → 0 < size → 1 ≤ bytes → HoldsPart size least bytes runs →
    StandFor size least bytes (segments_on size bytes runs)
part-stands size least bytes runs some byte (inl single) =
    let count = count-min size bytes single.0.pages some in
    let fits = single.2 in
    let seg : Pair = record { bytes = min bytes (single.0.pages * size); page = single.0.page } in
    inl (seg, ap (segments_on size bytes) single.1, omega (arith, count, fits))
part-stands size least bytes [] some byte (inr halves) =
    let pages : 0 ≡ page_count size bytes = halves.1.together in
    let any = count-some size bytes some (omega (arith, byte)) in
    absurd (omega (arith, pages, any))
part-stands size least bytes (run ∷ rest) some byte (inr halves) =
    let long : 0 < suc (length (segments_on size (bytes - run.pages * size) rest)) = omega arith in
    inr (long, halves-large size least bytes (run ∷ rest) some halves.1.together halves.1.long)

-- ---- parts on their runs

-- the made parts, one after the other, have these runs
abbrev pub Matched : ℕ → ℕ → List Part → List (List Extent) → Type 0
Matched size least [] runs = Unit {0}
Matched size least (Keep p ∷ rest) runs = Matched size least rest runs
Matched size least (Make bytes ∷ rest) [] = ⊥
Matched size least (Make bytes ∷ rest) (run ∷ runs) = HoldsPart size least bytes run × Matched size least rest runs

pub matched-from : (size least : ℕ) (parts : List Part) (runs : List (List Extent)) →
    AllHold size least (made_part_bytes parts) runs → Matched size least parts runs
matched-from size least [] runs all = tt
matched-from size least (Keep p ∷ rest) runs all = matched-from size least rest runs all
matched-from size least (Make bytes ∷ rest) [] all = absurd all
matched-from size least (Make bytes ∷ rest) (run ∷ runs) all = (all.0, matched-from size least rest runs all.1)

pub matched-front : (size least : ℕ) (xs : List Pair) (parts : List Part) (runs : List (List Extent)) →
    Matched size least parts runs → Matched size least (map Keep xs ++ parts) runs
matched-front size least [] parts runs all = all
matched-front size least (x ∷ xs) parts runs all = matched-front size least xs parts runs all

pub matched-back : (size least : ℕ) (parts : List Part) (xs : List Pair) (runs : List (List Extent)) →
    Matched size least parts runs → Matched size least (parts ++ map Keep xs) runs
matched-back size least [] xs runs all = none xs
  where
    none : (xs : List Pair) → Matched size least (map Keep xs) runs
    none [] = tt
    none (x ∷ xs) = none xs
matched-back size least (Keep p ∷ rest) xs runs all = matched-back size least rest xs runs all
matched-back size least (Make bytes ∷ rest) xs [] all = absurd all
matched-back size least (Make bytes ∷ rest) xs (run ∷ runs) all = (all.0, matched-back size least rest xs runs all.1)

-- what is laid out are segments of the store
pub laid-segments : (n : Numbers) (least : ℕ) (parts : List Part) (runs : List (List Extent)) → 0 < n.page →
    1 ≤ least → AllByRecursion (GoodPart n) parts →
    Matched n.page least parts runs → AllByRecursion (LiesInSpace n) (runs_of_parts runs) →
    AllByRecursion (IsSegment n) (laid_parts n.page parts runs)
laid-segments n least [] runs some one good matched lie = tt
laid-segments n least (Keep p ∷ rest) runs some one good matched lie = (good.0, laid-segments n least rest runs some one good.1 matched lie)
laid-segments n least (Make bytes ∷ rest) [] some one good matched lie = absurd matched
laid-segments n least (Make bytes ∷ rest) (run ∷ runs) some one good matched lie =
    all-append (IsSegment n) (segments_on n.page bytes run) (laid_parts n.page rest runs)
    (part-segments n least bytes run some one good.0.0 matched.0 (all-left (LiesInSpace n) run (runs_of_parts runs) lie))
    (laid-segments n least rest runs some one good.1 matched.1 (all-right (LiesInSpace n) run (runs_of_parts runs) lie))

-- and they use the pages of what is kept, and of the runs, each once
pub laid-uses : (page size : ℕ) (parts : List Part) (runs : List (List Extent)) → 0 < size →
    segments_uses page size (laid_parts size parts runs) ≤ segments_uses page size (keeps parts) + uses page (runs_of_parts runs)
laid-uses page size [] runs some = omega arith
laid-uses page size (Keep p ∷ rest) runs some =
    let one = segments_uses-cons page size p (laid_parts size rest runs) in
    let two = segments_uses-cons page size p (keeps rest) in
    let more = laid-uses page size rest runs some in
    omega (arith, one, two, more)
laid-uses page size (Make bytes ∷ rest) [] some = laid-uses page size rest [] some
laid-uses page size (Make bytes ∷ rest) (run ∷ runs) some =
    let one = segments_uses-append page size (segments_on size bytes run) (laid_parts size rest runs) in
    let two = uses-append page run (runs_of_parts runs) in
    let first = segments_on-uses page size bytes run some in
    let more = laid-uses page size rest runs some in
    omega (arith, one, two, first, more)

-- an extent of pages behind the first ones of a run
pub past-uses : (page : ℕ) (run : Extent) (few : ℕ) →
    spare_uses page (past few (Some run)) + covers page (record {
      page = run.page;
      pages =
          min few run.pages;
    }) ≤ covers page run
past-uses page run few =
    elim (cases_Bool (nat_eq (run.pages - few) 0)) [
      | inl none ↦
          let step : past few (Some run) ≡ None = rw (none, past) in
          let nothing : spare_uses page (past few (Some run)) ≡ 0 = ap (spare_uses page) step in
          let part = covers-front page run.page run.pages (min few run.pages) (omega arith) in
          omega (arith, nothing, part)
      | inr some ↦
          let step : past few (Some run) ≡ Some (record { page = run.page + few; pages = run.pages - few }) = rw (some, past) in
          let any = eqb-false (run.pages - few) 0 some in
          let less : few ≤ run.pages = elim (cases_lt run.pages few) [
            | inl more ↦ absurd (any (omega (arith, more)))
            | inr within ↦ within
          ] in
          let same : spare_uses page (past few (Some run))
          ≡ covers page (record { page = run.page + few; pages = run.pages - few }) =
          ap (spare_uses page) step in
          let both_parts = covers-two page run.page run.pages (min few run.pages) few (run.pages - few)
          (omega arith) (omega (arith, less)) in
          omega (arith, same, both_parts)
    ]

-- with what is left of the last run
pub laid-spare : (page size : ℕ) (parts : List Part) (runs : List (List Extent)) → 0 < size →
    segments_uses page size (laid_parts size parts runs) + spare_uses page (spare_behind size (made_part_bytes parts) runs)
    ≤ segments_uses page size (keeps parts) + uses page (runs_of_parts runs)
laid-spare page size [] runs some = let none = go runs in omega (arith, none)
  where
    go : (runs : List (List Extent)) → spare_uses page (spare_behind size [] runs) ≡ 0
    go [] = refl
    go (run ∷ runs) = refl
laid-spare page size (Keep p ∷ rest) runs some =
    let one = segments_uses-cons page size p (laid_parts size rest runs) in
    let two = segments_uses-cons page size p (keeps rest) in
    let more = laid-spare page size rest runs some in
    omega (arith, one, two, more)
laid-spare page size (Make bytes ∷ rest) [] some =
    let none = go (made_part_bytes rest) in
    let more = laid-uses page size rest [] some in
    omega (arith, none, more)
  where
    go : (ns : List ℕ) → spare_uses page (spare_behind size (bytes ∷ ns) []) ≡ 0
    go [] = refl
    go (k ∷ ns) = refl
laid-spare page size (Make bytes ∷ rest) (run ∷ runs) some =
    let one = segments_uses-append page size (segments_on size bytes run) (laid_parts size rest runs) in
    let two = uses-append page run (runs_of_parts runs) in
    let first = segments_on-uses page size bytes run some in
    go (made_part_bytes rest) refl runs (λ rs. laid-spare page size rest rs some) one two first
  where
    go : (ns : List ℕ) → made_part_bytes rest ≡ ns → (runs : List (List Extent)) →
        ((rs : List (List Extent)) → segments_uses page size (laid_parts size rest rs) + spare_uses page
        (spare_behind size (made_part_bytes rest) rs)
        ≤ segments_uses page size (keeps rest) + uses page (runs_of_parts rs)) →
        segments_uses page size (segments_on size bytes run ++ laid_parts size rest runs)
        ≡ segments_uses page size (segments_on size bytes run) + segments_uses page size
        (laid_parts size rest runs) →
        uses page (run ++ runs_of_parts runs) ≡ uses page run + uses page (runs_of_parts runs) →
        segments_uses page size (segments_on size bytes run) ≤ uses page run →
        segments_uses page size (segments_on size bytes run
        ++ laid_parts size rest runs) + spare_uses page (spare_behind size (bytes ∷ ns) (run ∷ runs))
        ≤ segments_uses page size (keeps rest) + uses page (run ++ runs_of_parts runs)
    go [] same [] inner one two first =
        let last = last-run bytes run in
        let more = laid-uses page size rest [] some in
        omega (arith, one, two, last, more)
      where
        last-run : (bytes : ℕ) (run : List Extent) →
            segments_uses page size (segments_on size bytes run) + spare_uses page
            (left_over (page_count size bytes) run) ≤ uses page run
        last-run bytes [] = omega arith
        last-run bytes (r ∷ r2 ∷ rs) = let all = segments_on-uses page size bytes (r ∷ r2 ∷ rs) some in omega (arith, all)
        last-run bytes (r ∷ []) =
            let seg : Pair = record { bytes = min bytes (r.pages * size); page = r.page } in
            let count = count-min size bytes r.pages some in
            let one = segments_uses-cons page size seg [] in
            let rest = past-uses page r (page_count size bytes) in
            let same : covers page (segment_run size seg)
            ≡ covers page (record { page = r.page; pages = min (page_count size bytes) r.pages }) =
            ap (λ (k : ℕ). covers page (record { page = r.page; pages = k })) count in
            let two = sum_by-cons (covers page) r [] in
            omega (arith, one, rest, same, two)
    go [] same (run2 ∷ runs) inner one two first =
        let more = laid-uses page size rest (run2 ∷ runs) some in
        omega (arith, one, two, first, more)
    go (k ∷ ns) same runs inner one two first =
        let more = inner runs in
        let moved : spare_uses page (spare_behind size (made_part_bytes rest) runs)
        ≡ spare_uses page (spare_behind size (k ∷ ns) runs) =
        ap (λ (ms : List ℕ). spare_uses page (spare_behind size ms runs)) same in
        omega (arith, one, two, first, more, moved)

-- ---- neighbours among what is laid out

-- all large
large-apart : (size least : ℕ) (segs : List Pair) (rest : List Part) →
    AllByRecursion (λ (seg : Pair). is_small size least (Keep seg) ≡ false) segs → AreApart size least rest →
    AreApart size least (map Keep segs ++ rest)
large-apart size least [] rest large apart = apart
large-apart size least (seg ∷ segs) rest large apart =
    apart-large size least (Keep seg) (map Keep segs
    ++ rest) large.0 (large-apart size least segs rest large.1 apart)

-- segments stand beside what their part stands beside
stand-first : (size least bytes : ℕ) (x : Part) (segs : List Pair) (rest : List Part) →
    StandFor size least bytes segs → both size least x (Make bytes) ≡ false →
    FirstApart size least x (map Keep segs ++ rest)
stand-first size least bytes x segs rest (inl single) apart =
    let small : is_small size least (Keep single.0) ≡ is_small size least (Make bytes) = ap (λ (k : ℕ). nat_lt k least) single.2 in
    let here : both size least x (Keep single.0) ≡ false = ap (λ (b : Bool). is_small size least x && b) small ∙ apart in
    subst (λ (xs : List Pair). FirstApart size least x (map Keep xs ++ rest)) (sym single.1) here
stand-first size least bytes x [] rest (inr large) apart = let none : 0 < 0 = large.0 in absurd (omega (arith, none))
stand-first size least bytes x (seg ∷ segs) rest (inr large) apart =
    and_right (is_small size least x) (is_small size least (Keep seg)) large.1.0

stand-apart : (size least bytes : ℕ) (segs : List Pair) (rest : List Part) → StandFor size least bytes segs →
    FirstApart size least (Make bytes) rest → AreApart size least rest →
    AreApart size least (map Keep segs ++ rest)
stand-apart size least bytes segs rest (inl single) first apart =
    let small : is_small size least (Keep single.0) ≡ is_small size least (Make bytes) = ap (λ (k : ℕ). nat_lt k least) single.2 in
    let moved : FirstApart size least (Keep single.0) rest = go rest small first in
    subst (λ (xs : List Pair). AreApart size least (map Keep xs ++ rest)) (sym single.1)
    (apart-cons size least (Keep single.0) rest moved apart)
  where
    go : (rest : List Part) → is_small size least (Keep single.0) ≡ is_small size least (Make bytes) →
        FirstApart size least (Make bytes) rest → FirstApart size least (Keep single.0) rest
    go [] small first = tt
    go (y ∷ ys) small first = ap (λ (b : Bool). b && is_small size least y) small ∙ first
stand-apart size least bytes segs rest (inr large) first apart = large-apart size least segs rest large.1 apart

-- what may stand before some parts may stand before what is laid out for them
laid-first : (size least : ℕ) (x : Part) (parts : List Part) (runs : List (List Extent)) → 0 < size →
    AllByRecursion (λ part. 1 ≤ part_bytes part) parts → Matched size least parts runs →
    FirstApart size least x parts → FirstApart size least x (map Keep (laid_parts size parts runs))
laid-first size least x [] runs some bytes matched first = tt
laid-first size least x (Keep p ∷ rest) runs some bytes matched first = first
laid-first size least x (Make count ∷ rest) [] some bytes matched first = absurd matched
laid-first size least x (Make count ∷ rest) (run ∷ runs) some bytes matched first =
    subst (FirstApart size least x) (sym (map-append Keep (segments_on size count run) (laid_parts size rest runs)))
    (stand-first size least count x (segments_on size count run) (map Keep (laid_parts size rest runs))
    (part-stands size least count run some bytes.0 matched.0) first)

pub laid-apart : (size least : ℕ) (parts : List Part) (runs : List (List Extent)) → 0 < size →
    AllByRecursion (λ part. 1 ≤ part_bytes part) parts → Matched size least parts runs →
    AreApart size least parts → AreApart size least (map Keep (laid_parts size parts runs))
laid-apart size least [] runs some bytes matched apart = tt
laid-apart size least (Keep p ∷ rest) runs some bytes matched apart =
    apart-cons size least (Keep p) (map Keep (laid_parts size rest runs))
    (laid-first size least (Keep p) rest runs some bytes.1 matched (apart-first size least (Keep p) rest apart))
    (laid-apart size least rest runs some bytes.1 matched (apart-rest size least (Keep p) rest apart))
laid-apart size least (Make count ∷ rest) [] some bytes matched apart = absurd matched
laid-apart size least (Make count ∷ rest) (run ∷ runs) some bytes matched apart =
    subst (AreApart size least) (sym (map-append Keep (segments_on size count run) (laid_parts size rest runs)))
    (stand-apart size least count (segments_on size count run) (map Keep (laid_parts size rest runs))
    (part-stands size least count run some bytes.0 matched.0)
    (laid-first size least (Make count) rest runs some bytes.1 matched.1 (apart-first size least (Make count) rest apart))
    (laid-apart size least rest runs some bytes.1 matched.1 (apart-rest size least (Make count) rest apart)))

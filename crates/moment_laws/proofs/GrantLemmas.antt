-- A chain of grants takes runs out of the free pages, each page once.
use Rattle.std.proofs.Common.{◌≡◌, ℕ, zero, suc, ◌+◌, ◌-◌, ◌*◌, ◌/◌, ◌<◌, ◌≤◌, Bool, true, false, Option, Some}
use Rattle.std.proofs.Common.{None, List, [], ◌∷◌, ◌++◌, length, map, refl, sym, ap, subst, arith, ◌∙◌, ◌⊎◌, inl}
use Rattle.std.proofs.Common.{inr, nat_lt, get_or-set_same, get_or-set_other, length-set}
use Rattle.std.specs.List.{range_with_len}
use Rattle.std.proofs.lemmas.Bool.{cases_lt, cases_eq}
use Rattle.std.proofs.lemmas.Bool.Decides.{nat_tests}
use Rattle.std.proofs.lemmas.List.{get_or_past, get_or-map, length-map}
use Rattle.std.proofs.lemmas.List.FromFn.{length-range_with_len, get_or-range_with_len}
use Rattle.std.proofs.lemmas.List.Sums.{sum_by-cons, sum_by-append}
use Rattle.std.proofs.lemmas.Nat.{pow_pos}
use Rattle.base_laws.proofs.ListLaws.{all-append}
use Rattle.geometry_model.specs.Numbers.{Numbers, space_pages}
use Rattle.geometry_model.specs.Pages.{IsInSpace, IsPlace, first_page, data_page, place}
use Rattle.geometry_model.proofs.PageLaws.{IsPlace-from_place, place-of_IsPlace, IsPlace-in_run, IsPlace-unique}
use Rattle.block_model.specs.Block.{has_page, HasRun, with_run}
use Rattle.block_model.specs.Block as block
use Rattle.block_model.specs.Place as block_place
use Rattle.block_model.proofs.Laws.{place-is, IsPlace-free}
use Rattle.block_model.proofs.Runs.{IsBlock-within}
use Rattle.block_model.proofs.Changes.{length-with_run, with_run-below, with_run-inside, with_run-above}
use Rattle.layout_model.specs.declared.extent.Extent.{Extent}
use Rattle.layout_model.specs.declared.request.Request.{Request}
use Rattle.layout_model.specs.Grants.{Spaces, Spot, Answer, space_at, around, spot_in, without, and_then, or_else}
use Rattle.layout_model.specs.Grants.{run_of, only, halved, part_runs, all_runs, node_pages}
use Rattle.layout_model.specs.Grants.Answer.{Got, Refused}
use Rattle.layout_model.specs.declared.change.Change.{Change}
use Rattle.layout_model.specs.Levels.{count_made}
use Rattle.layout_model.specs.Layout.{Tree, Grants, plan_of, wanted, laid_levels, granted}
use Rattle.moment_model.specs.Version.{covers, uses}
use Rattle.moment_model.specs.Moment.{count_true, Moment, is_free, tests_in, free_in, free_of}
use Rattle.moment_laws.specs.Granting.{AreSpaces, test_at, is_among, LiesInSpace, Took, page_run, runs_of_parts, granted_runs}

-- ---- the place of a grant

-- a place has its pages in the list, free, also where none is asked for
record Fits (free : List Bool) (n at : ℕ) : Type 0 where
  some : 0 < length free
  within : at + n ≤ length free
  run : HasRun free at n

place-fits : (free : List Bool) (n at : ℕ) → block.IsPlace free n (Some at) → Fits free n at
place-fits free n at p =
    let inside = IsBlock-within free p.0 p.1 p.3.maximal.block in
    let positive = pow_pos p.0 in
    record {
      some = omega (arith, inside, positive);
      within = omega (arith, inside, p.2, p.3.fits);
      run = IsPlace-free free n at p;
    }

-- what is found stands in its space
found_at-spot : (spaces : Spaces) (n s : ℕ) (rest : List ℕ) (found : Option ℕ) (spot : Spot) →
    block_place.place (space_at spaces s) n ≡ found →
    (spot_in spaces n rest ≡ Some spot → block_place.place (space_at spaces spot.space) n ≡ Some spot.at) →
    elim found [
      | Some at ↦ Some (record { space = s; at = at })
      | None ↦ spot_in spaces n rest
    ] ≡ Some spot → block_place.place (space_at spaces spot.space) n ≡ Some spot.at
found_at-spot spaces n s rest (Some at) spot place_is further same =
    let one : record { space = s; at = at } ≡ spot = cc in
    subst (λ (x : Spot). block_place.place (space_at spaces x.space) n ≡ Some x.at) one place_is
found_at-spot spaces n s rest None spot place_is further same = further same

spot_in-place : (spaces : Spaces) (n : ℕ) (order : List ℕ) (spot : Spot) → spot_in spaces n order ≡ Some spot →
    block_place.place (space_at spaces spot.space) n ≡ Some spot.at
spot_in-place spaces n [] spot found = absurd (cc)
spot_in-place spaces n (s ∷ rest) spot found =
    found_at-spot spaces n s rest (block_place.place (space_at spaces s) n) spot refl (spot_in-place spaces n rest spot) found

-- ---- one run

-- a page is in a run, or before it or behind it
pub covers-cases : (page : ℕ) (run : Extent) →
    ((covers page run ≡ 1) × (run.page ≤ page) × (page < run.page + run.pages))
    ⊎ ((covers page run ≡ 0) × ((page < run.page) ⊎ (run.page + run.pages ≤ page)))
covers-cases page run =
    elim (cases_lt page run.page) [
      | inl before ↦ inr (grind (arith, nat_tests), inl before)
      | inr from ↦
          elim (cases_lt page (run.page + run.pages)) [
            | inl to ↦ inl (grind (arith, nat_tests), from, to)
            | inr behind ↦ inr (grind (arith, nat_tests), inr behind)
          ]
    ]

-- once, inside of it
pub covers-on : (page : ℕ) (run : Extent) → run.page ≤ page → page < run.page + run.pages → covers page run ≡ 1
covers-on page run from to = elim (covers-cases page run) [
  | inl inside ↦ inside.0
  | inr outside ↦
      elim outside.1 [
        | inl before ↦ absurd (omega (arith, before, from))
        | inr behind ↦ absurd (omega (arith, behind, to))
      ]
]

-- a spot for so many pages, in spaces of the store
record IsSpot (n : Numbers) (spaces : Spaces) (spot : Spot) (pages : ℕ) : Type 0 where
  store : spot.space < n.spaces
  within : spot.at + pages ≤ length (space_at spaces spot.space)
  long : length (space_at spaces spot.space) ≡ space_pages n
  run : HasRun (space_at spaces spot.space) spot.at pages

spot-is : (n : Numbers) (spaces : Spaces) (spot : Spot) (pages : ℕ) (order : List ℕ) → AreSpaces n spaces →
    spot_in spaces pages order ≡ Some spot → IsSpot n spaces spot pages
spot-is n spaces spot pages order are found =
    let free = space_at spaces spot.space in
    let at_place = spot_in-place spaces pages order spot found in
    let fits = place-fits free pages spot.at (subst (block.IsPlace free pages) at_place (place-is free pages)) in
    let store : spot.space < n.spaces = elim (cases_lt spot.space n.spaces) [
      | inl in_store ↦ in_store
      | inr past ↦
          let nothing : free ≡ [] = get_or_past spaces spot.space [] (omega (arith, are.count, past)) in
          let empty : length free ≡ 0 = ap length nothing in
          let some = fits.some in
          absurd (omega (arith, empty, some))
    ] in
    record { store = store; within = fits.within; long = are.each spot.space store; run = fits.run }

spot_run : Numbers → Spot → ℕ → Extent
spot_run n spot pages = record { page = data_page n spot.space spot.at; pages = pages }

spot-in_space : (n : Numbers) (spaces : Spaces) (spot : Spot) (pages : ℕ) → IsSpot n spaces spot pages →
    IsInSpace n spot.space (data_page n spot.space spot.at) pages
spot-in_space n spaces spot pages is = record {
  in_store = is.store;
  from = omega arith;
  to = omega (arith, is.within, is.long);
}

-- the spaces without the run are spaces of the store
without-spaces : (n : Numbers) (spaces : Spaces) (spot : Spot) (pages : ℕ) → AreSpaces n spaces → IsSpot n spaces spot pages →
    AreSpaces n (without spaces spot pages)
without-spaces n spaces spot pages are is =
    let free = space_at spaces spot.space in
    let cut = with_run free spot.at pages false in
    let inside : spot.space < length spaces = omega (arith, are.count, is.store) in
    record {
      count = length-set spaces spot.space cut ∙ are.count;
      each = λ s in_store. elim (cases_eq s spot.space) [
        | inl same ↦
            let here : space_at (without spaces spot pages) spot.space ≡ cut = get_or-set_same spaces spot.space cut [] inside in
            subst (λ (k : ℕ). length (space_at (without spaces spot pages) k) ≡ space_pages n) (sym same)
            (ap length here ∙ (length-with_run free spot.at pages false is.within ∙ is.long))
        | inr differ ↦ ap length (get_or-set_other spaces spot.space s cut [] differ) ∙ are.each s in_store
      ];
    }

-- a page of the store after the run was taken, by its place
taken-at : (n : Numbers) (spaces : Spaces) (spot : Spot) (pages page s at : ℕ) → AreSpaces n spaces →
    IsSpot n spaces spot pages → IsPlace n page s at →
    count_true (has_page (space_at (without spaces spot pages) s) at) + covers page (record {
      page =
          data_page n spot.space spot.at;
      pages = pages;
    })
    ≡ count_true (has_page (space_at spaces s) at)
taken-at n spaces spot pages page s at are is at_place =
    let free = space_at spaces spot.space in
    let cut = with_run free spot.at pages false in
    let run : Extent = record { page = data_page n spot.space spot.at; pages = pages } in
    let inside : spot.space < length spaces = omega (arith, are.count, is.store) in
    let here : space_at (without spaces spot pages) spot.space ≡ cut = get_or-set_same spaces spot.space cut [] inside in
    let is_page = at_place.is_page in
    elim (cases_eq s spot.space) [
      | inr differ ↦
          let stays : space_at (without spaces spot pages) s ≡ space_at spaces s = get_or-set_other spaces spot.space s cut [] differ in
          let same : count_true (has_page (space_at (without spaces spot pages) s) at) ≡ count_true (has_page (space_at spaces s) at) =
          ap (λ (x : List Bool). count_true (has_page x at)) stays in
          elim (covers-cases page run) [
            | inr out ↦ let none = out.0 in omega (arith, same, none)
            | inl covered ↦
                let other = IsPlace-in_run n spot.space (data_page n spot.space spot.at) pages page
                (spot-in_space n spaces spot pages is) covered.1 covered.2 in
                absurd (differ (IsPlace-unique n page s at spot.space (page - first_page n spot.space) at_place other).0)
          ]
      | inl same ↦
          let new : has_page (space_at (without spaces spot pages) s) at ≡ has_page cut at =
          ap (λ (k : ℕ). has_page (space_at (without spaces spot pages) k) at) same ∙ ap (λ (x : List Bool). has_page x at) here in
          let old : has_page (space_at spaces s) at ≡ has_page free at = ap (λ (k : ℕ). has_page (space_at spaces k) at) same in
          let page_is : page ≡ data_page n spot.space at = subst (λ (k : ℕ). page ≡ data_page n k at) same is_page in
          elim (covers-cases page run) [
            | inl covered ↦
                let from : spot.at ≤ at = omega (arith, covered.1, page_is) in
                let to : at < spot.at + pages = omega (arith, covered.2, page_is) in
                let was : has_page free at ≡ true = is.run.each at from to in
                let gone : has_page cut at ≡ false = with_run-inside free spot.at pages false at is.within from to in
                let count_new : count_true (has_page (space_at (without spaces spot pages) s) at) ≡ 0 = ap count_true (new ∙ gone) in
                let count_old : count_true (has_page (space_at spaces s) at) ≡ 1 = ap count_true (old ∙ was) in
                let one = covered.0 in
                omega (arith, count_new, count_old, one)
            | inr out ↦
                let stays : has_page cut at ≡ has_page free at =
                elim out.1 [
                  | inl before ↦ with_run-below free spot.at pages false at is.within (omega (arith, before, page_is))
                  | inr behind ↦ with_run-above free spot.at pages false at is.within (omega (arith, behind, page_is))
                ] in
                let count_same : count_true (has_page (space_at (without spaces spot pages) s) at)
                ≡ count_true (has_page (space_at spaces s) at) =
                ap count_true (new ∙ (stays ∙ sym old)) in
                let none = out.0 in
                omega (arith, count_same, none)
          ]
    ]

-- a page has a place or none
place-cases : (n : Numbers) (page : ℕ) → (place n page ≡ None) ⊎ ((at : ℕ × ℕ) × (place n page ≡ Some at))
place-cases n page = go (place n page) refl
  where
    go : (found : Option (ℕ × ℕ)) → place n page ≡ found → (place n page ≡ None) ⊎ ((at : ℕ × ℕ) × (place n page ≡ Some at))
    go None e = inl e
    go (Some at) e = inr (at, e)

-- one run is taken out of the free pages
pub spot-took : (n : Numbers) (spaces : Spaces) (spot : Spot) (pages : ℕ) (order : List ℕ) → AreSpaces n spaces →
    spot_in spaces pages order ≡ Some spot →
    Took n spaces (record { page = data_page n spot.space spot.at; pages = pages } ∷ []) (without spaces spot pages)
spot-took n spaces spot pages order are found =
    let run : Extent = record { page = data_page n spot.space spot.at; pages = pages } in
    let is = spot-is n spaces spot pages order are found in
    let left = without spaces spot pages in
    record {
      spaces = without-spaces n spaces spot pages are is;
      together = ((spot.space, spot-in_space n spaces spot pages is), tt);
      once = λ page.
          let alone : uses page (run ∷ []) ≡ covers page run = omega (arith, sum_by-cons (covers page) run []) in
          elim (place-cases n page) [
            | inr some ↦
                let at_place = IsPlace-from_place n page some.0.0 some.0.1 some.1 in
                let here = taken-at n spaces spot pages page some.0.0 some.0.1 are is at_place in
                let new : count_true (is_among n left page)
                ≡ count_true (has_page (space_at left some.0.0) some.0.1) =
                ap (λ o. count_true (test_at left o)) some.1 in
                let old : count_true (is_among n spaces page)
                ≡ count_true (has_page (space_at spaces some.0.0) some.0.1) =
                ap (λ o. count_true (test_at spaces o)) some.1 in
                omega (arith, alone, here, new, old)
            | inl none ↦
                let new : count_true (is_among n left page) ≡ 0 = ap (λ o. count_true (test_at left o)) none in
                let old : count_true (is_among n spaces page) ≡ 0 = ap (λ o. count_true (test_at spaces o)) none in
                elim (covers-cases page run) [
                  | inr out ↦ let free = out.0 in omega (arith, alone, new, old, free)
                  | inl covered ↦
                      let other = IsPlace-in_run n spot.space (data_page n spot.space spot.at) pages page
                      (spot-in_space n spaces spot pages is) covered.1 covered.2 in
                      let some = place-of_IsPlace n page spot.space (page - first_page n spot.space) other in
                      absurd (cc)
                ]
          ];
    }

-- ---- chains

-- a run before others
pub uses-cons : (page : ℕ) (run : Extent) (runs : List Extent) → uses page (run ∷ runs) ≡ covers page run + uses page runs
uses-cons page run runs = sum_by-cons (covers page) run runs

pub uses-append : (page : ℕ) (xs ys : List Extent) → uses page (xs ++ ys) ≡ uses page xs + uses page ys
uses-append page xs ys = sum_by-append (covers page) xs ys

-- two rows one after the other
pub took-then : (n : Numbers) (free mid left : Spaces) (xs ys : List Extent) → Took n free xs mid →
    Took n mid ys left → Took n free (xs ++ ys) left
took-then n free mid left xs ys first second = record {
  spaces = second.spaces;
  together = all-append (LiesInSpace n) xs ys first.together second.together;
  once = λ page.
      let both = uses-append page xs ys in
      let one = first.once page in
      let two = second.once page in
      omega (arith, both, one, two);
}

pub took-none : (n : Numbers) (free : Spaces) → AreSpaces n free → Took n free [] free
took-none n free are = record { spaces = are; together = tt; once = λ page. omega arith }

-- an answer gives runs that were free, or refuses
abbrev pub Takes : {A : Type 0} → Numbers → (A → List Extent) → Spaces → Answer A → Type 0
Takes n runs free (Got value left) = Took n free (runs value) left
Takes n runs free (Refused pages) = Unit {0}

pub takes-or_else : {A : Type 0} (n : Numbers) (runs : A → List Extent) (free : Spaces) (answer : Answer A) (other : ℕ → Answer A) →
    Takes n runs free answer → ((pages : ℕ) → Takes n runs free (other pages)) → Takes n runs free (or_else answer other)
takes-or_else n runs free (Got value left) other first second = first
takes-or_else n runs free (Refused pages) other first second = second pages

pub takes-and_then : {A B : Type 0} (n : Numbers) (runs : A → List Extent) (all : B → List Extent) (free : Spaces) (answer : Answer A)
    (next : A → Spaces → Answer B) → Takes n runs free answer →
    ((value : A) (mid : Spaces) → Took n free (runs value) mid → Takes n all free (next value mid)) →
    Takes n all free (and_then answer next)
takes-and_then n runs all free (Got value mid) next first further = further value mid first
takes-and_then n runs all free (Refused pages) next first further = tt

-- the last of a chain, put together with what was taken before it
pub takes-made : {A B : Type 0} (n : Numbers) (runs : A → List Extent) (all : B → List Extent) (free mid : Spaces) (before : List Extent)
    (answer : Answer A) (make : A → B) → Took n free before mid → Takes n runs mid answer →
    ((value : A) → all (make value) ≡ before ++ runs value) →
    Takes n all free (and_then answer (λ value left. Got (make value) left))
takes-made n runs all free mid before (Got value left) make first second same =
    subst (λ (xs : List Extent). Took n free xs left) (sym (same value)) (took-then n free mid left before (runs value) first second)
takes-made n runs all free mid before (Refused pages) make first second same = tt

-- ---- the grants of a change

-- a spot or a refusal
takes-spot : (n : Numbers) (pages : ℕ) (spaces : Spaces) (order : List ℕ) (found : Option Spot) →
    AreSpaces n spaces → spot_in spaces pages order ≡ found →
    Takes n (λ (run : Extent). run ∷ []) spaces (elim found [
      | Some spot ↦ Got (record { page = data_page n spot.space spot.at; pages = pages }) (without spaces spot pages)
      | None ↦ Refused pages
    ])
takes-spot n pages spaces order (Some spot) are found = spot-took n spaces spot pages order are found
takes-spot n pages spaces order None are found = tt

pub run_of-takes : (n : Numbers) (start pages : ℕ) (spaces : Spaces) → AreSpaces n spaces →
    Takes n (λ (run : Extent). run ∷ []) spaces (run_of n start pages spaces)
run_of-takes n start pages spaces are =
    takes-spot n pages spaces (around start (length spaces)) (spot_in spaces pages (around start (length spaces))) are refl

-- a single page or a refusal
takes-page : (n : Numbers) (spaces : Spaces) (order : List ℕ) (found : Option Spot) → AreSpaces n spaces → spot_in spaces 1 order ≡ found →
    Takes n (λ (run : Extent). page_run run.page ∷ []) spaces (elim found [
      | Some spot ↦ Got (record { page = data_page n spot.space spot.at; pages = 1 }) (without spaces spot 1)
      | None ↦ Refused 1
    ])
takes-page n spaces order (Some spot) are found = spot-took n spaces spot 1 order are found
takes-page n spaces order None are found = tt

page_of-takes : (n : Numbers) (start : ℕ) (spaces : Spaces) → AreSpaces n spaces →
    Takes n (λ (run : Extent). page_run run.page ∷ []) spaces (run_of n start 1 spaces)
page_of-takes n start spaces are =
    takes-page n spaces (around start (length spaces)) (spot_in spaces 1 (around start (length spaces))) are refl

alone-takes : (n : Numbers) (start pages : ℕ) (spaces : Spaces) → AreSpaces n spaces →
    Takes n (λ (runs : List Extent). runs) spaces (and_then (run_of n start pages spaces) only)
alone-takes n start pages spaces are =
    takes-and_then n (λ (run : Extent). run ∷ [])
    (λ (runs : List Extent). runs) spaces (run_of n start pages spaces) only
    (run_of-takes n start pages spaces are)
    (λ run mid took. took)

-- what is cut no further is refused
takes-choice : (n : Numbers) (free : Spaces) (pages : ℕ) (small : Bool) (cut : Answer (List Extent)) →
    Takes n (λ (runs : List Extent). runs) free cut →
    Takes n (λ (runs : List Extent). runs) free (elim small [
      | true ↦ Refused pages
      | false ↦ cut
    ])
takes-choice n free pages true cut takes = tt
takes-choice n free pages false cut takes = takes

pub halved-takes : (steps : ℕ) (n : Numbers) (start threshold pages : ℕ) (spaces : Spaces) → AreSpaces n spaces →
    Takes n (λ (runs : List Extent). runs) spaces (halved steps n start threshold pages spaces)
halved-takes zero n start threshold pages spaces are = tt
halved-takes (suc steps) n start threshold pages spaces are =
    let cut = and_then (halved steps n start threshold ((pages + 1) / 2) spaces) (λ first left.
    and_then (halved steps n start threshold (pages / 2) left) (λ second rest. Got (first ++ second) rest)) in
    let both : Takes n (λ (runs : List Extent). runs) spaces cut =
    takes-and_then n (λ (runs : List Extent). runs)
    (λ (runs : List Extent). runs) spaces (halved steps n start threshold ((pages + 1) / 2) spaces)
    (λ first left. and_then (halved steps n start threshold (pages / 2) left) (λ second rest. Got (first ++ second) rest))
    (halved-takes steps n start threshold ((pages + 1) / 2) spaces are)
    (λ first mid took.
    takes-made n (λ (runs : List Extent). runs)
    (λ (runs : List Extent). runs) spaces mid first (halved steps n start threshold (pages / 2) mid)
    (λ second. first ++ second)
    took (halved-takes steps n start threshold (pages / 2) mid took.spaces) (λ second. refl)) in
    takes-or_else n (λ (runs : List Extent). runs) spaces (and_then (run_of n start pages spaces) only)
    (λ refused. elim (nat_lt pages (2 * threshold)) [
      | true ↦ Refused pages
      | false ↦ cut
    ])
    (alone-takes n start pages spaces are) (λ refused. takes-choice n spaces pages (nat_lt pages (2 * threshold)) cut both)

part_runs-takes : (n : Numbers) (start threshold : ℕ) (request : Request) (spaces : Spaces) → AreSpaces n spaces →
    Takes n (λ (runs : List Extent). runs) spaces (part_runs n start threshold request spaces)
part_runs-takes n start threshold request spaces are =
    takes-or_else n (λ (runs : List Extent). runs) spaces (and_then (run_of n start request.want spaces) only)
    (λ refused. halved request.need n start threshold request.need spaces)
    (alone-takes n start request.want spaces are) (λ refused. halved-takes request.need n start threshold request.need spaces are)

pub all_runs-takes : (n : Numbers) (start threshold : ℕ) (requests : List Request) (spaces : Spaces) → AreSpaces n spaces →
    Takes n runs_of_parts spaces (all_runs n start threshold requests spaces)
all_runs-takes n start threshold [] spaces are = took-none n spaces are
all_runs-takes n start threshold (request ∷ rest) spaces are =
    takes-and_then n (λ (runs : List Extent). runs) runs_of_parts spaces (part_runs n start threshold request spaces)
    (λ runs left. and_then (all_runs n start threshold rest left) (λ more rest_left. Got (runs ∷ more) rest_left))
    (part_runs-takes n start threshold request spaces are)
    (λ runs mid took.
    takes-made n runs_of_parts runs_of_parts spaces mid runs (all_runs n start threshold rest mid) (λ more. runs ∷ more)
    took (all_runs-takes n start threshold rest mid took.spaces) (λ more. refl))

pub node_pages-takes : (n : Numbers) (start count : ℕ) (spaces : Spaces) → AreSpaces n spaces →
    Takes n (map page_run) spaces (node_pages n start count spaces)
node_pages-takes n start zero spaces are = took-none n spaces are
node_pages-takes n start (suc count) spaces are =
    takes-and_then n (λ (run : Extent). page_run run.page ∷ []) (map page_run) spaces (run_of n start 1 spaces)
    (λ run left. and_then (node_pages n start count left) (λ pages rest_left. Got (run.page ∷ pages) rest_left))
    (page_of-takes n start spaces are)
    (λ run mid took.
    takes-made n (map page_run) (map page_run) spaces mid (page_run run.page ∷ []) (node_pages n start count mid)
    (λ pages. run.page ∷ pages)
    took (node_pages-takes n start count mid took.spaces) (λ pages. refl))

-- all that is granted for a change
pub granted-takes : (n : Numbers) (start : ℕ) (tree : Tree) (spare : Option Extent) (change : Change) (free : Spaces) → AreSpaces n free →
    Takes n granted_runs free (granted n start tree spare change free)
unfolding granted
granted-takes n start tree spare change free are =
    let plan = plan_of n tree spare change in
    takes-and_then n runs_of_parts granted_runs free (all_runs n start tree.threshold (wanted n tree change plan) free)
    (λ runs left. and_then (node_pages n start (count_made (laid_levels n tree spare plan runs [])) left) (λ pages rest.
    Got (record { runs = runs; pages = pages }) rest))
    (all_runs-takes n start tree.threshold (wanted n tree change plan) free are)
    (λ runs mid took.
    takes-made n (map page_run) granted_runs free mid (runs_of_parts runs)
    (node_pages n start (count_made (laid_levels n tree spare plan runs [])) mid)
    (λ pages. record { runs = runs; pages = pages })
    took (node_pages-takes n start (count_made (laid_levels n tree spare plan runs [])) mid took.spaces) (λ pages. refl))

pub granted-took : (n : Numbers) (start : ℕ) (tree : Tree) (spare : Option Extent) (change : Change)
    (free left : Spaces) (grants : Grants) → AreSpaces n free →
    granted n start tree spare change free ≡ Got grants left → Took n free (granted_runs grants) left
granted-took n start tree spare change free left grants are same =
    subst (Takes n granted_runs free) same (granted-takes n start tree spare change free are)

-- ---- the free pages of a moment

-- a list of tests has the test of each place
pub tests_in-page : (n : Numbers) (s : ℕ) (test : ℕ → Bool) (at : ℕ) → at < space_pages n →
    has_page (tests_in n s test) at ≡ test (data_page n s at)
tests_in-page n s test at within =
    let long : at < length (range_with_len 0 (space_pages n)) = omega (arith, length-range_with_len 0 (space_pages n), within) in
    get_or-map (λ (k : ℕ). test (data_page n s k)) (range_with_len 0 (space_pages n)) at 0 false long
    ∙ ap (λ (k : ℕ). test (data_page n s k)) (get_or-range_with_len 0 (space_pages n) at 0 within ∙ omega arith)

-- the tests of all spaces
pub tests-space : (n : Numbers) (tests : ℕ → List Bool) (s : ℕ) → s < n.spaces →
    space_at (map tests (range_with_len 0 n.spaces)) s ≡ tests s
tests-space n tests s within =
    let long : s < length (range_with_len 0 n.spaces) = omega (arith, length-range_with_len 0 n.spaces, within) in
    get_or-map tests (range_with_len 0 n.spaces) s 0 [] long ∙ ap tests (get_or-range_with_len 0 n.spaces s 0 within ∙ omega arith)

pub free_of-spaces : (n : Numbers) (moment : Moment) → AreSpaces n (free_of n moment)
unfolding free_of
free_of-spaces n moment = record {
  count = length-map (range_with_len 0 n.spaces) (free_in n moment) ∙ length-range_with_len 0 n.spaces;
  each = λ s within. ap length (tests-space n (free_in n moment) s within)
      ∙ (length-map (range_with_len 0 (space_pages n)) (λ at. is_free n (data_page n s at) moment)
      ∙ length-range_with_len 0 (space_pages n));
}

-- the free pages of a moment are the data pages that nobody uses
pub is_among-free : (n : Numbers) (moment : Moment) (page s at : ℕ) → IsPlace n page s at →
    is_among n (free_of n moment) page ≡ is_free n page moment
unfolding free_of
is_among-free n moment page s at is =
    let found = place-of_IsPlace n page s at is in
    ap (test_at (free_of n moment)) found
    ∙ (ap (λ (x : List Bool). has_page x at) (tests-space n (free_in n moment) s is.in_store)
    ∙ (tests_in-page n s (λ k. is_free n k moment) at is.in_space ∙ ap (λ (k : ℕ). is_free n k moment) (sym is.is_page)))

-- so runs that were taken out of them were free, each page once
pub took-free : (n : Numbers) (moment : Moment) (runs : List Extent) (left : Spaces) → Took n (free_of n moment) runs left →
    (page : ℕ) → uses page runs ≤ count_true (is_free n page moment)
took-free n moment runs left took page =
    elim (place-cases n page) [
      | inl none ↦
          let nothing : count_true (is_among n (free_of n moment) page) ≡ 0 = ap (λ o. count_true (test_at (free_of n moment) o)) none in
          let once = took.once page in
          omega (arith, nothing, once)
      | inr some ↦
          let same = ap count_true (is_among-free n moment page some.0.0 some.0.1 (IsPlace-from_place n page some.0.0 some.0.1 some.1)) in
          let once = took.once page in
          omega (arith, same, once)
    ]

-- a page of a run counts for it
pub inside-counts : (page : ℕ) (run : Extent) → run.page ≤ page → page < run.page + run.pages → 0 < covers page run
inside-counts page run from to = omega (arith, covers-on page run from to)

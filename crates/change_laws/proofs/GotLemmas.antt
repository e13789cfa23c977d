-- The runs that a part was granted: what the answers of searches say of them.
use Rattle.std.proofs.Common.{◌≡◌, ℕ, zero, suc, ◌+◌, ◌*◌, ◌<◌, ◌≤◌, Bool, true, false, List, [], ◌∷◌, length, map}
use Rattle.std.proofs.Common.{refl, sym, ap, subst, arith, ◌∙◌, ◌⊎◌, inl, inr, nat_lt}
use Rattle.std.specs.Prelude.{if◌then◌else◌}
use Rattle.std.proofs.lemmas.Bool.{cases_lt, lt-ltb}
use Rattle.geometry_model.specs.Numbers.{Numbers}
use Rattle.tree_model.specs.Tree.{page_count}
use Rattle.layout_model.specs.declared.extent.Extent.{Extent}
use Rattle.layout_model.specs.declared.request.Request.{Request}
use Rattle.layout_model.specs.Plan.{ask_of}
use Rattle.layout_model.specs.Grants.{Spaces, Answer, and_then, or_else, run_of, only, halved, part_runs, all_runs}
use Rattle.layout_model.specs.Grants.{node_pages}
use Rattle.layout_model.specs.Grants.Answer.{Got, Refused}
use Rattle.layout_model.specs.Layout.{requests}
use Rattle.layout_laws.specs.Halving.{runs_pages}
use Rattle.change_laws.specs.Suiting.{HoldsPart, AllHold, AllExact}
use Rattle.layout_laws.proofs.HalvingLemmas.{halved-halves, alone_cases, no_grant, got_same}

-- ---- answers

-- what a chain got
pub and_then-got : {A B : Type 0} (answer : Answer A) (next : A → Spaces → Answer B) (value : B) (left : Spaces) →
    and_then answer next ≡ Got value left →
    (first : A) × (mid : Spaces) × (answer ≡ Got first mid) × (next first mid ≡ Got value left)
and_then-got (Got first mid) next value left got = (first, mid, refl, got)
and_then-got (Refused pages) next value left got = absurd (no_grant pages value left got)

or_else-got : {A : Type 0} (answer : Answer A) (other : ℕ → Answer A) (value : A) (left : Spaces) → or_else answer other ≡ Got value left →
    (answer ≡ Got value left) ⊎ ((pages : ℕ) × (other pages ≡ Got value left))
or_else-got (Got first mid) other value left got = inl got
or_else-got (Refused pages) other value left got = inr (pages, got)

-- ---- runs for a part

-- so many pages as one run
alone-got : (n : Numbers) (start pages : ℕ) (spaces left : Spaces) (runs : List Extent) →
    and_then (run_of n start pages spaces) only ≡ Got runs left →
    (run : Extent) × (runs ≡ run ∷ []) × (run.pages ≡ pages)
alone-got n start pages spaces left runs got =
    elim (alone_cases n start pages spaces) [
      | inr refused ↦ absurd (no_grant pages runs left (sym refused ∙ got))
      | inl one ↦
          let run : Extent = record { page = one.0; pages = pages } in
          (run, sym (got_same (run ∷ []) runs one.1 left (sym one.2 ∙ got)), refl)
    ]

-- few pages aren't halved
halved-few : (steps : ℕ) (n : Numbers) (start least pages : ℕ) (spaces left : Spaces) (runs : List Extent) → pages < 2 * least →
    halved steps n start least pages spaces ≡ Got runs left → (run : Extent) × (runs ≡ run ∷ []) × (run.pages ≡ pages)
halved-few zero n start least pages spaces left runs few got = absurd (no_grant pages runs left got)
halved-few (suc steps) n start least pages spaces left runs few got =
    elim (alone_cases n start pages spaces) [
      | inl one ↦
          let run : Extent = record { page = one.0; pages = pages } in
          let whole : Got (run ∷ []) one.1 ≡ Got runs left = rw (one.2, halved) at got in
          (run, sym (got_same (run ∷ []) runs one.1 left whole), refl)
      | inr refused ↦
          let small : nat_lt pages (2 * least) ≡ true = lt-ltb pages (2 * least) few in
          absurd (no_grant pages runs left (rw (refused, small, halved) at got))
    ]

pub part-got : (n : Numbers) (start least want bytes : ℕ) (spaces left : Spaces) (runs : List Extent) → page_count n.page bytes ≤ want →
    part_runs n start least (record { want = want; need = page_count n.page bytes }) spaces ≡ Got runs left →
    HoldsPart n.page least bytes runs
part-got n start least want bytes spaces left runs enough got =
    let need = page_count n.page bytes in
    elim (or_else-got (and_then (run_of n start want spaces) only) (λ refused. halved need n start least need spaces) runs left got) [
      | inl first ↦
          let one = alone-got n start want spaces left runs first in
          let pages = one.2 in
          inl (one.0, one.1, omega (arith, pages, enough))
      | inr second ↦
          elim (cases_lt need least) [
            | inl few ↦
                let one = halved-few need n start least need spaces left runs (omega (arith, few)) second.1 in
                let pages = one.2 in
                inl (one.0, one.1, omega (arith, pages))
            | inr many ↦ inr (many, halved-halves need n start least need spaces left runs many second.1)
          ]
    ]

-- where no more is wished than is needed the runs have just the pages
pub exact-got : (n : Numbers) (start least bytes : ℕ) (spaces left : Spaces) (runs : List Extent) →
    part_runs n start least (record { want = page_count n.page bytes; need = page_count n.page bytes }) spaces
    ≡ Got runs left → runs_pages runs ≡ page_count n.page bytes
exact-got n start least bytes spaces left runs got =
    let need = page_count n.page bytes in
    let single : (run : Extent) → runs ≡ run ∷ [] → run.pages ≡ need → runs_pages runs ≡ need = λ run is pages.
    let all : runs_pages runs ≡ run.pages + 0 = ap runs_pages is in
    omega (arith, all, pages) in
    elim (or_else-got (and_then (run_of n start need spaces) only) (λ refused. halved need n start least need spaces) runs left got) [
      | inl first ↦ let one = alone-got n start need spaces left runs first in single one.0 one.1 one.2
      | inr second ↦
          elim (cases_lt need least) [
            | inl few ↦ let one = halved-few need n start least need spaces left runs (omega (
              arith,
              few,
            )) second.1 in single one.0 one.1 one.2
            | inr many ↦ (halved-halves need n start least need spaces left runs many second.1).together
          ]
    ]

pub want-enough : (b : Bool) (need last limit : ℕ) → need ≤ (if b then ask_of need last limit else need)
want-enough true need last limit = omega arith
want-enough false need last limit = omega arith

pub all_runs-hold : (n : Numbers) (start least : ℕ) (appends : Bool) (last limit : ℕ) (ns : List ℕ)
    (spaces left : Spaces) (runs : List (List Extent)) →
    all_runs n start least (requests appends last limit (map (page_count n.page) ns)) spaces ≡ Got runs left → AllHold n.page least ns runs
all_runs-hold n start least appends last limit [] spaces left runs got = tt
all_runs-hold n start least appends last limit (bytes ∷ []) spaces left runs got =
    let need = page_count n.page bytes in
    let want = if appends then ask_of need last limit else need in
    let request : Request = record { want = want; need = need } in
    let first = and_then-got (part_runs n start least request spaces)
    (λ one mid. and_then (all_runs n start least [] mid) (λ more rest. Got (one ∷ more) rest)) runs left got in
    let same : Got (first.0 ∷ []) first.1 ≡ Got runs left = first.3 in
    let shape : first.0 ∷ [] ≡ runs = got_all (first.0 ∷ []) runs first.1 left same in
    subst (AllHold n.page least (bytes ∷ [])) shape
    (part-got n start least want bytes spaces first.1 first.0 (want-enough appends need last limit) first.2, tt)
  where
    got_all : (x y : List (List Extent)) (left rest : Spaces) → Got x left ≡ Got y rest → x ≡ y
    got_all x y left rest same = cc
all_runs-hold n start least appends last limit (bytes ∷ next ∷ ns) spaces left runs got =
    let need = page_count n.page bytes in
    let request : Request = record { want = need; need = need } in
    let others = requests appends last limit (map (page_count n.page) (next ∷ ns)) in
    let first = and_then-got (part_runs n start least request spaces)
    (λ one mid. and_then (all_runs n start least others mid) (λ more rest. Got (one ∷ more) rest)) runs left got in
    let second = and_then-got (all_runs n start least others first.1) (λ more rest. Got (first.0 ∷ more) rest) runs left first.3 in
    let shape : first.0 ∷ second.0 ≡ runs = got_all (first.0 ∷ second.0) runs second.1 left second.3 in
    subst (AllHold n.page least (bytes ∷ next ∷ ns)) shape (
      part-got n start least need bytes spaces first.1 first.0 (omega arith) first.2,
      all_runs-hold n start least appends last limit (next ∷ ns) first.1 second.1 second.0 second.2,
    )
  where
    got_all : (x y : List (List Extent)) (left rest : Spaces) → Got x left ≡ Got y rest → x ≡ y
    got_all x y left rest same = cc

-- what all parts were granted
pub all_runs-exact : (n : Numbers) (start least : ℕ) (appends : Bool) (last limit : ℕ) (ns : List ℕ)
    (spaces left : Spaces) (runs : List (List Extent)) →
    all_runs n start least (requests appends last limit (map (page_count n.page) ns)) spaces ≡ Got runs left →
    AllExact n.page appends ns runs
all_runs-exact n start least appends last limit [] spaces left runs got = sym (got_all [] runs spaces left got)
  where
    got_all : (x y : List (List Extent)) (left rest : Spaces) → Got x left ≡ Got y rest → x ≡ y
    got_all x y left rest same = cc
all_runs-exact n start least true last limit (bytes ∷ []) spaces left runs got =
    let need = page_count n.page bytes in
    let want = ask_of need last limit in
    let request : Request = record { want = want; need = need } in
    let first = and_then-got (part_runs n start least request spaces)
    (λ one mid. and_then (all_runs n start least [] mid) (λ more rest. Got (one ∷ more) rest)) runs left got in
    let shape : first.0 ∷ [] ≡ runs = got_all (first.0 ∷ []) runs first.1 left first.3 in
    subst (AllExact n.page true (bytes ∷ [])) shape
    refl
  where
    got_all : (x y : List (List Extent)) (left rest : Spaces) → Got x left ≡ Got y rest → x ≡ y
    got_all x y left rest same = cc
all_runs-exact n start least false last limit (bytes ∷ []) spaces left runs got =
    let need = page_count n.page bytes in
    let request : Request = record { want = need; need = need } in
    let first = and_then-got (part_runs n start least request spaces)
    (λ one mid. and_then (all_runs n start least [] mid) (λ more rest. Got (one ∷ more) rest)) runs left got in
    let shape : first.0 ∷ [] ≡ runs = got_all (first.0 ∷ []) runs first.1 left first.3 in
    subst (AllExact n.page false (bytes ∷ [])) shape (exact-got n start least bytes spaces first.1 first.0 first.2, refl)
  where
    got_all : (x y : List (List Extent)) (left rest : Spaces) → Got x left ≡ Got y rest → x ≡ y
    got_all x y left rest same = cc
all_runs-exact n start least appends last limit (bytes ∷ next ∷ ns) spaces left runs got =
    let need = page_count n.page bytes in
    let request : Request = record { want = need; need = need } in
    let others = requests appends last limit (map (page_count n.page) (next ∷ ns)) in
    let first = and_then-got (part_runs n start least request spaces)
    (λ one mid. and_then (all_runs n start least others mid) (λ more rest. Got (one ∷ more) rest)) runs left got in
    let second = and_then-got (all_runs n start least others first.1) (λ more rest. Got (first.0 ∷ more) rest) runs left first.3 in
    let shape : first.0 ∷ second.0 ≡ runs = got_all (first.0 ∷ second.0) runs second.1 left second.3 in
    go appends shape (exact-got n start least bytes spaces first.1 first.0 first.2)
    (all_runs-exact n start least appends last limit (next ∷ ns) first.1 second.1 second.0 second.2)
  where
    got_all : (x y : List (List Extent)) (left rest : Spaces) → Got x left ≡ Got y rest → x ≡ y
    got_all x y left rest same = cc

    go : (appends : Bool) {run : List Extent} {more : List (List Extent)} → run ∷ more ≡ runs →
        runs_pages run ≡ page_count n.page bytes → AllExact n.page appends (next ∷ ns) more →
        AllExact n.page appends (bytes ∷ next ∷ ns) runs
    go true shape one more = subst (AllExact n.page true (bytes ∷ next ∷ ns)) shape (one, more)
    go false shape one more = subst (AllExact n.page false (bytes ∷ next ∷ ns)) shape (one, more)

-- as many node pages as were asked for
pub node_pages-count : (n : Numbers) (start count : ℕ) (spaces left : Spaces) (pages : List ℕ) →
    node_pages n start count spaces ≡ Got pages left → length pages ≡ count
node_pages-count n start zero spaces left pages got = sym (ap length (got_all [] pages spaces left got))
  where
    got_all : (x y : List ℕ) (left rest : Spaces) → Got x left ≡ Got y rest → x ≡ y
    got_all x y left rest same = cc
node_pages-count n start (suc count) spaces left pages got =
    let first = and_then-got (run_of n start 1 spaces)
    (λ run mid. and_then (node_pages n start count mid)
    (λ more rest. Got (run.page ∷ more) rest)) pages left got in
    let second = and_then-got (node_pages n start count first.1) (λ more rest. Got (first.0.page ∷ more) rest) pages left first.3 in
    let shape : first.0.page ∷ second.0 ≡ pages = got_all (first.0.page ∷ second.0) pages second.1 left second.3 in
    let more = node_pages-count n start count first.1 second.1 second.0 second.2 in
    sym (ap length shape) ∙ ap suc more
  where
    got_all : (x y : List ℕ) (left rest : Spaces) → Got x left ≡ Got y rest → x ≡ y
    got_all x y left rest same = cc

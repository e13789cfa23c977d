-- The runs that were granted for a plan's parts suit it: each part has its wish in one run, or its need in halves.
use Rattle.std.proofs.Common.{◌≡◌, ℕ, ◌≤◌, min, Bool, true, false, List, [], ◌∷◌, map, take, drop, sum}
use Rattle.std.proofs.Common.{refl, ap, subst, arith, inl, inr}
use Rattle.std.specs.List.{AllByRecursion}
use Rattle.std.proofs.lemmas.List.{drop-map, take-map}
use Rattle.std.proofs.lemmas.List.Sums.{sum_by-cons}
use Rattle.std.proofs.lemmas.Bool.{cases_lt}
use Rattle.geometry_model.specs.Numbers.{Numbers, space_pages}
use Rattle.tree_model.specs.Tree.{page_count}
use Rattle.layout_model.specs.declared.change.Change.{Change}
use Rattle.layout_model.specs.declared.extent.Extent.{Extent}
use Rattle.layout_model.specs.declared.fit.Fit.{Fit}
use Rattle.layout_model.specs.declared.fit.Fit.TheVariants.{Extend, Follow, Fresh}
use Rattle.layout_model.specs.declared.request.Request.{Request}
use Rattle.layout_model.specs.Layout.{Tree, tree_entries, requests, wanted}
use Rattle.layout_model.specs.Plan.{Plan, ask_of, last_entry, made_part_bytes}
use Rattle.layout_laws.specs.Halving.{runs_pages, AreLong}
use Rattle.change_laws.specs.Suiting.{HoldsPart, AllHold, AllExact, SuitBy, SuitPlan}
use Rattle.change_laws.proofs.GotLemmas.{want-enough}
use Rattle.part_store.specs.Asking.{IsAskable, AreRowsOf, AreOfAll, rows}

abbrev pages_of : List Extent → List ℕ
pages_of runs = map (λ run. run.pages) runs

runs_pages-sum : (runs : List Extent) → runs_pages runs ≡ sum (pages_of runs)
runs_pages-sum [] = refl
runs_pages-sum (run ∷ rest) =
    let more = runs_pages-sum rest in
    let one = sum_by-cons (λ (k : ℕ). k) run.pages (pages_of rest) in
    omega (arith, more, one)

-- ---- one part

long-all : (least : ℕ) (runs : List Extent) → AllByRecursion (λ n. least ≤ n) (pages_of runs) → AreLong least runs
long-all least [] all = tt
long-all least (run ∷ rest) all = (all.0, long-all least rest all.1)

-- runs of the need together, each with as much, are one run
alone : (need : ℕ) (runs : List Extent) → 1 ≤ need → runs_pages runs ≡ need → AllByRecursion (λ n. need ≤ n) (pages_of runs) →
    (run : Extent) × (runs ≡ run ∷ []) × (need ≤ run.pages)
alone need [] some together all = absurd (omega (arith, some, together))
alone need (run ∷ []) some together all = (run, refl, all.0)
alone need (run ∷ next ∷ rest) some together all =
    let first = all.0 in
    let second = all.1.0 in
    absurd (omega (arith, some, together, first, second))

all-same : (a b : ℕ) (xs : List ℕ) → a ≡ b → AllByRecursion (λ n. a ≤ n) xs → AllByRecursion (λ n. b ≤ n) xs
all-same a b xs same all = subst (λ (k : ℕ). AllByRecursion (λ n. k ≤ n) xs) same all

-- one run of these pages
pub one-run : (pages : ℕ) (runs : List Extent) → pages_of runs ≡ pages ∷ [] → (run : Extent) × (runs ≡ run ∷ []) × (run.pages ≡ pages)
one-run pages [] same = absurd cc
one-run pages (run ∷ []) same = (run, refl, cc)
one-run pages (run ∷ next ∷ rest) same = absurd cc

-- the runs of a part hold it
row-holds : (size least bytes want : ℕ) (runs : List Extent) → 1 ≤ page_count size bytes → page_count size bytes ≤ want →
    AreRowsOf least (record { want = want; need = page_count size bytes }) (pages_of runs) → HoldsPart size least bytes runs
row-holds size least bytes want runs some enough (inl wish) =
    let one = one-run want runs wish in
    let pages = one.2 in
    inl (one.0, one.1, omega (arith, pages, enough))
row-holds size least bytes want runs some enough (inr halves) =
    let need = page_count size bytes in
    let sums = runs_pages-sum runs in
    let whole = halves.0 in
    let together : runs_pages runs ≡ need = omega (arith, sums, whole) in
    elim (cases_lt need least) [
      | inl few ↦ inl (alone need runs some together (all-same (min need least) need (pages_of runs) (omega (arith, few)) halves.1))
      | inr many ↦ inr (
        many,
        record {
          together = together;
          long = long-all least runs (all-same (min need least) least (pages_of runs) (omega (arith, many)) halves.1);
        },
      )
    ]

-- where no more is wished for than is needed, they have just its pages
row-exact : (size least bytes : ℕ) (runs : List Extent) →
    AreRowsOf least (record { want = page_count size bytes; need = page_count size bytes }) (pages_of runs) →
    runs_pages runs ≡ page_count size bytes
row-exact size least bytes runs (inl wish) =
    let sums = runs_pages-sum runs in
    let all = ap sum wish in
    let one = sum_by-cons (λ (k : ℕ). k) (page_count size bytes) [] in
    omega (arith, sums, all, one)
row-exact size least bytes runs (inr halves) =
    let sums = runs_pages-sum runs in
    let all = halves.0 in
    omega (arith, sums, all)

-- ---- all parts

first-row : (least k : ℕ) (request : Request) (runs : List Extent) → AreRowsOf least request (take k (pages_of runs)) →
    AreRowsOf least request (pages_of (take k runs))
first-row least k request runs row = subst (AreRowsOf least request) (take-map (λ (run : Extent). run.pages) k runs) row

more-rows : (least k : ℕ) (requests : List Request) (counts : List ℕ) (runs : List Extent) →
    AreOfAll least requests (rows counts (drop k (pages_of runs))) → AreOfAll least requests (rows counts (pages_of (drop k runs)))
more-rows least k requests counts runs all =
    subst (λ xs. AreOfAll least requests (rows counts xs)) (drop-map (λ (run : Extent). run.pages) k runs) all

-- the runs of all parts
abbrev Suits : ℕ → ℕ → Bool → List ℕ → List (List Extent) → Type 0
Suits size least appends ns runs = AllHold size least ns runs × AllExact size appends ns runs

rows-suit : (size least : ℕ) (appends : Bool) (last limit most : ℕ) (ns counts : List ℕ) (runs : List Extent) →
    AllByRecursion (IsAskable most) (requests appends last limit (map (page_count size) ns)) →
    AreOfAll least (requests appends last limit (map (page_count size) ns)) (rows counts (pages_of runs)) →
    Suits size least appends ns (rows counts runs)
rows-suit size least appends last limit most [] [] runs ask all = (tt, refl)
rows-suit size least appends last limit most [] (k ∷ counts) runs ask all = absurd all
rows-suit size least appends last limit most (bytes ∷ []) [] runs ask all = absurd all
rows-suit size least appends last limit most (bytes ∷ []) (k ∷ k2 ∷ counts) runs ask all = absurd all.1
rows-suit size least true last limit most (bytes ∷ []) (k ∷ []) runs ask all =
    let need = page_count size bytes in
    let request : Request = record { want = ask_of need last limit; need = need } in (
      (
        row-holds size least bytes (ask_of need last limit) (take k runs) ask.0.some (want-enough true need last limit)
            (first-row least k request runs all.0),
        tt,
      ),
      refl,
    )
rows-suit size least false last limit most (bytes ∷ []) (k ∷ []) runs ask all =
    let need = page_count size bytes in
    let request : Request = record { want = need; need = need } in
    let row = first-row least k request runs all.0 in (
      (row-holds size least bytes need (take k runs) ask.0.some (omega arith) row, tt),
      (row-exact size least bytes (take k runs) row, refl),
    )
rows-suit size least appends last limit most (bytes ∷ next ∷ ns) [] runs ask all = absurd all
rows-suit size least appends last limit most (bytes ∷ next ∷ ns) (k ∷ counts) runs ask all =
    let need = page_count size bytes in
    let request : Request = record { want = need; need = need } in
    let row = first-row least k request runs all.0 in
    let others = requests appends last limit (map (page_count size) (next ∷ ns)) in
    let more = rows-suit size least appends last limit most (next ∷ ns) counts (drop k runs) ask.1
    (more-rows least k others counts runs all.1) in (
      (row-holds size least bytes need (take k runs) ask.0.some (omega arith) row, more.0),
      exact appends (row-exact size least bytes (take k runs) row) more.1,
    )
  where
    exact : (appends : Bool) → runs_pages (take k runs) ≡ page_count size bytes →
        AllExact size appends (next ∷ ns) (rows counts (drop k runs)) →
        AllExact size appends (bytes ∷ next ∷ ns) (take k runs ∷ rows counts (drop k runs))
    exact true one rest = (one, rest)
    exact false one rest = (one, rest)

-- ---- a plan

no-rows : (least : ℕ) (counts sizes : List ℕ) (runs : List Extent) → AreOfAll least [] (rows counts sizes) →
    rows counts runs ≡ []
no-rows least [] sizes runs all = refl
no-rows least (k ∷ counts) sizes runs all = absurd all

-- the runs that were granted for what a plan asks for suit it
pub asked-suits : (n : Numbers) (tree : Tree) (change : Change) (plan : Plan) (most : ℕ) (counts : List ℕ) (runs : List Extent) →
    AllByRecursion (IsAskable most) (wanted n tree change plan) →
    AreOfAll tree.threshold (wanted n tree change plan) (rows counts (pages_of runs)) →
    SuitPlan n tree change plan (rows counts runs)
asked-suits n tree change plan most counts runs ask all = go plan.fit refl
  where
    least : ℕ
    least = tree.threshold

    by : (asks : List Request) → wanted n tree change plan ≡ asks →
        AllByRecursion (IsAskable most) asks × AreOfAll tree.threshold asks (rows counts (pages_of runs))
    by asks is = (
      subst (AllByRecursion (IsAskable most)) is ask,
      subst (λ rs. AreOfAll tree.threshold rs (rows counts (pages_of runs))) is all,
    )

    go : (fit : Fit) → plan.fit ≡ fit → SuitBy fit n.page tree.threshold change.appends (made_part_bytes plan.parts) (rows counts runs)
    go Fresh fresh =
        let last = page_count n.page (last_entry (tree_entries tree)).bytes in
        let ns = made_part_bytes plan.parts in
        let asked = by (requests change.appends last (space_pages n) (map (page_count n.page) ns)) (rw (fresh, wanted)) in
        rows-suit n.page tree.threshold change.appends last (space_pages n) most ns counts runs asked.0 asked.1
    go Follow follow = no-rows tree.threshold counts (pages_of runs) runs (by [] (rw (follow, wanted))).1
    go Extend extend = no-rows tree.threshold counts (pages_of runs) runs (by [] (rw (extend, wanted))).1

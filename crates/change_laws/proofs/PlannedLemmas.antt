-- The plan of a change, laid out on the runs that it was granted or on the spare.
use Rattle.std.proofs.Common.{◌≡◌, ℕ, ◌+◌, ◌*◌, ◌<◌, ◌≤◌, min, Bool, true, Option, Some, None, List, [], ◌∷◌, ◌++◌}
use Rattle.std.proofs.Common.{map, take, drop, refl, sym, ap, subst, arith, ◌∙◌, ◌⊎◌, inl, inr}
use Rattle.std.specs.Prelude.{if◌then◌else◌}
use Rattle.std.specs.List.{AllByRecursion}
use Rattle.std.proofs.lemmas.Bool.{cases_Bool}
use Rattle.std.proofs.lemmas.List.Sums.{sum_by-cons}
use Rattle.geometry_model.specs.Numbers.{Numbers, IsInRange, space_pages}
use Rattle.geometry_model.proofs.NumberLaws.{page_size-low, space_pages-low}
use Rattle.tree_model.specs.declared.entry.Pair.{Pair}
use Rattle.tree_model.specs.Tree.{page_count}
use Rattle.layout_model.specs.declared.extent.Extent.{Extent}
use Rattle.layout_model.specs.declared.part.Part.{Part}
use Rattle.layout_model.specs.declared.part.Part.TheVariants.{Keep, Make}
use Rattle.layout_model.specs.declared.change.Change.{Change}
use Rattle.layout_model.specs.declared.fit.Fit.{Fit}
use Rattle.layout_model.specs.declared.fit.Fit.TheVariants.{Extend, Follow, Fresh}
use Rattle.layout_model.specs.Parts.{parts_of}
use Rattle.layout_model.specs.Pack.{pack}
use Rattle.layout_model.specs.Plan.{Plan, extent_pages, past, made_part_bytes, fit_appended, plan_extended, planned}
use Rattle.layout_model.specs.Plan.{last_entry}
use Rattle.layout_model.specs.Layout.{Tree, Grants, tree_entries, plan_of, laid_parts, as_run}
use Rattle.layout_model.specs.Layout.{laid_entries, spare_behind, spare_after}
use Rattle.tree_model.proofs.PageCountLaws.{count-min, count-some}
use Rattle.moment_model.specs.Version.{IsGood, covers, uses, spare_uses}
use Rattle.moment_laws.specs.Granting.{LiesInSpace, page_run, runs_of_parts}
use Rattle.change_laws.specs.Tail.{FollowsLast, IsTail}
use Rattle.change_laws.specs.Laying.{IsChange}
use Rattle.change_laws.specs.Suiting.{SuitPlan, IsSuited}
use Rattle.change_laws.proofs.PartLemmas.{GoodPart, all-left, all-right, segments-have, plan-good}
use Rattle.change_laws.proofs.SegmentLemmas.{Matched, matched-from}
use Rattle.change_laws.proofs.SuitLemmas.{fresh-suits}
use Rattle.change_laws.proofs.AppendLemmas.{Appended, appended-plan}
use Rattle.change_laws.proofs.LayingLemmas.{Laying, IsPackedObject, merged_plan, merged-laying, extended-laying}
use Rattle.change_laws.proofs.LayingLemmas.{fit-cases, extend-means}

-- ---- the plan of a change, laid out

-- an edited tree as an object of packed segments
pub packed-object : (n : Numbers) (tree : Tree) → IsInRange n → IsGood n tree → IsPackedObject n tree.threshold (tree_entries tree)
packed-object n tree range good =
    let page = page_size-low n.page range.page_size in
    let space = space_pages-low n range in
    record {
      page = omega (arith, page);
      space = omega (arith, space);
      low = good.threshold_low;
      high = good.threshold_high;
      segments = good.segments;
      neighbours = good.neighbours;
    }

-- a run behind the last entry lies in its space
follows-lies : (n : Numbers) (entries : List Pair) (run : Extent) → FollowsLast n entries run → LiesInSpace n run
follows-lies n entries run tail =
    let space = tail.together.1 in
    let behind = tail.behind in
    (tail.together.0, record { in_store = space.in_store; from = omega (arith, space.from, behind); to = omega (arith, space.to, behind) })

-- the spare of a tail has room for a page where it has room for a byte
pub some-run : (n : Numbers) (tree : Tree) (spare : Option Extent) (pages : ℕ) → IsTail n (Some tree) spare →
    1 ≤ pages → pages ≤ extent_pages spare →
    (run : Extent) × (spare ≡ Some run) × (pages ≤ run.pages) × FollowsLast n (tree_entries tree) run
some-run n tree None pages tail any fits = absurd (omega (arith, any, fits))
some-run n tree (Some run) pages tail any fits = (run, refl, fits, tail)

-- the laying of a plan
abbrev pub LaysOut : Numbers → Tree → Option Extent → Change → Plan → List (List Extent) → Type 0
LaysOut n tree spare change plan runs =
    Laying n tree.threshold (tree_entries tree) spare plan.from plan.count (laid_entries n spare plan runs)
    (runs_of_parts runs) (spare_after n spare change plan runs)

extended-out : (n : Numbers) (tree : Tree) (spare : Option Extent) (change : Change) (runs : List (List Extent)) →
    IsPackedObject n tree.threshold (tree_entries tree) →
    IsTail n (Some tree) spare → IsChange tree change → fit_appended n.page (tree_entries tree) (extent_pages spare) change ≡ Extend →
    runs ≡ [] → LaysOut n tree spare change (plan_extended (tree_entries tree) change) runs
extended-out n tree spare change runs object tail is fit none =
    let means = extend-means n.page (tree_entries tree) (extent_pages spare) change fit in
    let end = is.at_end means.2 in
    let nothing = end.1 in
    let bring = is.some in
    let some : 0 < change.added = omega (arith, nothing, bring) in
    let any = count-some n.page change.added object.page some in
    let run = some-run n tree spare (page_count n.page change.added) tail (omega (arith, any)) means.0 in
    let laying = extended-laying n tree.threshold (tree_entries tree) run.0 change object run.3 means.1 run.2 in
    subst (λ (rs : List (List Extent)). LaysOut n tree spare change (plan_extended (tree_entries tree) change) rs) (sym none)
    (subst (λ (sp : Option Extent). LaysOut n tree sp change (plan_extended (tree_entries tree) change) []) (sym run.1) laying)

-- what a merged plan brings, by how it meets the spare
pub fresh-entries : (n : Numbers) (spare : Option Extent) (plan : Plan) (runs : List (List Extent)) →
    plan.fit ≡ Fresh → laid_entries n spare plan runs ≡ laid_parts n.page plan.parts runs
fresh-entries n spare plan runs fresh = rw (fresh, laid_entries)

pub follow-entries : (n : Numbers) (spare : Option Extent) (plan : Plan) (runs : List (List Extent)) →
    plan.fit ≡ Follow → laid_entries n spare plan runs ≡ laid_parts n.page plan.parts (as_run spare)
follow-entries n spare plan runs follow = rw (follow, laid_entries)

pub fresh-spare : (n : Numbers) (spare : Option Extent) (change : Change) (plan : Plan) (runs : List (List Extent)) → plan.fit ≡ Fresh →
    spare_after n spare change plan runs ≡ (if change.appends then spare_behind n.page (made_part_bytes plan.parts) runs else None)
fresh-spare n spare change plan runs fresh = rw (fresh, spare_after)

follow-spare : (n : Numbers) (spare : Option Extent) (change : Change) (plan : Plan) (runs : List (List Extent)) → plan.fit ≡ Follow →
    spare_after n spare change plan runs ≡ past (page_count n.page (last_entry (laid_parts n.page plan.parts (as_run spare))).bytes) spare
follow-spare n spare change plan runs follow = rw (follow, spare_after)

-- an append by its numbers
appended : (n : Numbers) (tree : Tree) (change : Change) (pages : ℕ) →
    IsPackedObject n tree.threshold (tree_entries tree) → IsChange tree change → change.appends ≡ true →
    Appended n.page (tree_entries tree) pages change
    (pack n.page tree.threshold (parts_of n.page (space_pages n * n.page)
    (tree_entries tree) change.at change.removed change.added))
appended n tree change pages object is append =
    let end = is.at_end append in
    appended-plan n.page tree.threshold (space_pages n * n.page) pages (tree_entries tree) change
    (segments-have n (tree_entries tree) object.segments) end.0 end.1

merged-fresh : (n : Numbers) (tree : Tree) (spare : Option Extent) (change : Change)
    (runs : List (List Extent)) → IsPackedObject n tree.threshold (tree_entries tree) →
    IsChange tree change → (merged_plan n tree.threshold (tree_entries tree) (extent_pages spare) change).fit ≡ Fresh →
    SuitPlan n tree change (merged_plan n tree.threshold (tree_entries tree) (extent_pages spare) change) runs →
    AllByRecursion (LiesInSpace n) (runs_of_parts runs) →
    LaysOut n tree spare change (merged_plan n tree.threshold (tree_entries tree)
    (extent_pages spare) change) runs
merged-fresh n tree spare change runs object is fresh suits lie =
    let entries = tree_entries tree in
    let plan = merged_plan n tree.threshold entries (extent_pages spare) change in
    let hold = fresh-suits n tree change plan runs fresh suits in
    let matched = matched-from n.page tree.threshold plan.parts runs hold.0 in
    let after = spare_after n spare change plan runs in
    let after_is = fresh-spare n spare change plan runs fresh in
    let left : (after ≡ None) ⊎ ((after ≡ spare_behind n.page (made_part_bytes plan.parts) runs)
    × Appended n.page entries (extent_pages spare) change
    (pack n.page tree.threshold (parts_of n.page (space_pages n * n.page) entries change.at change.removed
    change.added))) =
    elim (cases_Bool change.appends) [
      | inl append ↦
          inr (
            after_is ∙ ap (λ (b : Bool). if b then spare_behind n.page (made_part_bytes plan.parts) runs else
                None) append,
            appended n tree change (extent_pages spare) object is append,
          )
      | inr not_append ↦ inl (after_is ∙ ap (λ (b : Bool). if b then spare_behind n.page
          (made_part_bytes plan.parts) runs else None) not_append)
    ] in
    let laying = merged-laying n tree.threshold entries spare (extent_pages spare) change runs (runs_of_parts runs)
    after object matched lie (λ page. omega arith) left in
    subst (λ (new : List Pair). Laying n tree.threshold entries spare plan.from plan.count new (runs_of_parts runs)
    after) (sym (fresh-entries n spare plan runs fresh)) laying

-- an appended part that follows the tail: it is the plan's only one, and the spare's run has room for it
pub record IsFollowed (n : Numbers) (tree : Tree) (spare : Option Extent) (change : Change) (bytes : ℕ) : Type 0 where
  pub on : Extent
  pub is : spare ≡ Some on
  pub fits : page_count n.page bytes ≤ on.pages
  pub behind : FollowsLast n (tree_entries tree) on
  pub parts : (merged_plan n tree.threshold (tree_entries tree) (extent_pages spare) change).parts ≡ Make bytes ∷ []
  pub matched : Matched n.page tree.threshold (merged_plan n tree.threshold (tree_entries tree)
      (extent_pages spare) change).parts (as_run spare)

pub followed : (n : Numbers) (tree : Tree) (spare : Option Extent) (change : Change) (bytes : ℕ) →
    IsPackedObject n tree.threshold (tree_entries tree) →
    IsTail n (Some tree) spare → IsChange tree change → change.appends ≡ true →
    made_part_bytes (pack n.page tree.threshold (parts_of n.page (space_pages n * n.page)
    (tree_entries tree) change.at change.removed change.added)) ≡ bytes ∷ [] →
    page_count n.page bytes ≤ extent_pages spare → IsFollowed n tree spare change bytes
followed n tree spare change bytes object tail is append one fits =
    let entries = tree_entries tree in
    let plan = merged_plan n tree.threshold entries (extent_pages spare) change in
    let appends = appended n tree change (extent_pages spare) object is append in
    let sizes : appends.sizes ≡ bytes ∷ [] = sym appends.packed_sizes ∙ one in
    let parts : plan.parts ≡ Make bytes ∷ [] = appends.parts ∙ ap (map Make) sizes in
    let good = plan-good n tree.threshold (extent_pages spare) entries change object.page object.space object.high object.segments in
    let plan_good = all-left (GoodPart n) plan.parts (map Keep (drop (plan.from + plan.count) entries))
    (all-right (GoodPart n) (map Keep (take plan.from entries)) (plan.parts ++ map Keep (drop (plan.from + plan.count) entries)) good) in
    let made_good : AllByRecursion (GoodPart n) (Make bytes ∷ []) = subst (AllByRecursion (GoodPart n)) parts plan_good in
    let byte = made_good.0.0 in
    let any = count-some n.page bytes object.page (omega (arith, byte)) in
    let run = some-run n tree spare (page_count n.page bytes) tail (omega (arith, any)) fits in
    let placed : as_run spare ≡ (run.0 ∷ []) ∷ [] = ap as_run run.1 in
    record {
      on = run.0;
      is = run.1;
      fits = run.2;
      behind = run.3;
      parts = parts;
      matched = subst (λ (ps : List Part). Matched n.page tree.threshold ps (as_run spare)) (sym parts)
          (subst (Matched n.page tree.threshold (Make bytes ∷ [])) (sym placed) (inl (run.0, refl, run.2), tt));
    }

merged-follow : (n : Numbers) (tree : Tree) (spare : Option Extent) (change : Change)
    (runs : List (List Extent)) (bytes : ℕ) →
    IsPackedObject n tree.threshold (tree_entries tree) →
    IsTail n (Some tree) spare → IsChange tree change →
    (merged_plan n tree.threshold (tree_entries tree) (extent_pages spare) change).fit ≡ Follow →
    change.appends ≡ true →
    made_part_bytes (pack n.page tree.threshold (parts_of n.page (space_pages n * n.page)
    (tree_entries tree) change.at change.removed change.added)) ≡ bytes ∷ [] →
    page_count n.page bytes ≤ extent_pages spare →
    SuitPlan n tree change (merged_plan n tree.threshold (tree_entries tree) (extent_pages spare) change) runs →
    LaysOut n tree spare change (merged_plan n tree.threshold (tree_entries tree) (extent_pages spare) change) runs
merged-follow n tree spare change runs bytes object tail is follow append one fits suits =
    let entries = tree_entries tree in
    let plan = merged_plan n tree.threshold entries (extent_pages spare) change in
    let appends = appended n tree change (extent_pages spare) object is append in
    let follows = followed n tree spare change bytes object tail is append one fits in
    let parts = follows.parts in
    let matched = follows.matched in
    let on = follows.on in
    let placed : as_run spare ≡ (on ∷ []) ∷ [] = ap as_run follows.is in
    let lies = follows-lies n entries on follows.behind in
    let lie : AllByRecursion (LiesInSpace n) (runs_of_parts (as_run spare)) =
    subst (λ rs. AllByRecursion (LiesInSpace n) (runs_of_parts rs)) (sym placed) (lies, tt) in
    let bound : (page : ℕ) → uses page (runs_of_parts (as_run spare)) ≤ spare_uses page spare + uses page (runs_of_parts runs) = λ page.
    let used : uses page (runs_of_parts (as_run spare)) ≡ uses page (on ∷ []) = ap (λ rs. uses page (runs_of_parts rs)) placed in
    let single = sum_by-cons (covers page) on [] in
    let spare_is : spare_uses page spare ≡ covers page on = ap (spare_uses page) follows.is in
    omega (arith, used, single, spare_is) in
    let seg : Pair = record { bytes = min bytes (on.pages * n.page); page = on.page } in
    let count = count-min n.page bytes on.pages object.page in
    let fits_run = follows.fits in
    let last : last_entry (laid_parts n.page plan.parts (as_run spare)) ≡ seg =
    ap (λ (ps : List Part). last_entry (laid_parts n.page ps (as_run spare))) parts
    ∙ ap (λ rs. last_entry (laid_parts n.page (Make bytes ∷ []) rs)) placed in
    let filled : page_count n.page (last_entry (laid_parts n.page plan.parts (as_run spare))).bytes ≡ page_count n.page bytes =
    ap (λ (x : Pair). page_count n.page x.bytes) last ∙ omega (arith, count, fits_run) in
    let behind : spare_behind n.page (made_part_bytes plan.parts) (as_run spare) ≡ past (page_count n.page bytes) (Some on) =
    ap (λ (ps : List Part). spare_behind n.page (made_part_bytes ps) (as_run spare)) parts
    ∙ ap (λ rs. spare_behind n.page (bytes ∷ []) rs) placed in
    let after = spare_after n spare change plan runs in
    let after_is : after ≡ spare_behind n.page (made_part_bytes plan.parts) (as_run spare) =
    follow-spare n spare change plan runs follow
    ∙ (ap (λ (k : ℕ). past k spare) filled ∙ (ap (past (page_count n.page bytes)) follows.is ∙ sym behind)) in
    let laying = merged-laying n tree.threshold entries spare (extent_pages spare) change (as_run spare)
    (runs_of_parts runs) after object matched lie bound (inr (after_is, appends)) in
    subst (λ (new : List Pair). Laying n tree.threshold entries spare plan.from plan.count new (runs_of_parts runs)
    after) (sym (follow-entries n spare plan runs follow)) laying

-- the plan of a change
pub planned-out : (n : Numbers) (tree : Tree) (spare : Option Extent) (change : Change)
    (runs : List (List Extent)) → IsPackedObject n tree.threshold (tree_entries tree) →
    IsTail n (Some tree) spare → IsChange tree change → SuitPlan n tree change (plan_of n tree spare change) runs →
    AllByRecursion (LiesInSpace n) (runs_of_parts runs) → LaysOut n tree spare change (plan_of n tree spare change) runs
unfolding planned
planned-out n tree spare change runs object tail is suits lie =
    go (fit_appended n.page (tree_entries tree) (extent_pages spare) change) refl suits
  where
    by_merging : SuitPlan n tree change (merged_plan n tree.threshold (tree_entries tree) (extent_pages spare) change) runs →
        LaysOut n tree spare change (merged_plan n tree.threshold (tree_entries tree) (extent_pages spare) change) runs
    by_merging suited =
        let packed = pack n.page tree.threshold (parts_of n.page (space_pages n * n.page)
        (tree_entries tree) change.at change.removed change.added) in
        elim (fit-cases n.page change.appends (extent_pages spare) (made_part_bytes packed)) [
          | inl fresh ↦ merged-fresh n tree spare change runs object is fresh suited lie
          | inr follow ↦ merged-follow n tree spare change runs follow.2.0 object tail is follow.0
              follow.1 follow.2.1 follow.2.2 suited
        ]

    go : (fit : Fit) → fit_appended n.page (tree_entries tree) (extent_pages spare) change ≡ fit →
        SuitPlan n tree change (elim fit [
          | Extend ↦ plan_extended (tree_entries tree) change
          | _ ↦ merged_plan n tree.threshold (tree_entries tree) (extent_pages spare) change
        ]) runs →
        LaysOut n tree spare change (elim fit [
          | Extend ↦ plan_extended (tree_entries tree) change
          | _ ↦ merged_plan n tree.threshold (tree_entries tree) (extent_pages spare) change
        ]) runs
    go Extend fit suited = extended-out n tree spare change runs object tail is fit suited
    go Follow fit suited = by_merging suited
    go Fresh fit suited = by_merging suited

-- where grants suit a change, its plan is laid out on them
pub suited-out : (n : Numbers) (tree : Tree) (spare : Option Extent) (change : Change) (grants : Grants) →
    IsPackedObject n tree.threshold (tree_entries tree) → IsTail n (Some tree) spare → IsChange tree change →
    IsSuited n tree spare change grants → LaysOut n tree spare change (plan_of n tree spare change) grants.runs
suited-out n tree spare change grants object tail is suits =
    planned-out n tree spare change grants.runs object tail is suits.runs
    (all-left (LiesInSpace n) (runs_of_parts grants.runs) (map page_run grants.pages) suits.together)

-- Grants that suit a change: what they are by how its plan meets the spare, and that those of the rule suit it.
use Rattle.std.proofs.Common.{◌≡◌, ℕ, Option, List, [], length, map, refl, sym, ap, subst, ◌∙◌}
use Rattle.geometry_model.specs.Numbers.{Numbers, space_pages}
use Rattle.tree_model.specs.Tree.{page_count}
use Rattle.layout_model.specs.declared.extent.Extent.{Extent}
use Rattle.layout_model.specs.declared.change.Change.{Change}
use Rattle.layout_model.specs.declared.fit.Fit.{Fit}
use Rattle.layout_model.specs.declared.fit.Fit.TheVariants.{Extend, Follow, Fresh}
use Rattle.layout_model.specs.declared.request.Request.{Request}
use Rattle.layout_model.specs.Plan.{Plan, made_part_bytes, last_entry}
use Rattle.layout_model.specs.Levels.{count_made}
use Rattle.layout_model.specs.Grants.{Spaces, and_then, all_runs, node_pages}
use Rattle.layout_model.specs.Grants.Answer.{Got}
use Rattle.layout_model.specs.Layout.{Tree, Grants, tree_entries, plan_of, wanted, requests, laid_levels, granted}
use Rattle.layout_laws.proofs.HalvingLemmas.{got_same}
use Rattle.moment_laws.specs.Granting.{AreSpaces}
use Rattle.moment_laws.proofs.GrantLemmas.{granted-took}
use Rattle.change_laws.specs.Suiting.{AllHold, AllExact, SuitBy, SuitPlan, IsSuited}
use Rattle.change_laws.proofs.GotLemmas.{and_then-got, all_runs-hold, all_runs-exact, node_pages-count}

-- ---- by how a plan meets the spare

-- where the parts are asked for, the runs hold them and are exact
pub fresh-suits : (n : Numbers) (tree : Tree) (change : Change) (plan : Plan) (runs : List (List Extent)) → plan.fit ≡ Fresh →
    SuitPlan n tree change plan runs →
    AllHold n.page tree.threshold (made_part_bytes plan.parts) runs × AllExact n.page change.appends (made_part_bytes plan.parts) runs
fresh-suits n tree change plan runs fresh suits =
    subst (λ f. SuitBy f n.page tree.threshold change.appends (made_part_bytes plan.parts) runs) fresh suits

-- and no run is there where they follow the last segment
pub follow-suits : (n : Numbers) (tree : Tree) (change : Change) (plan : Plan) (runs : List (List Extent)) → plan.fit ≡ Follow →
    SuitPlan n tree change plan runs → runs ≡ []
follow-suits n tree change plan runs follow suits =
    subst (λ f. SuitBy f n.page tree.threshold change.appends (made_part_bytes plan.parts) runs) follow suits

pub extend-suits : (n : Numbers) (tree : Tree) (change : Change) (plan : Plan) (runs : List (List Extent)) → plan.fit ≡ Extend →
    SuitPlan n tree change plan runs → runs ≡ []
extend-suits n tree change plan runs extend suits =
    subst (λ f. SuitBy f n.page tree.threshold change.appends (made_part_bytes plan.parts) runs) extend suits

-- ---- what was granted

-- the runs of the parts, and as many node pages as nodes are made
pub record IsGranted (n : Numbers) (start : ℕ) (tree : Tree) (spare : Option Extent) (change : Change)
    (free : Spaces) (grants : Grants) : Type 0 where
  pub mid : Spaces
  pub runs : all_runs n start tree.threshold (wanted n tree change (plan_of n tree spare change)) free ≡ Got grants.runs mid
  pub pages : length grants.pages ≡ count_made (laid_levels n tree spare (plan_of n tree spare change) grants.runs [])

pub granted-is : (n : Numbers) (start : ℕ) (tree : Tree) (spare : Option Extent) (change : Change) (free left : Spaces) (grants : Grants) →
    granted n start tree spare change free ≡ Got grants left → IsGranted n start tree spare change free grants
unfolding granted
granted-is n start tree spare change free left grants got =
    let plan = plan_of n tree spare change in
    let first = and_then-got (all_runs n start tree.threshold (wanted n tree change plan) free)
    (λ runs mid. and_then (node_pages n start (count_made (laid_levels n tree spare plan runs [])) mid)
    (λ pages rest. Got (record { runs = runs; pages = pages }) rest)) grants left got in
    let second = and_then-got (node_pages n start (count_made (laid_levels n tree spare plan first.0 [])) first.1)
    (λ pages rest. Got (record { runs = first.0; pages = pages }) rest) grants left first.3 in
    let whole : Grants = record { runs = first.0; pages = second.0 } in
    let same : whole ≡ grants = got_same whole grants second.1 left second.3 in
    let count = node_pages-count n start (count_made (laid_levels n tree spare plan first.0 [])) first.1 second.1 second.0 second.2 in
    subst (IsGranted n start tree spare change free) same (record { mid = first.1; runs = first.2; pages = count })

-- no run is asked for where the new bytes stand on the spare
none-wanted : (n : Numbers) (start threshold : ℕ) (free mid : Spaces) (runs : List (List Extent)) →
    all_runs n start threshold [] free ≡ Got runs mid → runs ≡ []
none-wanted n start threshold free mid runs got = sym (got_same [] runs free mid got)

fresh-wanted : (n : Numbers) (tree : Tree) (change : Change) (plan : Plan) → plan.fit ≡ Fresh →
    wanted n tree change plan ≡ requests change.appends (page_count n.page (last_entry (tree_entries tree)).bytes)
    (space_pages n) (map (page_count n.page) (made_part_bytes plan.parts))
fresh-wanted n tree change plan fresh = rw (fresh, wanted)

follow-wanted : (n : Numbers) (tree : Tree) (change : Change) (plan : Plan) → plan.fit ≡ Follow → wanted n tree change plan ≡ []
follow-wanted n tree change plan follow = rw (follow, wanted)

extend-wanted : (n : Numbers) (tree : Tree) (change : Change) (plan : Plan) → plan.fit ≡ Extend → wanted n tree change plan ≡ []
extend-wanted n tree change plan extend = rw (extend, wanted)

-- ---- the grants of the rule

-- what the rule grants for a plan's parts suits it
wanted-suits : (n : Numbers) (start : ℕ) (tree : Tree) (change : Change) (plan : Plan) (free mid : Spaces) (runs : List (List Extent)) →
    all_runs n start tree.threshold (wanted n tree change plan) free ≡ Got runs mid → SuitPlan n tree change plan runs
wanted-suits n start tree change plan free mid runs got = go plan.fit refl
  where
    asks : (requests : List Request) → wanted n tree change plan ≡ requests → all_runs n start tree.threshold requests free ≡ Got runs mid
    asks requests is = ap (λ rs. all_runs n start tree.threshold rs free) (sym is) ∙ got

    go : (fit : Fit) → plan.fit ≡ fit → SuitBy fit n.page tree.threshold change.appends (made_part_bytes plan.parts) runs
    go Fresh fresh =
        let last = page_count n.page (last_entry (tree_entries tree)).bytes in
        let ns = made_part_bytes plan.parts in
        let asks_for = requests change.appends last (space_pages n) (map (page_count n.page) ns) in
        let asked = asks asks_for (fresh-wanted n tree change plan fresh) in (
          all_runs-hold n start tree.threshold change.appends last (space_pages n) ns free mid runs asked,
          all_runs-exact n start tree.threshold change.appends last (space_pages n) ns free mid runs asked,
        )
    go Follow follow = none-wanted n start tree.threshold free mid runs (asks [] (follow-wanted n tree change plan follow))
    go Extend extend = none-wanted n start tree.threshold free mid runs (asks [] (extend-wanted n tree change plan extend))

pub granted-suits : (n : Numbers) (start : ℕ) (tree : Tree) (spare : Option Extent) (change : Change) (free left : Spaces)
    (grants : Grants) → AreSpaces n free → granted n start tree spare change free ≡ Got grants left →
    IsSuited n tree spare change grants
granted-suits n start tree spare change free left grants are got =
    let grant = granted-is n start tree spare change free left grants got in
    let took = granted-took n start tree spare change free left grants are got in
    record {
      runs = wanted-suits n start tree change (plan_of n tree spare change) free grant.mid grants.runs grant.runs;
      together = took.together;
      pages = grant.pages;
    }

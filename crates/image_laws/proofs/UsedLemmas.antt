-- Which pages good versions use: data pages alone.
use Rattle.std.proofs.Common.{◌≡◌, ◌≢◌, ℕ, true, false, IsTrue, Option, Some, None, is_some, List, [], ◌∷◌, map}
use Rattle.std.proofs.Common.{refl, sym, ap, arith, ◌∙◌, ◌⊎◌, inl, inr}
use Rattle.std.specs.Prelude.{sum_by}
use Rattle.std.specs.List.{AllByRecursion, flat_map}
use Rattle.std.proofs.lemmas.Bool.{false≢true}
use Rattle.std.proofs.lemmas.Bool.Decides.{nat_tests}
use Rattle.std.proofs.lemmas.List.Sums.{sum_by-cons}
use Rattle.geometry_model.specs.Numbers.{Numbers}
use Rattle.geometry_model.specs.Pages.{place, is_data_page, IsPlace}
use Rattle.geometry_model.proofs.PageLaws.{place-none, IsPlace-in_run, IsPlace-from_place}
use Rattle.tree_model.specs.declared.entry.Pair.{Pair}
use Rattle.tree_model.specs.Tree.{IsSegment}
use Rattle.layout_model.specs.Levels.{PageNode}
use Rattle.moment_model.specs.Version.{Version, covers, uses, segment_run, node_run, version_uses, StandOnData}
use Rattle.moment_laws.proofs.GrantLemmas.{uses-append, covers-cases}
use Rattle.image_laws.proofs.RestLemmas.{AreGood}

-- a page has a place or none
pub place-cases : (n : Numbers) (page : ℕ) → (place n page ≡ None) ⊎ ((s at : ℕ) × IsPlace n page s at)
place-cases n page = go (place n page) refl
  where
    go : (o : Option (ℕ × ℕ)) → place n page ≡ o → (place n page ≡ None) ⊎ ((s at : ℕ) × IsPlace n page s at)
    go None found = inl found
    go (Some spot) found = inr (spot.0, spot.1, IsPlace-from_place n page spot.0 spot.1 found)

covers-other : (page first : ℕ) → page ≢ first → covers page (record { page = first; pages = 1 }) ≡ 0
covers-other page first other = grind (arith, nat_tests)

-- nodes on data pages use no other page
nodes-unused : (n : Numbers) (page : ℕ) (nodes : List PageNode) → place n page ≡ None →
    AllByRecursion (λ node. IsTrue (is_data_page n node.page)) nodes →
    uses page (map node_run nodes) ≡ 0
nodes-unused n page [] none stand = refl
nodes-unused n page (node ∷ rest) none stand =
    let whole = sum_by-cons (covers page) (node_run node) (map node_run rest) in
    let here = covers-other page node.page (λ same.
    let is : is_some (place n page) ≡ true = ap (λ (q : ℕ). is_some (place n q)) same ∙ stand.0 in
    let not : is_some (place n page) ≡ false = ap is_some none in
    false≢true (sym not ∙ is)) in
    let more = nodes-unused n page rest none stand.1 in
    omega (arith, whole, here, more)

levels-unused : (n : Numbers) (page : ℕ) (levels : List (List PageNode)) → place n page ≡ None →
    StandOnData n levels → uses page (flat_map (map node_run) levels) ≡ 0
levels-unused n page [] none stand = refl
levels-unused n page (nodes ∷ above) none stand =
    let parts = uses-append page (map node_run nodes) (flat_map (map node_run) above) in
    omega (arith, parts, nodes-unused n page nodes none stand.0, levels-unused n page above none stand.1)

-- segments of the store use no other page
segments-unused : (n : Numbers) (page : ℕ) (entries : List Pair) → place n page ≡ None → AllByRecursion (IsSegment n) entries →
    uses page (map (segment_run n.page) entries) ≡ 0
segments-unused n page [] none each = refl
segments-unused n page (p ∷ ps) none each =
    let run = segment_run n.page p in
    let whole = sum_by-cons (covers page) run (map (segment_run n.page) ps) in
    let more = segments-unused n page ps none each.1 in
    elim (covers-cases page run) [
      | inl inside ↦
          let lies = each.0.together in
          absurd (place-none n page none lies.0 _ (IsPlace-in_run n lies.0 run.page run.pages page lies.1 inside.1 inside.2))
      | inr outside ↦ let here = outside.0 in omega (arith, whole, more, here)
    ]

-- so do good versions
pub versions-unused : (n : Numbers) (page : ℕ) (versions : List Version) → place n page ≡ None →
    AreGood n versions → sum_by (version_uses n page) versions ≡ 0
versions-unused n page [] none good = refl
versions-unused n page (None ∷ vs) none good =
    let whole = sum_by-cons (version_uses n page) None vs in
    omega (arith, whole, versions-unused n page vs none good.1)
versions-unused n page (Some tree ∷ vs) none good =
    let whole = sum_by-cons (version_uses n page) (Some tree) vs in
    let nodes = levels-unused n page tree.levels none good.0.nodes in
    let segments = segments-unused n page _ none good.0.segments in
    omega (arith, whole, nodes, segments, versions-unused n page vs none good.1)

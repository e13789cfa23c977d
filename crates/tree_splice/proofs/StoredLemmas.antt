-- The new levels on pages: each node on its page, how high they are, and their root.
use Rattle.std.proofs.Common.{◌≡◌, ℕ, zero, suc, ◌+◌, ◌/◌, ◌^◌, ◌<◌, ◌≤◌, Bool, true, false, cond, List, [], ◌∷◌, ◌++◌}
use Rattle.std.proofs.Common.{length, map, take, drop, refl, sym, ap, subst, arith, ◌∙◌, inl, inr, nat_eq}
use Rattle.std.specs.List.{AllByRecursion}
use Rattle.std.proofs.Math.Pow.{pow_mono}
use Rattle.std.proofs.lemmas.Bool.{cases_Bool, cases_lt, eqb-true}
use Rattle.std.proofs.lemmas.List.{length-map}
use Rattle.std.proofs.lemmas.List.Sums.{sum_by-cons}
use Rattle.base_laws.proofs.ListLaws.{all-append}
use Rattle.content_laws.specs.Spelling.{HaveBytes}
use Rattle.change_laws.proofs.SizeLemmas.{all-take, all-drop}
use Rattle.change_laws.proofs.UsedNodeLemmas.{empty-alone}
use Rattle.layout_laws.proofs.LevelLemmas.{count-cons, test_cases, new_levels_from-head}
use Rattle.layout_model.specs.Levels.{PageNode, NewLevel, pair_of, pairs_of_level, level_after, is_top, raised_levels, new_levels_from}
use Rattle.layout_model.specs.Levels.{spliced, unless_empty, nodes_of_levels, entries_of_levels}
use Rattle.local_laws.specs.Path.{PathLevel, is_top_of_path, new_path_from, splice_path}
use Rattle.moment_model.specs.Version.{IsFilled, AreLevels, Carries, least_on, node_run}
use Rattle.tree_model.specs.declared.entry.Pair.{Pair}
use Rattle.tree_model.specs.Node.{NodeBytes}
use Rattle.tree_model.specs.Tree.{Pages, bytes_of}
use Rattle.tree_pages.specs.Stored.{AreStored, root_of, root_page}
use Rattle.tree_splice.specs.Remade.{remade, rebuilt, row_pages}
use Rattle.tree_splice.specs.Splice.{extent_of, single_run}
use Rattle.tree_splice.specs.Way.{MadeStand, levels_of, top_of, root_with}
use Rattle.tree_splice.proofs.UpLemmas.{path-more, path-top}
use Rattle.tree_splice.proofs.NewLemmas.{AllFrom, OldFrom, least-some, spliced-each}

-- ---- each node of the new levels stands on its page

-- these nodes of level k stand on their pages
abbrev pub Stand : Pages → ℕ → List PageNode → Type 0
Stand at k nodes = AllByRecursion (λ node. NodeBytes (at node.page) k node.pairs) nodes

-- all nodes of a new level stand where the made ones do
abbrev pub StandsNew : Pages → ℕ → NewLevel → Type 0
StandsNew at k level = Stand at k level.made → Stand at k level.nodes

after-stands : (at : Pages) (f k : ℕ) (nodes : List PageNode) (from count : ℕ) (fresh : List Pair) (pages : List ℕ) → Stand at k nodes →
    StandsNew at k (level_after f nodes from count fresh pages)
after-stands at f k nodes from count fresh pages old = λ made.
    let P : PageNode → Type 0 = λ node. NodeBytes (at node.page) k node.pairs in
    let level = level_after f nodes from count fresh pages in
    let behind = drop (level.from + level.count) nodes in
    all-append P (take level.from nodes) (level.made ++ behind) (all-take P level.from nodes old)
    (all-append P level.made behind made (all-drop P (level.from + level.count) nodes old))

old-stands : (at : Pages) (k : ℕ) (levels : List (List PageNode)) → AreStored at k levels → OldFrom (Stand at) k levels
old-stands at k [] stored = tt
old-stands at k (nodes ∷ levels) stored = (stored.0, old-stands at (suc k) levels stored.1)

spliced-stands : (at : Pages) (f : ℕ) (levels : List (List PageNode)) (from count : ℕ) (fresh : List Pair) (pages : List ℕ) →
    AreStored at 1 levels → AllFrom (StandsNew at) 1 (spliced f levels from count fresh pages)
spliced-stands at f levels from count fresh pages stored =
    spliced-each (Stand at) (StandsNew at) f
    (λ k below nodes from2 rest here old. after-stands at f (suc k) nodes from2 below.count (map pair_of below.made) rest old)
    (λ k below rest here. after-stands at f (suc k) [] 0 0 (map pair_of below.nodes) rest tt)
    levels from count fresh pages
    (after-stands at f 1 [] 0 0 fresh pages tt)
    (λ nodes old. after-stands at f 1 nodes from count fresh pages old)
    (old-stands at 1 levels stored)

stand-all : (at : Pages) (k : ℕ) (new : List NewLevel) → AllFrom (StandsNew at) k new → MadeStand at k (map remade new) →
    AreStored at k (map (λ (level : NewLevel). level.nodes) new)
stand-all at k [] all made = tt
stand-all at k (level ∷ new) all made = (all.0 made.0, stand-all at (suc k) new all.1 made.1)

pub spliced-stored : (at : Pages) (f : ℕ) (levels : List (List PageNode)) (from count : ℕ) (fresh : List Pair) (pages : List ℕ) →
    AreStored at 1 levels → MadeStand at 1 (map remade (spliced f levels from count fresh pages)) →
    AreStored at 1 (nodes_of_levels (spliced f levels from count fresh pages))
spliced-stored at f levels from count fresh pages stored made =
    unless (spliced f levels from count fresh pages)
    (stand-all at 1 (spliced f levels from count fresh pages) (spliced-stands at f levels from count fresh pages stored) made)
  where
    unless : (new : List NewLevel) → AreStored at 1 (map (λ (level : NewLevel). level.nodes) new) → AreStored at 1 (nodes_of_levels new)
    unless [] all = tt
    unless (level ∷ new) all = elim (test_cases (nat_eq (length level.nodes) 0)) [
      | inl none ↦
          let step : unless_empty (level ∷ new) ≡ [] = rw (none, unless_empty) refl in
          subst (λ (ls : List NewLevel). AreStored at 1 (map (λ (l : NewLevel). l.nodes) ls)) (sym step) tt
      | inr some ↦
          let step : unless_empty (level ∷ new) ≡ level ∷ new = rw (some, unless_empty) refl in
          subst (λ (ls : List NewLevel). AreStored at 1 (map (λ (l : NewLevel). l.nodes) ls)) (sym step) all
    ]

-- ---- the root

-- each new level is an old one of which a site was exchanged
abbrev pub AreRebuilt : List (List PageNode) → List NewLevel → Type 0
AreRebuilt levels [] = Unit {0}
AreRebuilt [] (level ∷ new) = (level ≡ rebuilt [] (remade level)) × AreRebuilt [] new
AreRebuilt (nodes ∷ levels) (level ∷ new) = (level ≡ rebuilt nodes (remade level)) × AreRebuilt levels new

raised-rebuilt : (steps f : ℕ) (below : NewLevel) (pages : List ℕ) → below ≡ rebuilt [] (remade below) →
    AreRebuilt [] (raised_levels steps f below pages)
raised-rebuilt zero f below pages here = (here, tt)
raised-rebuilt (suc steps) f below pages here = elim (cases_Bool (is_top below)) [
  | inl top ↦
      let one : raised_levels (suc steps) f below pages ≡ below ∷ [] = rw (top, raised_levels) refl in
      subst (AreRebuilt []) (sym one) (here, tt)
  | inr more ↦
      let left = drop (length below.made) pages in
      let up = level_after f [] 0 0 (map pair_of below.nodes) left in
      let step : raised_levels (suc steps) f below pages ≡ below ∷ raised_levels steps f up left = rw (more, raised_levels) refl in
      subst (AreRebuilt []) (sym step) (here, raised-rebuilt steps f up left refl)
]

-- above the old root no level is old
crown-rebuilt : (steps f : ℕ) (nodes : List PageNode) (below : NewLevel) (pages : List ℕ) → below ≡ rebuilt nodes (remade below) →
    AreRebuilt (nodes ∷ []) (raised_levels steps f below pages)
crown-rebuilt zero f nodes below pages here = (here, tt)
crown-rebuilt (suc steps) f nodes below pages here = elim (cases_Bool (is_top below)) [
  | inl top ↦
      let one : raised_levels (suc steps) f below pages ≡ below ∷ [] = rw (top, raised_levels) refl in
      subst (AreRebuilt (nodes ∷ [])) (sym one) (here, tt)
  | inr more ↦
      let left = drop (length below.made) pages in
      let up = level_after f [] 0 0 (map pair_of below.nodes) left in
      let step : raised_levels (suc steps) f below pages ≡ below ∷ raised_levels steps f up left = rw (more, raised_levels) refl in
      subst (AreRebuilt (nodes ∷ [])) (sym step) (here, raised-rebuilt steps f up left refl)
]

from-rebuilt : (f : ℕ) (level : PathLevel) (below : NewLevel) (above : List PathLevel) (pages : List ℕ) →
    below ≡ rebuilt level.nodes (remade below) → AreRebuilt (levels_of (level ∷ above)) (new_path_from f below level above pages)
from-rebuilt f level below [] pages here = crown-rebuilt (length below.nodes) f level.nodes below pages here
from-rebuilt f level below (up ∷ above) pages here = elim (cases_Bool (is_top_of_path level below)) [
  | inl top ↦ subst (AreRebuilt (levels_of (level ∷ up ∷ above))) (sym (path-top f below level up above pages top)) (here, tt)
  | inr more ↦
      let left = drop (length below.made) pages in
      let next = level_after f up.nodes (level.first + below.from) below.count (map pair_of below.made) left in
      subst (AreRebuilt (levels_of (level ∷ up ∷ above))) (sym (path-more f below level up above pages more))
      (here, from-rebuilt f up next above left refl)
]

pub path-rebuilt : (f : ℕ) (path : List PathLevel) (from count : ℕ) (fresh : List Pair) (pages : List ℕ) →
    AreRebuilt (levels_of path) (splice_path f path from count fresh pages)
unfolding splice_path
path-rebuilt f [] from count fresh pages =
    raised-rebuilt (length (level_after f [] 0 0 fresh pages).nodes) f (level_after f [] 0 0 fresh pages) pages refl
path-rebuilt f (level ∷ above) from count fresh pages =
    from-rebuilt f level (level_after f level.nodes from count fresh pages) above pages refl

-- is no node on the first of these levels, or no level there?
abbrev pub has_none : List NewLevel → Bool
has_none [] = true
has_none (level ∷ new) = nat_eq (length level.nodes) 0

-- The new levels of a way, and those of the tree: the same height, the same first page at the top, and the lowest level
-- of both has a node or none.
pub record AreEnds (path : List PathLevel) (new after : List NewLevel) : Type 0 where
  pub long : length after ≡ length new
  pub top : top_of path (map remade new) ≡ root_page (map (λ (level : NewLevel). level.nodes) after)
  pub none : has_none new ≡ has_none after

pub root-new : (path : List PathLevel) (new after : List NewLevel) (bytes : ℕ) → AreEnds path new after →
    bytes ≡ bytes_of (entries_of_levels (nodes_of_levels after)) → root_with path (map remade new) bytes ≡ root_of (nodes_of_levels after)
root-new path [] [] bytes ends sum = ap (λ (b : ℕ). record { height = 0; page = 0; length = b }) sum
root-new path [] (level ∷ after) bytes ends sum = let bad : suc (length after) ≡ 0 = ends.long in absurd (omega (arith, bad))
root-new path (level ∷ new) [] bytes ends sum = let bad : 0 ≡ suc (length new) = ends.long in absurd (omega (arith, bad))
root-new path (first ∷ new) (level ∷ after) bytes ends sum = elim (test_cases (nat_eq (length first.nodes) 0)) [
  | inl none ↦
      let same : nat_eq (length level.nodes) 0 ≡ true = sym ends.none ∙ none in
      let step : unless_empty (level ∷ after) ≡ [] = rw (same, unless_empty) refl in
      let here : root_with path (map remade (first ∷ new)) bytes ≡ record { height = 0; page = 0; length = bytes } =
      rw (none, root_with) refl in
      let nothing : bytes ≡ 0 = sum ∙ ap (λ (ls : List NewLevel). bytes_of (entries_of_levels (map (λ (l : NewLevel). l.nodes) ls))) step in
      here ∙ (ap (λ (b : ℕ). record { height = 0; page = 0; length = b }) nothing
      ∙ sym (ap (λ (ls : List NewLevel). root_of (map (λ (l : NewLevel). l.nodes) ls)) step))
  | inr some ↦
      let same : nat_eq (length level.nodes) 0 ≡ false = sym ends.none ∙ some in
      let step : unless_empty (level ∷ after) ≡ level ∷ after = rw (same, unless_empty) refl in
      let here : root_with path (map remade (first ∷ new)) bytes
      ≡ record {
        height = length (map remade (first ∷ new));
        page = top_of path (map remade (first ∷ new));
        length = bytes;
      } =
      rw (some, root_with) refl in
      let all = map (λ (l : NewLevel). l.nodes) (level ∷ after) in
      let long : length (map remade (first ∷ new)) ≡ length all =
      length-map (first ∷ new) remade ∙ (sym ends.long ∙ sym (length-map (level ∷ after) (λ (l : NewLevel). l.nodes))) in
      let total : bytes ≡ bytes_of (entries_of_levels all) =
      sum ∙ ap (λ (ls : List NewLevel). bytes_of (entries_of_levels (map (λ (l : NewLevel). l.nodes) ls))) step in
      here
      ∙ (ap (λ (h : ℕ). record { height = h; page = top_of path (map remade (first ∷ new)); length = bytes }) long
      ∙ (ap (λ (p : ℕ). record { height = length all; page = p; length = bytes }) ends.top
      ∙ (ap (λ (b : ℕ). record { height = length all; page = root_page all; length = b }) total
      ∙ sym (ap (λ (ls : List NewLevel). root_of (map (λ (l : NewLevel). l.nodes) ls)) step))))
]

-- ---- the height

bytes-many : (pairs : List Pair) → HaveBytes pairs → length pairs ≤ bytes_of pairs
bytes-many [] all = omega arith
bytes-many (p ∷ pairs) all =
    let sum = sum_by-cons (λ (q : Pair). q.bytes) p pairs in
    let more = bytes-many pairs all.1 in
    let one = all.0 in
    let long : length (p ∷ pairs) ≡ suc (length pairs) = refl in
    omega (arith, sum, more, one, long)

twice-many : (f least : ℕ) (nodes : List PageNode) → 2 ≤ least → AllByRecursion (IsFilled f least) nodes →
    length nodes + length nodes ≤ length (pairs_of_level nodes)
twice-many f least [] two filled = omega arith
twice-many f least (node ∷ nodes) two filled =
    let count = count-cons node nodes in
    let low = filled.0.low in
    let more = twice-many f least nodes two filled.1 in
    let long : length (node ∷ nodes) ≡ suc (length nodes) = refl in
    omega (arith, count, low, more, long, two)

once-many : (f least : ℕ) (nodes : List PageNode) → 1 ≤ least → AllByRecursion (IsFilled f least) nodes →
    length nodes ≤ length (pairs_of_level nodes)
once-many f least [] one filled = omega arith
once-many f least (node ∷ nodes) one filled =
    let count = count-cons node nodes in
    let low = filled.0.low in
    let more = once-many f least nodes one filled.1 in
    let long : length (node ∷ nodes) ≡ suc (length nodes) = refl in
    omega (arith, count, low, more, long, one)

least-two : (b : Bool) (f : ℕ) → 4 ≤ f → 2 ≤ cond b 2 (f / 2)
least-two true f four = omega arith
least-two false f four = omega (arith, four)

carries-many : (f : ℕ) (below : List PageNode) (above : List (List PageNode)) → 4 ≤ f → Carries f below above → 2 ^ length above ≤ length
    below
carries-many f below [] four one = omega (arith, one)
carries-many f below (nodes ∷ above) four carries =
    let named = ap length carries.1 ∙ length-map below pair_of in
    let twice = twice-many f (least_on f 2 nodes) nodes (least-two (nat_eq (length nodes) 1) f four) carries.2 in
    let more = carries-many f nodes above four carries.3 in
    let power : 2 ^ suc (length above) ≡ 2 ^ length above + 2 ^ length above = omega arith in
    omega (arith, named, twice, more, power)

pub levels-low : (f : ℕ) (levels : List (List PageNode)) → 4 ≤ f → AreLevels f levels → HaveBytes (entries_of_levels levels) →
    bytes_of (entries_of_levels levels) < 2 ^ 64 → length levels < 256
levels-low f [] four are all small = omega arith
levels-low f (nodes ∷ above) four are all small =
    let many = carries-many f nodes above four are.1 in
    let once = once-many f (least_on f 1 nodes) nodes (least-some (nat_eq (length nodes) 1) f four) are.0 in
    let bytes = bytes-many (pairs_of_level nodes) all in
    let few : 2 ^ length above < 2 ^ 64 = omega (arith, many, once, bytes, small) in
    let low : length above < 64 = elim (cases_lt (length above) 64) [
      | inl less ↦ less
      | inr more ↦ let past = pow_mono more in absurd (omega (arith, few, past))
    ] in
    let long : length (nodes ∷ above) ≡ suc (length above) = refl in
    omega (arith, low, long)

from-low : (f : ℕ) (first : NewLevel) (old : List (List PageNode)) (pages : List ℕ) →
    length (nodes_of_levels (new_levels_from f first old pages)) < 256 → length (new_levels_from f first old pages) < 256
from-low f first old pages low =
    let head = new_levels_from-head f first old pages in
    elim (test_cases (nat_eq (length first.nodes) 0)) [
      | inl none ↦
          let one = ap length (empty-alone f first old pages (eqb-true (length first.nodes) 0 none)) in
          omega (arith, one)
      | inr some ↦
          let step : unless_empty (first ∷ head.0) ≡ first ∷ head.0 = rw (some, unless_empty) refl in
          let kept : unless_empty (new_levels_from f first old pages) ≡ new_levels_from f first old pages =
          ap unless_empty head.1 ∙ (step ∙ sym head.1) in
          let long = length-map (unless_empty (new_levels_from f first old pages)) (λ (l : NewLevel). l.nodes) in
          let same = ap length kept in
          omega (arith, low, long, same)
    ]

pub spliced-low : (f : ℕ) (levels : List (List PageNode)) (from count : ℕ) (fresh : List Pair) (pages : List ℕ) →
    length (nodes_of_levels (spliced f levels from count fresh pages)) < 256 → length (spliced f levels from count fresh pages) < 256
unfolding spliced
spliced-low f [] from count fresh pages low = from-low f (level_after f [] 0 0 fresh pages) [] pages low
spliced-low f (nodes ∷ above) from count fresh pages low = from-low f (level_after f nodes from count fresh pages) above pages low

-- ---- nodes as runs of one page

pub single-runs : (nodes : List PageNode) → map extent_of (map single_run (row_pages nodes)) ≡ map node_run nodes
single-runs [] = refl
single-runs (node ∷ nodes) = ap (λ runs. node_run node ∷ runs) (single-runs nodes)

-- Which pages a change drops, from the runs of what it replaces and of what it puts in their place.
use Rattle.std.proofs.Common.{◌≡◌, ℕ, ◌+◌, ◌<◌, ◌≤◌, ◌&&◌, List, ◌++◌, length, map, take, drop, Option, Some, sym, ap, arith, ◌∙◌}
use Rattle.std.proofs.Common.{nat_eq, nat_lt, inl, inr}
use Rattle.std.proofs.lemmas.Bool.{cases_lt}
use Rattle.std.proofs.lemmas.Bool.Decides.{nat_tests}
use Rattle.geometry_model.specs.Numbers.{Numbers, IsInRange, fan_out}
use Rattle.geometry_model.proofs.NumberLaws.{fan_out-low}
use Rattle.tree_model.specs.declared.entry.Pair.{Pair}
use Rattle.layout_model.specs.declared.change.Change.{Change}
use Rattle.layout_model.specs.declared.extent.Extent.{Extent}
use Rattle.layout_model.specs.Levels.{entries_of_levels, nodes_of_levels, spliced}
use Rattle.layout_model.specs.Layout.{Tree, Grants, Laid, tree_entries, plan_of, laid_entries, laid}
use Rattle.layout_laws.proofs.LevelLemmas.{spliced-entries}
use Rattle.moment_model.specs.Version.{node_runs, uses, segment_run, version_uses, spare_uses}
use Rattle.moment_laws.specs.Granting.{page_run, runs_of_parts, granted_runs}
use Rattle.moment_laws.proofs.GrantLemmas.{uses-append}
use Rattle.change_laws.proofs.PieceLemmas.{segments_uses, segments_uses-append}
use Rattle.let_go_laws.proofs.LetGoLemmas.{parts-uses, spare-run}
use Rattle.let_go_laws.specs.LetGo.{replaced_entries, spare_run, dropped_runs, AreGone}
use Rattle.object_state.specs.Runs.{goes}

-- Of one page, how often it is used: by the entries in front of the replaced ones, by these, and by those behind them, by the old
-- nodes and the old spare; by the new entries, nodes and the new spare; by the nodes that are gone and those that are made; and by all
-- that was granted.
record PageUses (front replaced behind nodes spare entries nodes2 spare2 gone made granted : ℕ) : Type 0 where
  once : front + replaced + behind + nodes + spare ≤ 1
  granted_once : granted ≤ 1
  is_made : made ≤ granted
  lacked : 0 < granted → front + replaced + behind + nodes + spare ≡ 0
  used : granted ≤ front + entries + behind + nodes2 + spare2
  left : gone + nodes2 ≡ nodes + made

-- it is dropped just where one of the replaced runs has it, and none of the new ones
dropped-test : (front replaced behind nodes spare entries nodes2 spare2 gone made granted : ℕ) →
    PageUses front replaced behind nodes spare entries nodes2 spare2 gone made granted →
    (nat_lt 0 (front + replaced + behind + nodes + spare) && nat_eq (front + entries + behind + nodes2 + spare2) 0)
    ≡ (nat_lt 0 (replaced + (gone + spare)) && nat_eq (entries + spare2) 0)
dropped-test front replaced behind nodes spare entries nodes2 spare2 gone made granted page =
    elim (cases_lt 0 granted) [
      | inl fresh ↦
          let none = page.lacked fresh in
          let once = page.granted_once in
          let is_made = page.is_made in
          let used = page.used in
          let left = page.left in
          grind (arith, nat_tests, none, once, is_made, used, left, fresh)
      | inr old ↦
          let once = page.once in
          let is_made = page.is_made in
          let left = page.left in
          grind (arith, nat_tests, once, is_made, left, old)
    ]

-- how often a tree and its spare use a page
abbrev pub tree_uses : Numbers → ℕ → Tree → Option Extent → ℕ
tree_uses n page tree spare = version_uses n page (Some tree) + spare_uses page spare

-- the runs of the new entries and of the new spare
abbrev pub new_runs : Numbers → List Pair → Option Extent → List Extent
new_runs n entries spare = map (segment_run n.page) entries ++ spare_run spare

-- What a change leaves on the pages that it was granted: each page is used once at most, none that was granted was used, and each of
-- them is; and these nodes are gone.
pub record LeavesOn (n : Numbers) (tree : Tree) (spare : Option Extent) (change : Change) (grants : Grants) (after : Laid)
    (gone : List Extent) : Type 0 where
  pub range : IsInRange n
  pub inside : (plan_of n tree spare change).from + (plan_of n tree spare change).count ≤ length (tree_entries tree)
  pub laid_is : laid n tree spare change grants ≡ after
  pub once : (page : ℕ) → tree_uses n page tree spare ≤ 1
  pub granted_once : (page : ℕ) → uses page (granted_runs grants) ≤ 1
  pub lacked : (page : ℕ) → 0 < uses page (granted_runs grants) → tree_uses n page tree spare ≡ 0
  pub used : (page : ℕ) → uses page (granted_runs grants) ≤ tree_uses n page after.tree after.spare
  pub nodes : AreGone tree after.tree grants.pages gone

-- the entries that it leaves
pub left-entries : (n : Numbers) (tree : Tree) (spare : Option Extent) (change : Change) (grants : Grants) (after : Laid)
    (gone : List Extent) → LeavesOn n tree spare change grants after gone → tree_entries after.tree
    ≡ take (plan_of n tree spare change).from (tree_entries tree) ++ (laid_entries n spare (plan_of n tree spare change) grants.runs
    ++ drop ((plan_of n tree spare change).from + (plan_of n tree spare change).count) (tree_entries tree))
unfolding laid
left-entries n tree spare change grants after gone leaves =
    let plan = plan_of n tree spare change in
    let new = laid_entries n spare plan grants.runs in
    let wide = fan_out-low n leaves.range in
    let shown : tree_entries after.tree
    ≡ entries_of_levels (nodes_of_levels (spliced (fan_out n) tree.levels plan.from plan.count new grants.pages)) =
    sym (ap (λ (l : Laid). tree_entries l.tree) leaves.laid_is) in
    shown ∙ spliced-entries (fan_out n) tree.levels plan.from plan.count new grants.pages (omega (arith, wide)) leaves.inside

-- the dropped pages of a change
pub change-drops : (n : Numbers) (tree : Tree) (spare : Option Extent) (change : Change) (grants : Grants) (after : Laid)
    (gone : List Extent) → LeavesOn n tree spare change grants after gone → (page : ℕ) →
    (nat_lt 0 (tree_uses n page tree spare) && nat_eq (tree_uses n page after.tree after.spare) 0)
    ≡ goes (dropped_runs n tree spare change gone)
    (new_runs n (laid_entries n spare (plan_of n tree spare change) grants.runs) after.spare) page
change-drops n tree spare change grants after gone leaves page =
    let plan = plan_of n tree spare change in
    let entries = tree_entries tree in
    let new = laid_entries n spare plan grants.runs in
    let front = segments_uses page n.page (take plan.from entries) in
    let replaced = segments_uses page n.page (replaced_entries entries plan) in
    let behind = segments_uses page n.page (drop (plan.from + plan.count) entries) in
    let here = uses page (node_runs tree) in
    let there = uses page (node_runs after.tree) in
    let fresh = segments_uses page n.page new in
    let made = uses page (map page_run grants.pages) in
    let granted = uses page (granted_runs grants) in
    let moved : segments_uses page n.page (tree_entries after.tree)
    ≡ segments_uses page n.page (take plan.from entries ++ (new ++ drop (plan.from + plan.count) entries)) =
    ap (segments_uses page n.page) (left-entries n tree spare change grants after gone leaves) in
    let outer = segments_uses-append page n.page (take plan.from entries) (new ++ drop (plan.from + plan.count) entries) in
    let inner = segments_uses-append page n.page new (drop (plan.from + plan.count) entries) in
    let old = parts-uses page n.page plan.from plan.count entries in
    let count = leaves.nodes page in
    let all = uses-append page (runs_of_parts grants.runs) (map page_run grants.pages) in
    let dropped = uses-append page (map (segment_run n.page) (replaced_entries entries plan)) (gone ++ spare_run spare) in
    let rest = uses-append page gone (spare_run spare) in
    let spare_is = spare-run page spare in
    let put = uses-append page (map (segment_run n.page) new) (spare_run after.spare) in
    let spare2_is = spare-run page after.spare in
    let was : tree_uses n page tree spare ≡ front + replaced + behind + here + spare_uses page spare = omega (arith, old) in
    let is : tree_uses n page after.tree after.spare ≡ front + fresh + behind + there + spare_uses page after.spare =
    omega (arith, moved, outer, inner) in
    let runs : uses page (dropped_runs n tree spare change gone) ≡ replaced + (uses page gone + spare_uses page spare) =
    omega (arith, dropped, rest, spare_is) in
    let news : uses page (new_runs n new after.spare) ≡ fresh + spare_uses page after.spare = omega (arith, put, spare2_is) in
    let one = leaves.once page in
    let one_granted = leaves.granted_once page in
    let used = leaves.used page in
    ap (λ k. nat_lt 0 k && nat_eq (tree_uses n page after.tree after.spare) 0) was
    ∙ (ap (λ k. nat_lt 0 (front + replaced + behind + here + spare_uses page spare) && nat_eq k 0) is
    ∙ (dropped-test front replaced behind here (spare_uses page spare) fresh there (spare_uses page after.spare) (uses page gone) made
    granted (record {
      once = omega (arith, one, was);
      granted_once = one_granted;
      is_made = omega (arith, all);
      lacked = λ some. let none = leaves.lacked page some in omega (arith, none, was);
      used = omega (arith, used, is);
      left = omega (arith, count);
    })
    ∙ sym (ap (λ k. nat_lt 0 k && nat_eq (uses page (new_runs n new after.spare)) 0) runs
    ∙ ap (λ k. nat_lt 0 (replaced + (uses page gone + spare_uses page spare)) && nat_eq k 0) news)))

-- The new entries of a change and the nodes that it leaves out stand on held pages, where the pages are told.
use Rattle.std.proofs.Common.{◌≡◌, ℕ, ◌+◌, ◌<◌, ◌≤◌, Bool, true, ◌||◌, IsTrue, List, [], ◌∷◌, ◌++◌, map, take, drop, Some, ap, arith, ◌∙◌}
use Rattle.std.proofs.Common.{inl, inr}
use Rattle.std.specs.List.{AllByRecursion}
use Rattle.std.proofs.lemmas.Bool.{cases_lt, lt-ltb}
use Rattle.std.proofs.lemmas.List.Sums.{sum_by-cons}
use Rattle.std.proofs.Math.Bool.{or-true}
use Rattle.layout_model.specs.declared.extent.Extent.{Extent}
use Rattle.layout_model.specs.Layout.{laid_entries, plan_of, tree_entries}
use Rattle.moment_laws.specs.Granting.{page_run, runs_of_parts}
use Rattle.moment_laws.proofs.GrantLemmas.{inside-counts, uses-append}
use Rattle.moment_model.specs.Moment.{either_uses}
use Rattle.moment_model.specs.Version.{covers, segment_run, spare_uses, uses, version_uses}
use Rattle.change_laws.proofs.PieceLemmas.{segments_uses, segments_uses-append}
use Rattle.tree_splice.specs.Splice.{extent_of, firsts_of}
use Rattle.span_store.specs.Held.{Held, bytes_on, has}
use Rattle.give_back.specs.Giving.{is_in_runs}
use Rattle.object_plan.specs.declared.planned.Planned.{Planned}
use Rattle.object_plan.specs.declared.working_tree.WorkingTree.{WorkingTree}
use Rattle.object_plan.specs.WorkingTree.{tree_on}
use Rattle.object_change.specs.declared.changed.Changed.{Changed}
use Rattle.object_change.specs.Changed.{granted_in, grants_in, laid_after}
use Rattle.object_change.proofs.ChangeLemmas.{entries-plan}
use Rattle.object_state.specs.Changes.{IsOnHeld}
use Rattle.object_state.specs.Drops.{Stock}
use Rattle.object_state.specs.Keeps.{IsToldTree}
use Rattle.object_state.specs.Runs.{HoldsExtent}
use Rattle.object_state.specs.Tree.{TreeView, tree_slot}
use Rattle.object_state.proofs.GoneLemmas.{left-entries}
use Rattle.object_state.proofs.ToldBesideLemmas.{IsMadeBeside, made-leaves, working-was}

-- where each page of the runs is held, each run is
all-hold : {X : Type 0} (held : Held) (f : X → Extent) (xs : List X) → ((q : ℕ) → 0 < uses q (map f xs) → IsTrue (has held q)) →
    AllByRecursion (λ x. HoldsExtent held (f x)) xs
all-hold held f [] here = tt
all-hold held f (x ∷ xs) here = (
  λ q from to.
      let all = sum_by-cons (covers q) (f x) (map f xs) in
      let one = inside-counts q (f x) from to in
      here q (omega (arith, all, one)),
  all-hold held f xs (λ q some. let all = sum_by-cons (covers q) (f x) (map f xs) in here q (omega (arith, all, some))),
)

-- a page that was used or granted is held
made-held : (v : TreeView) (w : WorkingTree) (p : Planned) (payload : List ℕ) (c : Changed) (middle : Held) (s : Stock) (gone : ℕ → Bool) →
    IsToldTree v.numbers v → IsMadeBeside v w p payload c middle s gone → (q : ℕ) →
    0 < version_uses v.numbers q (Some (tree_on (bytes_on v.held) w)) + spare_uses q w.spare + uses q (granted_in c) →
    IsTrue (has middle q)
made-held v w p payload c middle s gone told is q some = is.granted.had q ∙ elim (cases_lt 0 (uses q (granted_in c))) [
  | inl granted ↦ ap (λ b. b || has v.held q) (lt-ltb 0 (uses q (granted_in c)) granted)
  | inr none ↦
      let was = working-was v w p payload c middle s gone is q in
      let held : has v.held q ≡ true = told.just q ∙ lt-ltb 0 (either_uses v.numbers q (tree_slot v)) (omega (arith, was, none, some)) in
      ap (λ b. is_in_runs (granted_in c) q || b) held ∙ or-true (is_in_runs (granted_in c) q)
]

entry-used : (v : TreeView) (w : WorkingTree) (p : Planned) (payload : List ℕ) (c : Changed) (middle : Held) (s : Stock)
    (gone : ℕ → Bool) → IsToldTree v.numbers v → IsMadeBeside v w p payload c middle s gone → (q : ℕ) →
    segments_uses q v.numbers.page c.entries.items ≤ version_uses v.numbers q (Some (laid_after (bytes_on middle) w c).tree)
entry-used v w p payload c middle s gone told is q =
    let n = v.numbers in
    let tree = tree_on (bytes_on v.held) w in
    let plan = plan_of n tree w.spare p.change in
    let entries = tree_entries tree in
    let new = laid_entries n w.spare plan (grants_in c).runs in
    let after = laid_after (bytes_on middle) w c in
    let same : segments_uses q n.page c.entries.items ≡ segments_uses q n.page new =
    ap (segments_uses q n.page) (is.changed.entries ∙ entries-plan n (bytes_on v.held) w p (grants_in c).runs is.plan) in
    let moved : segments_uses q n.page (tree_entries after.tree)
    ≡ segments_uses q n.page (take plan.from entries ++ (new ++ drop (plan.from + plan.count) entries)) =
    ap (segments_uses q n.page) (left-entries n tree w.spare p.change (grants_in c) after (map extent_of c.left)
    (made-leaves v w p payload c middle s gone told is)) in
    let outer = segments_uses-append q n.page (take plan.from entries) (new ++ drop (plan.from + plan.count) entries) in
    let inner = segments_uses-append q n.page new (drop (plan.from + plan.count) entries) in
    omega (arith, same, moved, outer, inner)

pub told-on_held : (v : TreeView) (w : WorkingTree) (p : Planned) (payload : List ℕ) (c : Changed) (middle : Held) (s : Stock)
    (gone : ℕ → Bool) → IsToldTree v.numbers v → IsMadeBeside v w p payload c middle s gone → IsOnHeld middle v.numbers.page c
told-on_held v w p payload c middle s gone told is =
    let n = v.numbers in
    record {
      entries = all-hold middle (segment_run n.page) c.entries.items (λ q some.
          let used = entry-used v w p payload c middle s gone told is q in
          let within = is.told.good.within q in
          made-held v w p payload c middle s gone told is q (omega (arith, used, within, some)));
      left = all-hold middle extent_of c.left (λ q some.
          let nodes = is.told.gone q in
          let made = uses-append q (runs_of_parts (grants_in c).runs) (map page_run (firsts_of c.made)) in
          made-held v w p payload c middle s gone told is q (omega (arith, nodes, made, some)));
    }

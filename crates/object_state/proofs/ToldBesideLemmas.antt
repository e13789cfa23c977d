-- What is told of a new working version beside the old one, once a planned change was made of it and spans were cut.
use Rattle.std.proofs.Common.{◌≡◌, ℕ, Bool, ◌&&◌, List, ◌++◌, map, Option, refl, sym, ap, subst, arith, ◌∙◌}
use Rattle.std.proofs.Common.{is_some, nat_eq, nat_lt}
use Rattle.geometry_model.specs.Numbers.{IsInRange}
use Rattle.tree_model.specs.declared.entry.Pair.{Pair}
use Rattle.layout_model.specs.declared.extent.Extent.{Extent}
use Rattle.layout_model.specs.declared.fit.Fit.{Fit}
use Rattle.layout_model.specs.declared.fit.Fit.TheVariants.{Extend, Follow, Fresh}
use Rattle.layout_model.specs.Layout.{laid_entries, plan_of}
use Rattle.moment_model.specs.Moment.{working_uses}
use Rattle.moment_model.specs.Version.{segment_run, spare_uses}
use Rattle.change_laws.specs.Laying.{IsLaidOn}
use Rattle.let_go_laws.specs.LetGo.{dropped_runs, is_dropped, spare_run}
use Rattle.tree_splice.specs.Splice.{extent_of}
use Rattle.tree_pages.specs.Levels.{version_at}
use Rattle.tree_pages.proofs.TreeLemmas.{version-stays}
use Rattle.span_store.specs.Held.{Held, bytes_on}
use Rattle.span_store.specs.Calls.{KeepsPages}
use Rattle.held_parts.specs.Holding.{HoldsGranted}
use Rattle.object_plan.specs.declared.planned.Planned.{Planned}
use Rattle.object_plan.specs.declared.working_tree.WorkingTree.{WorkingTree}
use Rattle.object_plan.specs.Planned.{IsPlanOf}
use Rattle.object_plan.specs.WorkingTree.{tree_on}
use Rattle.object_change.specs.declared.changed.Changed.{Changed}
use Rattle.object_change.specs.Changed.{HasChanged, IsToldChange, granted_in, grants_in, laid_after, working_after}
use Rattle.object_change.specs.Scene.{used_spare}
use Rattle.object_change.proofs.ChangeLemmas.{entries-plan}
use Rattle.object_state.specs.Tree.{TreeView, tree_slot}
use Rattle.object_state.specs.Keeps.{IsToldTree}
use Rattle.object_state.specs.Drops.{Stock}
use Rattle.object_state.specs.Beside.{IsToldBeside, slot_beside}
use Rattle.object_state.specs.Changes.{entry_on}
use Rattle.object_state.specs.Changing.{dropped_by, goes_by, kept_by, made_by}
use Rattle.object_state.specs.Runs.{goes}
use Rattle.object_state.proofs.EndLemmas.{stands-stay}
use Rattle.object_state.proofs.ChangeMadeLemmas.{pages-stay}
use Rattle.object_state.proofs.GoneLemmas.{LeavesOn, change-drops, new_runs, tree_uses}
use Rattle.object_state.proofs.LaidBesideLemmas.{IsLaidBeside, granted-stays, laid-sound, laid-tail, laid-used, laid-within}
use Rattle.object_state.proofs.LaidBesideLemmas.{unheld-unused, uses-before, uses-beside}

-- A planned change of the working version was made where the pages are told, and spans were cut; and these pages are to go.
pub record IsMadeBeside (v : TreeView) (w : WorkingTree) (p : Planned) (payload : List ℕ) (c : Changed) (middle : Held) (s : Stock)
    (gone : ℕ → Bool) : Type 0 where
  pub range : IsInRange v.numbers
  pub was : v.working ≡ entry_on w
  pub spare_was : v.spare ≡ w.spare
  pub plan : IsPlanOf v.numbers (bytes_on v.held) w p
  pub changed : HasChanged v.numbers w p c
  pub told : IsToldChange v.numbers (bytes_on v.held) (bytes_on middle) w p.change payload c
  pub granted : HoldsGranted (used_spare p.fit w.spare) (granted_in c) v.held middle
  pub cut : KeepsPages middle s.held
  pub gone_is : (q : ℕ) → gone q ≡ goes_by v.numbers.page p w.spare c q

-- the spare pages that a change writes on are those of the spare
unwritten : (q : ℕ) (fit : Fit) (spare : Option Extent) → spare_uses q spare ≡ 0 → spare_uses q (used_spare fit spare) ≡ 0
unwritten q Fresh spare none = refl
unwritten q Follow spare none = none
unwritten q Extend spare none = none

-- the new version stands beside the old one
made-laid : (v : TreeView) (w : WorkingTree) (p : Planned) (payload : List ℕ) (c : Changed) (middle : Held) (s : Stock)
    (gone : ℕ → Bool) → IsMadeBeside v w p payload c middle s gone →
    IsLaidBeside v.numbers v (granted_in c) s (entry_on (working_after w c)) c.spare (tree_on (bytes_on v.held) w)
    (laid_after (bytes_on middle) w c)
made-laid v w p payload c middle s gone is = record {
  was = ap (version_at (bytes_on v.held)) is.was;
  is = version-stays v.numbers (bytes_on middle) (bytes_on s.held) (entry_on (working_after w c))
      (pages-stay v.numbers middle s.held (entry_on (working_after w c)) is.cut);
  spare_is = refl;
  good = subst (λ (o : Option Extent). IsLaidOn v.numbers (tree_on (bytes_on v.held) w) o (granted_in c) (laid_after (bytes_on middle) w c))
      (sym is.spare_was) is.told.good;
  once = is.granted.once;
  lacked = λ q some. ap is_some (is.granted.lacked q some);
  used = is.told.used;
}

-- how often the old working version used a page, and how often the new one does
pub working-was : (v : TreeView) (w : WorkingTree) (p : Planned) (payload : List ℕ) (c : Changed) (middle : Held) (s : Stock)
    (gone : ℕ → Bool) → IsMadeBeside v w p payload c middle s gone → (q : ℕ) →
    working_uses v.numbers q (tree_slot v) ≡ tree_uses v.numbers q (tree_on (bytes_on v.held) w) w.spare
working-was v w p payload c middle s gone is q =
    uses-before v.numbers v (granted_in c) s (entry_on (working_after w c)) c.spare (tree_on (bytes_on v.held) w)
    (laid_after (bytes_on middle) w c) (made-laid v w p payload c middle s gone is) q
    ∙ ap (tree_uses v.numbers q (tree_on (bytes_on v.held) w)) is.spare_was

working-is : (v : TreeView) (w : WorkingTree) (p : Planned) (payload : List ℕ) (c : Changed) (middle : Held) (s : Stock)
    (gone : ℕ → Bool) → IsMadeBeside v w p payload c middle s gone → (q : ℕ) →
    working_uses v.numbers q (slot_beside v s (entry_on (working_after w c)) c.spare)
    ≡ tree_uses v.numbers q (tree_on (bytes_on middle) (working_after w c)) c.spare
working-is v w p payload c middle s gone is q =
    uses-beside v.numbers v (granted_in c) s (entry_on (working_after w c)) c.spare (tree_on (bytes_on v.held) w)
    (laid_after (bytes_on middle) w c) (made-laid v w p payload c middle s gone is) q

-- what the change leaves, page by page
pub made-leaves : (v : TreeView) (w : WorkingTree) (p : Planned) (payload : List ℕ) (c : Changed) (middle : Held) (s : Stock)
    (gone : ℕ → Bool) → IsToldTree v.numbers v → IsMadeBeside v w p payload c middle s gone →
    LeavesOn v.numbers (tree_on (bytes_on v.held) w) w.spare p.change (grants_in c) (laid_after (bytes_on middle) w c)
    (map extent_of c.left)
made-leaves v w p payload c middle s gone told is = record {
  range = is.range;
  inside = is.plan.few;
  laid_is = is.told.laid_is;
  once = λ q.
      let was = working-was v w p payload c middle s gone is q in
      let once = told.sound.working_once q in
      omega (arith, was, once);
  granted_once = is.granted.once;
  lacked = λ q some.
      let was = working-was v w p payload c middle s gone is q in
      let none = unheld-unused v.numbers v told q (ap is_some (is.granted.lacked q some)) in
      omega (arith, was, none);
  used = is.told.used;
  nodes = is.told.gone;
}

-- the runs of what was replaced and dropped, and of what was put in its place
runs-dropped_by : (v : TreeView) (w : WorkingTree) (p : Planned) (payload : List ℕ) (c : Changed) (middle : Held) (s : Stock)
    (gone : ℕ → Bool) → IsMadeBeside v w p payload c middle s gone →
    dropped_by v.numbers.page p w.spare c
    ≡ dropped_runs v.numbers (tree_on (bytes_on v.held) w) w.spare p.change (map extent_of c.left)
runs-dropped_by v w p payload c middle s gone is =
    ap (λ (ps : List Pair). map (segment_run v.numbers.page) ps ++ (map extent_of c.left ++ spare_run w.spare)) is.plan.replaced

runs-kept_by : (v : TreeView) (w : WorkingTree) (p : Planned) (payload : List ℕ) (c : Changed) (middle : Held) (s : Stock)
    (gone : ℕ → Bool) → IsMadeBeside v w p payload c middle s gone →
    kept_by v.numbers.page c ≡ new_runs v.numbers (laid_entries v.numbers w.spare
    (plan_of v.numbers (tree_on (bytes_on v.held) w) w.spare p.change) (grants_in c).runs) c.spare
runs-kept_by v w p payload c middle s gone is =
    ap (λ (ps : List Pair). new_runs v.numbers ps c.spare)
    (is.changed.entries ∙ entries-plan v.numbers (bytes_on v.held) w p (grants_in c).runs is.plan)

-- the pages that go are those that the new version doesn't use any more
made-gone : (v : TreeView) (w : WorkingTree) (p : Planned) (payload : List ℕ) (c : Changed) (middle : Held) (s : Stock)
    (gone : ℕ → Bool) → IsToldTree v.numbers v → IsMadeBeside v w p payload c middle s gone → (q : ℕ) →
    gone q ≡ is_dropped v.numbers q (tree_slot v) (slot_beside v s (entry_on (working_after w c)) c.spare)
made-gone v w p payload c middle s gone told is q =
    let new = slot_beside v s (entry_on (working_after w c)) c.spare in
    let tree = tree_on (bytes_on v.held) w in
    let after = laid_after (bytes_on middle) w c in
    is.gone_is q
    ∙ (ap (λ (runs : List Extent). goes runs (kept_by v.numbers.page c) q) (runs-dropped_by v w p payload c middle s gone is)
    ∙ (ap (λ (runs : List Extent). goes (dropped_runs v.numbers tree w.spare p.change (map extent_of c.left)) runs q)
    (runs-kept_by v w p payload c middle s gone is)
    ∙ (sym (change-drops v.numbers tree w.spare p.change (grants_in c) after (map extent_of c.left)
    (made-leaves v w p payload c middle s gone told is) q)
    ∙ sym (ap (λ k. nat_lt 0 k && nat_eq (working_uses v.numbers q new) 0) (working-was v w p payload c middle s gone is q)
    ∙ ap (λ k. nat_lt 0 (tree_uses v.numbers q tree w.spare) && nat_eq k 0) (working-is v w p payload c middle s gone is q)))))

pub told-beside : (v : TreeView) (w : WorkingTree) (p : Planned) (payload : List ℕ) (c : Changed) (middle : Held) (s : Stock)
    (gone : ℕ → Bool) → IsToldTree v.numbers v → IsMadeBeside v w p payload c middle s gone →
    IsToldBeside v.numbers v (made_by c) s (entry_on (working_after w c)) c.spare gone
told-beside v w p payload c middle s gone told is =
    let n = v.numbers in
    let entry = entry_on (working_after w c) in
    let tree = tree_on (bytes_on v.held) w in
    let after = laid_after (bytes_on middle) w c in
    let laid = made-laid v w p payload c middle s gone is in
    record {
      stays = granted-stays n v (granted_in c) s told (λ q some. ap is_some (is.granted.lacked q some))
          (λ q none no_spare. is.cut q ∙ is.granted.others q none
          (unwritten q p.fit w.spare (sym (ap (spare_uses q) is.spare_was) ∙ no_spare)));
      stands = stands-stay n (bytes_on middle) (bytes_on s.held) entry (pages-stay n middle s.held entry is.cut) is.told.tree;
      sound = laid-sound n v (granted_in c) s entry c.spare tree after told laid;
      tail = laid-tail n v (granted_in c) s entry c.spare tree after laid;
      used = laid-used n v (granted_in c) s entry c.spare tree after laid;
      within = laid-within n v (granted_in c) s entry c.spare tree after laid;
      gone_is = made-gone v w p payload c middle s gone told is;
    }

-- The working version as an edit finds it: a tree on held pages, of fewer bytes than a store has.
use Rattle.std.proofs.Common.{ℕ, ◌*◌, ◌^◌, ◌<◌, ◌≤◌, Bool, IsTrue, arith, ◌∙◌, map, mul-le-mul_right}
use Rattle.std.proofs.lemmas.Bool.{lt-ltb}
use Rattle.base_laws.proofs.ListLaws.{all-map}
use Rattle.geometry_model.specs.Numbers.{Numbers, IsInRange, pages}
use Rattle.geometry_model.proofs.NumberLaws.{page-some, page_size-high, pages-high}
use Rattle.tree_model.specs.Tree.{IsSegment}
use Rattle.layout_model.specs.Layout.{tree_entries}
use Rattle.moment_model.specs.Moment.{either_uses}
use Rattle.moment_model.specs.Version.{segment_run, uses}
use Rattle.cost_laws.proofs.PagesUsed.{bytes-within}
use Rattle.tree_pages.specs.Entry.{Entry}
use Rattle.page_set.specs.Words.{PageSetView}
use Rattle.span_store.specs.Held.{Held, bytes_on}
use Rattle.page_cache.specs.Kept.{KeptNodes}
use Rattle.object_plan.specs.declared.working_tree.WorkingTree.{WorkingTree}
use Rattle.object_plan.specs.Planned.{IsHeldEntry}
use Rattle.object_plan.specs.WorkingTree.{IsToldWorking, tree_on}
use Rattle.object_plan.proofs.WorkingLemmas.{told-entries}
use Rattle.object_state.specs.Tree.{tree_slot}
use Rattle.object_state.specs.Keeps.{KeepsTreeBody}
use Rattle.object_state.specs.Changes.{view_on}

-- where the pages are told the working tree stands there
pub told-working : (tells : Bool) (n : Numbers) (committed : Entry) (w : WorkingTree) (held : Held) (cache : KeptNodes)
    (fresh locked : PageSetView) → KeepsTreeBody tells (view_on n committed w held cache fresh locked) → IsTrue tells →
    IsToldWorking n held w
told-working tells n committed w held cache fresh locked kept tell =
    let v = view_on n committed w held cache fresh locked in
    let told = kept.told tell in
    record {
      tree = told.working;
      good = told.sound.working;
      tail = told.tail;
      owned = λ q some. told.just q ∙ lt-ltb 0 (either_uses n q (tree_slot v)) (omega (arith, some));
    }

-- and has fewer bytes than a store
pub told-short : (tells : Bool) (n : Numbers) (committed : Entry) (w : WorkingTree) (held : Held) (cache : KeptNodes)
    (fresh locked : PageSetView) → IsInRange n → KeepsTreeBody tells (view_on n committed w held cache fresh locked) → IsTrue tells →
    w.root.length < 2 ^ 62
told-short tells n committed w held cache fresh locked range kept tell =
    let told = kept.told tell in
    let entries = told-entries n held w (kept.sized tell) (told-working tells n committed w held cache fresh locked kept tell) in
    let all = tree_entries (tree_on (bytes_on held) w) in
    let once : (q : ℕ) → uses q (map (segment_run n.page) all) ≤ 1 = λ q.
    let working = told.sound.working_once q in omega (arith, working) in
    let most = bytes-within n all (page-some n range) (all-map (IsHeldEntry n held) (IsSegment n) (λ p here. here.segment) all
    entries.entries) once in
    let counted = entries.counted in
    let few : pages n * n.page ≤ 4194577 * n.page = mul-le-mul_right n.page (pages-high n range) in
    let high = page_size-high n.page range.page_size in
    omega (arith, most, counted, few, high)

-- A change of the working version, step by step: what each call of it needs, and what it makes of the object.
use Rattle.std.proofs.Common.{◌≡◌, ℕ, ◌+◌, ◌<◌, ◌≤◌, Bool, true, ◌||◌, IsTrue, List, [], ◌∷◌, ◌++◌, map, length, Option, Some, None, Ok, Err}
use Rattle.std.proofs.Common.{IfSome, refl, sym, ap, subst, arith, ◌∙◌, inl, inr, nat_lt, nat_le, is_some}
use Rattle.std.specs.Prelude.{Result, unwrap_or}
use Rattle.std.specs.List.{AllByRecursion}
use Rattle.std.proofs.lemmas.Bool.{and_parts, false≢true, leb-true, ltb-true}
use Rattle.std.proofs.Math.Bool.{or-false, or-true}
use Rattle.base_laws.proofs.ListLaws.{all-map}
use Rattle.change_laws.proofs.PartLemmas.{all-right}
use Rattle.eos_ops.specs.declared.edit.Edit.{Edit}
use Rattle.eos_ops.specs.declared.outcome.Outcome.TheVariants.{Done}
use Rattle.edit_content_laws.specs.Brought.{brought}
use Rattle.fault_count.specs.Counts.{Meter}
use Rattle.geometry_model.specs.Numbers.{Numbers}
use Rattle.geometry_model.specs.Pages.{is_data_page}
use Rattle.geometry_model.proofs.NumberLaws.{page-some}
use Rattle.layout_model.specs.declared.change.Change.{Change}
use Rattle.layout_model.specs.declared.extent.Extent.{Extent}
use Rattle.let_go_laws.specs.LetGo.{spare_run}
use Rattle.moment_laws.specs.Granting.{LiesInSpace}
use Rattle.moment_model.specs.Version.{segment_run, uses}
use Rattle.tree_model.specs.Node.{NodeBytes}
use Rattle.tree_model.specs.declared.entry.Pair.{Pair}
use Rattle.tree_pages.specs.Entry.{Entry}
use Rattle.page_cache.specs.Kept.{KeptNodes, is_on_run, kept}
use Rattle.page_set.specs.Words.{PageSetView, in_set}
use Rattle.space_directory.proofs.PageLaws.{in_run-inside}
use Rattle.span_store.specs.Calls.{KeepsPages}
use Rattle.span_store.specs.Held.{AllSized, Held, bytes_on, has}
use Rattle.superdirectory.specs.Rest.{count}
use Rattle.tree_read.specs.Search.{KeepsNodes}
use Rattle.object_body.specs.declared.fails.EditFail.{EditFail}
use Rattle.object_body.specs.declared.fails.EditFail.TheVariants.{Fault}
use Rattle.object_body.specs.Places.{IsReady}
use Rattle.object_plan.specs.declared.planned.Planned.{Planned}
use Rattle.object_plan.specs.declared.working_tree.WorkingTree.{WorkingTree}
use Rattle.object_plan.specs.Planned.{IsHeldEntry}
use Rattle.give_back.specs.Giving.{AreDataPages, CanGiveRuns, is_in_runs}
use Rattle.give_back.proofs.RunsLemmas.{lies-data, still-ready}
use Rattle.give_back.proofs.UsesLemmas.{in-append, in-cons}
use Rattle.held_parts.specs.Holding.{HoldsGranted, KeepsRight, begins_one}
use Rattle.object_change.specs.declared.changed.Changed.{Changed}
use Rattle.object_change.specs.Calls.{CanMakeChange, MakesChange}
use Rattle.object_change.specs.Changed.{HasChanged, IsEndOfOne, granted_in}
use Rattle.object_change.specs.Scene.{HoldsSpare, Scene, used_spare}
use Rattle.object_state.specs.Changes.{IsOnHeld, MakesReady, MakesTree, view_on}
use Rattle.object_state.specs.Changing.{dropped_by, goes_by, kept_by, made_by}
use Rattle.object_state.specs.Beside.{StandsBeside}
use Rattle.object_state.specs.Cuts.{HasBorders, IsCutMore}
use Rattle.object_state.specs.Drops.{Drops, Stock}
use Rattle.object_state.specs.Keeps.{in_spare}
use Rattle.object_state.specs.Made.{IsMade}
use Rattle.object_state.proofs.BesideLemmas.{changed-keeps}
use Rattle.object_state.proofs.ChangeMadeLemmas.{HasPlanned, change-made, edit-brings, entry_after, stock_on}
use Rattle.object_state.proofs.GrownLemmas.{IsGrown, grown-cut, is_granted, stands-beside}
use Rattle.object_state.proofs.MadeLemmas.{made-edit}
use Rattle.object_state.proofs.OnHeldLemmas.{told-on_held}
use Rattle.object_state.proofs.RunSetLemmas.{uses-each}
use Rattle.object_state.proofs.ToldBesideLemmas.{told-beside}
use Rattle.object_state.proofs.WorkingTreeLemmas.{told-working}

-- ---- the change can be made

-- the spare pages are held
spare-holds : (held : Held) (spare : Option Extent) → IfSome spare (λ run. 1 ≤ run.pages) →
    ((q : ℕ) → IsTrue (in_spare spare q) → IsTrue (has held q)) → HoldsSpare held spare
spare-holds held None some within = tt
spare-holds held (Some run) some within = (some, λ q from to. within q (in_run-inside run.page run.pages q from to))

pub can-make : (tells : Bool) (n : Numbers) (committed : Entry) (w : WorkingTree) (p : Planned) (edit : Edit) (cache : KeptNodes)
    (was unlocked : PageSetView) (used : Meter) (before : Scene) (start : ℕ) (payload : List ℕ) →
    HasPlanned tells n committed w p edit cache was unlocked used before → payload ≡ brought edit → used.page ≡ n.page →
    IsReady n before.rest → start < count before.rest → CanMakeChange tells n start w p payload before
can-make tells n committed w p edit cache was unlocked used before start payload planned payload_is page ready there = record {
  page = planned.plans.uses.used.page ∙ page;
  ready = ready;
  start_there = there;
  right = record { sized = planned.kept.sized; nodes = planned.plans.nodes };
  spare = spare-holds before.held w.spare planned.kept.spare_some planned.kept.spare.within;
  change = planned.plans.can;
  plan = planned.plans.ready;
  paid = ap length payload_is
      ∙ (edit-brings edit w.root.length planned.bytes.bytes ∙ ap (λ (c : Change). c.added) (sym planned.plans.change));
  told = λ tell. (
    told-working tells n committed w before.held cache was unlocked planned.kept tell,
    planned.plans.told tell,
  );
  once = λ tell. (planned.kept.told tell).sound.working_once;
}

-- ---- it was made: what was held still is

still-had : (spare : Option Extent) (granted : List Extent) (old new : Held) → HoldsGranted spare granted old new → (q : ℕ) →
    IsTrue (has old q) → IsTrue (has new q)
still-had spare granted old new holds q there =
    holds.had q ∙ (ap (λ b. is_in_runs granted q || b) there ∙ or-true (is_in_runs granted q))

pub still-replaced : (n : Numbers) (spare : Option Extent) (granted : List Extent) (old new : Held) (entries : List Pair) →
    HoldsGranted spare granted old new → AllByRecursion (IsHeldEntry n old) entries → AllByRecursion (IsHeldEntry n new) entries
still-replaced n spare granted old new entries holds all =
    all-map (IsHeldEntry n old) (IsHeldEntry n new) (λ p here. record {
      segment = here.segment;
      pages = λ q from to. still-had spare granted old new holds q (here.pages q from to);
    }) entries all

still-spare : (used spare : Option Extent) (granted : List Extent) (old new : Held) → HoldsGranted used granted old new →
    HoldsSpare old spare → HoldsSpare new spare
still-spare used None granted old new holds there = tt
still-spare used (Some run) granted old new holds there =
    (there.0, λ q from to. still-had used granted old new holds q (there.1 q from to))

pub spare-still : (tells : Bool) (n : Numbers) (committed : Entry) (w : WorkingTree) (p : Planned) (edit : Edit) (cache : KeptNodes)
    (was unlocked : PageSetView) (used : Meter) (before : Scene) (spare : Option Extent) (granted : List Extent) (new : Held) →
    HasPlanned tells n committed w p edit cache was unlocked used before → HoldsGranted spare granted before.held new →
    HoldsSpare new w.spare
spare-still tells n committed w p edit cache was unlocked used before spare granted new planned holds =
    still-spare spare w.spare granted before.held new holds
    (spare-holds before.held w.spare planned.kept.spare_some planned.kept.spare.within)

-- ---- spans were cut

grown-of : (spare : Option Extent) (granted : List Extent) (old new : Held) → HoldsGranted spare granted old new → IsGrown granted old new
grown-of spare granted old new holds = record {
  holds = holds.had;
  lacked = λ q there. ap is_some (holds.lacked q (ltb-true 0 (uses q granted) there));
  begun = λ q there. holds.begun q ∙ (ap (λ b. begins_one granted q || b) there ∙ or-true (begins_one granted q));
  own = holds.own;
}

-- the nodes that are kept are still those of the pages
nodes-stay : (tells : Bool) (size : ℕ) (old new : Held) (cache : KeptNodes) → KeepsPages old new →
    KeepsNodes tells size (bytes_on old) cache → KeepsNodes tells size (bytes_on new) cache
nodes-stay tells size old new cache same nodes = record {
  small = nodes.small;
  right = λ tell page. subst (λ (bytes : List ℕ). IfSome (kept cache page) (λ n. NodeBytes bytes n.level n.pairs.items))
      (sym (ap (λ (o : Option (List ℕ)). unwrap_or o []) (same page))) (nodes.right tell page);
}

pub right-still : (tells : Bool) (n : Numbers) (old new : Held) (cache : KeptNodes) (times : ℕ) → IsCutMore times old new →
    ((size : ℕ) → AllSized tells size old → AllSized tells size new) → KeepsRight tells n old cache → KeepsRight tells n new cache
right-still tells n old new cache times cut sized right = record {
  sized = sized n.page right.sized;
  nodes = nodes-stay tells n.page old new cache cut.pages right.nodes;
}

pub can-give : (n : Numbers) (w : WorkingTree) (p : Planned) (c : Changed) (spare : Option Extent) (times : ℕ) (old middle new : Held) →
    HasChanged n w p c → HoldsGranted spare (granted_in c) old middle → IsCutMore times middle new → CanGiveRuns n new (granted_in c)
can-give n w p c spare times old middle new changed holds cut = record {
  lie = changed.together;
  own = (grown-cut times (granted_in c) old middle new (grown-of spare (granted_in c) old middle holds) cut).own;
  once = holds.once;
}

-- ---- the new version stands beside the old one

-- what holds of the runs of a spare, holds of the spare
spare-one : (P : Extent → Type 0) (spare : Option Extent) → AllByRecursion P (spare_run spare) → IfSome spare P
spare-one P None all = tt
spare-one P (Some run) all = all.0

-- a page of the spare is one of its run
in-spare_run : (q : ℕ) (spare : Option Extent) → is_in_runs (spare_run spare) q ≡ in_spare spare q
in-spare_run q None = refl
in-spare_run q (Some run) = in-cons q run [] ∙ or-false (is_on_run run.page run.pages q)

-- a page at the end of one of the runs is a page of it
in-end : (q : ℕ) (runs : List Extent) (end : Extent) → IsEndOfOne runs end → is_on_run end.page end.pages q ≡ true →
    is_in_runs runs q ≡ true
in-end q [] end one on = absurd one
in-end q (run ∷ runs) end (inl is) on =
    let both = and_parts (nat_le end.page q) (nat_lt q (end.page + end.pages)) on in
    let low = leb-true end.page q both.0 in
    let high = ltb-true q (end.page + end.pages) both.1 in
    let from = is.0 in
    let to = is.1 in
    in-cons q run runs ∙ ap (λ b. b || is_in_runs runs q)
    (in_run-inside run.page run.pages q (omega (arith, low, from)) (omega (arith, high, to)))
in-end q (run ∷ runs) end (inr more) on =
    in-cons q run runs ∙ (ap (λ b. is_on_run run.page run.pages q || b) (in-end q runs end more on)
    ∙ or-true (is_on_run run.page run.pages q))

spare-from : (q : ℕ) (old : Option Extent) (granted : List Extent) (spare : Option Extent) →
    IfSome spare (λ end. (1 ≤ end.pages) × IsEndOfOne (spare_run old ++ granted) end) → IsTrue (in_spare spare q) →
    IsTrue (in_spare old q || is_granted granted q)
spare-from q old granted None from there = absurd (false≢true there)
spare-from q old granted (Some end) from there =
    ap (λ b. b || is_granted granted q) (sym (in-spare_run q old))
    ∙ (sym (in-append q (spare_run old) granted) ∙ in-end q (spare_run old ++ granted) end from.1 there)

spare-some : (old : Option Extent) (granted : List Extent) (spare : Option Extent) →
    IfSome spare (λ end. (1 ≤ end.pages) × IsEndOfOne (spare_run old ++ granted) end) → IfSome spare (λ run. 1 ≤ run.pages)
spare-some old granted None from = tt
spare-some old granted (Some end) from = from.0

granted-home : (n : Numbers) (granted : List Extent) → AllByRecursion (LiesInSpace n) granted → (q : ℕ) → IsTrue (is_granted granted q) →
    IsTrue (is_data_page n q)
granted-home n granted lie q there =
    uses-each (λ page. IsTrue (is_data_page n page)) q granted
    (all-map (LiesInSpace n) (λ run. AreDataPages n run.page run.pages) (lies-data n) granted lie) there

-- What is known once everything is ready: the edit was planned, its change made, and nothing can fail any more.
pub record IsChangeReady (tells : Bool) (n : Numbers) (committed : Entry) (w : WorkingTree) (p : Planned) (c : Changed) (start : ℕ)
    (edit : Edit) (cache : KeptNodes) (was unlocked : PageSetView) (used : Meter) (before middle : Scene) (held : Held)
    (fresh locked gone : PageSetView) (now : Meter) : Type 0 where
  pub planned : HasPlanned tells n committed w p edit cache was unlocked used before
  pub ready : IsReady n before.rest
  pub makes : MakesChange tells n start w p (brought edit) (Ok c) before middle
  pub readies : MakesReady tells n.page p w.spare c (Ok gone) middle.held held was fresh unlocked locked middle.meter now

pub change-beside : (tells : Bool) (n : Numbers) (committed : Entry) (w : WorkingTree) (p : Planned) (c : Changed) (start : ℕ)
    (edit : Edit) (cache : KeptNodes) (was unlocked : PageSetView) (used : Meter) (before middle : Scene) (held : Held)
    (fresh locked gone : PageSetView) (now : Meter) →
    IsChangeReady tells n committed w p c start edit cache was unlocked used before middle held fresh locked gone now →
    StandsBeside tells (view_on n committed w before.held cache was unlocked) (made_by c) (stock_on middle held fresh locked)
    (entry_after w c) c.spare (in_set gone)
change-beside tells n committed w p c start edit cache was unlocked used before middle held fresh locked gone now is =
    let v = view_on n committed w before.held cache was unlocked in
    let s = stock_on middle held fresh locked in
    let kept = is.planned.kept in
    let changed = is.makes.changed in
    let cut = is.readies.only.cut in
    let right = right-still tells n middle.held held middle.nodes is.readies.only.times cut is.readies.only.sized is.makes.right in
    stands-beside tells v (granted_in c) (dropped_by n.page p w.spare c) (kept_by n.page c) s (entry_after w c) c.spare (in_set gone) kept
    (record {
      ready = still-ready n before.rest middle.rest is.ready is.makes.rest;
      grown = grown-cut is.readies.only.times (granted_in c) before.held middle.held held
          (grown-of (used_spare p.fit w.spare) (granted_in c) before.held middle.held is.makes.held) cut;
      home = granted-home n (granted_in c) changed.together;
      sized = right.sized;
      nodes = right.nodes;
      fresh_is = is.readies.ready.fresh_is;
      locked_is = is.readies.locked_same.same;
      gone_is = is.readies.ready.gone_is;
      gone_marked = is.readies.ready.marked;
      gone_room = is.readies.ready.room;
      spare_borders = spare-one (HasBorders held) c.spare
          (all-right (HasBorders held) (map (segment_run n.page) c.entries.items) (spare_run c.spare) is.readies.ready.borders);
      spare_some = spare-some w.spare (granted_in c) c.spare changed.spare_from;
      spare_there = λ absent. absurd cc;
      spare_kept = λ q there. in-append q (map (segment_run n.page) c.entries.items) (spare_run c.spare)
          ∙ (ap (λ b. is_in_runs (map (segment_run n.page) c.entries.items) q || b) (in-spare_run q c.spare ∙ there)
          ∙ or-true (is_in_runs (map (segment_run n.page) c.entries.items) q));
      spare_from = λ q there. spare-from q w.spare (granted_in c) c.spare changed.spare_from there;
      threshold = kept.working_threshold;
      told = λ tell. told-beside v w p (brought edit) c middle.held s (in_set gone) (kept.told tell) (record {
        range = is.planned.range;
        was = refl;
        spare_was = refl;
        plan = is.planned.plans.told tell;
        changed = changed;
        told = is.makes.told tell;
        granted = is.makes.held;
        cut = cut.pages;
        gone_is = is.readies.ready.gone_is;
      });
    })

not-fault : (gone : PageSetView) → ◌≡◌ {A = Result PageSetView EditFail} (Ok gone) (Err Fault) → ⊥
not-fault gone same = cc

-- no count moved while it was made ready
meter-still : (used now : Meter) → now ≡ record used { faults = now.faults } → now.faults ≡ used.faults → now ≡ used
meter-still used now same still = same ∙ ap (λ (k : ℕ). record used { faults = k }) still

-- ---- the old pages went

pub change-done : (tells : Bool) (n : Numbers) (committed : Entry) (w : WorkingTree) (p : Planned) (c : Changed) (start : ℕ)
    (edit : Edit) (cache : KeptNodes) (was unlocked : PageSetView) (used : Meter) (before middle : Scene) (held : Held)
    (fresh locked gone : PageSetView) (now : Meter) (t : Stock) →
    IsChangeReady tells n committed w p c start edit cache was unlocked used before middle held fresh locked gone now →
    Drops tells n (in_set gone) (stock_on middle held fresh locked) t →
    MakesTree tells start edit (Ok Done) (view_on n committed w before.held cache was unlocked)
    (view_on n committed (record { root = c.root; threshold = w.threshold; spare = c.spare }) t.held t.cache t.fresh t.locked)
    before.rest t.rest before.trace t.trace used now
change-done tells n committed w p c start edit cache was unlocked used before middle held fresh locked gone now t is dropped =
    let v = view_on n committed w before.held cache was unlocked in
    let s = stock_on middle held fresh locked in
    let beside = change-beside tells n committed w p c start edit cache was unlocked used before middle held fresh locked gone now is in
    let still = meter-still middle.meter now is.readies.meter (is.readies.cause.still (λ bad. absurd (not-fault gone bad))) in
    let made = subst (λ (m : Meter). IsMade tells v (made_by c) s (entry_after w c) c.spare start edit before.rest before.trace used m)
    (sym still)
    (change-made tells n committed w p c start edit cache was unlocked used before middle held fresh locked is.planned is.makes
    is.readies.only.cut.pages) in
    record {
      keeps = changed-keeps tells v (made_by c) s t (entry_after w c) c.spare (in_set gone) is.planned.kept beside dropped;
      makes = made-edit tells v (made_by c) s t (entry_after w c) c.spare (in_set gone) start edit before.rest before.trace used now
          (page-some n is.planned.range) is.ready.store is.planned.kept beside dropped made;
    }

-- ---- where the pages are told the new entries and the nodes that are left out stand on held ones

pub made-on_held : (tells : Bool) (n : Numbers) (committed : Entry) (w : WorkingTree) (p : Planned) (c : Changed) (start : ℕ)
    (edit : Edit) (payload : List ℕ) (cache : KeptNodes) (was unlocked : PageSetView) (used : Meter) (before middle : Scene) →
    HasPlanned tells n committed w p edit cache was unlocked used before → MakesChange tells n start w p payload (Ok c) before middle →
    IsTrue tells → IsOnHeld middle.held n.page c
made-on_held tells n committed w p c start edit payload cache was unlocked used before middle planned makes tell =
    told-on_held (view_on n committed w before.held cache was unlocked) w p payload c middle.held
    (stock_on middle middle.held was unlocked) (goes_by n.page p w.spare c) (planned.kept.told tell) (record {
      range = planned.range;
      was = refl;
      spare_was = refl;
      plan = planned.plans.told tell;
      changed = makes.changed;
      told = makes.told tell;
      granted = makes.held;
      cut = λ q. refl;
      gone_is = λ q. refl;
    })

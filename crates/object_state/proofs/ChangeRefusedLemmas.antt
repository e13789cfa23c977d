-- An edit of bytes that was refused: while it was planned, while its change was made, or once that was made and could not be kept.
use Rattle.std.proofs.Common.{◌≡◌, ℕ, ◌*◌, ◌<◌, ◌≤◌, Bool, true, false, ◌||◌, IsTrue, List, [], ◌++◌, Option, Some, None, Ok, Err, refl}
use Rattle.std.proofs.Common.{sym, ap, subst, arith, ◌∙◌, nat_lt, if◌then◌else◌, is_some}
use Rattle.std.specs.Prelude.{Result}
use Rattle.std.proofs.lemmas.Bool.{false≢true}
use Rattle.std.proofs.lemmas.Bool.Decides.{nat_tests}
use Rattle.std.proofs.Math.Bool.{or-true}
use Rattle.eos_ops.specs.declared.edit.Edit.{Edit}
use Rattle.fault_count.specs.Counts.{HasCause, IsUsed, Meter}
use Rattle.fault_count.proofs.CountLaws.{IsUsed-then}
use Rattle.geometry_model.specs.Numbers.{Numbers, IsInRange}
use Rattle.geometry_model.proofs.NumberLaws.{page-some}
use Rattle.layout_model.specs.declared.change.Change.{Change}
use Rattle.layout_model.specs.declared.extent.Extent.{Extent}
use Rattle.layout_model.specs.declared.fit.Fit.{Fit}
use Rattle.layout_model.specs.declared.fit.Fit.TheVariants.{Extend, Follow, Fresh}
use Rattle.layout_model.specs.Grants.{Answer, Refused, Spaces}
use Rattle.layout_model.specs.Layout.{Grants, Tree, granted}
use Rattle.moment_model.specs.Edit.{Changes, Effect, after_effect, edited_slot, effect_on, on_grants}
use Rattle.moment_model.specs.Moment.{ObjectSlot}
use Rattle.moment_model.specs.Version.{Version, spare_uses, uses}
use Rattle.edit_content_laws.specs.Brought.{brought}
use Rattle.tree_pages.specs.Entry.{Entry}
use Rattle.page_set.specs.Words.{PageSetView}
use Rattle.span_store.specs.Held.{Held, bytes_on, has, page_at}
use Rattle.page_cache.specs.Kept.{KeptNodes}
use Rattle.superdirectory.specs.Grants.{free_sets}
use Rattle.superdirectory.specs.Rest.{Frame, Rest, count}
use Rattle.superdirectory.specs.Trace.{AreEnters, SpaceEvent}
use Rattle.superdirectory.proofs.Traces.{part_as, part_none, part_then}
use Rattle.object_body.specs.declared.fails.EditFail.{EditFail}
use Rattle.object_body.specs.declared.fails.EditFail.TheVariants.{NoSpace, Fault, Memory}
use Rattle.object_body.specs.Calls.{IsEditAnswer, IsExplained, IsSmall, pages_in}
use Rattle.object_body.specs.Places.{AreHome}
use Rattle.object_body.proofs.CallLemmas.{keeps-frame}
use Rattle.object_body.proofs.MoveLemmas.{same-untouched}
use Rattle.give_back.specs.Giving.{AreLetGo, IsLeft, gives, is_in_runs}
use Rattle.held_parts.specs.Holding.{HoldsGranted, KeepsRight, begins_one}
use Rattle.held_parts.specs.Spaces.{IsFewRefused, IsGrantAnswer, IsLowFor}
use Rattle.held_parts.proofs.SpaceLemmas.{back-untouched}
use Rattle.object_plan.specs.declared.planned.Planned.{Planned}
use Rattle.object_plan.specs.declared.working_tree.WorkingTree.{WorkingTree}
use Rattle.object_plan.specs.WorkingTree.{tree_on}
use Rattle.object_change.specs.declared.changed.Changed.{Changed}
use Rattle.object_change.specs.Calls.{MakesChange, TakesBack}
use Rattle.object_change.specs.Changed.{granted_in, grants_in}
use Rattle.object_change.specs.Scene.{Scene, used_spare}
use Rattle.object_state.specs.Tree.{TreeView, tree_slot}
use Rattle.object_state.specs.Keeps.{KeepsTreeBody}
use Rattle.object_state.specs.Kind.{TreeMayRefuse, version_threshold}
use Rattle.object_state.specs.Changes.{IsByteEdit, IsSameSet, MakesReady, MakesTree, PlansEdit, view_on}
use Rattle.object_state.specs.Cuts.{IsCutMore}
use Rattle.object_state.specs.Drops.{Stock}
use Rattle.object_state.proofs.ChangeMadeLemmas.{HasPlanned, change-writes, edit-memory, planned-changes, stock_on}
use Rattle.object_state.proofs.CreateLemmas.{writes-none}
use Rattle.object_state.proofs.EndTables.{some-count}
use Rattle.object_state.proofs.RefusedLemmas.{HoldsAlike, IsRefusedEdit, alike-keeps, refused-edit}

-- what the object has then is an object again, and the edit was refused
refused-tree : (tells : Bool) (n : Numbers) (committed : Entry) (w : WorkingTree) (held : Held) (cache : KeptNodes)
    (was unlocked : PageSetView) (s : Stock) (start : ℕ) (edit : Edit) (fail : EditFail) (rest : Rest)
    (trace : Option (List SpaceEvent)) (used now : Meter) → IsInRange n →
    HoldsAlike tells (view_on n committed w held cache was unlocked) s →
    KeepsTreeBody tells (view_on n committed w held cache was unlocked) →
    IsRefusedEdit tells (view_on n committed w held cache was unlocked) start edit fail rest s.rest trace s.trace used now →
    MakesTree tells start edit (Err fail) (view_on n committed w held cache was unlocked)
    (view_on n committed w s.held s.cache s.fresh s.locked) rest s.rest trace s.trace used now
refused-tree tells n committed w held cache was unlocked s start edit fail rest trace used now range alike kept refused =
    let v = view_on n committed w held cache was unlocked in
    record {
      keeps = alike-keeps tells v s alike kept;
      makes = refused-edit tells v s start edit fail rest trace used now (page-some n range) alike kept refused;
    }

-- ---- a refusal that isn't for want of pages

unasked-low : (spaces : ℕ) (fail : EditFail) → ((pages : ℕ) → fail ≡ NoSpace pages → ⊥) → (part : List SpaceEvent) →
    IsExplained spaces (Err fail) part
unasked-low spaces (NoSpace pages) never part = absurd (never pages refl)
unasked-low spaces Fault never part = tt
unasked-low spaces Memory never part = tt

unasked-answer : (answer : Answer ObjectSlot) (slot : ObjectSlot) (fail : EditFail) → ((pages : ℕ) → fail ≡ NoSpace pages → ⊥) →
    IsEditAnswer answer slot (Err fail)
unasked-answer answer slot (NoSpace pages) never = absurd (never pages refl)
unasked-answer answer slot Fault never = tt
unasked-answer answer slot Memory never = tt

unasked-small : (may_refuse : ℕ → Type 0) (fail : EditFail) → ((pages : ℕ) → fail ≡ NoSpace pages → ⊥) → IsSmall may_refuse (Err fail)
unasked-small may_refuse (NoSpace pages) never = absurd (never pages refl)
unasked-small may_refuse Fault never = tt
unasked-small may_refuse Memory never = tt

-- a refusal of one kind of call as such, and back
as-fail : (A : Type 0) (fail other : EditFail) → ◌≡◌ {A = Result A EditFail} (Err fail) (Err other) → fail ≡ other
as-fail A fail other same = cc

cause-as : (A : Type 0) (before now : ℕ) (fail : EditFail) → HasCause before now (◌≡◌ {A = Result A EditFail} (Err fail) (Err Fault)) →
    HasCause before now (fail ≡ Fault)
cause-as A before now fail cause = record {
  kept = cause.kept;
  raised = λ bad. cause.raised (ap (λ (f : EditFail). Err f) bad);
  still = λ none. cause.still (λ same. none (as-fail A fail Fault same));
}

-- ---- while it was planned

pub plan-refused : (tells : Bool) (n : Numbers) (committed : Entry) (w : WorkingTree) (held : Held) (cache nodes : KeptNodes)
    (was unlocked : PageSetView) (start : ℕ) (edit : Edit) (fail : EditFail) (rest : Rest) (trace : Option (List SpaceEvent))
    (used now : Meter) → IsInRange n → KeepsTreeBody tells (view_on n committed w held cache was unlocked) →
    IsByteEdit edit w.root.length → rest.entered ≡ None → PlansEdit tells n w edit held nodes (Err fail) used now →
    MakesTree tells start edit (Err fail) (view_on n committed w held cache was unlocked)
    (view_on n committed w held nodes was unlocked) rest rest trace trace used now
plan-refused tells n committed w held cache nodes was unlocked start edit fail rest trace used now range kept bytes none plans =
    let v = view_on n committed w held cache was unlocked in
    let never : (pages : ℕ) → fail ≡ NoSpace pages → ⊥ = λ pages is. plans.granted pages (ap (λ (f : EditFail). Err f) is) in
    let written = plans.uses.written in
    refused-tree tells n committed w held cache was unlocked
    (record { held = held; cache = nodes; fresh = was; locked = unlocked; rest = rest; trace = trace }) start edit fail rest trace used now
    range
    (record {
      others = λ q out. refl;
      had = λ q. refl;
      begun = λ q there from. from;
      right = record { sized = kept.sized; nodes = plans.nodes };
      fresh = λ q. refl;
      fresh_size = refl;
      locked = λ q. refl;
      locked_size = refl;
    }) kept
    (record {
      frame = keeps-frame rest none;
      low = part_none (IsExplained (count rest) (Err fail)) trace (unasked-low (count rest) fail never []);
      port = plans.uses.used;
      cause = cause-as Planned used.faults now.faults fail plans.cause;
      memory = λ wanted. edit-memory edit bytes.bytes;
      granted = λ tell views told long.
          unasked-answer (edited_slot n start (free_sets views) (tree_slot v) edit) (tree_slot v) fail never;
      spaces = λ views told home. same-untouched n rest.frame views rest told home;
      small = λ tell. unasked-small (TreeMayRefuse n (tree_slot v)) fail never;
      writes = λ tell. record {
        pages = 0;
        allowed = writes-none n (tree_slot v) (tree_slot v) edit;
        most = omega (arith, written);
      };
    })

-- ---- while its change was made

-- a page that isn't spare isn't one of the spare ones that are used
used-out : (fit : Fit) (spare : Option Extent) (q : ℕ) → spare_uses q spare ≡ 0 → spare_uses q (used_spare fit spare) ≡ 0
used-out Fresh spare q out = refl
used-out Follow spare q out = out
used-out Extend spare q out = out

low-as : (spaces : ℕ) (fail : EditFail) (part : List SpaceEvent) → IsLowFor {A = Changed} spaces (Err fail) part →
    IsExplained spaces (Err fail) part
low-as spaces (NoSpace pages) part low = low
low-as spaces Fault part low = tt
low-as spaces Memory part low = tt

few-small : (n : Numbers) (w : WorkingTree) (slot : ObjectSlot) (tree : Tree) (fail : EditFail) → slot.working ≡ Some tree →
    w.threshold ≡ tree.threshold → IsFewRefused {A = Changed} w.threshold (Err fail) → IsSmall (TreeMayRefuse n slot) (Err fail)
few-small n w slot tree (NoSpace pages) there same few =
    let most = few.1 in
    record {
      some = few.0;
      most = subst (λ (x : Version). pages < 2 * version_threshold x) (sym there) (omega (arith, most, same));
    }
few-small n w slot tree Fault there same few = tt
few-small n w slot tree Memory there same few = tt

-- pages that are refused for the change are refused for the edit
refused-pages : (n : Numbers) (start : ℕ) (free : Spaces) (slot : ObjectSlot) (tree : Tree) (edit : Edit) (change : Change) (pages : ℕ) →
    slot.working ≡ Some tree → effect_on n edit (Some tree) ≡ Changes tree change →
    granted n start tree slot.spare change free ≡ Refused pages → pages_in (edited_slot n start free slot edit) ≡ Some pages
unfolding edited_slot
refused-pages n start free slot tree edit change pages there effect grant =
    ap (λ (w : Version). pages_in (after_effect n start free slot (effect_on n edit w))) there
    ∙ (ap (λ (e : Effect). pages_in (after_effect n start free slot e)) effect
    ∙ ap (λ (a : Answer Grants). pages_in (on_grants n slot tree change a)) grant)

grant-answer : (n : Numbers) (start : ℕ) (free : Spaces) (slot after : ObjectSlot) (tree : Tree) (edit : Edit) (change : Change)
    (rest : Rest) (fail : EditFail) → slot.working ≡ Some tree → effect_on n edit (Some tree) ≡ Changes tree change →
    IsGrantAnswer {A = Changed} grants_in (granted n start tree slot.spare change free) rest (Err fail) →
    IsEditAnswer (edited_slot n start free slot edit) after (Err fail)
grant-answer n start free slot after tree edit change rest (NoSpace pages) there effect answer =
    refused-pages n start free slot tree edit change pages there effect answer
grant-answer n start free slot after tree edit change rest Fault there effect answer = tt
grant-answer n start free slot after tree edit change rest Memory there effect answer = tt

pub change-refused : (tells : Bool) (n : Numbers) (committed : Entry) (w : WorkingTree) (p : Planned) (start : ℕ) (edit : Edit)
    (fail : EditFail) (cache : KeptNodes) (was unlocked : PageSetView) (used : Meter) (before last : Scene) →
    HasPlanned tells n committed w p edit cache was unlocked used before →
    MakesChange tells n start w p (brought edit) (Err fail) before last →
    MakesTree tells start edit (Err fail) (view_on n committed w before.held cache was unlocked)
    (view_on n committed w last.held last.nodes was unlocked) before.rest last.rest before.trace last.trace used last.meter
change-refused tells n committed w p start edit fail cache was unlocked used before last planned makes =
    let v = view_on n committed w before.held cache was unlocked in
    let tree = tree_on (bytes_on before.held) w in
    let well = planned.plans.cause.still (λ bad. absurd (unplanned bad)) in
    refused-tree tells n committed w before.held cache was unlocked (stock_on last last.held was unlocked) start edit fail before.rest
    before.trace used last.meter planned.range
    (record {
      others = λ q out. makes.held.others q (used-out p.fit w.spare q out);
      had = makes.held.had;
      begun = λ q there from. makes.held.begun q there ∙ from;
      right = makes.right;
      fresh = λ q. refl;
      fresh_size = refl;
      locked = λ q. refl;
      locked_size = refl;
    }) planned.kept
    (record {
      frame = makes.rest;
      low = part_as (IsLowFor {A = Changed} (count before.rest) (Err fail)) (IsExplained (count before.rest) (Err fail)) before.trace
          last.trace (λ part low. low-as (count before.rest) fail part low) makes.low;
      port = IsUsed-then used before.meter last.meter planned.plans.uses.used makes.used;
      cause = subst (λ (k : ℕ). HasCause k last.meter.faults (fail ≡ Fault)) well
          (cause-as Changed before.meter.faults last.meter.faults fail makes.cause);
      memory = λ wanted. edit-memory edit planned.bytes.bytes;
      granted = λ tell views told long.
          grant-answer n start (free_sets views) (tree_slot v) (tree_slot v) tree edit p.change last.rest fail refl
          (planned-changes tells n committed w p edit cache was unlocked used before planned tell) (makes.answer tell views told long);
      spaces = makes.spaces;
      small = λ tell. few-small n w (tree_slot v) tree fail refl refl makes.few;
      writes = λ tell. change-writes tells n committed w p edit cache was unlocked used before (tree_slot v) last.meter planned tell
          (makes.writes tell);
    })
  where
    unplanned : ◌≡◌ {A = Result Planned EditFail} (Ok p) (Err Fault) → ⊥
    unplanned same = cc

-- ---- once it was made

-- the pages that were granted are given back: what is held is alike
taken-alike : (tells : Bool) (v : TreeView) (c : Changed) (fit : Fit) (cuts : ℕ) (middle held : Held) (s : Stock) →
    HoldsGranted (used_spare fit v.spare) (granted_in c) v.held middle → IsCutMore cuts middle held →
    IsLeft (is_in_runs (granted_in c)) held s.held → KeepsRight tells v.numbers s.held s.cache → IsSameSet v.fresh s.fresh →
    IsSameSet v.locked s.locked → HoldsAlike tells v s
taken-alike tells v c fit cuts middle held s grown cut left right fresh locked = record {
  others = λ q out. left.pages q ∙ page q out (is_in_runs (granted_in c) q) refl;
  had = λ q. ap is_some (left.pages q) ∙ there q (is_in_runs (granted_in c) q) refl;
  begun = λ q has_it from.
      left.begun q (own q has_it (is_in_runs (granted_in c) q) refl)
      ∙ cut.begun q (grown.begun q ∙ (ap (λ b. begins_one (granted_in c) q || b) from ∙ or-true (begins_one (granted_in c) q)));
  right = right;
  fresh = fresh.same;
  fresh_size = fresh.size;
  locked = locked.same;
  locked_size = locked.size;
} where
  -- a granted page wasn't held
  lacked : (q : ℕ) → is_in_runs (granted_in c) q ≡ true → page_at v.held q ≡ None
  lacked q is = grown.lacked q (some-count (uses q (granted_in c)) is)

  no-use : (q : ℕ) → is_in_runs (granted_in c) q ≡ false → uses q (granted_in c) ≡ 0
  no-use q is = none (uses q (granted_in c)) is
    where
      none : (k : ℕ) → nat_lt 0 k ≡ false → k ≡ 0
      none k is = grind (arith, nat_tests, is)

  page : (q : ℕ) → spare_uses q v.spare ≡ 0 → (b : Bool) → is_in_runs (granted_in c) q ≡ b →
      (if b then None else page_at held q) ≡ page_at v.held q
  page q out true is = sym (lacked q is)
  page q out false is = cut.pages q ∙ grown.others q (no-use q is) (used-out fit v.spare q out)

  there : (q : ℕ) (b : Bool) → is_in_runs (granted_in c) q ≡ b → is_some (if b then None else page_at held q) ≡ has v.held q
  there q true is = sym (ap is_some (lacked q is))
  there q false is = ap is_some (cut.pages q) ∙ (grown.had q ∙ ap (λ b. b || has v.held q) is)

  own : (q : ℕ) → IsTrue (has v.held q) → (b : Bool) → is_in_runs (granted_in c) q ≡ b → b ≡ false
  own q has_it true is = absurd (false≢true (sym (ap is_some (lacked q is)) ∙ has_it))
  own q has_it false is = refl

pub ready-refused : (tells : Bool) (n : Numbers) (committed : Entry) (w : WorkingTree) (p : Planned) (c : Changed) (start : ℕ) (edit : Edit)
    (fail : EditFail) (cache : KeptNodes) (was unlocked : PageSetView) (used : Meter) (before middle : Scene) (held : Held)
    (fresh locked : PageSetView) (now meter : Meter) (last : Scene) →
    HasPlanned tells n committed w p edit cache was unlocked used before →
    MakesChange tells n start w p (brought edit) (Ok c) before middle →
    MakesReady tells n.page p w.spare c (Err fail) middle.held held was fresh unlocked locked middle.meter now →
    TakesBack tells n (granted_in c)
    (record { held = held; nodes = middle.nodes; meter = meter; rest = middle.rest; trace = middle.trace }) last →
    MakesTree tells start edit (Err fail) (view_on n committed w before.held cache was unlocked)
    (view_on n committed w last.held last.nodes fresh locked) before.rest last.rest before.trace last.trace used now
ready-refused tells n committed w p c start edit fail cache was unlocked used before middle held fresh locked now meter last planned makes
    ready taken =
    let v = view_on n committed w before.held cache was unlocked in
    let well = makes.cause.still (λ bad. absurd (unmade bad)) ∙ planned.plans.cause.still (λ bad. absurd (unplanned bad)) in
    let never : (pages : ℕ) → fail ≡ NoSpace pages → ⊥ = λ pages is. ready.granted pages (ap (λ (f : EditFail). Err f) is) in
    let cause : HasCause used.faults now.faults (fail ≡ Fault) =
    subst (λ (k : ℕ). HasCause k now.faults (fail ≡ Fault)) well (cause-as PageSetView middle.meter.faults now.faults fail ready.cause) in
    let read : IsUsed middle.meter now = raised ready.meter ready.cause.kept in
    refused-tree tells n committed w before.held cache was unlocked (stock_on last last.held fresh locked) start edit fail before.rest
    before.trace used now planned.range
    (taken-alike tells v c p.fit ready.only.times middle.held held (stock_on last last.held fresh locked) makes.held ready.only.cut
    taken.held taken.right ready.fresh_same ready.locked_same) planned.kept
    (record {
      frame = record { frame = taken.given.rest.frame ∙ makes.rest.frame; entered = taken.given.rest.entered };
      low = part_then (IsLowFor {A = Changed} (count before.rest) (Ok c)) AreEnters (IsExplained (count before.rest) (Err fail))
          before.trace middle.trace last.trace (λ one two low enters. unasked-low (count before.rest) fail never (one ++ two)) makes.low
          taken.given.enters;
      port = IsUsed-then used middle.meter now (IsUsed-then used before.meter middle.meter planned.plans.uses.used makes.used) read;
      cause = cause;
      memory = λ wanted. edit-memory edit planned.bytes.bytes;
      granted = λ tell views told long.
          unasked-answer (edited_slot n start (free_sets views) (tree_slot v) edit) (tree_slot v) fail never;
      spaces = λ views told home.
          let out = makes.spaces views told home in
          back-untouched n before.rest.frame (granted_in c) views middle.rest last.rest out
          (subst (λ (f : Frame). AreLetGo n f (gives (is_in_runs (granted_in c))) out.after last.rest) makes.rest.frame
          (taken.given.spaces out.after out.told (subst (λ (f : Frame). AreHome f out.after) (sym makes.rest.frame) out.home)));
      small = λ tell. unasked-small (TreeMayRefuse n (tree_slot v)) fail never;
      writes = λ tell.
          let writes = change-writes tells n committed w p edit cache was unlocked used before (tree_slot v) middle.meter planned tell
          (makes.writes tell) in
          let same = ap (λ (m : Meter). m.written) ready.meter in
          let most = writes.most in
          record { pages = writes.pages; allowed = writes.allowed; most = omega (arith, most, same) };
    })
  where
    unmade : ◌≡◌ {A = Result Changed EditFail} (Ok c) (Err Fault) → ⊥
    unmade same = cc

    unplanned : ◌≡◌ {A = Result Planned EditFail} (Ok p) (Err Fault) → ⊥
    unplanned same = cc

    -- only the count of faults differs
    raised : now ≡ record middle.meter { faults = now.faults } → middle.meter.faults ≤ now.faults → IsUsed middle.meter now
    raised same faults =
        let page = ap (λ (m : Meter). m.page) same in
        let read = ap (λ (m : Meter). m.read) same in
        let written = ap (λ (m : Meter). m.written) same in
        record { page = page; faults = faults; read = omega (arith, read); written = omega (arith, written) }

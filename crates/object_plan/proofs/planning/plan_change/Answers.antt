use Rattle.std.proofs.Common.{◌≡◌, ℕ, ◌+◌, ◌*◌, ◌/◌, ◌≤◌, IsTrue, List, length, refl, sym, ap, subst, ◌∙◌, arith}
use Rattle.std.specs.Prelude.{Option}
use Rattle.std.proofs.Math.Nat.{mul-le-mul_left}
use Rattle.std.proofs.lemmas.Bool.{false≢true}
use Rattle.fault_count.proofs.CountLaws.{HasCause-found, Reads-blame}
use Rattle.layout_model.specs.declared.extent.Extent.{Extent}
use Rattle.tree_model.specs.declared.entry.Placed.{Placed}
use Rattle.tree_model.specs.Node.{room_of}
use Rattle.tree_model.specs.Tree.{IsTree}
use Rattle.span_store.specs.Held.{bytes_on}
use Rattle.tree_read.specs.Search.{KeepsNodes}
use Rattle.tree_read.proofs.CacheLemmas.{AsksSearch-on}
use Rattle.tree_read.proofs.MeterLemmas.{Uses-then}
use Rattle.object_plan.specs.Reading.{IsWindowOf}
use Rattle.object_plan.specs.Window.{CanPlanOn, IsPlanOn, plan_on}
use Rattle.object_plan.proofs.MakeLemmas.{can-make, replaced-few}
use Rattle.object_plan.proofs.ToldLemmas.{told-plan}
use Rattle.object_plan.proofs.WorkingLemmas.{spare_in, spare-less, told-entries, told-usable, usable-plan}
use Rattle.object_plan.proofs.planning.plan_change.Goals as goal

pub read_window-requires-clause-asks : goal.read_window-requires-clause-asks
read_window-requires-clause-asks g c =
    let root = c.args.working.now.root in
    AsksSearch-on _ _ _ _ _ _ c.requires.page (record { size_is = c.page-page.ensures.range.page_size; sized = c.requires.sized })
    c.requires.nodes (λ t. subst (λ (size : ℕ). IsTree (bytes_on c.args.held.now) (room_of size / 2) root.height root.page root.length)
    (sym c.requires.page) (c.requires.told t).tree.shape)

-- ---- the window

pub returns-in_err-window-clause-nodes : goal.returns-in_err-window-clause-nodes
returns-in_err-window-clause-nodes g c =
    subst (λ (size : ℕ). KeepsNodes g.P.S.Span.tells size (bytes_on c.args.held.now) c.read_window.new.cache) c.requires.page
    c.read_window.ensures.reads.nodes

pub returns-in_err-window-clause-uses : goal.returns-in_err-window-clause-uses
returns-in_err-window-clause-uses g c = c.read_window.ensures.reads.uses

-- ---- entries that aren't those of the object

pub returns-then-not-is_usable-clause-nodes : goal.returns-then-not-is_usable-clause-nodes
returns-then-not-is_usable-clause-nodes g c =
    subst (λ (size : ℕ). KeepsNodes g.P.S.Span.tells size (bytes_on c.args.held.now) c.read_window.new.cache) c.requires.page
    c.read_window.ensures.reads.nodes

pub returns-then-not-is_usable-clause-uses : goal.returns-then-not-is_usable-clause-uses
returns-then-not-is_usable-clause-uses g c =
    let new = g.P.Port.meter c.blame.new.self in
    Uses-then 0 _ _ _ c.read_window.ensures.reads.uses (Reads-blame new.faults _ new c.blame.ensures.counts c.blame.ensures.kept)

pub returns-then-not-is_usable-clause-cause : goal.returns-then-not-is_usable-clause-cause
returns-then-not-is_usable-clause-cause g c =
    let n = c.args.geometry.now in
    let held = c.args.held.now in
    let w = c.args.working.now in
    let change = c.args.change in
    let window = c.as_slice.result.now in
    let untold = λ (t : IsTrue g.P.S.Span.tells).
    let told = c.requires.told t in
    let are = told-entries n held w (c.requires.sized t) told in
    let read = subst (IsWindowOf (bytes_on held) w.root change.at change.removed) (sym c.as_slice.ensures.value)
    (c.in_ok-window.ensures.told t) in
    false≢true (sym c.if-not-is_usable.true ∙ c.is_usable.ensures.1 (told-usable n held w change window told are c.requires.change read)) in
    HasCause-found _ _ _ _ (c.in_ok-window.ensures.cause.still (λ bad. absurd cc)) c.blame.ensures.kept (c.blame.ensures.faults untold) refl

-- ---- the plan

pub plan_window-requires : goal.plan_window-requires
plan_window-requires g c =
    let n = c.args.geometry.now in
    let w = c.args.working.now in
    let change = c.args.change in
    let usable = c.is_usable.ensures.0 c.if-not-is_usable.false in
    let same : c.as_slice-2.result.now ≡ c.as_slice.result.now = c.as_slice-2.ensures.value ∙ sym c.as_slice.ensures.value in
    subst (λ (ss : List Placed). CanPlanOn n w.threshold c.spare_of-spare.result change ss) (sym same)
    (subst (λ (o : Option Extent). CanPlanOn n w.threshold o change c.as_slice.result.now) (sym c.spare_of-spare.ensures)
    (usable-plan n c.args.held.now w change c.as_slice.result.now c.requires.change usable))

pub returns-in_err-planned-clause-nodes : goal.returns-in_err-planned-clause-nodes
returns-in_err-planned-clause-nodes g c =
    subst (λ (size : ℕ). KeepsNodes g.P.S.Span.tells size (bytes_on c.args.held.now) c.read_window.new.cache) c.requires.page
    c.read_window.ensures.reads.nodes

pub returns-in_err-planned-clause-uses : goal.returns-in_err-planned-clause-uses
returns-in_err-planned-clause-uses g c = c.read_window.ensures.reads.uses

pub returns-clause-change : goal.returns-clause-change
returns-clause-change g c = c.in_ok-planned.ensures.change_is

pub returns-clause-ready : goal.returns-clause-ready
returns-clause-ready g c =
    let n = c.args.geometry.now in
    let held = c.args.held.now in
    let w = c.args.working.now in
    let change = c.args.change in
    let window = c.as_slice.result.now in
    let usable = c.is_usable.ensures.0 c.if-not-is_usable.false in
    let same : c.as_slice-2.result.now ≡ window = c.as_slice-2.ensures.value ∙ sym c.as_slice.ensures.value in
    let made = subst (λ (o : Option Extent). IsPlanOn n (plan_on n w.threshold o change window) change window c.in_ok-planned.planned)
    c.spare_of-spare.ensures (subst (λ (ss : List Placed). IsPlanOn n (plan_on n w.threshold c.spare_of-spare.result change ss) change
    ss c.in_ok-planned.planned) same c.in_ok-planned.ensures) in
    can-make n held w (spare_in w) change window c.in_ok-planned.planned c.page-page.ensures.range (spare-less w) c.requires.change usable
    (usable-plan n held w change window c.requires.change usable) made

pub returns-clause-told : goal.returns-clause-told
returns-clause-told g c = λ t.
    let n = c.args.geometry.now in
    let held = c.args.held.now in
    let w = c.args.working.now in
    let change = c.args.change in
    let window = c.as_slice.result.now in
    let told = c.requires.told t in
    let are = told-entries n held w (c.requires.sized t) told in
    let read = subst (IsWindowOf (bytes_on held) w.root change.at change.removed) (sym c.as_slice.ensures.value)
    (c.in_ok-window.ensures.told t) in
    let same : c.as_slice-2.result.now ≡ window = c.as_slice-2.ensures.value ∙ sym c.as_slice.ensures.value in
    let made = subst (λ (o : Option Extent). IsPlanOn n (plan_on n w.threshold o change window) change window c.in_ok-planned.planned)
    c.spare_of-spare.ensures (subst (λ (ss : List Placed). IsPlanOn n (plan_on n w.threshold c.spare_of-spare.result change ss) change
    ss c.in_ok-planned.planned) same c.in_ok-planned.ensures) in
    told-plan n held w change window c.in_ok-planned.planned c.page-page.ensures.range are told c.requires.change read made

pub returns-clause-nodes : goal.returns-clause-nodes
returns-clause-nodes g c =
    subst (λ (size : ℕ). KeepsNodes g.P.S.Span.tells size (bytes_on c.args.held.now) c.read_window.new.cache) c.requires.page
    c.read_window.ensures.reads.nodes

pub returns-clause-uses : goal.returns-clause-uses
returns-clause-uses g c = c.read_window.ensures.reads.uses

pub returns-clause-few : goal.returns-clause-few
returns-clause-few g c = λ t.
    let n = c.args.geometry.now in
    let w = c.args.working.now in
    let change = c.args.change in
    let window = c.as_slice-2.result.now in
    let few = replaced-few n (plan_on n w.threshold c.spare_of-spare.result change window) change window c.in_ok-planned.planned
    c.in_ok-planned.ensures in
    let slice = ap length c.as_slice-2.ensures.value in
    let read = c.in_ok-window.ensures.few t in
    let most : w.root.height * length c.in_ok-window.window.items ≤ w.root.height * (length c.in_ok-planned.planned.replaced.items + 2) =
    mul-le-mul_left w.root.height (omega (arith, few, slice)) in
    omega (arith, read, most)

pub returns-clause-cause : goal.returns-clause-cause
returns-clause-cause g c =
    let quiet = c.in_ok-window.ensures.cause.still (λ bad. absurd cc) in
    record { kept = omega (arith, quiet); raised = λ bad. absurd cc; still = λ none. quiet }

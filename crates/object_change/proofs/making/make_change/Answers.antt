-- The runs are asked for, the change is made on them, and after a refusal they go back.
use Rattle.std.proofs.Common.{◌≡◌, ℕ, IsTrue, List, Option, refl, sym, subst, arith}
use Rattle.std.specs.Prelude.{Ok, Err}
use Rattle.fault_count.specs.Counts.{Meter}
use Rattle.layout_model.specs.declared.extent.Extent.{Extent}
use Rattle.layout_model.specs.declared.request.Request.{Request}
use Rattle.page_cache.specs.Kept.{KeptNodes}
use Rattle.span_store.specs.Held.{Held, bytes_on}
use Rattle.superdirectory.specs.Rest.{Rest}
use Rattle.superdirectory.specs.Trace.{SpaceEvent}
use Rattle.object_body.specs.Places.{IsStore}
use Rattle.object_plan.specs.WorkingTree.{tree_on}
use Rattle.give_back.specs.Giving.{CanGiveRuns, LeavesNodes, LetsGo, gives, is_in_runs}
use Rattle.give_back.proofs.RunsLemmas.{still-ready}
use Rattle.held_parts.specs.Asking.{AsksRuns}
use Rattle.object_change.specs.Scene.{Scene}
use Rattle.object_change.proofs.MakeLemmas.{can-change}
use Rattle.object_change.proofs.FinishLemmas.{can-spare, held-tree, told-whole}
use Rattle.object_change.proofs.WholeLemmas.{makes-ok, makes-refused, makes-unasked, refused-can}
use Rattle.object_change.proofs.making.make_change.Goals as goal

abbrev scene : Held → KeptNodes → Meter → Rest → Option (List SpaceEvent) → Scene
scene held nodes meter rest trace = record { held = held; nodes = nodes; meter = meter; rest = rest; trace = trace }

pub returns-in-Err : goal.returns-in-Err
returns-in-Err g c = record {
  makes = makes-unasked g.P.S.Span.tells c.args.geometry.now c.args.start c.args.working.now c.args.planned.now c.args.payload.now
      c.in-Err.fail
      (scene c.args.held.now c.args.cache.now (g.P.Port.meter c.args.port.now) (g.L.Hints.rest c.args.latches.now)
      (g.L.Hints.trace c.args.latches.now))
      c.ask_runs.new.held c.ask_runs.new.cache (g.L.Hints.rest c.ask_runs.new.latches)
      (g.L.Hints.trace c.ask_runs.new.latches) c.requires.can
      (subst (λ (rs : List Request). AsksRuns g.P.S.Span.tells c.args.geometry.now c.args.start c.args.working.now.threshold rs
      (Err c.in-Err.fail) c.args.held.now c.ask_runs.new.held c.ask_runs.new.cache (g.L.Hints.rest c.args.latches.now)
      (g.L.Hints.rest c.ask_runs.new.latches) (g.L.Hints.trace c.args.latches.now) (g.L.Hints.trace c.ask_runs.new.latches))
      c.as_slice.ensures.value c.in-Err.ensures.asks);
}

pub change_on-requires : goal.change_on-requires
change_on-requires g c =
    let asks = subst (λ (rs : List Request). AsksRuns g.P.S.Span.tells c.args.geometry.now c.args.start c.args.working.now.threshold rs
    (Ok c.in-Ok.granted) c.args.held.now c.ask_runs.new.held c.ask_runs.new.cache (g.L.Hints.rest c.args.latches.now)
    (g.L.Hints.rest c.ask_runs.new.latches) (g.L.Hints.trace c.args.latches.now) (g.L.Hints.trace c.ask_runs.new.latches))
    c.as_slice.ensures.value c.in-Ok.ensures.asks in
    record {
      can = can-change g.P.S.Span.tells c.args.geometry.now c.args.start c.args.working.now c.args.planned.now c.args.payload.now
          c.in-Ok.granted.counts.items c.in-Ok.granted.runs.items
          (scene c.args.held.now c.args.cache.now (g.P.Port.meter c.args.port.now) (g.L.Hints.rest c.args.latches.now)
          (g.L.Hints.trace c.args.latches.now))
          (scene c.ask_runs.new.held c.ask_runs.new.cache (g.P.Port.meter c.args.port.now) (g.L.Hints.rest c.ask_runs.new.latches)
          (g.L.Hints.trace c.ask_runs.new.latches))
          c.requires.can asks.runs asks.held asks.right asks.bare refl
          (still-ready c.args.geometry.now (g.L.Hints.rest c.args.latches.now)
          (g.L.Hints.rest c.ask_runs.new.latches) c.requires.can.ready asks.frame) asks.frame.frame;
    }

pub changed-requires : goal.changed-requires
changed-requires g c =
    let asks = subst (λ (rs : List Request). AsksRuns g.P.S.Span.tells c.args.geometry.now c.args.start c.args.working.now.threshold rs
    (Ok c.in-Ok.granted) c.args.held.now c.ask_runs.new.held c.ask_runs.new.cache (g.L.Hints.rest c.args.latches.now)
    (g.L.Hints.rest c.ask_runs.new.latches) (g.L.Hints.trace c.args.latches.now) (g.L.Hints.trace c.ask_runs.new.latches))
    c.as_slice.ensures.value c.in-Ok.ensures.asks in
    let can_mid = can-change g.P.S.Span.tells c.args.geometry.now c.args.start c.args.working.now c.args.planned.now c.args.payload.now
    c.in-Ok.granted.counts.items c.in-Ok.granted.runs.items
    (scene c.args.held.now c.args.cache.now (g.P.Port.meter c.args.port.now) (g.L.Hints.rest c.args.latches.now)
    (g.L.Hints.trace c.args.latches.now))
    (scene c.ask_runs.new.held c.ask_runs.new.cache (g.P.Port.meter c.args.port.now) (g.L.Hints.rest c.ask_runs.new.latches)
    (g.L.Hints.trace c.ask_runs.new.latches))
    c.requires.can asks.runs asks.held asks.right asks.bare refl
    (still-ready c.args.geometry.now (g.L.Hints.rest c.args.latches.now)
    (g.L.Hints.rest c.ask_runs.new.latches) c.requires.can.ready asks.frame) asks.frame.frame in
    can-spare g.P.S.Span.tells c.args.geometry.now c.args.start c.args.working.now c.args.planned.now c.args.payload.now c.in-Ok.granted
    c.in-Ok-change_on.entries c.in-Ok-change_on.spliced
    (scene c.ask_runs.new.held c.ask_runs.new.cache (g.P.Port.meter c.args.port.now) (g.L.Hints.rest c.ask_runs.new.latches)
    (g.L.Hints.trace c.ask_runs.new.latches))
    (scene c.change_on.new.held c.change_on.new.cache (g.P.Port.meter c.change_on.new.port) (g.L.Hints.rest c.change_on.new.latches)
    (g.L.Hints.trace c.change_on.new.latches))
    c.end-end.result c.page-page.ensures.range c.end-end.ensures (omega arith) can_mid c.in-Ok-change_on.ensures.changes

pub give_runs-requires-clause-can : goal.give_runs-requires-clause-can
give_runs-requires-clause-can g c =
    let asks = subst (λ (rs : List Request). AsksRuns g.P.S.Span.tells c.args.geometry.now c.args.start c.args.working.now.threshold rs
    (Ok c.in-Ok.granted) c.args.held.now c.ask_runs.new.held c.ask_runs.new.cache (g.L.Hints.rest c.args.latches.now)
    (g.L.Hints.rest c.ask_runs.new.latches) (g.L.Hints.trace c.args.latches.now) (g.L.Hints.trace c.ask_runs.new.latches))
    c.as_slice.ensures.value c.in-Ok.ensures.asks in
    subst (CanGiveRuns c.args.geometry.now c.change_on.new.held) (sym c.as_slice-in-Err-change_on.ensures.value)
    (refused-can g.P.S.Span.tells c.args.geometry.now c.args.start c.args.working.now c.args.planned.now c.args.payload.now
    c.in-Ok.granted c.in-Err-change_on.fail
    (scene c.args.held.now c.args.cache.now (g.P.Port.meter c.args.port.now) (g.L.Hints.rest c.args.latches.now)
    (g.L.Hints.trace c.args.latches.now))
    (scene c.ask_runs.new.held c.ask_runs.new.cache (g.P.Port.meter c.args.port.now) (g.L.Hints.rest c.ask_runs.new.latches)
    (g.L.Hints.trace c.ask_runs.new.latches))
    (scene c.change_on.new.held c.change_on.new.cache (g.P.Port.meter c.change_on.new.port) (g.L.Hints.rest c.change_on.new.latches)
    (g.L.Hints.trace c.change_on.new.latches))
    asks c.in-Err-change_on.ensures.changes)

pub returns-in-Ok-change_on : goal.returns-in-Ok-change_on
returns-in-Ok-change_on g c =
    let asks = subst (λ (rs : List Request). AsksRuns g.P.S.Span.tells c.args.geometry.now c.args.start c.args.working.now.threshold rs
    (Ok c.in-Ok.granted) c.args.held.now c.ask_runs.new.held c.ask_runs.new.cache (g.L.Hints.rest c.args.latches.now)
    (g.L.Hints.rest c.ask_runs.new.latches) (g.L.Hints.trace c.args.latches.now) (g.L.Hints.trace c.ask_runs.new.latches))
    c.as_slice.ensures.value c.in-Ok.ensures.asks in
    let can_mid = can-change g.P.S.Span.tells c.args.geometry.now c.args.start c.args.working.now c.args.planned.now c.args.payload.now
    c.in-Ok.granted.counts.items c.in-Ok.granted.runs.items
    (scene c.args.held.now c.args.cache.now (g.P.Port.meter c.args.port.now) (g.L.Hints.rest c.args.latches.now)
    (g.L.Hints.trace c.args.latches.now))
    (scene c.ask_runs.new.held c.ask_runs.new.cache (g.P.Port.meter c.args.port.now) (g.L.Hints.rest c.ask_runs.new.latches)
    (g.L.Hints.trace c.ask_runs.new.latches))
    c.requires.can asks.runs asks.held asks.right asks.bare refl
    (still-ready c.args.geometry.now (g.L.Hints.rest c.args.latches.now)
    (g.L.Hints.rest c.ask_runs.new.latches) c.requires.can.ready asks.frame) asks.frame.frame in
    let store = subst (IsStore c.args.geometry.now) (sym asks.frame.frame) c.requires.can.ready.store in
    let same : IsTrue g.P.S.Span.tells → tree_on (bytes_on c.ask_runs.new.held) c.args.working.now ≡ tree_on
    (bytes_on c.args.held.now) c.args.working.now =
    λ t. (held-tree g.P.S.Span.tells c.args.geometry.now c.args.start c.args.working.now c.args.planned.now c.args.payload.now
    c.in-Ok.granted.runs.items
    (scene c.args.held.now c.args.cache.now (g.P.Port.meter c.args.port.now) (g.L.Hints.rest c.args.latches.now)
    (g.L.Hints.trace c.args.latches.now))
    c.ask_runs.new.held c.requires.can t asks.held).tree in
    record {
      makes = makes-ok g.P.S.Span.tells c.args.geometry.now c.args.start c.args.working.now c.args.planned.now c.args.payload.now
          c.in-Ok.granted c.in-Ok-change_on.entries
          c.in-Ok-change_on.spliced c.changed.result
          (scene c.args.held.now c.args.cache.now (g.P.Port.meter c.args.port.now) (g.L.Hints.rest c.args.latches.now)
          (g.L.Hints.trace c.args.latches.now))
          (scene c.ask_runs.new.held c.ask_runs.new.cache (g.P.Port.meter c.args.port.now) (g.L.Hints.rest c.ask_runs.new.latches)
          (g.L.Hints.trace c.ask_runs.new.latches))
          (scene c.change_on.new.held c.change_on.new.cache (g.P.Port.meter c.change_on.new.port)
          (g.L.Hints.rest c.change_on.new.latches) (g.L.Hints.trace c.change_on.new.latches))
          c.page-page.ensures.range c.requires.can refl asks c.in-Ok-change_on.ensures.changes c.changed.ensures same
          (λ t. (can_mid.told t).1)
          (λ t. told-whole g.P.S.Span.tells c.args.geometry.now c.args.start c.args.working.now c.args.planned.now c.args.payload.now
          c.in-Ok.granted c.in-Ok-change_on.entries
          c.in-Ok-change_on.spliced c.changed.result
          (scene c.args.held.now c.args.cache.now (g.P.Port.meter c.args.port.now) (g.L.Hints.rest c.args.latches.now)
          (g.L.Hints.trace c.args.latches.now))
          (scene c.ask_runs.new.held c.ask_runs.new.cache (g.P.Port.meter c.args.port.now) (g.L.Hints.rest c.ask_runs.new.latches)
          (g.L.Hints.trace c.ask_runs.new.latches))
          (scene c.change_on.new.held c.change_on.new.cache (g.P.Port.meter c.change_on.new.port)
          (g.L.Hints.rest c.change_on.new.latches) (g.L.Hints.trace c.change_on.new.latches))
          c.page-page.ensures.range t c.requires.can can_mid asks.held store c.in-Ok-change_on.ensures.changes c.changed.ensures);
    }

pub returns-in-Err-change_on : goal.returns-in-Err-change_on
returns-in-Err-change_on g c =
    let asks = subst (λ (rs : List Request). AsksRuns g.P.S.Span.tells c.args.geometry.now c.args.start c.args.working.now.threshold rs
    (Ok c.in-Ok.granted) c.args.held.now c.ask_runs.new.held c.ask_runs.new.cache (g.L.Hints.rest c.args.latches.now)
    (g.L.Hints.rest c.ask_runs.new.latches) (g.L.Hints.trace c.args.latches.now) (g.L.Hints.trace c.ask_runs.new.latches))
    c.as_slice.ensures.value c.in-Ok.ensures.asks in
    let runs_are = c.as_slice-in-Err-change_on.ensures.value in
    let same : IsTrue g.P.S.Span.tells → tree_on (bytes_on c.ask_runs.new.held) c.args.working.now ≡ tree_on
    (bytes_on c.args.held.now) c.args.working.now =
    λ t. (held-tree g.P.S.Span.tells c.args.geometry.now c.args.start c.args.working.now c.args.planned.now c.args.payload.now
    c.in-Ok.granted.runs.items
    (scene c.args.held.now c.args.cache.now (g.P.Port.meter c.args.port.now) (g.L.Hints.rest c.args.latches.now)
    (g.L.Hints.trace c.args.latches.now))
    c.ask_runs.new.held c.requires.can t asks.held).tree in
    record {
      makes = makes-refused g.P.S.Span.tells c.args.geometry.now c.args.start c.args.working.now c.args.planned.now c.args.payload.now
          c.in-Ok.granted
          c.in-Err-change_on.fail
          (scene c.args.held.now c.args.cache.now (g.P.Port.meter c.args.port.now) (g.L.Hints.rest c.args.latches.now)
          (g.L.Hints.trace c.args.latches.now))
          (scene c.ask_runs.new.held c.ask_runs.new.cache (g.P.Port.meter c.args.port.now) (g.L.Hints.rest c.ask_runs.new.latches)
          (g.L.Hints.trace c.ask_runs.new.latches))
          (scene c.change_on.new.held c.change_on.new.cache (g.P.Port.meter c.change_on.new.port)
          (g.L.Hints.rest c.change_on.new.latches) (g.L.Hints.trace c.change_on.new.latches))
          c.give_runs.new.held c.give_runs.new.cache (g.L.Hints.rest c.give_runs.new.latches) (g.L.Hints.trace c.give_runs.new.latches)
          c.requires.can refl asks c.in-Err-change_on.ensures.changes same
          (subst (λ (rs : List Extent). LeavesNodes g.P.S.Span.tells c.args.geometry.now.page (is_in_runs rs) c.change_on.new.held
          c.give_runs.new.held c.change_on.new.cache c.give_runs.new.cache) runs_are c.give_runs.ensures.left)
          (subst (λ (rs : List Extent). LetsGo c.args.geometry.now (gives (is_in_runs rs)) (g.L.Hints.rest c.change_on.new.latches)
          (g.L.Hints.rest c.give_runs.new.latches) (g.L.Hints.trace c.change_on.new.latches)
          (g.L.Hints.trace c.give_runs.new.latches)) runs_are
          c.give_runs.ensures.given);
    }

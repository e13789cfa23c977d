-- The edit is planned, its change made, everything made ready, and the old pages let go; or it is refused on the way.
use Rattle.std.proofs.Common.{List, subst}
use Rattle.std.specs.Prelude.{Ok, Err}
use Rattle.object_change.specs.Calls.{MakesChange}
use Rattle.object_change.specs.Scene.{Scene, used_spare}
use Rattle.object_change.specs.Changed.{granted_in}
use Rattle.object_state.specs.Drops.{Stock}
use Rattle.object_state.proofs.ChangeRefusedLemmas.{change-refused, plan-refused, ready-refused}
use Rattle.object_state.proofs.ChangeTreeLemmas.{can-give, can-make, change-beside, change-done, made-on_held, right-still, spare-still}
use Rattle.object_state.proofs.ChangeTreeLemmas.{still-replaced}
use Rattle.object_state.proofs.editing.change_tree.Goals as goal

pub returns-in-Err : goal.returns-in-Err
returns-in-Err g c = record {
  makes = λ committed kept. plan-refused g.P.S.Span.tells c.args.geometry.now committed c.args.working.now c.args.held.now
      c.args.cache.now c.plan_edit.new.cache c.args.fresh.now c.args.locked.now c.args.start c.args.edit.now c.in-Err.fail
      (g.L.Hints.rest c.args.latches.now) (g.L.Hints.trace c.args.latches.now) (g.P.Port.meter c.args.port.now)
      (g.P.Port.meter c.plan_edit.new.port) c.page-page.ensures.range kept c.requires.edit c.requires.ready.none c.in-Err.ensures;
}

pub make_change-requires : goal.make_change-requires
make_change-requires g c =
    let before : Scene = record {
      held = c.args.held.now;
      nodes = c.plan_edit.new.cache;
      meter = g.P.Port.meter c.plan_edit.new.port;
      rest = g.L.Hints.rest c.args.latches.now;
      trace = g.L.Hints.trace c.args.latches.now;
    } in
    record {
      can = can-make g.P.S.Span.tells c.args.geometry.now c.requires.kept.0 c.args.working.now c.in-Ok.planned c.args.edit.now
          c.args.cache.now c.args.fresh.now c.args.locked.now (g.P.Port.meter c.args.port.now) before c.args.start
          c.brought-payload.result.now
          (record { range = c.page-page.ensures.range; kept = c.requires.kept.1; bytes = c.requires.edit; plans = c.in-Ok.ensures })
          c.brought-payload.ensures c.requires.page c.requires.ready c.requires.start;
    }

pub returns-in-Err-make_change : goal.returns-in-Err-make_change
returns-in-Err-make_change g c =
    let before : Scene = record {
      held = c.args.held.now;
      nodes = c.plan_edit.new.cache;
      meter = g.P.Port.meter c.plan_edit.new.port;
      rest = g.L.Hints.rest c.args.latches.now;
      trace = g.L.Hints.trace c.args.latches.now;
    } in
    let last : Scene = record {
      held = c.make_change.new.held;
      nodes = c.make_change.new.cache;
      meter = g.P.Port.meter c.make_change.new.port;
      rest = g.L.Hints.rest c.make_change.new.latches;
      trace = g.L.Hints.trace c.make_change.new.latches;
    } in
    record {
      makes = λ committed kept. change-refused g.P.S.Span.tells c.args.geometry.now committed c.args.working.now c.in-Ok.planned
          c.args.start c.args.edit.now c.in-Err-make_change.fail c.args.cache.now c.args.fresh.now c.args.locked.now
          (g.P.Port.meter c.args.port.now) before last
          (record { range = c.page-page.ensures.range; kept = kept; bytes = c.requires.edit; plans = c.in-Ok.ensures })
          (subst (λ (payload : List _). MakesChange g.P.S.Span.tells c.args.geometry.now c.args.start c.args.working.now c.in-Ok.planned
          payload (Err c.in-Err-make_change.fail) before last) c.brought-payload.ensures c.in-Err-make_change.ensures.makes);
    }

pub ready-requires-clause-replaced : goal.ready-requires-clause-replaced
ready-requires-clause-replaced g c =
    still-replaced c.args.geometry.now (used_spare c.in-Ok.planned.fit c.args.working.now.spare) (granted_in c.in-Ok-make_change.changed)
    c.args.held.now c.make_change.new.held c.in-Ok.planned.replaced.items c.in-Ok-make_change.ensures.makes.held
    c.in-Ok.ensures.ready.replaced

pub ready-requires-clause-spare : goal.ready-requires-clause-spare
ready-requires-clause-spare g c =
    let before : Scene = record {
      held = c.args.held.now;
      nodes = c.plan_edit.new.cache;
      meter = g.P.Port.meter c.plan_edit.new.port;
      rest = g.L.Hints.rest c.args.latches.now;
      trace = g.L.Hints.trace c.args.latches.now;
    } in
    spare-still g.P.S.Span.tells c.args.geometry.now c.requires.kept.0 c.args.working.now c.in-Ok.planned c.args.edit.now
    c.args.cache.now c.args.fresh.now c.args.locked.now (g.P.Port.meter c.args.port.now) before
    (used_spare c.in-Ok.planned.fit c.args.working.now.spare) (granted_in c.in-Ok-make_change.changed) c.make_change.new.held
    (record { range = c.page-page.ensures.range; kept = c.requires.kept.1; bytes = c.requires.edit; plans = c.in-Ok.ensures })
    c.in-Ok-make_change.ensures.makes.held

pub ready-requires-clause-told : goal.ready-requires-clause-told
ready-requires-clause-told g c =
    let before : Scene = record {
      held = c.args.held.now;
      nodes = c.plan_edit.new.cache;
      meter = g.P.Port.meter c.plan_edit.new.port;
      rest = g.L.Hints.rest c.args.latches.now;
      trace = g.L.Hints.trace c.args.latches.now;
    } in
    let middle : Scene = record {
      held = c.make_change.new.held;
      nodes = c.make_change.new.cache;
      meter = g.P.Port.meter c.make_change.new.port;
      rest = g.L.Hints.rest c.make_change.new.latches;
      trace = g.L.Hints.trace c.make_change.new.latches;
    } in
    made-on_held g.P.S.Span.tells c.args.geometry.now c.requires.kept.0 c.args.working.now c.in-Ok.planned c.in-Ok-make_change.changed
    c.args.start c.args.edit.now c.brought-payload.result.now c.args.cache.now c.args.fresh.now c.args.locked.now
    (g.P.Port.meter c.args.port.now) before middle
    (record { range = c.page-page.ensures.range; kept = c.requires.kept.1; bytes = c.requires.edit; plans = c.in-Ok.ensures })
    c.in-Ok-make_change.ensures.makes

pub take_back-requires-clause-can : goal.take_back-requires-clause-can
take_back-requires-clause-can g c =
    can-give c.args.geometry.now c.args.working.now c.in-Ok.planned c.in-Ok-make_change.changed
    (used_spare c.in-Ok.planned.fit c.args.working.now.spare) c.ready.ensures.only.times c.args.held.now c.make_change.new.held
    c.ready.new.held c.in-Ok-make_change.ensures.makes.changed c.in-Ok-make_change.ensures.makes.held c.ready.ensures.only.cut

pub take_back-requires-clause-right : goal.take_back-requires-clause-right
take_back-requires-clause-right g c =
    right-still g.P.S.Span.tells c.args.geometry.now c.make_change.new.held c.ready.new.held c.make_change.new.cache
    c.ready.ensures.only.times c.ready.ensures.only.cut c.ready.ensures.only.sized c.in-Ok-make_change.ensures.makes.right

pub returns-in-Err-ready : goal.returns-in-Err-ready
returns-in-Err-ready g c =
    let before : Scene = record {
      held = c.args.held.now;
      nodes = c.plan_edit.new.cache;
      meter = g.P.Port.meter c.plan_edit.new.port;
      rest = g.L.Hints.rest c.args.latches.now;
      trace = g.L.Hints.trace c.args.latches.now;
    } in
    let middle : Scene = record {
      held = c.make_change.new.held;
      nodes = c.make_change.new.cache;
      meter = g.P.Port.meter c.make_change.new.port;
      rest = g.L.Hints.rest c.make_change.new.latches;
      trace = g.L.Hints.trace c.make_change.new.latches;
    } in
    let now = g.P.Port.meter c.ready.new.port in
    let last : Scene = record {
      held = c.take_back.new.held;
      nodes = c.take_back.new.cache;
      meter = now;
      rest = g.L.Hints.rest c.take_back.new.latches;
      trace = g.L.Hints.trace c.take_back.new.latches;
    } in
    record {
      makes = λ committed kept. ready-refused g.P.S.Span.tells c.args.geometry.now committed c.args.working.now c.in-Ok.planned
          c.in-Ok-make_change.changed c.args.start c.args.edit.now c.in-Err-ready.fail c.args.cache.now c.args.fresh.now c.args.locked.now
          (g.P.Port.meter c.args.port.now) before middle c.ready.new.held c.ready.new.fresh c.ready.new.locked now now last
          (record { range = c.page-page.ensures.range; kept = kept; bytes = c.requires.edit; plans = c.in-Ok.ensures })
          (subst (λ (payload : List _). MakesChange g.P.S.Span.tells c.args.geometry.now c.args.start c.args.working.now c.in-Ok.planned
          payload (Ok c.in-Ok-make_change.changed) before middle) c.brought-payload.ensures c.in-Ok-make_change.ensures.makes)
          c.in-Err-ready.ensures (c.take_back.ensures.back now);
    }

pub let_go-requires-clause-can : goal.let_go-requires-clause-can
let_go-requires-clause-can g c =
    let before : Scene = record {
      held = c.args.held.now;
      nodes = c.plan_edit.new.cache;
      meter = g.P.Port.meter c.plan_edit.new.port;
      rest = g.L.Hints.rest c.args.latches.now;
      trace = g.L.Hints.trace c.args.latches.now;
    } in
    let middle : Scene = record {
      held = c.make_change.new.held;
      nodes = c.make_change.new.cache;
      meter = g.P.Port.meter c.make_change.new.port;
      rest = g.L.Hints.rest c.make_change.new.latches;
      trace = g.L.Hints.trace c.make_change.new.latches;
    } in
    (change-beside g.P.S.Span.tells c.args.geometry.now c.requires.kept.0 c.args.working.now c.in-Ok.planned c.in-Ok-make_change.changed
    c.args.start c.args.edit.now c.args.cache.now c.args.fresh.now c.args.locked.now (g.P.Port.meter c.args.port.now) before middle
    c.ready.new.held c.ready.new.fresh c.ready.new.locked c.in-Ok-ready.gone (g.P.Port.meter c.ready.new.port)
    (record {
      planned = record {
        range = c.page-page.ensures.range;
        kept = c.requires.kept.1;
        bytes = c.requires.edit;
        plans = c.in-Ok.ensures;
      };
      ready = c.requires.ready;
      makes = subst (λ (payload : List _). MakesChange g.P.S.Span.tells c.args.geometry.now c.args.start c.args.working.now
          c.in-Ok.planned payload (Ok c.in-Ok-make_change.changed) before middle) c.brought-payload.ensures
          c.in-Ok-make_change.ensures.makes;
      readies = c.in-Ok-ready.ensures;
    })).can_drop

pub returns : goal.returns
returns g c =
    let before : Scene = record {
      held = c.args.held.now;
      nodes = c.plan_edit.new.cache;
      meter = g.P.Port.meter c.plan_edit.new.port;
      rest = g.L.Hints.rest c.args.latches.now;
      trace = g.L.Hints.trace c.args.latches.now;
    } in
    let middle : Scene = record {
      held = c.make_change.new.held;
      nodes = c.make_change.new.cache;
      meter = g.P.Port.meter c.make_change.new.port;
      rest = g.L.Hints.rest c.make_change.new.latches;
      trace = g.L.Hints.trace c.make_change.new.latches;
    } in
    let t : Stock = record {
      held = c.let_go.new.held;
      cache = c.let_go.new.cache;
      fresh = c.let_go.new.fresh;
      locked = c.let_go.new.locked;
      rest = g.L.Hints.rest c.let_go.new.latches;
      trace = g.L.Hints.trace c.let_go.new.latches;
    } in
    record {
      makes = λ committed kept. change-done g.P.S.Span.tells c.args.geometry.now committed c.args.working.now c.in-Ok.planned
          c.in-Ok-make_change.changed c.args.start c.args.edit.now c.args.cache.now c.args.fresh.now c.args.locked.now
          (g.P.Port.meter c.args.port.now) before middle c.ready.new.held c.ready.new.fresh c.ready.new.locked c.in-Ok-ready.gone
          (g.P.Port.meter c.ready.new.port) t
          (record {
            planned = record { range = c.page-page.ensures.range; kept = kept; bytes = c.requires.edit; plans = c.in-Ok.ensures };
            ready = c.requires.ready;
            makes = subst (λ (payload : List _). MakesChange g.P.S.Span.tells c.args.geometry.now c.args.start c.args.working.now
                c.in-Ok.planned payload (Ok c.in-Ok-make_change.changed) before middle) c.brought-payload.ensures
                c.in-Ok-make_change.ensures.makes;
            readies = c.in-Ok-ready.ensures;
          }) c.let_go.ensures.drops;
    }

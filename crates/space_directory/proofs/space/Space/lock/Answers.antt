-- No page that is free becomes locked.
use Rattle.space_directory.specs.SpaceView.{SpaceView}
use Rattle.space_directory.specs.Slots.{pages_held}
use Rattle.space_directory.proofs.Calls.{lock_whole}
use Rattle.space_directory.proofs.space.Space.lock.Goals as goal

pub invariant_of-self : goal.invariant_of-self
invariant_of-self g c =
    let v : SpaceView = record {
      number = c.self.inside.number;
      first = c.self.inside.first;
      page = c.self.inside.page;
      free = c.self.inside.map;
      locked = c.self.inside.locks;
      held = pages_held g.S.Span.contents c.self.inside.spans.items;
    } in (
      lock_whole g.S.Span.start g.S.Span.contents g.S.Span.tells v c.args.self.now c.self.inside.spans.items c.args.first c.args.n
          c.lock_held.new.locks c.self.view_is c.self.invariant.0 c.requires c.lock_held.ensures,
      c.self.invariant.1,
    )

pub returns-clause-space : goal.returns-clause-space
returns-clause-space g c =
    let v : SpaceView = record {
      number = c.self.inside.number;
      first = c.self.inside.first;
      page = c.self.inside.page;
      free = c.self.inside.map;
      locked = c.self.inside.locks;
      held = pages_held g.S.Span.contents c.self.inside.spans.items;
    } in
    (lock_whole g.S.Span.start g.S.Span.contents g.S.Span.tells v c.args.self.now c.self.inside.spans.items c.args.first c.args.n
    c.lock_held.new.locks c.self.view_is c.self.invariant.0 c.requires c.lock_held.ensures).sound

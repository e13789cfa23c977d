-- The place is free, so its slots have their pages' spans, which leave them.
use Rattle.std.proofs.Common.{◌≡◌, ◌+◌, ◌≤◌, ◌++◌, take, drop, length, sym, ◌∙◌}
use Rattle.page_port.specs.Pages.{run}
use Rattle.block_model.proofs.Laws.{IsPlace-free, IsPlace-within}
use Rattle.space_directory.specs.SpaceView.{SpaceView}
use Rattle.space_directory.specs.Slots.{IsRow, KeepsSlots, pages_held}
use Rattle.space_directory.proofs.Calls.{written, grant_row, grant_whole, grant_view, grant_made, none_before_taken}
use Rattle.space_directory.proofs.space.Space.grant.Goals as goal

pub take_run-span-requires-clause-row : goal.take_run-span-requires-clause-row
take_run-span-requires-clause-row g c =
    let v : SpaceView = record {
      number = c.self.inside.number;
      first = c.self.inside.first;
      page = c.self.inside.page;
      free = c.self.inside.map;
      locked = c.self.inside.locks;
      held = pages_held g.S.Span.contents c.self.inside.spans.items;
    } in (
      c.self.inside.first,
      rw c.deref_mut.ensures.value (grant_row g.S.Span.start g.S.Span.contents g.S.Span.tells v c.self.inside.spans.items c.args.n
          c.in-Some.at c.self.invariant.0
          (IsPlace-free c.self.inside.map c.args.n c.in-Some.at c.in-Some.ensures.best)),
    )

pub invariant_of-self-2 : goal.invariant_of-self-2
invariant_of-self-2 g c =
    let v : SpaceView = record {
      number = c.self.inside.number;
      first = c.self.inside.first;
      page = c.self.inside.page;
      free = c.self.inside.map;
      locked = c.self.inside.locks;
      held = pages_held g.S.Span.contents c.self.inside.spans.items;
    } in
    let fits : c.in-Some.at + c.args.n ≤ length c.self.inside.map =
    IsPlace-within c.self.inside.map c.args.n c.in-Some.at c.requires.some c.in-Some.ensures.best in
    let others : KeepsSlots c.self.inside.spans.items c.take_run-span.new.slots c.in-Some.at c.args.n =
    rw c.deref_mut.ensures.value at c.take_run-span.ensures.others in
    let slots : take c.self.inside.spans.len (c.take_run-span.new.slots ++ drop (length c.take_run-span.new.slots)
    c.self.inside.spans.items) ≡ c.take_run-span.new.slots =
    written c.self.inside.spans.len c.self.inside.spans.items c.take_run-span.new.slots
    (sym (c.take_run-span.ensures.others.size ∙ c.deref_mut.ensures.len)) in (
      rw slots (grant_whole g.S.Span.start g.S.Span.contents g.S.Span.tells v c.self.inside.spans.items c.take_run-span.new.slots c.args.n
          c.in-Some.at c.grant.new.self c.self.invariant.0 fits c.in-Some.ensures.taken c.take_run-span.ensures.emptied others),
      rw
          c.in-Some.ensures.taken (none_before_taken c.self.inside.map c.in-Some.at c.args.n c.self.inside.low fits c.self.invariant.1),
    )

pub returns-clause-granted : goal.returns-clause-granted
returns-clause-granted g c =
    let v : SpaceView = record {
      number = c.self.inside.number;
      first = c.self.inside.first;
      page = c.self.inside.page;
      free = c.self.inside.map;
      locked = c.self.inside.locks;
      held = pages_held g.S.Span.contents c.self.inside.spans.items;
    } in
    let fits : c.in-Some.at + c.args.n ≤ length c.self.inside.map =
    IsPlace-within c.self.inside.map c.args.n c.in-Some.at c.requires.some c.in-Some.ensures.best in
    let others : KeepsSlots c.self.inside.spans.items c.take_run-span.new.slots c.in-Some.at c.args.n =
    rw c.deref_mut.ensures.value at c.take_run-span.ensures.others in
    let slots : take c.self.inside.spans.len (c.take_run-span.new.slots ++ drop (length c.take_run-span.new.slots)
    c.self.inside.spans.items) ≡ c.take_run-span.new.slots =
    written c.self.inside.spans.len c.self.inside.spans.items c.take_run-span.new.slots
    (sym (c.take_run-span.ensures.others.size ∙ c.deref_mut.ensures.len)) in
    let row : IsRow g.S.Span.start g.S.Span.contents c.self.inside.first c.deref_mut.result.now c.in-Some.at c.args.n =
    rw c.deref_mut.ensures.value (grant_row g.S.Span.start g.S.Span.contents g.S.Span.tells v c.self.inside.spans.items c.args.n
    c.in-Some.at c.self.invariant.0 (IsPlace-free c.self.inside.map c.args.n c.in-Some.at c.in-Some.ensures.best)) in
    let pages : g.S.Span.contents c.take_run-span.result ≡ run c.in-Some.at c.args.n
    (pages_held g.S.Span.contents c.self.inside.spans.items) = rw c.deref_mut.ensures.value at c.take_run-span.ensures.pages in
    rw slots (grant_made g.S.Span.start g.S.Span.contents g.S.Span.tells v c.args.self.now _ c.self.inside.spans.items c.args.n
    c.in-Some.at c.take_run-span.result c.self.view_is c.self.invariant.0 c.in-Some.ensures.best c.in-Some.ensures.computed
    (grant_view g.S.Span.start g.S.Span.contents g.S.Span.tells v c.self.inside.spans.items c.take_run-span.new.slots c.args.n
    c.in-Some.at c.grant.new.self c.self.invariant.0 fits c.in-Some.ensures.taken c.take_run-span.ensures.emptied others)
    (c.take_run-span.ensures.first c.self.inside.first row) c.take_run-span.ensures.count pages)

pub returns-clause-space : goal.returns-clause-space
returns-clause-space g c =
    let v : SpaceView = record {
      number = c.self.inside.number;
      first = c.self.inside.first;
      page = c.self.inside.page;
      free = c.self.inside.map;
      locked = c.self.inside.locks;
      held = pages_held g.S.Span.contents c.self.inside.spans.items;
    } in
    let fits : c.in-Some.at + c.args.n ≤ length c.self.inside.map =
    IsPlace-within c.self.inside.map c.args.n c.in-Some.at c.requires.some c.in-Some.ensures.best in
    let others : KeepsSlots c.self.inside.spans.items c.take_run-span.new.slots c.in-Some.at c.args.n =
    rw c.deref_mut.ensures.value at c.take_run-span.ensures.others in
    let slots : take c.self.inside.spans.len (c.take_run-span.new.slots ++ drop (length c.take_run-span.new.slots)
    c.self.inside.spans.items) ≡ c.take_run-span.new.slots =
    written c.self.inside.spans.len c.self.inside.spans.items c.take_run-span.new.slots
    (sym (c.take_run-span.ensures.others.size ∙ c.deref_mut.ensures.len)) in
    rw slots (grant_whole g.S.Span.start g.S.Span.contents g.S.Span.tells v c.self.inside.spans.items c.take_run-span.new.slots c.args.n
    c.in-Some.at c.grant.new.self c.self.invariant.0 fits c.in-Some.ensures.taken c.take_run-span.ensures.emptied others).sound

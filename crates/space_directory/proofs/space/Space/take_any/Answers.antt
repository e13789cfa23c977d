-- A whole run of free pages, whose slots have their pages' spans, leaves them.
use Rattle.std.proofs.Common.{◌≡◌, ◌+◌, ◌-◌, ◌≤◌, ◌++◌, take, drop, length, sym, ◌∙◌, arith}
use Rattle.page_port.specs.Pages.{run}
use Rattle.block_model.specs.Block.{HasRun}
use Rattle.space_directory.specs.SpaceView.{SpaceView}
use Rattle.space_directory.specs.Slots.{IsRow, KeepsSlots, pages_held}
use Rattle.space_directory.proofs.Calls.{written, grant_row, grant_whole, grant_view, any_made, ended_run, none_before, none_before_end}
use Rattle.space_directory.proofs.space.Space.take_any.Goals as goal

pub take_run-span-requires-clause-row : goal.take_run-span-requires-clause-row
take_run-span-requires-clause-row g c =
    let v : SpaceView = record {
      number = c.self.inside.number;
      first = c.self.inside.first;
      page = c.self.inside.page;
      free = c.self.inside.map;
      locked = c.self.inside.locks;
      held = pages_held g.S.Span.contents c.self.inside.spans.items;
    } in
    let next = c.in-Some.ensures in
    let fits : c.in-Some.at + (c.run_end-end.result - c.in-Some.at) ≤ length c.self.inside.map =
    omega (arith, c.run_end-end.ensures.some, c.run_end-end.ensures.within, c.len-pages.ensures, c.self.invariant.0.holds.count) in
    let found : HasRun c.self.inside.map c.in-Some.at (c.run_end-end.result - c.in-Some.at) =
    record { each = λ page from to. c.run_end-end.ensures.alike page from (omega arith) ∙ next.2 } in (
      c.self.inside.first,
      rw c.deref_mut.ensures.value (grant_row g.S.Span.start g.S.Span.contents g.S.Span.tells v
          c.self.inside.spans.items (c.run_end-end.result - c.in-Some.at) c.in-Some.at c.self.invariant.0 found),
    )

pub invariant_of-self : goal.invariant_of-self
invariant_of-self g c =
    let v : SpaceView = record {
      number = c.self.inside.number;
      first = c.self.inside.first;
      page = c.self.inside.page;
      free = c.self.inside.map;
      locked = c.self.inside.locks;
      held = pages_held g.S.Span.contents c.self.inside.spans.items;
    } in
    let next = c.in-Some.ensures in
    let fits : c.in-Some.at + (c.run_end-end.result - c.in-Some.at) ≤ length c.self.inside.map =
    omega (arith, c.run_end-end.ensures.some, c.run_end-end.ensures.within, c.len-pages.ensures, c.self.invariant.0.holds.count) in
    let found : HasRun c.self.inside.map c.in-Some.at (c.run_end-end.result - c.in-Some.at) =
    record { each = λ page from to. c.run_end-end.ensures.alike page from (omega arith) ∙ next.2 } in
    let others : KeepsSlots c.self.inside.spans.items c.take_run-span.new.slots c.in-Some.at (c.run_end-end.result - c.in-Some.at) =
    rw c.deref_mut.ensures.value at c.take_run-span.ensures.others in
    let slots : take c.self.inside.spans.len (c.take_run-span.new.slots ++ drop (length c.take_run-span.new.slots)
    c.self.inside.spans.items) ≡ c.take_run-span.new.slots =
    written c.self.inside.spans.len c.self.inside.spans.items c.take_run-span.new.slots
    (sym (c.take_run-span.ensures.others.size ∙ c.deref_mut.ensures.len)) in (
      rw slots (grant_whole g.S.Span.start g.S.Span.contents g.S.Span.tells v c.self.inside.spans.items c.take_run-span.new.slots
          (c.run_end-end.result - c.in-Some.at) c.in-Some.at c.take_out.new.self c.self.invariant.0 fits c.take_out.ensures.taken
          c.take_run-span.ensures.emptied others),
      rw c.take_out.ensures.taken (none_before_end c.self.inside.map c.in-Some.at (c.run_end-end.result - c.in-Some.at) c.self.inside.low
          c.run_end-end.result fits (omega (arith, c.run_end-end.ensures.some)) c.self.invariant.1 next.3),
    )

pub returns-clause-taken : goal.returns-clause-taken
returns-clause-taken g c =
    let v : SpaceView = record {
      number = c.self.inside.number;
      first = c.self.inside.first;
      page = c.self.inside.page;
      free = c.self.inside.map;
      locked = c.self.inside.locks;
      held = pages_held g.S.Span.contents c.self.inside.spans.items;
    } in
    let next = c.in-Some.ensures in
    let fits : c.in-Some.at + (c.run_end-end.result - c.in-Some.at) ≤ length c.self.inside.map =
    omega (arith, c.run_end-end.ensures.some, c.run_end-end.ensures.within, c.len-pages.ensures, c.self.invariant.0.holds.count) in
    let found : HasRun c.self.inside.map c.in-Some.at (c.run_end-end.result - c.in-Some.at) =
    record { each = λ page from to. c.run_end-end.ensures.alike page from (omega arith) ∙ next.2 } in
    let others : KeepsSlots c.self.inside.spans.items c.take_run-span.new.slots c.in-Some.at (c.run_end-end.result - c.in-Some.at) =
    rw c.deref_mut.ensures.value at c.take_run-span.ensures.others in
    let slots : take c.self.inside.spans.len (c.take_run-span.new.slots ++ drop (length c.take_run-span.new.slots)
    c.self.inside.spans.items) ≡ c.take_run-span.new.slots =
    written c.self.inside.spans.len c.self.inside.spans.items c.take_run-span.new.slots
    (sym (c.take_run-span.ensures.others.size ∙ c.deref_mut.ensures.len)) in
    let row : IsRow g.S.Span.start g.S.Span.contents c.self.inside.first c.deref_mut.result.now c.in-Some.at
    (c.run_end-end.result - c.in-Some.at) = rw c.deref_mut.ensures.value
    (grant_row g.S.Span.start g.S.Span.contents g.S.Span.tells v c.self.inside.spans.items (c.run_end-end.result - c.in-Some.at)
    c.in-Some.at c.self.invariant.0 found) in
    let pages : g.S.Span.contents c.take_run-span.result ≡ run c.in-Some.at (c.run_end-end.result - c.in-Some.at)
    (pages_held g.S.Span.contents c.self.inside.spans.items) = rw c.deref_mut.ensures.value at c.take_run-span.ensures.pages in
    rw slots (any_made g.S.Span.start g.S.Span.contents g.S.Span.tells v c.args.self.now _ c.self.inside.spans.items
    (c.run_end-end.result - c.in-Some.at) c.in-Some.at c.take_run-span.result c.self.view_is c.self.invariant.0
    (omega (arith, c.run_end-end.ensures.some)) found
    (λ page e. none_before c.self.inside.map c.in-Some.at c.self.inside.low c.self.invariant.1 next.3 page (omega arith))
    (ended_run c.self.inside.map c.in-Some.at (c.run_end-end.result - c.in-Some.at) c.run_end-end.result
    (omega (arith, c.run_end-end.ensures.some)) (λ within same. c.run_end-end.ensures.other
    (omega (arith, c.len-pages.ensures, c.self.invariant.0.holds.count)) same) next.2)
    (grant_view g.S.Span.start g.S.Span.contents g.S.Span.tells v c.self.inside.spans.items c.take_run-span.new.slots
    (c.run_end-end.result - c.in-Some.at) c.in-Some.at c.take_out.new.self c.self.invariant.0 fits c.take_out.ensures.taken
    c.take_run-span.ensures.emptied others) (c.take_run-span.ensures.first c.self.inside.first row) c.take_run-span.ensures.count pages)

pub returns-clause-space : goal.returns-clause-space
returns-clause-space g c =
    let v : SpaceView = record {
      number = c.self.inside.number;
      first = c.self.inside.first;
      page = c.self.inside.page;
      free = c.self.inside.map;
      locked = c.self.inside.locks;
      held = pages_held g.S.Span.contents c.self.inside.spans.items;
    } in
    let next = c.in-Some.ensures in
    let fits : c.in-Some.at + (c.run_end-end.result - c.in-Some.at) ≤ length c.self.inside.map =
    omega (arith, c.run_end-end.ensures.some, c.run_end-end.ensures.within, c.len-pages.ensures, c.self.invariant.0.holds.count) in
    let found : HasRun c.self.inside.map c.in-Some.at (c.run_end-end.result - c.in-Some.at) =
    record { each = λ page from to. c.run_end-end.ensures.alike page from (omega arith) ∙ next.2 } in
    let others : KeepsSlots c.self.inside.spans.items c.take_run-span.new.slots c.in-Some.at (c.run_end-end.result - c.in-Some.at) =
    rw c.deref_mut.ensures.value at c.take_run-span.ensures.others in
    let slots : take c.self.inside.spans.len (c.take_run-span.new.slots ++ drop (length c.take_run-span.new.slots)
    c.self.inside.spans.items) ≡ c.take_run-span.new.slots =
    written c.self.inside.spans.len c.self.inside.spans.items c.take_run-span.new.slots
    (sym (c.take_run-span.ensures.others.size ∙ c.deref_mut.ensures.len)) in
    rw slots (grant_whole g.S.Span.start g.S.Span.contents g.S.Span.tells v c.self.inside.spans.items c.take_run-span.new.slots
    (c.run_end-end.result - c.in-Some.at) c.in-Some.at c.take_out.new.self c.self.invariant.0 fits c.take_out.ensures.taken
    c.take_run-span.ensures.emptied others).sound

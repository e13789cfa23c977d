-- The span's pages stand in their slots, and are free and not locked.
use Rattle.std.proofs.Common.{◌≡◌, ℕ, ◌++◌, take, drop, length, sym, ap, ◌∙◌, ◌-◌, subst, arith}
use Rattle.space_directory.specs.Slots.{KeepsSlots, pages_held}
use Rattle.space_directory.specs.Held.{OwnsFree}
use Rattle.space_directory.specs.SpaceView.{SpaceView, IsSpace, after_give}
use Rattle.space_directory.proofs.Calls.{written, give_fits, give_whole, give_view, none_before_given}
use Rattle.space_directory.proofs.space.Space.give.Goals as goal

pub invariant_of-self : goal.invariant_of-self
invariant_of-self g c =
    let v : SpaceView = record {
      number = c.self.inside.number;
      first = c.self.inside.first;
      page = c.self.inside.page;
      free = c.self.inside.map;
      locked = c.self.inside.locks;
      held = pages_held g.S.Span.contents c.self.inside.spans.items;
    } in
    let others : KeepsSlots c.self.inside.spans.items c.put_run.new.slots (c.first.result - c.self.inside.first)
    (length (g.S.Span.contents c.args.segment.span)) = rw c.deref_mut.ensures.value at c.put_run.ensures.others in
    let at : c.first.result - c.self.inside.first ≡ g.S.Span.start c.args.segment.span - c.self.inside.first =
    ap (λ (k : ℕ). k - c.self.inside.first) c.first.ensures in
    let slots : take c.self.inside.spans.len (c.put_run.new.slots ++ drop (length c.put_run.new.slots)
    c.self.inside.spans.items) ≡ c.put_run.new.slots =
    written c.self.inside.spans.len c.self.inside.spans.items c.put_run.new.slots
    (sym (c.put_run.ensures.others.size ∙ c.deref_mut.ensures.len)) in
    let whole : OwnsFree g.S.Span.start g.S.Span.contents g.S.Span.tells
    (after_give v (c.first.result - c.self.inside.first) (g.S.Span.contents c.args.segment.span)) c.put_run.new.slots =
    give_whole g.S.Span.start g.S.Span.contents g.S.Span.tells v c.args.self.now c.self.inside.spans.items c.put_run.new.slots
    c.args.segment.space (c.first.result - c.self.inside.first) c.args.segment.span c.self.view_is c.self.invariant.0 c.requires at
    c.put_run.ensures.filled others in
    let view = give_view g.S.Span.start g.S.Span.contents g.S.Span.tells v c.put_run.new.slots (c.first.result - c.self.inside.first)
    c.pages-n.result (g.S.Span.contents c.args.segment.span) c.give.new.self c.unlock.new.self whole c.pages-n.ensures.count
    c.give.ensures.given c.unlock.ensures.unlocked in (
      rw slots (subst (λ (x : SpaceView). OwnsFree g.S.Span.start g.S.Span.contents g.S.Span.tells x c.put_run.new.slots) (sym view) whole),
      rw c.give.ensures.given (none_before_given c.self.inside.map (c.first.result - c.self.inside.first) c.pages-n.result
          c.self.inside.low c.min-self-inside.result
          (give_fits v c.args.self.now c.args.segment.space (g.S.Span.start c.args.segment.span) (c.first.result - c.self.inside.first)
          c.pages-n.result (g.S.Span.contents c.args.segment.span) g.S.Span.tells c.self.view_is c.requires at c.pages-n.ensures.count)
          (omega (arith, c.min-self-inside.ensures)) (omega (arith, c.min-self-inside.ensures)) c.self.invariant.1),
    )

pub returns-clause-given : goal.returns-clause-given
returns-clause-given g c =
    let v : SpaceView = record {
      number = c.self.inside.number;
      first = c.self.inside.first;
      page = c.self.inside.page;
      free = c.self.inside.map;
      locked = c.self.inside.locks;
      held = pages_held g.S.Span.contents c.self.inside.spans.items;
    } in
    let others : KeepsSlots c.self.inside.spans.items c.put_run.new.slots (c.first.result - c.self.inside.first)
    (length (g.S.Span.contents c.args.segment.span)) = rw c.deref_mut.ensures.value at c.put_run.ensures.others in
    let at : c.first.result - c.self.inside.first ≡ g.S.Span.start c.args.segment.span - c.self.inside.first =
    ap (λ (k : ℕ). k - c.self.inside.first) c.first.ensures in
    let slots : take c.self.inside.spans.len (c.put_run.new.slots ++ drop (length c.put_run.new.slots)
    c.self.inside.spans.items) ≡ c.put_run.new.slots =
    written c.self.inside.spans.len c.self.inside.spans.items c.put_run.new.slots
    (sym (c.put_run.ensures.others.size ∙ c.deref_mut.ensures.len)) in
    let whole : OwnsFree g.S.Span.start g.S.Span.contents g.S.Span.tells
    (after_give v (c.first.result - c.self.inside.first) (g.S.Span.contents c.args.segment.span)) c.put_run.new.slots =
    give_whole g.S.Span.start g.S.Span.contents g.S.Span.tells v c.args.self.now c.self.inside.spans.items c.put_run.new.slots
    c.args.segment.space (c.first.result - c.self.inside.first) c.args.segment.span c.self.view_is c.self.invariant.0 c.requires at
    c.put_run.ensures.filled others in
    let view = give_view g.S.Span.start g.S.Span.contents g.S.Span.tells v c.put_run.new.slots (c.first.result - c.self.inside.first)
    c.pages-n.result (g.S.Span.contents c.args.segment.span) c.give.new.self c.unlock.new.self whole c.pages-n.ensures.count
    c.give.ensures.given c.unlock.ensures.unlocked in
    rw slots (view ∙ ap (λ (k : ℕ). after_give v k (g.S.Span.contents c.args.segment.span)) at
    ∙ ap (λ (x : SpaceView). after_give x (g.S.Span.start c.args.segment.span - x.first) (g.S.Span.contents c.args.segment.span))
    c.self.view_is)

pub returns-clause-space : goal.returns-clause-space
returns-clause-space g c =
    let v : SpaceView = record {
      number = c.self.inside.number;
      first = c.self.inside.first;
      page = c.self.inside.page;
      free = c.self.inside.map;
      locked = c.self.inside.locks;
      held = pages_held g.S.Span.contents c.self.inside.spans.items;
    } in
    let others : KeepsSlots c.self.inside.spans.items c.put_run.new.slots (c.first.result - c.self.inside.first)
    (length (g.S.Span.contents c.args.segment.span)) = rw c.deref_mut.ensures.value at c.put_run.ensures.others in
    let at : c.first.result - c.self.inside.first ≡ g.S.Span.start c.args.segment.span - c.self.inside.first =
    ap (λ (k : ℕ). k - c.self.inside.first) c.first.ensures in
    let slots : take c.self.inside.spans.len (c.put_run.new.slots ++ drop (length c.put_run.new.slots)
    c.self.inside.spans.items) ≡ c.put_run.new.slots =
    written c.self.inside.spans.len c.self.inside.spans.items c.put_run.new.slots
    (sym (c.put_run.ensures.others.size ∙ c.deref_mut.ensures.len)) in
    let whole : OwnsFree g.S.Span.start g.S.Span.contents g.S.Span.tells
    (after_give v (c.first.result - c.self.inside.first) (g.S.Span.contents c.args.segment.span)) c.put_run.new.slots =
    give_whole g.S.Span.start g.S.Span.contents g.S.Span.tells v c.args.self.now c.self.inside.spans.items c.put_run.new.slots
    c.args.segment.space (c.first.result - c.self.inside.first) c.args.segment.span c.self.view_is c.self.invariant.0 c.requires at
    c.put_run.ensures.filled others in
    let view = give_view g.S.Span.start g.S.Span.contents g.S.Span.tells v c.put_run.new.slots (c.first.result - c.self.inside.first)
    c.pages-n.result (g.S.Span.contents c.args.segment.span) c.give.new.self c.unlock.new.self whole c.pages-n.ensures.count
    c.give.ensures.given c.unlock.ensures.unlocked in
    rw slots (subst (λ (x : SpaceView). IsSpace x) (sym view) whole.sound)

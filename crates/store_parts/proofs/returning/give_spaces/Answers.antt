-- One space more gave its free pages back at each step.
use Rattle.std.proofs.Common.{◌≡◌, refl, ◌∙◌, length, [], Some, rules}
use Rattle.space_directory.specs.SpaceView.{SpaceView, IsSpace}
use Rattle.store_parts.specs.Returning.{IsOnMount, ShowsSpace, is_free_of}
use Rattle.store_parts.proofs.ReturningLemmas.{given-none, given-more, given-all, last-left, on-still}
use Rattle.store_parts.proofs.SpaceLemmas.{own-space, own-space-shows}
use Rattle.store_parts.proofs.returning.give_spaces.Goals as goal

pub list-init : goal.list-init
list-init g c = record {
  given = given-none is_free_of ShowsSpace g.Y.S.Span.tells c.args.spaces.items (g.Y.Bay.device c.args.bay.now) c.requires.out;
  faults = refl;
}

pub list-preserved : goal.list-preserved
list-preserved g c = record {
  given = given-more is_free_of ShowsSpace g.Y.S.Span.tells c.args.spaces.items c.list.spaces.items c.pop.new.self.items c.in-Some.space
      (own-space c.in-Some.space) (g.Y.Bay.device c.args.bay.now) (g.Y.Bay.device c.list.bay) (g.Y.Bay.device c.give_space.new.bay)
      (own-space-shows c.in-Some.space) c.in-Some.ensures.items c.list.invariant.given c.give_space.ensures.back;
  faults = c.give_space.ensures.faults ∙ c.list.invariant.faults;
}

pub give_space-requires-clause-space : goal.give_space-requires-clause-space
give_space-requires-clause-space g c = λ _ _.
    last-left is_free_of ShowsSpace g.Y.S.Span.tells IsSpace c.args.spaces.items c.list.spaces.items c.pop.new.self.items c.in-Some.space
    (g.Y.Bay.device c.args.bay.now) (g.Y.Bay.device c.list.bay) c.in-Some.ensures.items c.list.invariant.given c.requires.spaces

pub give_space-requires-clause-out : goal.give_space-requires-clause-out
give_space-requires-clause-out g c = λ _ _. c.list.invariant.given.out

pub give_space-requires-clause-on : goal.give_space-requires-clause-on
give_space-requires-clause-on g c = λ _ _ tell.
    let old = g.Y.Bay.device c.args.bay.now in
    on-still old (g.Y.Bay.device c.list.bay) c.in-Some.space.first (length c.in-Some.space.free) (c.list.invariant.given.count tell)
    (last-left is_free_of ShowsSpace g.Y.S.Span.tells (λ (v : SpaceView). IsOnMount old v.first (length v.free) × (old.mounted ≡ Some
    v.page))
    c.args.spaces.items c.list.spaces.items c.pop.new.self.items c.in-Some.space old (g.Y.Bay.device c.list.bay)
    c.in-Some.ensures.items c.list.invariant.given (c.requires.on tell)).0

pub give_space-requires-clause-sized : goal.give_space-requires-clause-sized
give_space-requires-clause-sized g c = λ _ _ tell.
    let old = g.Y.Bay.device c.args.bay.now in
    c.list.invariant.given.mounted tell
    ∙ (last-left is_free_of ShowsSpace g.Y.S.Span.tells (λ (v : SpaceView). IsOnMount old v.first (length v.free) × (old.mounted ≡ Some
    v.page))
    c.args.spaces.items c.list.spaces.items c.pop.new.self.items c.in-Some.space old (g.Y.Bay.device c.list.bay)
    c.in-Some.ensures.items c.list.invariant.given (c.requires.on tell)).1

pub returns-clause-back : goal.returns-clause-back
returns-clause-back g c =
    let none : c.list.spaces.items ≡ [] = search rules in
    given-all is_free_of ShowsSpace g.Y.S.Span.tells c.args.spaces.items c.list.spaces.items
    (g.Y.Bay.device c.args.bay.now) (g.Y.Bay.device c.list.bay) none c.list.invariant.given

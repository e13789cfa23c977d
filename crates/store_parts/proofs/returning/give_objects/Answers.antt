-- One object more gave its pages back at each step.
use Rattle.std.proofs.Common.{◌≡◌, true, refl, sym, subst, ◌∙◌, unwrap_or, [], rules}
use Rattle.span_store.specs.Held.{Held, AllSized, has, bytes_on}
use Rattle.store_parts.specs.Returning.{AreHeldOnMount, HaveReturned, ShowsHeld}
use Rattle.store_parts.proofs.ReturningLemmas.{given-none, given-more, given-all, last-left, held-still, held_sized-still}
use Rattle.store_parts.proofs.returning.give_objects.Goals as goal

pub list-init : goal.list-init
list-init g c = record {
  given = given-none (λ x. has (g.B.Stored.pages x.body)) (λ at x. ShowsHeld at (g.B.Stored.pages x.body)) g.Y.S.Span.tells
      c.args.objects.items (g.Y.Bay.device c.args.bay.now) c.requires.out;
  faults = refl;
}

pub list-preserved : goal.list-preserved
list-preserved g c =
    let held = g.B.Stored.pages c.in-Some.object.body in
    record {
      given = given-more (λ x. has (g.B.Stored.pages x.body)) (λ at x. ShowsHeld at (g.B.Stored.pages x.body)) g.Y.S.Span.tells
          c.args.objects.items c.list.objects.items c.pop.new.self.items c.in-Some.object (bytes_on held)
          (g.Y.Bay.device c.args.bay.now) (g.Y.Bay.device c.list.bay) (g.Y.Bay.device c.give_held.new.bay) (λ q is. refl)
          c.in-Some.ensures.items c.list.invariant.given
          (λ tell at shows.
          let back = c.give_held.ensures.back tell at (subst (ShowsHeld at) (sym c.unload.ensures.held) shows) in
          subst (λ (h : Held). HaveReturned at (has h) (g.Y.Bay.device c.list.bay) (g.Y.Bay.device c.give_held.new.bay))
          c.unload.ensures.held back);
      faults = c.give_held.ensures.faults ∙ c.list.invariant.faults;
    }

pub unload-requires : goal.unload-requires
unload-requires g c = record {
  rests = last-left (λ x. has (g.B.Stored.pages x.body)) (λ at x. ShowsHeld at (g.B.Stored.pages x.body)) g.Y.S.Span.tells
      (λ x. (g.B.Body.form x.body).is_resting ≡ true) c.args.objects.items c.list.objects.items c.pop.new.self.items c.in-Some.object
      (g.Y.Bay.device c.args.bay.now) (g.Y.Bay.device c.list.bay) c.in-Some.ensures.items c.list.invariant.given c.requires.rest;
}

pub give_held-requires-clause-out : goal.give_held-requires-clause-out
give_held-requires-clause-out g c = λ _ _. c.list.invariant.given.out

pub give_held-requires-clause-on : goal.give_held-requires-clause-on
give_held-requires-clause-on g c = λ _ _ tell.
    let old = g.Y.Bay.device c.args.bay.now in
    let mine = last-left (λ x. has (g.B.Stored.pages x.body)) (λ at x. ShowsHeld at (g.B.Stored.pages x.body)) g.Y.S.Span.tells
    (λ x. AreHeldOnMount old (g.B.Stored.pages x.body)
    × AllSized g.Y.S.Span.tells (unwrap_or old.mounted 0) (g.B.Stored.pages x.body))
    c.args.objects.items c.list.objects.items c.pop.new.self.items c.in-Some.object old (g.Y.Bay.device c.list.bay)
    c.in-Some.ensures.items c.list.invariant.given (c.requires.on tell) in
    held-still old (g.Y.Bay.device c.list.bay) c.unload.result (c.list.invariant.given.count tell)
    (subst (AreHeldOnMount old) (sym c.unload.ensures.held) mine.0)

pub give_held-requires-clause-sized : goal.give_held-requires-clause-sized
give_held-requires-clause-sized g c = λ _ _ tell.
    let old = g.Y.Bay.device c.args.bay.now in
    let mine = last-left (λ x. has (g.B.Stored.pages x.body)) (λ at x. ShowsHeld at (g.B.Stored.pages x.body)) g.Y.S.Span.tells
    (λ x. AreHeldOnMount old (g.B.Stored.pages x.body)
    × AllSized g.Y.S.Span.tells (unwrap_or old.mounted 0) (g.B.Stored.pages x.body))
    c.args.objects.items c.list.objects.items c.pop.new.self.items c.in-Some.object old (g.Y.Bay.device c.list.bay)
    c.in-Some.ensures.items c.list.invariant.given (c.requires.on tell) in
    held_sized-still g.Y.S.Span.tells old (g.Y.Bay.device c.list.bay) c.unload.result c.list.invariant.given.mounted
    (subst (AllSized g.Y.S.Span.tells (unwrap_or old.mounted 0)) (sym c.unload.ensures.held) mine.1) tell

pub returns-clause-back : goal.returns-clause-back
returns-clause-back g c =
    let none : c.list.objects.items ≡ [] = search rules in
    given-all (λ x. has (g.B.Stored.pages x.body)) (λ at x. ShowsHeld at (g.B.Stored.pages x.body)) g.Y.S.Span.tells
    c.args.objects.items c.list.objects.items (g.Y.Bay.device c.args.bay.now) (g.Y.Bay.device c.list.bay) none c.list.invariant.given

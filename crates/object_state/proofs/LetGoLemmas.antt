-- Pages that are unlocked and locked, one call after the other.
use Rattle.std.proofs.Common.{◌≡◌, ℕ, ◌-◌, Bool, true, false, not, ◌&&◌, ◌||◌, List, [], Option, refl, sym, ap, ◌∙◌}
use Rattle.std.proofs.Math.Bool.{and-false, and-true}
use Rattle.geometry_model.specs.Numbers.{Numbers}
use Rattle.page_cache.specs.Kept.{is_on_run}
use Rattle.space_directory.specs.SpaceView.{after_lock, after_unlock}
use Rattle.superdirectory.specs.Grants.{IsRunIn, UsesSpace}
use Rattle.superdirectory.specs.Rest.{Rest}
use Rattle.superdirectory.specs.Trace.{SpaceEvent, IsEntered, AreEnters}
use Rattle.superdirectory.proofs.Traces.{part_as, enters_none, enters_more}
use Rattle.object_body.specs.Places.{IsStore, is_free_place, is_locked_place}
use Rattle.object_body.proofs.TurnLemmas.{turned-locked, turned-unlocked}
use Rattle.give_back.specs.Giving.{LetsGo, none_marked, or_page}
use Rattle.give_back.proofs.LetGoLemmas.{AreSameWays, or_ways}
use Rattle.object_state.specs.Ends.{drops, unlocks}

pub unlocks-same : (test other : ℕ → Bool) → ((page : ℕ) → other page ≡ test page) → AreSameWays (unlocks test) (unlocks other)
unlocks-same test other same = record { given = λ page. refl; unlocked = same; locked = λ page. refl }

pub unlocks-both : (one two other : ℕ → Bool) → ((page : ℕ) → other page ≡ or_page one two page) →
    AreSameWays (or_ways (unlocks one) (unlocks two)) (unlocks other)
unlocks-both one two other same = record { given = λ page. refl; unlocked = same; locked = λ page. refl }

-- a run was unlocked
pub unlocked-one : (n : Numbers) (space first pages : ℕ) (old new : Rest)
    (before after : Option (List SpaceEvent)) → IsStore n old.frame → IsRunIn old.frame space first pages →
    UsesSpace space (λ v. after_unlock v (first - v.first) pages) old new before after →
    LetsGo n (unlocks (is_on_run first pages)) old new before after
unlocked-one n space first pages old new before after store run used = record {
  rest = used.rest;
  enters = part_as (IsEntered space) AreEnters before after (λ p e. enters_more space [] p enters_none e) used.trace;
  spaces = λ views told home.
      let turned = turned-unlocked n old.frame views space first pages new store home run (used.told views told home.number) in
      record {
        after = turned.after;
        told = turned.told;
        home = turned.home;
        free = turned.free;
        locked = turned.locked;
      };
}

-- a run was locked
pub locked-one : (n : Numbers) (space first pages : ℕ) (old new : Rest)
    (before after : Option (List SpaceEvent)) → IsStore n old.frame → IsRunIn old.frame space first pages →
    UsesSpace space (λ v. after_lock v (first - v.first) pages) old new before after →
    LetsGo n (drops (is_on_run first pages) none_marked) old new before after
locked-one n space first pages old new before after store run used = record {
  rest = used.rest;
  enters = part_as (IsEntered space) AreEnters before after (λ p e. enters_more space [] p enters_none e) used.trace;
  spaces = λ views told home.
      let turned = turned-locked n old.frame views space first pages new store home run (used.told views told home.number) in
      record {
        after = turned.after;
        told = turned.told;
        home = turned.home;
        free = λ page s at place. turned.free page s at place
            ∙ ap (λ b. b || is_free_place views s at) (sym (and-false (is_on_run first pages page)));
        locked = λ page s at place. turned.locked page s at place
            ∙ (ap (λ b. (b && not (is_free_place views s at)) || is_locked_place views s at) (sym (and-true (is_on_run first pages page)))
            ∙ ap (λ b. ((is_on_run first pages page && true) && not (is_free_place views s at))
            || (not (b || false) && is_locked_place views s at)) (sym (and-false (is_on_run first pages page))));
      };
}

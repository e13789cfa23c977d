-- Pages given back, one call after the other.
use Rattle.std.proofs.Common.{◌≡◌, ℕ, zero, suc, ◌-◌, Bool, true, false, not, ◌&&◌, ◌||◌, IsTrue, List, [], ◌∷◌, ◌++◌, length, None, Some}
use Rattle.std.proofs.Common.{Option, refl, sym, ap, subst, ◌∙◌}
use Rattle.std.specs.Prelude.{slice_get}
use Rattle.std.proofs.lemmas.Bool.{false≢true}
use Rattle.geometry_model.specs.Numbers.{Numbers}
use Rattle.page_cache.specs.Kept.{is_on_run}
use Rattle.space_directory.specs.SpaceView.{after_give}
use Rattle.superdirectory.specs.Grants.{IsRunIn, UsesSpace}
use Rattle.superdirectory.specs.Rest.{Frame, Rest}
use Rattle.superdirectory.specs.Trace.{SpaceEvent, IsEntered, AreEnters}
use Rattle.superdirectory.proofs.Traces.{part_none, part_as, part_then, enters_none, enters_more}
use Rattle.object_body.specs.Places.{IsStore, AreHome, is_free_place, is_locked_place}
use Rattle.object_body.proofs.CallLemmas.{keeps-frame}
use Rattle.object_body.proofs.TurnLemmas.{turned-given}
use Rattle.give_back.specs.Giving.{AreLetGo, LetsGo, Ways, gives, none_marked, or_page}

pub or-none : (b : Bool) → (b || false) ≡ b
or-none true = refl
or-none false = refl

pub free-both : (a b f : Bool) → (b || (a || f)) ≡ ((a || b) || f)
free-both true true f = refl
free-both true false f = refl
free-both false true f = refl
free-both false false f = refl

locked-both : (a b c d l : Bool) → (not (b || d) && (not (a || c) && l)) ≡ (not ((a || b) || (c || d)) && l)
locked-both true true c d l = refl
locked-both true false c true l = refl
locked-both true false c false l = refl
locked-both false true c d l = refl
locked-both false false true true l = refl
locked-both false false true false l = refl
locked-both false false false true l = refl
locked-both false false false false l = refl

-- two rows of enters are one
first-or : (e : SpaceEvent) (p q : List SpaceEvent) → AreEnters (e ∷ p) → AreEnters (p ++ q) → (at : ℕ) (event : SpaceEvent) →
    slice_get (e ∷ (p ++ q)) at ≡ Some event → IsTrue event.enters
first-or e p q one rest zero event here = one.each zero event here
first-or e p q one rest (suc at) event here = rest.each at event here

enters-both : (p q : List SpaceEvent) → AreEnters p → AreEnters q → AreEnters (p ++ q)
enters-both [] q one two = two
enters-both (e ∷ p) q one two = record {
  each = first-or e p q one (enters-both p q (record { each = λ at event here. one.each (suc at) event here }) two);
}

-- what is locked first and then given or unlocked isn't told by one table: the two don't meet
pub record DoNotMeet (one two : Ways) : Type 0 where
  pub given : (page : ℕ) → two.locked page ≡ true → one.given page ≡ false
  pub locked : (page : ℕ) → one.locked page ≡ true → (two.given page || two.unlocked page) ≡ false

-- where no page is locked they don't
pub never-locked : (one two : Ways) → ((page : ℕ) → one.locked page ≡ false) → ((page : ℕ) → two.locked page ≡ false) → DoNotMeet one two
never-locked one two no_one no_two = record {
  given = λ page there. absurd (false≢true (sym (no_two page) ∙ there));
  locked = λ page there. absurd (false≢true (sym (no_one page) ∙ there));
}

-- pages that go the one way or the other
abbrev pub or_ways : Ways → Ways → Ways
or_ways one two = record {
  given = or_page one.given two.given;
  unlocked = or_page one.unlocked two.unlocked;
  locked = or_page one.locked two.locked;
}

-- each page goes the same way
pub record AreSameWays (ways other : Ways) : Type 0 where
  pub given : (page : ℕ) → other.given page ≡ ways.given page
  pub unlocked : (page : ℕ) → other.unlocked page ≡ ways.unlocked page
  pub locked : (page : ℕ) → other.locked page ≡ ways.locked page

pub gives-same : (test other : ℕ → Bool) → ((page : ℕ) → other page ≡ test page) → AreSameWays (gives test) (gives other)
gives-same test other same = record { given = same; unlocked = λ page. refl; locked = λ page. refl }

pub gives-both : (one two other : ℕ → Bool) → ((page : ℕ) → other page ≡ or_page one two page) →
    AreSameWays (or_ways (gives one) (gives two)) (gives other)
gives-both one two other same = record { given = same; unlocked = λ page. refl; locked = λ page. refl }

pub gives-apart : (one two : ℕ → Bool) → DoNotMeet (gives one) (gives two)
gives-apart one two = never-locked (gives one) (gives two) (λ page. refl) (λ page. refl)

-- a, c and k are whether a page is given, unlocked and locked by the first call, and b, d and j by the second one
locked-two : (a b c d k j f l : Bool) → (j ≡ true → a ≡ false) → (k ≡ true → (b || d) ≡ false) →
    ((j && not (a || f)) || (not (b || d) && ((k && not f) || (not (a || c) && l))))
    ≡ (((k || j) && not f) || (not ((a || b) || (c || d)) && l))
locked-two a b c d false false f l apart kept = locked-both a b c d l
locked-two true b c d k true f l apart kept = absurd (false≢true (sym (apart refl)))
locked-two false b c d true true false l apart kept = refl
locked-two false b c d false true false l apart kept = refl
locked-two false b c d true true true l apart kept = locked-both false b c d l
locked-two false b c d false true true l apart kept = locked-both false b c d l
locked-two a true c d true false f l apart kept = absurd (false≢true (sym (kept refl)))
locked-two a false c true true false f l apart kept = absurd (false≢true (sym (kept refl)))
locked-two true false c false true false f l apart kept = refl
locked-two false false true false true false f l apart kept = refl
locked-two false false false false true false f l apart kept = refl

-- no call
pub let_go-not : (n : Numbers) (rest : Rest) (trace : Option (List SpaceEvent)) → rest.entered ≡ None →
    LetsGo n (gives none_marked) rest rest trace trace
let_go-not n rest trace none = record {
  rest = keeps-frame rest none;
  enters = part_none AreEnters trace enters_none;
  spaces = λ views told home. record {
    after = views;
    told = told;
    home = home;
    free = λ page s at place. refl;
    locked = λ page s at place. refl;
  };
}

-- the same pages by other tests
pub let_go-as : (n : Numbers) (ways other : Ways) (old new : Rest) (before after : Option (List SpaceEvent)) → AreSameWays ways other →
    LetsGo n ways old new before after → LetsGo n other old new before after
let_go-as n ways other old new before after same went = record {
  rest = went.rest;
  enters = went.enters;
  spaces = λ views told home.
      let all = went.spaces views told home in
      record {
        after = all.after;
        told = all.told;
        home = all.home;
        free = λ page s at place. all.free page s at place ∙ ap (λ b. b || is_free_place views s at) (sym (same.given page));
        locked = λ page s at place. all.locked page s at place
            ∙ (ap (λ b. (ways.locked page && not (is_free_place views s at)) || (not
            (b || ways.unlocked page) && is_locked_place views s at))
            (sym (same.given page))
            ∙ (ap (λ b. (ways.locked page && not (is_free_place views s at)) || (not (other.given page || b) && is_locked_place views s at))
            (sym (same.unlocked page))
            ∙ ap (λ b. (b && not (is_free_place views s at))
            || (not (other.given page || other.unlocked page) && is_locked_place views s at)) (sym (same.locked page))));
      };
}

-- one call after the other
pub let_go-then : (n : Numbers) (one two : Ways) (old middle new : Rest) (before between after : Option (List SpaceEvent)) →
    DoNotMeet one two → LetsGo n one old middle before between → LetsGo n two middle new between after →
    LetsGo n (or_ways one two) old new before after
let_go-then n one two old middle new before between after meet first second = record {
  rest = record { frame = second.rest.frame ∙ first.rest.frame; entered = second.rest.entered };
  enters = part_then AreEnters AreEnters AreEnters before between after enters-both first.enters second.enters;
  spaces = λ views told home.
      let here = first.spaces views told home in
      let there = subst (λ (f : Frame). AreLetGo n f two here.after new) first.rest.frame
      (second.spaces here.after here.told (subst (λ (f : Frame). AreHome f here.after) (sym first.rest.frame) here.home)) in
      record {
        after = there.after;
        told = there.told;
        home = there.home;
        free = λ page s at place. there.free page s at place
            ∙ (ap (λ b. two.given page || b) (here.free page s at place)
            ∙ free-both (one.given page) (two.given page) (is_free_place views s at));
        locked = λ page s at place. there.locked page s at place
            ∙ (ap (λ b. (two.locked page && not b) || (not (two.given page || two.unlocked page) && is_locked_place here.after s at))
            (here.free page s at place)
            ∙ (ap (λ b. (two.locked page && not (one.given page || is_free_place views s at))
            || (not (two.given page || two.unlocked page) && b)) (here.locked page s at place)
            ∙ locked-two (one.given page) (two.given page) (one.unlocked page) (two.unlocked page) (one.locked page) (two.locked page)
            (is_free_place views s at) (is_locked_place views s at) (meet.given page) (meet.locked page)));
      };
}

-- a run was given back
pub given-one : (n : Numbers) (space start : ℕ) (pages : List (List ℕ)) (old new : Rest)
    (before after : Option (List SpaceEvent)) → IsStore n old.frame → IsRunIn old.frame space start (length pages) →
    UsesSpace space (λ v. after_give v (start - v.first) pages) old new before after →
    LetsGo n (gives (is_on_run start (length pages))) old new before after
given-one n space start pages old new before after store run used = record {
  rest = used.rest;
  enters = part_as (IsEntered space) AreEnters before after (λ p e. enters_more space [] p enters_none e) used.trace;
  spaces = λ views told home.
      let turned = turned-given n old.frame views space start pages new store home run (used.told views told home.number) in
      record {
        after = turned.after;
        told = turned.told;
        home = turned.home;
        free = turned.free;
        locked = λ page s at place. turned.locked page s at place
            ∙ ap (λ b. not b && is_locked_place views s at) (sym (or-none (is_on_run start (length pages) page)));
      };
}

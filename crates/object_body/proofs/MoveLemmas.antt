-- What follows from how the spaces moved with an object.
use Rattle.std.proofs.Common.{◌≡◌, ℕ, ◌<◌, ◌≤◌, Bool, true, false, ◌&&◌, ◌||◌, List, refl, sym, subst}
use Rattle.std.proofs.Common.{arith, ◌∙◌, inl, inr, nat_eq, nat_lt}
use Rattle.std.proofs.lemmas.Bool.{cases_lt, ne_eqb}
use Rattle.geometry_model.specs.Numbers.{Numbers}
use Rattle.moment_model.specs.Moment.{ObjectSlot, committed_uses, working_uses, either_uses}
use Rattle.moment_laws.specs.Change.{free_after, locked_after}
use Rattle.space_directory.specs.SpaceView.{SpaceView}
use Rattle.superdirectory.specs.Grants.{AreTold}
use Rattle.superdirectory.specs.Rest.{Frame, Rest}
use Rattle.object_body.specs.Places.{AreHome, is_free_place, is_locked_place}
use Rattle.object_body.specs.Moves.{Fits, Moves, MovesTold, IsUntouched, locks}
use Rattle.layout_model.specs.Layout.{Tree}
use Rattle.moment_model.specs.Version.{version_uses}
use Rattle.moment_model.specs.Moment.{Moment, absent_slot, object_slot, IsSound}
use Rattle.moment_laws.proofs.SumLemmas.{part_within}

-- the test of a count that isn't 0
some-not_zero : (k : ℕ) → 0 < k → nat_eq k 0 ≡ false
some-not_zero k some = ne_eqb k 0 (λ none. omega (arith, some, none))

-- and, or of what is known
and-false : (a b : Bool) → a ≡ false → (a && b) ≡ false
and-false false b e = refl
and-false true b e = absurd cc

or-false : (b : Bool) → (b || false) ≡ b
or-false true = refl
or-false false = refl

and-true : (b : Bool) → (b && true) ≡ b
and-true true = refl
and-true false = refl

mine-alone : (mine was a b : Bool) → b ≡ false → (mine || (was && (a && b))) ≡ mine
mine-alone true was a b e = refl
mine-alone false false a b e = refl
mine-alone false true false b e = refl
mine-alone false true true b e = e

-- a page that the new state uses isn't free after the change, and is locked just where that state locks it
free-used : (n : Numbers) (page : ℕ) (was : Bool) (old new : ObjectSlot) → 0 < either_uses n page new →
    free_after n page was old new ≡ false
free-used n page was old new some =
    and-false (nat_eq (either_uses n page new) 0) (was || nat_lt 0 (either_uses n page old)) (some-not_zero (either_uses n page new) some)

locked-used : (n : Numbers) (page : ℕ) (was : Bool) (old new : ObjectSlot) → 0 < either_uses n page new →
    locked_after n page was old new ≡ locks n page new
locked-used n page was old new some =
    mine-alone (locks n page new) was (nat_eq (either_uses n page old) 0) (nat_eq (either_uses n page new) 0)
    (some-not_zero (either_uses n page new) some)

-- the spaces fit the state to which they moved
pub fits-after : (n : Numbers) (before : List SpaceView) (old new : ObjectSlot) (after : List SpaceView) →
    Moves n before old new after → Fits n after new
fits-after n before old new after moves = record {
  used = λ page s at here some. moves.free page s at here ∙ free-used n page (is_free_place before s at) old new some;
  locked = λ page s at here some. moves.locked page s at here ∙ locked-used n page (is_locked_place before s at) old new some;
}

-- a page that an object doesn't use stays free or not, and locked or not, where the object stays as it is
free-unused : (k : ℕ) (f : Bool) → k ≡ 0 → (nat_eq k 0 && (f || nat_lt 0 k)) ≡ f
free-unused k f none = subst (λ j. (nat_eq j 0 && (f || nat_lt 0 j)) ≡ f) (sym none) (or-false f)

locked-unused : (c w k : ℕ) (l : Bool) → c ≡ 0 → k ≡ 0 → ((nat_lt 0 c && nat_eq w 0) || (l && (nat_eq k 0 && nat_eq k 0))) ≡ l
locked-unused c w k l none unused =
    subst (λ i. ((nat_lt 0 i && nat_eq w 0) || (l && (nat_eq k 0 && nat_eq k 0))) ≡ l) (sym none)
    (subst (λ j. (false || (l && (nat_eq j 0 && nat_eq j 0))) ≡ l) (sym unused) (and-true l))

-- and so it is with every page, where the spaces fit the object
free-stays : (n : Numbers) (page : ℕ) (f : Bool) (slot : ObjectSlot) → (0 < either_uses n page slot → f ≡ false) →
    f ≡ free_after n page f slot slot
free-stays n page f slot none = elim (cases_lt 0 (either_uses n page slot)) [
  | inl some ↦ none some ∙ sym (free-used n page f slot slot some)
  | inr few ↦ sym (free-unused (either_uses n page slot) f (omega (arith, few)))
]

locked-stays : (n : Numbers) (page : ℕ) (l : Bool) (slot : ObjectSlot) →
    (0 < either_uses n page slot → l ≡ locks n page slot) → l ≡ locked_after n page l slot slot
locked-stays n page l slot fits = elim (cases_lt 0 (either_uses n page slot)) [
  | inl some ↦ fits some ∙ sym (locked-used n page l slot slot some)
  | inr few ↦ sym (locked-unused (committed_uses n page slot) (working_uses n page slot)
      (either_uses n page slot) l (omega (arith, few)) (omega (arith, few)))
]

-- spaces that weren't touched moved with an object that stayed as it was
pub untouched-moves : (n : Numbers) (frame : Frame) (views : List SpaceView) (slot : ObjectSlot) (rest : Rest) →
    IsUntouched n frame views rest → MovesTold n frame views slot slot rest
untouched-moves n frame views slot rest untouched = record {
  after = untouched.after;
  told = untouched.told;
  home = untouched.home;
  moves = λ fits. record {
    free = λ page s at here. untouched.free page s at here ∙ free-stays n page (is_free_place views s at) slot (fits.used page s at here);
    locked = λ page s at here. untouched.locked page s at here
        ∙ locked-stays n page (is_locked_place views s at) slot (fits.locked page s at here);
  };
}

-- spaces that are as they were weren't touched
pub same-untouched : (n : Numbers) (frame : Frame) (views : List SpaceView) (rest : Rest) → AreTold rest views →
    AreHome frame views → IsUntouched n frame views rest
same-untouched n frame views rest told home = record {
  after = views;
  told = told;
  home = home;
  free = λ page s at here. refl;
  locked = λ page s at here. refl;
}

-- an object that stayed as it was, and spaces that did
pub same-moves : (n : Numbers) (frame : Frame) (views : List SpaceView) (slot : ObjectSlot) (rest : Rest) →
    AreTold rest views → AreHome frame views → MovesTold n frame views slot slot rest
same-moves n frame views slot rest told home = untouched-moves n frame views slot rest (same-untouched n frame views rest told home)

-- what an object has committed is part of all that is committed, where no page stands twice
pub committed-once : (good : Numbers → Tree → Type 0) (n : Numbers) (held : ℕ → Bool) (moment : Moment) (o page : ℕ) →
    IsSound good n held moment → version_uses n page (object_slot moment o).committed ≤ 1
committed-once good n held moment o page sound =
    omega (arith, part_within (committed_uses n page) absent_slot refl moment o, sound.committed_once page)

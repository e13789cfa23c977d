-- Objects of a moment that change one after the other.
use Rattle.std.specs.Prelude.{◌≡◌, ◌↔◌, ℕ, ◌<◌, Bool, true, List, [], ◌∷◌, length}
use Rattle.std.specs.List.{Contains}
use Rattle.moment_model.specs.Moment.{ObjectSlot, Moment, object_slot, with_object_slot}

-- the moment in which these objects were changed, the first of them first
abbrev pub changed_each : (ObjectSlot → ObjectSlot) → List ℕ → Moment → Moment
changed_each change [] moment = moment
changed_each change (o ∷ rest) moment =
    changed_each change rest (with_object_slot moment o (change (object_slot moment o)))

-- the list has just those objects of a moment of which the test holds
abbrev pub AreThose : (ℕ → Bool) → Moment → List ℕ → Type 0
AreThose test moment objects = (o : ℕ) → o < length moment → (test o ≡ true) ↔ Contains objects o

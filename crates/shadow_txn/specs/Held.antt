-- The objects that a transaction holds, by their numbers, each with the acts on it.
use Rattle.std.specs.Prelude.{◌≡◌, ℕ, ◌<◌, List, [], ◌∷◌, ◌++◌, length, take, ◌==◌, Option, Some}
use Rattle.std.specs.Prelude.{None, slice_get, if◌then◌else◌}
use Rattle.eos_ops.specs.declared.act.Act.{Act}
use Rattle.shadow_txn.specs.declared.held.Held.{Held}

-- object o, if it is held
abbrev pub held_object : {T : Type 0} → ℕ → List (Held T) → Option T
held_object o [] = None
held_object o (h ∷ held) = if h.number == o then Some h.object else held_object o held

-- the acts on object o, none where it isn't held
abbrev pub acts_in : {T : Type 0} → ℕ → List (Held T) → List Act
acts_in o [] = []
acts_in o (h ∷ held) = if h.number == o then h.acts else acts_in o held

-- the objects with another value of o
abbrev pub with_object : {T : Type 0} → ℕ → T → List (Held T) → List (Held T)
with_object o x [] = []
with_object o x (h ∷ held) = if h.number == o then record {
  number = h.number;
  object = x;
  acts =
      h.acts;
} ∷ held else h ∷ with_object o x held

-- the objects with these acts more on o
abbrev pub with_acts : {T : Type 0} → ℕ → List Act → List (Held T) → List (Held T)
with_acts o acts [] = []
with_acts o acts (h ∷ held) = if h.number == o then record {
  number = h.number;
  object = h.object;
  acts = h.acts ++ acts;
} ∷ held else h ∷ with_acts o acts held

-- the objects without o
abbrev pub without_held : {T : Type 0} → ℕ → List (Held T) → List (Held T)
without_held o [] = []
without_held o (h ∷ held) = if h.number == o then held else h ∷ without_held o held

-- o is first held at this place
pub record IsFirstAt {T : Type 0} (held : List (Held T)) (o i : ℕ) : Type 0 where
  pub within : i < length held
  pub number : (h : Held T) → slice_get held i ≡ Some h → h.number ≡ o
  pub first : held_object o (take i held) ≡ None

-- no object is held twice
abbrev pub AreDistinct : {T : Type 0} → List (Held T) → Type 0
AreDistinct [] = Unit {0}
AreDistinct (h ∷ held) = (held_object h.number held ≡ None) × AreDistinct held

-- a held object with another value, and with these acts more
abbrev pub done_to : {T : Type 0} → Held T → T → List Act → Held T
done_to h x acts = record { number = h.number; object = x; acts = h.acts ++ acts }

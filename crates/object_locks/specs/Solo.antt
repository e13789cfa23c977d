-- What a shelf for one thread shows: its slots.
use Rattle.std.specs.Prelude.{◌≡◌, ◌<◌, ◌≤◌, ◌^◌, ℕ, List, [], length, All, Option, Some, None}
use Rattle.std.specs.Prelude.{IfSome, slice_get}
use Rattle.eos_ops.specs.declared.end.End.{End}
use Rattle.eos_ops.specs.declared.plain.Plain.{Plain}
use Rattle.object_locks.specs.Shelving.{Shelving, Terms, Suits}

-- an empty slot's object is out. What it was taken with isn't known.
abbrev pub out_if_empty : {T : Type 0} → Option (Option T) → Option (Option (List End))
out_if_empty None = None
out_if_empty (Some None) = Some None
out_if_empty (Some (Some value)) = None

-- it serves no single session, is no seat of a table, and tells all that is home
abbrev pub solo_shelving : {T : Type 0} → List (Option T) → Shelving T
solo_shelving slots = record {
  objects = length slots;
  session = None;
  table = None;
  out = λ o. out_if_empty (slice_get slots o);
  home = Some slots;
  log = None;
}

-- each value that is home keeps the terms
abbrev pub AreSuited : {T : Type 0} → (T → List ℕ) → (Plain → T → Type 0) → List (Option T) →
    Terms → Type 0
AreSuited {T} frame legal slots t = (o : ℕ) (value : T) → slice_get slots o ≡ Some (Some value) →
    Suits frame legal t o value

-- Slots as a shelf keeps them: few enough for their numbers, what is home is at rest, and a
-- vector beside them is empty and has room for all objects.
pub record IsSolo {T : Type 0} (rests : T → Type 0) (slots : List (Option T)) (beside : List T)
    (capacity : ℕ) : Type 0 where
  pub count : length slots < 2 ^ 32
  pub at_rest : All (λ slot. IfSome slot rests) slots
  pub emptied : beside ≡ []
  pub room : length slots ≤ capacity

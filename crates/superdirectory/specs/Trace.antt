-- The looks and enters of an object that reaches the spaces, in the order made, told or not.
use Rattle.std.specs.Prelude.{◌≡◌, ℕ, suc, ◌+◌, ◌<◌, ◌≤◌, ◌⊎◌, Bool, true, false, ◌&&◌, not}
use Rattle.std.specs.Prelude.{nat_eq, IsTrue, List, [], ◌∷◌, ◌++◌, map, slice_get, if◌then◌else◌}
use Rattle.std.specs.Prelude.{Option, Some, None}

-- a look at a space with the hint that it saw, or an enter with the hint of the space that it found
pub record SpaceEvent : Type 0 where
  pub enters : Bool
  pub space : ℕ
  pub hint : ℕ

abbrev pub look_event : ℕ → ℕ → SpaceEvent
look_event space hint = record { enters = false; space = space; hint = hint }

abbrev pub enter_event : ℕ → ℕ → SpaceEvent
enter_event space hint = record { enters = true; space = space; hint = hint }

-- a call's part of the trace has the property; a trace that isn't told stays so
abbrev pub Part : (List SpaceEvent → Type 0) → Option (List SpaceEvent) →
    Option (List SpaceEvent) → Type 0
Part P None now = now ≡ None
Part P (Some before) now = (part : List SpaceEvent) × (now ≡ Some (before ++ part)) × P part

-- a look or an enter in this part found no free block of an order from `order` on in the space
pub record IsLow (space order : ℕ) (part : List SpaceEvent) : Type 0 where
  pub at : ℕ
  pub event : SpaceEvent
  pub here : slice_get part at ≡ Some event
  pub of : event.space ≡ space
  pub low : event.hint ≤ order

-- each enter in this part comes right after a look at the same space, in this part, that showed
-- this order or a larger one
pub record IsCareful (order : ℕ) (part : List SpaceEvent) : Type 0 where
  pub shown : (at space hint : ℕ) → slice_get part at ≡ Some (enter_event space hint) →
      (i : ℕ) × (seen : ℕ) × (suc i ≡ at) × (slice_get part i ≡ Some (look_event space seen))
      × (order < seen)

-- how many looks at a space there are in this part, and how many enters of it
abbrev pub one_where : Bool → ℕ
one_where true = 1
one_where false = 0

abbrev pub looks_at : ℕ → List SpaceEvent → ℕ
looks_at space [] = 0
looks_at space (e ∷ part) = one_where (not e.enters && nat_eq e.space space) + looks_at space part

abbrev pub enters_of : ℕ → List SpaceEvent → ℕ
enters_of space [] = 0
enters_of space (e ∷ part) = one_where (e.enters && nat_eq e.space space) + enters_of space part

-- a space is looked at so often in this part at most, and entered so often at most
pub record AreVisits (most space : ℕ) (part : List SpaceEvent) : Type 0 where
  pub looks : looks_at space part ≤ most
  pub enters : enters_of space part ≤ most

-- the spaces that were looked at in this part, in the order of the looks
abbrev pub looked : List SpaceEvent → List ℕ
looked [] = []
looked (e ∷ part) = (if e.enters then [] else e.space ∷ []) ++ looked part

-- the spaces of the list were looked at in its order, up to some of them: up to the last one
-- where they all refused, and else up to the one whose enter ends the part
pub record IsInTurn (spaces : List ℕ) (refused : Bool) (part : List SpaceEvent) : Type 0 where
  pub later : List ℕ
  pub order : looked part ++ later ≡ spaces
  pub all : IsTrue refused → later ≡ []
  pub last : refused ≡ false → (before : List SpaceEvent) × (space : ℕ) × (hint : ℕ)
      × (part ≡ before ++ enter_event space hint ∷ [])

-- nothing was added
abbrev pub IsNothing : List SpaceEvent → Type 0
IsNothing part = part ≡ []

-- one space was tried: the part is careful, it visits that space once at most and no other one,
-- and it found the space low where it was refused
pub record IsTried (order space : ℕ) (refused : Bool) (part : List SpaceEvent) : Type 0 where
  pub careful : IsCareful order part
  pub once : AreVisits 1 space part
  pub alone : (other : ℕ) → (other ≡ space → ⊥) → AreVisits 0 other part
  pub low : IsTrue refused → IsLow space order part

-- the spaces from `from` up to `to` were tried, up to the first that wasn't refused: each of them
-- is visited once at most, and no other one
pub record IsSearched (order from to : ℕ) (refused : Bool) (part : List SpaceEvent) : Type 0 where
  pub careful : IsCareful order part
  pub once : (space : ℕ) → AreVisits 1 space part
  pub alone : (space : ℕ) → (space < from) ⊎ (to ≤ space) → AreVisits 0 space part
  pub low : IsTrue refused → (space : ℕ) → from ≤ space → space < to → IsLow space order part

-- one enter of the space, and nothing else
abbrev pub IsEntered : ℕ → List SpaceEvent → Type 0
IsEntered space part = (hint : ℕ) × (part ≡ enter_event space hint ∷ [])

-- one event of each of these spaces, in this order, and nothing else
abbrev pub AreAt : List ℕ → List SpaceEvent → Type 0
AreAt spaces part = map (λ e. e.space) part ≡ spaces

-- enters alone
pub record AreEnters (part : List SpaceEvent) : Type 0 where
  pub each : (at : ℕ) (event : SpaceEvent) → slice_get part at ≡ Some event → IsTrue event.enters

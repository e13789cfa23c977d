-- What the end of a transaction makes of the slots, where each slot's holder is known.
use Rattle.std.specs.Prelude.{ℕ, Bool, true, false, List, Option, None, slice_index_or}
use Rattle.machine.specs.Machine.{is_holder}
use Rattle.moment_model.specs.Moment.{ObjectSlot, Moment}
use Rattle.moment_model.specs.Edit.{settled, undone}
use Rattle.moment_model.specs.Run.{changed_where}

-- the holder of an object, none where there is no such object
abbrev pub holder_of : List (Option ℕ) → ℕ → Option ℕ
holder_of holders o = slice_index_or holders o None

abbrev pub ended_slot : Bool → ObjectSlot → ObjectSlot
ended_slot true slot = settled slot
ended_slot false slot = undone slot

-- the moment in which what a session holds is committed, or undone
abbrev pub ended_by : ℕ → Bool → List (Option ℕ) → Moment → Moment
ended_by session committed holders moment =
    changed_where (λ o. is_holder session (holder_of holders o)) (ended_slot committed) 0 moment

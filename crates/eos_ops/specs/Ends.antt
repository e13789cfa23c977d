-- Lists of ends.
use Rattle.std.specs.Prelude.{ℕ, ◌≤◌, ◌^◌, List, [], ◌∷◌, length}
use Rattle.eos_ops.specs.declared.end.End.{End}

-- the stamp of the last end, 0 where there is none
abbrev pub last_stamp_of : List End → ℕ
last_stamp_of [] = 0
last_stamp_of (e ∷ []) = e.stamp
last_stamp_of (e ∷ f ∷ ends) = last_stamp_of (f ∷ ends)

-- ends that are kept, and for how many more there is room
pub record KeptEnds : Type 0 where
  pub ends : List End
  pub spare : ℕ

-- what stamps that rise from 1 on leave: there are no more ends than the last stamp says, and it
-- is no later than the last one there is
pub record AreAges (ends : List End) : Type 0 where
  pub within : last_stamp_of ends ≤ 2 ^ 62
  pub few : length ends ≤ last_stamp_of ends

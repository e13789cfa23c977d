-- The entries on the two sides of a window that stay as they are.
use Rattle.std.specs.Prelude.{ℕ, ◌+◌, ◌-◌, Bool, ◌&&◌, List, length, take, drop, nat_lt}
use Rattle.tree_model.specs.declared.entry.Placed.{Placed}
use Rattle.tree_model.specs.Range.{pairs_of, start_of}
use Rattle.layout_model.specs.declared.part.Part.{Part}
use Rattle.layout_model.specs.Parts.{count_begun, count_ended}
use Rattle.layout_model.specs.Plan.{begins_kept, ends_kept}
use Rattle.moment_model.specs.Moment.{count_true}
use Rattle.object_plan.specs.declared.sides.Sides.{Sides}

-- does an entry end at the place or before it, and does one begin where the cut ends or behind it?
abbrev pub has_before : List Placed → ℕ → Bool
has_before window at = nat_lt 0 (count_ended (at - start_of window) (pairs_of window))

abbrev pub has_after : List Placed → ℕ → ℕ → Bool
has_after window at cut =
    nat_lt (count_begun (at - start_of window + cut) (pairs_of window)) (length (pairs_of window))

-- these entries stay where the merging of the parts kept them
abbrev pub sides_of : List Placed → ℕ → ℕ → List Part → Sides
sides_of window at cut parts = record {
  front = has_before window at && begins_kept parts;
  back = has_after window at cut && ends_kept parts;
}

-- how many they are, and a list without them
abbrev pub count_sides : Sides → ℕ
count_sides sides = count_true sides.front + count_true sides.back

abbrev pub trimmed : {A : Type 0} → Sides → List A → List A
trimmed sides items = take (length items - count_sides sides) (drop (count_true sides.front) items)

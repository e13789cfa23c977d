use Rattle.std.proofs.Common.{◌≡◌, ◌≤◌, ◌+◌, ◌++◌, Some, reverse, vec_len, map}
use Rattle.std.specs.Vec.{vec_capacity}
use Rattle.object_locks.proofs.solo.SoloShelf.new.Given as goal

-- what was moved, with what is left in the opposite order, is what was there
abbrev pub invariant-moves : goal.invariant-moves
invariant-moves g l = record {
  whole : l.slots.items ++ map Some (reverse l.room.items) ≡ map Some l.fn.objects.items;
  fits : vec_len l.slots + vec_len l.room ≤ vec_capacity l.slots;
  count : vec_len l.slots + vec_len l.room ≡ vec_len l.fn.objects;
  room : vec_len l.fn.objects ≤ vec_capacity l.room;
}

abbrev pub decreases-moves : goal.decreases-moves
decreases-moves g l = vec_len l.room

use Rattle.std.proofs.Common.{◌≡◌, ◌≤◌, Some, vec_len, map, length}
use Rattle.std.specs.Vec.{vec_capacity}
use Rattle.object_locks.proofs.solo.SoloShelf.finish.Given as goal

-- the objects of the slots so far are back, and there is room for the others
abbrev pub invariant-moves : goal.invariant-moves
invariant-moves g l = record {
  moved : map Some l.room.items ≡ l.yielded;
  count : vec_len l.room ≡ length l.yielded;
  room : length l.fn.self ≤ vec_capacity l.room;
}

use Rattle.std.proofs.Common.{◌≡◌, ◌+◌, drop}
use Rattle.part_store.specs.Asking.{most_pieces}
use Rattle.part_store.proofs.asking.room_for.Given as goal

abbrev pub invariant-loop-request : goal.invariant-loop-request
invariant-loop-request l = l.room + most_pieces l.threshold (drop l.request-index l.requests) ≡ most_pieces l.threshold l.requests

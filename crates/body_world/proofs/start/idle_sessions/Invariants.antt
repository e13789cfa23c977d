use Rattle.std.proofs.Common.{◌≡◌, map}
use Rattle.std.specs.List.{range_with_len}
use Rattle.geometry_model.specs.Numbers.{objects}
use Rattle.body_world.specs.Start.{first_txn}
use Rattle.body_world.proofs.start.idle_sessions.Given as goal

-- so many sessions are there, each with nothing open
abbrev pub invariant-loop-place : goal.invariant-loop-place
invariant-loop-place g l = l.txns.items ≡ map (first_txn (objects l.geometry)) (range_with_len 0 l.place)

use Rattle.std.proofs.Common.{◌≡◌, None, take}
use Rattle.shadow_txn.specs.Held.{held_object}
use Rattle.shadow_txn.proofs.held.place_of.Given as goal

-- none of those looked at is it
abbrev pub invariant-loop-i : goal.invariant-loop-i
invariant-loop-i g l = held_object l.o (take l.i l.held) ≡ None

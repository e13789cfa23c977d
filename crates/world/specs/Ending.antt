-- The end of a world: what is still open is aborted, in the order of sessions.
use Rattle.std.specs.Prelude.{ℕ, zero, suc, false, if◌then◌else◌}
use Rattle.history.specs.Event.{Closes}
use Rattle.machine.specs.Machine.{Machine, is_active}
use Rattle.machine.specs.Next.{next}

-- session s aborts its transaction, if it has one open
abbrev pub aborted : ℕ → Machine → Machine
aborted s m = if is_active m s then next m s (Closes false) else m

-- sessions 1 to n do so, one after the other
unfoldable pub machine_aborted : ℕ → Machine → Machine
machine_aborted zero m = m
machine_aborted (suc n) m = aborted (suc n) (machine_aborted n m)

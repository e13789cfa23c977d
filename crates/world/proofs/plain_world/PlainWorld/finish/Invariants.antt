use Rattle.std.proofs.Common.{◌≡◌, ℕ, ◌≤◌, false}
use Rattle.machine.specs.Machine.{is_active, database}
use Rattle.world.specs.Ending.{machine_aborted}
use Rattle.world.proofs.plain_world.PlainWorld.finish.Given as goal

-- the first sessions have aborted what they had open, and the committed objects are as before
abbrev pub invariant-loop-place : goal.invariant-loop-place
invariant-loop-place l = record {
  state : l.self ≡ machine_aborted l.place l.initial.self;
  idle : (s : ℕ) → s ≤ l.place → is_active l.self s ≡ false;
  database : database l.self ≡ database l.initial.self;
}

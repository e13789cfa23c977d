use Rattle.std.proofs.Common.{◌≡◌, ◌≤◌, replicate, None}
use Rattle.std.specs.Prelude.{vec_len, vec_capacity}
use Rattle.space_directory.proofs.read.empty_slots.Given as goal

abbrev pub invariant-loop-page : goal.invariant-loop-page
invariant-loop-page g l = record {
  items : l.slots.items ≡ replicate l._page None;
  count : vec_len l.slots ≡ l._page;
  room : l.pages ≤ vec_capacity l.slots;
}

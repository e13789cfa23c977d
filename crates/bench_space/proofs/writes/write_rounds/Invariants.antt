use Rattle.std.proofs.Common.{◌≡◌, ◌≤◌}
use Rattle.bench_space.proofs.writes.write_rounds.Given as goal

-- the page size and the number of pages stay, and a call more fits
abbrev pub invariant-loop-round : goal.invariant-loop-round
invariant-loop-round l = record {
  page : l.store.port.page ≡ 4096;
  count : l.store.data.count ≡ 16384;
  within : l.at ≤ l.last;
}

-- Entries can be exchanged as before.
use Rattle.bench_splice.specs.Store.{CanExchange}
use Rattle.bench_splice.proofs.rounds.exchange.Given as goal

abbrev pub invariant-loop-run : goal.invariant-loop-run
invariant-loop-run l = record {
  ready : CanExchange l.store.cache l.store.port.page l.store.pages l.store.latches;
}

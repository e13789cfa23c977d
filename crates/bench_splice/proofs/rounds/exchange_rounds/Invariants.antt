-- Entries can be exchanged as before.
use Rattle.bench_splice.specs.Store.{CanExchange}
use Rattle.bench_splice.proofs.rounds.exchange_rounds.Given as goal

abbrev pub invariant-loop-round : goal.invariant-loop-round
invariant-loop-round l = record {
  ready : CanExchange l.store.cache l.store.port.page l.store.pages l.store.latches;
}

-- The object can be edited as before.
use Rattle.superdirectory.specs.Solo.{rest_of}
use Rattle.bench_object.specs.Store.{CanEdit}
use Rattle.bench_object.proofs.edits.edit_rounds.Given as goal

abbrev pub invariant-rounds : goal.invariant-rounds
invariant-rounds l = record {
  can : CanEdit l.store.body.numbers l.store.port.page (rest_of l.store.latches);
}

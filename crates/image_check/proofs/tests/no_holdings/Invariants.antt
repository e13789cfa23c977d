use Rattle.std.proofs.Common.{◌≡◌, length, All}
use Rattle.span_store.specs.Held.{IsEmpty}
use Rattle.image_check.proofs.tests.no_holdings.Given as goal

abbrev pub invariant-loop-object : goal.invariant-loop-object
invariant-loop-object g l = record {
  count : length l.objects.items ≡ l._object;
  empty : All (λ held. IsEmpty held) l.objects.items;
}

use Rattle.std.proofs.Common.{◌≡◌, ◌<◌, ◌^◌, max, take}
use Rattle.shadow_txn.specs.Transaction.{greatest_last}
use Rattle.shadow_txn.proofs.end.next_stamp.Given as goal

-- the greatest so far
abbrev pub invariant-loop-one : goal.invariant-loop-one
invariant-loop-one g l = record {
  so_far : l.greatest ≡ max l.own (greatest_last (λ x. g.H.Annals.last x.annals) (take l.one-index l.held));
  below : l.greatest < 2 ^ 62;
}

use Rattle.std.proofs.Common.{◌≡◌, ◌<◌, ◌^◌, max, take}
use Rattle.shadow_txn.specs.Transaction.{greatest_last}
use Rattle.body_txn.specs.Fields.{at_annals}
use Rattle.body_txn.proofs.end.next_stamp.Given as goal

-- the greatest so far
abbrev pub invariant-loop-one : goal.invariant-loop-one
invariant-loop-one g l = record {
  so_far : l.greatest ≡ max l.own (greatest_last (at_annals g.H.Annals.last) (take l.one-index l.held));
  below : l.greatest < 2 ^ 62;
}

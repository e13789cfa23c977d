use Rattle.std.proofs.Common.{◌≡◌, None, All, vec_len}
use Rattle.shadow_txn.proofs.tests.objects_at.Given as goal

-- so many objects were made, and none has a working version
abbrev pub invariant-loop-stamp : goal.invariant-loop-stamp
invariant-loop-stamp l = record {
  rests : All (λ x. x.working ≡ None) l.objects.items;
  count : vec_len l.objects ≡ l.stamp-index;
}

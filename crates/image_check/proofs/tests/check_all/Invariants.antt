use Rattle.std.proofs.Common.{◌≡◌}
use Rattle.image_check.specs.Owners.{IsMarked}
use Rattle.image_check.specs.Rooms.{IsPrepared}
use Rattle.image_check.specs.Shares.{AreOwnersBelow}
use Rattle.image_check.proofs.tests.check_all.Given as goal

abbrev pub invariant-loop-object : goal.invariant-loop-object
invariant-loop-object g l = record {
  page : l.port.meter.page ≡ 256;
  marked : IsMarked l.geometry l.held l.walk;
  below : AreOwnersBelow l.object l.walk;
  room : IsPrepared l.geometry.page 0 l.path;
}

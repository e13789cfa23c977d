use Rattle.std.proofs.Common.{◌≡◌, replicate}
use Rattle.world.specs.Start.{first_object}
use Rattle.world.proofs.start.absent_objects.Given as goal

-- so many objects are there, each absent
abbrev pub invariant-loop-object : goal.invariant-loop-object
invariant-loop-object l = l.objects.items ≡ replicate l._object first_object

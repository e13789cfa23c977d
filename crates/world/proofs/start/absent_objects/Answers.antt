-- All that were made are on the shelf.
use Rattle.std.proofs.Common.{◌≡◌, map, replicate, Some, ap, ◌∙◌, arith}
use Rattle.world.specs.Start.{first_object}
use Rattle.world.proofs.First.{map-replicated}
use Rattle.world.proofs.start.absent_objects.Goals as goal

pub returns-in-Ok : goal.returns-in-Ok
returns-in-Ok c =
    let all : c.loop-object._object ≡ c.args.count = omega arith in
    c.in-Ok.ensures.ok ∙ ap (map Some) c.loop-object.invariant
    ∙ map-replicated Some c.loop-object._object first_object ∙ ap (λ n. replicate n (Some first_object)) all

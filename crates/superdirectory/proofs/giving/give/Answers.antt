-- One space was entered, used and left.
use Rattle.std.proofs.Common.{◌-◌}
use Rattle.space_directory.specs.SpaceView.{after_give}
use Rattle.superdirectory.proofs.Spots.{used}
use Rattle.superdirectory.proofs.giving.give.Goals as goal

pub returns : goal.returns
returns g c =
    used (λ v. after_give v (g.S.Span.start c.args.segment.span - v.first) (g.S.Span.contents c.args.segment.span))
    c.args.segment.space c.enter-space.result c.give.new.self
    (g.L.Hints.rest c.args.latches.now) (g.L.Hints.rest c.enter-space.new.self) (g.L.Hints.rest c.leave.new.self)
    (g.L.Hints.trace c.args.latches.now) (g.L.Hints.trace c.enter-space.new.self) (g.L.Hints.trace c.leave.new.self)
    c.requires.run.named c.enter-space.ensures.told c.give.ensures.given c.enter-space.ensures.rest
    c.leave.ensures.rest c.enter-space.ensures.trace c.leave.ensures.trace

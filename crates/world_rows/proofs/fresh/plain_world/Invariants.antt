use Rattle.plain_body.specs.Kind.{plain_form, plain_contents}
use Rattle.body_world.specs.Session.{shown_by}
use Rattle.world_rows.specs.Rows.{AreAbsent}
use Rattle.world_rows.proofs.fresh.plain_world.Given as goal

-- what was made so far is absent
abbrev pub invariant-adds : goal.invariant-adds
invariant-adds l = AreAbsent (shown_by (λ b. plain_form b.geometry b.committed b.working) (λ b. plain_contents b.committed b.working))
    l.geometry l.objects.items

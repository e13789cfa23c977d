-- One object more, which is as the others.
use Rattle.body_world.specs.Session.{shown_by}
use Rattle.world_rows.proofs.RowsLemmas.{absent-push}
use Rattle.world_rows.proofs.fresh.add.Goals as goal

pub returns : goal.returns
returns g c = λ n of absent.
    rw c.in_ok-push.ensures.items
    (absent-push (shown_by g.B.Body.form g.B.Body.told) n c.args.objects.now.items _ of c.requires.rests c.requires.absent absent)

use Rattle.std.proofs.Common.{sym, ◌∙◌}
use Rattle.object_body.proofs.laws.a_slot_on_pages_is_as_long.Goals as goal

pub returns : goal.returns
returns g c form told on tied =
    let same = g.met.B.Body.lengths on told tied.kind in
    (same.committed ∙ sym tied.committed, same.working ∙ sym tied.working)

-- The end that was written, and the version that was decided for.
use Rattle.shadow_txn.specs.Ending.{end_with}
use Rattle.shadow_txn.proofs.EndingLemmas.{has_got}
use Rattle.shadow_txn.proofs.end.end_object.Goals as goal

pub returns : goal.returns
returns g c =
    has_got g.H.Annals.told g.H.Annals.last (end_with c.args.closing.stamp c.args.closing.session
    c.args.closing.number c.args.closing.committed c.args.acts)
    c.args.object.now _ c.decide.new.self.annals c.decide.ensures.kept c.decide.ensures.rests
    c.append_end.ensures.last c.append_end.ensures.told c.decide.ensures.annals

-- The value is put into a slot of its own, and keeps the terms there.
use Rattle.object_locks.proofs.SlotLemmas.{AreSuited-put}
use Rattle.object_locks.proofs.solo.SoloShelfShelf.put.Goals as goal

pub returns-clause-under : goal.returns-clause-under
returns-clause-under g c =
    rw c.self.view_is
    (λ t each suits. AreSuited-put g.T.Aged.frame g.T.Aged.legal c.args.self.now t c.args.o c.args.value each c.requires.number suits)

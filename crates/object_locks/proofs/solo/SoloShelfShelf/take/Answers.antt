-- What comes out is what lay in the slot, which is empty then.
use Rattle.std.proofs.Common.{◌≡◌, Some, refl, slice_get}
use Rattle.std.proofs.lemmas.Option.{slice_get_read}
use Rattle.object_locks.proofs.SlotLemmas.{AreSuited-take, taken-suits, refused-exact}
use Rattle.object_locks.proofs.solo.SoloShelfShelf.take.Goals as goal

in_slot : (g : _) (c : goal.After-ok_or g) → slice_get c.args.self.now c.args.o ≡ Some c.take.result
in_slot g c =
    rw (← c.self.view_is, c.take.ensures.value)
    (slice_get_read c.self.inside.slots.items _ c.args.o _ refl (rw c.self.view_is c.requires.number) c.index_mut.ensures.value)

pub returns-clause-terms : goal.returns-clause-terms
returns-clause-terms g c =
    rw c.ok_or.ensures.value
    (taken-suits g.T.Aged.frame g.T.Aged.legal c.args.self.now c.args.o c.take.result _ (in_slot g c))

pub returns-clause-under : goal.returns-clause-under
returns-clause-under g c =
    rw (c.take.ensures.after, c.self.view_is)
    (λ t each. AreSuited-take g.T.Aged.frame g.T.Aged.legal c.args.self.now t c.args.o each c.requires.number)

pub returns-clause-exact : goal.returns-clause-exact
returns-clause-exact g c =
    rw c.ok_or.ensures.value (refused-exact c.args.self.now c.args.o c.take.result _ (in_slot g c))

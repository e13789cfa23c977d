-- The greatest order of the whole's mask.
use Rattle.buddy_map.proofs.Descent.{is_largest}
use Rattle.buddy_map.proofs.place.largest_of.Goals as goal

pub returns : goal.returns
returns c = λ free tree.
    is_largest free c.args.whole c.args.masks.now c.greatest.result tree
    (record { found = c.greatest.ensures.found; greatest = c.greatest.ensures.greatest; none = c.greatest.ensures.none })

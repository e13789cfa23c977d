-- Any terms do: a token has no frame and no history.
use Rattle.std.proofs.Common.{[], refl}
use Rattle.object_locks.specs.Shelving.{Terms}
use Rattle.object_locks.proofs.tests.an_object_is_with_one_holder.Goals as goal

abbrev any_terms : Terms
any_terms = record { frame = []; opened = [] }

pub put-requires-clause-terms : goal.put-requires-clause-terms
put-requires-clause-terms g c =
    (any_terms, (λ o value home. record { framed = refl; history = tt }), record { framed = refl; history = tt })

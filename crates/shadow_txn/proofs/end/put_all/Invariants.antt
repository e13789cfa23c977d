use Rattle.std.proofs.Common.{◌≡◌, All, [], vec_len}
use Rattle.std.specs.Vec.{vec_capacity}
use Rattle.object_locks.specs.Shelving.{Terms}
use Rattle.shadow_txn.specs.Ending.{HasGot, CanEnd, MayEnd, end_with}
use Rattle.shadow_txn.specs.Held.{AreDistinct, acts_in}
use Rattle.shadow_txn.specs.Serving.{AreLegal}
use Rattle.shadow_txn.proofs.HalfwayLemmas.{IsHalfway}
use Rattle.shadow_txn.proofs.end.put_all.Given as goal

-- what is left can still go home, and what has gone is there
abbrev pub invariant-puts : goal.invariant-puts
invariant-puts g l = record {
  each : All (CanEnd g.H.Annals.tells g.H.Annals.told g.H.Annals.last g.H.Annals.spare l.closing.stamp
      (g.X.Shelf.shelving l.shelf)) l.held.items;
  may : MayEnd l.closing.stamp l.closing.session l.closing.number (g.X.Shelf.shelving l.shelf);
  distinct : AreDistinct l.held.items;
  capacity : vec_capacity l.held ≡ vec_capacity l.fn.held;
  halfway : IsHalfway (λ o. HasGot g.H.Annals.told g.H.Annals.last
      (end_with l.closing.stamp l.closing.session l.closing.number l.closing.committed (acts_in o l.fn.held.items)))
      (end_with l.closing.stamp l.closing.session l.closing.number l.closing.committed) l.fn.held.items l.held.items
      (g.X.Shelf.shelving l.fn.shelf) (g.X.Shelf.shelving l.shelf);
  under : (t : Terms) → t.frame ≡ [] → AreLegal g.H.Annals.told t l.fn.held.items → g.X.Shelf.under l.fn.shelf t →
      g.X.Shelf.under l.shelf t;
}

abbrev pub decreases-puts : goal.decreases-puts
decreases-puts g l = vec_len l.held

use Rattle.std.proofs.Common.{◌≡◌, All, vec_len}
use Rattle.std.specs.Vec.{vec_capacity}
use Rattle.object_locks.specs.Shelving.{Terms}
use Rattle.shadow_txn.specs.Ending.{MayEnd, end_with}
use Rattle.shadow_txn.specs.Held.{AreDistinct, acts_in}
use Rattle.shadow_txn.proofs.HalfwayLemmas.{IsHalfway}
use Rattle.body_txn.specs.Acts.{IsLedBy}
use Rattle.body_txn.specs.Ending.{GotEnd, IsReadyToEnd, IsEndStep}
use Rattle.body_txn.specs.Fields.{at_annals, at_body, frame_by, LegalBy}
use Rattle.body_txn.specs.Serving.{KeepTerms}
use Rattle.body_txn.proofs.EndingLemmas.{HaveGone}
use Rattle.body_txn.proofs.end.put_all.Given as goal

-- what is left can still go home, and what has gone is there
abbrev pub invariant-puts : goal.invariant-puts
invariant-puts g l = record {
  each : All (IsReadyToEnd (IsLedBy g.B.P.S.Span.tells g.B.Body.suits (at_body g.B.Body.form)
      (at_body g.B.Body.told) g.H.Annals.tells (at_annals g.H.Annals.told) (at_annals g.H.Annals.last))
      (at_body g.B.Body.form) (at_annals g.H.Annals.told) (at_annals g.H.Annals.last)
      (at_annals g.H.Annals.spare) l.closing.stamp (g.X.Shelf.shelving l.shelf)
      (g.L.Hints.rest l.latches)) l.held.items;
  may : MayEnd l.closing.stamp l.closing.session l.closing.number (g.X.Shelf.shelving l.shelf);
  distinct : AreDistinct l.held.items;
  capacity : vec_capacity l.held ≡ vec_capacity l.fn.held;
  halfway : IsHalfway (λ o. GotEnd g.B.P.S.Span.tells (at_body g.B.Body.form) (at_body g.B.Body.told)
      (at_annals g.H.Annals.told) (at_annals g.H.Annals.last)
      (end_with l.closing.stamp l.closing.session l.closing.number l.closing.committed (acts_in o l.fn.held.items)))
      (end_with l.closing.stamp l.closing.session l.closing.number l.closing.committed) l.fn.held.items l.held.items
      (g.X.Shelf.shelving l.fn.shelf) (g.X.Shelf.shelving l.shelf);
  gone : HaveGone (λ x. IsEndStep g.B.P.S.Span.tells g.B.Body.suits l.closing.committed (g.B.Body.form x.body)
      (g.B.Body.told x.body)) l.fn.held.items l.held.items
      (record { rest = g.L.Hints.rest l.fn.latches; trace = g.L.Hints.trace l.fn.latches })
      (record { rest = g.L.Hints.rest l.latches; trace = g.L.Hints.trace l.latches });
  under : (t : Terms) → KeepTerms (frame_by g.B.Body.form)
      (LegalBy g.B.P.S.Span.tells g.H.Annals.told g.B.Body.told) t l.fn.held.items → g.X.Shelf.under l.fn.shelf t →
      g.X.Shelf.under l.shelf t;
}

abbrev pub decreases-puts : goal.decreases-puts
decreases-puts g l = vec_len l.held

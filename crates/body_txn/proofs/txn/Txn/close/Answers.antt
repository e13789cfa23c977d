-- What is held came from the shelf, and goes back to it.
use Rattle.std.proofs.Common.{◌≡◌, ◌+◌, max, ap, sym, ◌∙◌, subst}
use Rattle.object_body.specs.declared.object.Object.{Object}
use Rattle.shadow_txn.specs.Ending.{MayEnd, end_with}
use Rattle.shadow_txn.specs.Transaction.{Transaction, with_end, greatest_last, end_stamp}
use Rattle.body_txn.specs.Ending.{HasOneEndMore, HaveEnded, IsEndStep, EndInTurn, AreReady}
use Rattle.body_txn.specs.Fields.{at_annals, at_body, frame_by, LegalBy}
use Rattle.body_txn.specs.Serving.{ServesTxn, KeepTerms}
use Rattle.body_txn.proofs.EndingLemmas.{can_end, may_end, serves_ended}
use Rattle.body_txn.proofs.txn.Txn.close.Goals as goal

-- the transaction when its fields are open
abbrev open_txn : (g : _) (c : goal.After-put_all-arg-4-1 g) → Transaction (Object g.row.B.Denot g.row.H.Denot)
open_txn g c = record {
  session = c.self.inside.session;
  objects = c.self.inside.objects;
  is_open = c.self.inside.active;
  number = c.self.inside.number;
  stamp = c.self.inside.stamp;
  held = c.self.inside.held.items;
}

serves : (g : _) (c : goal.After-put_all-arg-4-1 g)
    → ServesTxn (at_annals g.H.Annals.told) (at_annals g.H.Annals.last) (open_txn g c) (g.X.Shelf.shelving c.args.shelf.now)
serves g c = subst (λ t. ServesTxn (at_annals g.H.Annals.told) (at_annals g.H.Annals.last) t (g.X.Shelf.shelving c.args.shelf.now))
    (sym c.self.view_is) c.requires.serves

ready : (g : _) (c : goal.After-put_all-arg-4-1 g)
    → AreReady (at_body g.B.Body.form) c.self.inside.held.items (g.L.Hints.rest c.args.latches.now)
ready g c = subst (λ (t : Transaction (Object g.row.B.Denot g.row.H.Denot)). AreReady (at_body g.B.Body.form) t.held
    (g.L.Hints.rest c.args.latches.now)) (sym c.self.view_is) c.requires.ready

stamp : (g : _) (c : goal.After-put_all-arg-4-1 g) → c.next_stamp-stamp.result ≡ end_stamp (at_annals g.H.Annals.last) (open_txn g c)
stamp g c =
    c.next_stamp-stamp.ensures.stamp
    ∙ ap (λ held. max c.self.inside.stamp (greatest_last (at_annals g.H.Annals.last) held) + 1) c.deref.ensures.value

pub put_all-requires-clause-each : goal.put_all-requires-clause-each
put_all-requires-clause-each g c =
    can_end _ _ _ _ _ _ c.next_stamp-stamp.result (open_txn g c) _ _ c.self.invariant (serves g c) (ready g c) (stamp g c)

pub put_all-requires-clause-may : goal.put_all-requires-clause-may
put_all-requires-clause-may g c =
    let active = ap (λ (t : Transaction (Object g.row.B.Denot g.row.H.Denot)). t.is_open) c.self.view_is ∙ c.requires.open in
    may_end (at_annals g.H.Annals.told) (at_annals g.H.Annals.last) (open_txn g c) c.next_stamp-stamp.result _ (serves g c) active
    (c.self.invariant.begun active) c.self.invariant.distinct (stamp g c)

pub put_all-requires-clause-terms : goal.put_all-requires-clause-terms
put_all-requires-clause-terms g c =
    let terms = c.requires.terms in (
      terms.0,
      terms.1,
      subst
          (λ (t : Transaction (Object g.row.B.Denot g.row.H.Denot)). KeepTerms (frame_by g.B.Body.form)
          (LegalBy g.B.P.S.Span.tells g.H.Annals.told g.B.Body.told) terms.0 t.held) (sym c.self.view_is) terms.2,
    )

pub returns-clause-ended : goal.returns-clause-ended
returns-clause-ended g c =
    subst (λ (t : Transaction (Object g.row.B.Denot g.row.H.Denot)). HaveEnded
    (HasOneEndMore g.B.P.S.Span.tells (at_body g.B.Body.form) (at_body g.B.Body.told) (at_annals g.H.Annals.told)
    (at_annals g.H.Annals.last) c.next_stamp-stamp.result t.session t.number c.args.committed)
    (at_annals g.H.Annals.told) (end_with c.next_stamp-stamp.result t.session t.number c.args.committed) t.held
    (g.X.Shelf.shelving c.args.shelf.now) (g.X.Shelf.shelving c.put_all.new.shelf))
    c.self.view_is c.put_all.ensures.ended

pub returns-clause-turns : goal.returns-clause-turns
returns-clause-turns g c =
    subst (λ (t : Transaction (Object g.row.B.Denot g.row.H.Denot)). EndInTurn
    (λ x. IsEndStep g.B.P.S.Span.tells g.B.Body.suits c.args.committed (g.B.Body.form x.body) (g.B.Body.told x.body)) t.held
    (record { rest = g.L.Hints.rest c.args.latches.now; trace = g.L.Hints.trace c.args.latches.now })
    (record { rest = g.L.Hints.rest c.put_all.new.latches; trace = g.L.Hints.trace c.put_all.new.latches }))
    c.self.view_is c.put_all.ensures.turns

pub returns-clause-served : goal.returns-clause-served
returns-clause-served g c =
    let txn : Transaction (Object g.row.B.Denot g.row.H.Denot) = c.args.self.now in
    let ended = returns-clause-ended g c in
    let may = subst (λ (t : Transaction (Object g.row.B.Denot g.row.H.Denot)). MayEnd c.next_stamp-stamp.result t.session t.number
    (g.X.Shelf.shelving c.put_all.new.shelf)) c.self.view_is c.put_all.ensures.may in
    record {
      serves = rw c.put_all.ensures.none.0
          (subst (λ t. ServesTxn (at_annals g.H.Annals.told) (at_annals g.H.Annals.last) t (g.X.Shelf.shelving c.put_all.new.shelf))
          (sym (ap (λ t. with_end t c.next_stamp-stamp.result) c.self.view_is))
          (serves_ended (at_annals g.H.Annals.told) (at_annals g.H.Annals.last) _ txn c.next_stamp-stamp.result
          (g.X.Shelf.shelving c.args.shelf.now) (g.X.Shelf.shelving c.put_all.new.shelf)
          c.requires.serves ended.shelf may));
      under = λ t agree under. c.put_all.ensures.under t
          (subst (λ (x : Transaction (Object g.row.B.Denot g.row.H.Denot)). KeepTerms (frame_by g.B.Body.form)
          (LegalBy g.B.P.S.Span.tells g.H.Annals.told g.B.Body.told) t x.held) (sym c.self.view_is) agree) under;
    }

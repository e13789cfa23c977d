-- The object at its place leaves, and is put back as it came.
use Rattle.std.proofs.Common.{◌≡◌, Some, ap, sym, ◌∙◌, subst}
use Rattle.std.specs.Prelude.{IsSomeAnd}
use Rattle.object_body.specs.declared.object.Object.{Object}
use Rattle.object_locks.specs.Shelving.{Terms, Suits, IsPut}
use Rattle.shadow_txn.specs.Held.{held_object, without_held, IsFirstAt, AreDistinct}
use Rattle.shadow_txn.specs.Transaction.{Transaction, holding}
use Rattle.shadow_txn.proofs.HeldLemmas.{at_place, held_object-at, without_held-at}
use Rattle.shadow_txn.proofs.LettingGoLemmas.{sound-without_held, may_return}
use Rattle.body_txn.specs.Fields.{at_annals, frame_by, LegalBy, RestsBy}
use Rattle.body_txn.specs.Serving.{ServesTxn, KeepTerms}
use Rattle.body_txn.proofs.LettingGoLemmas.{serves-without_held, agree-without_held}
use Rattle.body_txn.proofs.txn.Txn.unhold.Goals as goal

-- o stands at the place
place : (g : _) (c : goal.After-put-arg-1 g) → IsFirstAt c.self.inside.held.items c.args.o c.in-Some.i
place g c = subst (λ held. IsFirstAt held c.args.o c.in-Some.i) c.deref.ensures.value c.in-Some.ensures.found

number : (g : _) (c : goal.After-put-arg-1 g) → c.remove-number.result.number ≡ c.args.o
number g c = (at_place c.self.inside.held.items c.args.o c.in-Some.i c.remove-number.result (place g c) c.remove-number.ensures.value).1

at : (g : _) (c : goal.After-put-arg-1 g) → held_object c.args.o c.args.self.now.held ≡ Some c.remove-number.result.object
at g c =
    sym (ap (λ (t : Transaction (Object g.row.B.Denot g.row.H.Denot)). held_object c.args.o t.held) c.self.view_is)
    ∙ held_object-at c.self.inside.held.items c.args.o c.in-Some.i c.remove-number.result (place g c) c.remove-number.ensures.value

-- what the terms ask of it
suits : (g : _) (c : goal.After-put-arg-1 g) (t : Terms)
    → KeepTerms (frame_by g.B.Body.form) (LegalBy g.B.P.S.Span.tells g.H.Annals.told g.B.Body.told) t c.args.self.now.held
    → Suits (frame_by g.B.Body.form)
    (LegalBy g.B.P.S.Span.tells g.H.Annals.told g.B.Body.told) t c.remove-number.result.number c.remove-number.result.object
suits g c t agree =
    subst (λ n. Suits (frame_by g.B.Body.form)
    (LegalBy g.B.P.S.Span.tells g.H.Annals.told g.B.Body.told) t n c.remove-number.result.object) (sym (number g c))
    (agree c.args.o c.remove-number.result.object (at g c))

left : (g : _) (c : goal.After-put-arg-1 g) → c.remove-number.new.self.items ≡ without_held c.args.o c.self.inside.held.items
left g c =
    c.remove-number.ensures.items
    ∙ without_held-at c.self.inside.held.items c.args.o c.in-Some.i c.remove-number.result (place g c) c.remove-number.ensures.value

pub put-requires-clause-out : goal.put-requires-clause-out
put-requires-clause-out g c =
    let x = c.remove-number.result.object in
    rw (number g c) (may_return _ (g.H.Annals.told x.annals) (g.X.Shelf.shelving c.args.shelf.now)
    (c.requires.serves.came c.args.o x (at g c)))

pub put-requires-clause-rests : goal.put-requires-clause-rests
put-requires-clause-rests g c = subst (λ r. IsSomeAnd r (RestsBy g.B.Body.form)) (at g c) c.requires.held

pub put-requires-clause-terms : goal.put-requires-clause-terms
put-requires-clause-terms g c = let terms = c.requires.terms in (terms.0, terms.1, suits g c terms.0 terms.2)

pub invariant_of-self : goal.invariant_of-self
invariant_of-self g c =
    rw (left g c.before, c.remove-number.ensures.capacity)
    (sound-without_held (at_annals g.H.Annals.spare) (at_annals g.H.Annals.last) _ _ _ c.args.o c.self.invariant)

pub returns-clause-txn : goal.returns-clause-txn
returns-clause-txn g c =
    rw (left g c.before) (ap (λ (t : Transaction (Object g.row.B.Denot g.row.H.Denot)). holding t (without_held c.args.o t.held))
    c.self.view_is)

pub returns-clause-put : goal.returns-clause-put
returns-clause-put g c =
    let x = c.remove-number.result.object in
    rw (at g c.before) (subst
    (λ n. IsPut (g.H.Annals.told x.annals) n x (g.X.Shelf.shelving c.args.shelf.now) (g.X.Shelf.shelving c.put.new.self))
    (number g c.before) c.put.ensures.put)

pub returns-clause-served : goal.returns-clause-served
returns-clause-served g c =
    let x = c.remove-number.result.object in
    let put = subst (λ n. IsPut (g.H.Annals.told x.annals) n x (g.X.Shelf.shelving c.args.shelf.now) (g.X.Shelf.shelving c.put.new.self))
    (number g c.before) c.put.ensures.put in
    let apart : AreDistinct c.args.self.now.held = subst (λ (t : Transaction (Object g.row.B.Denot g.row.H.Denot)). AreDistinct t.held)
    c.self.view_is c.self.invariant.distinct in
    record {
      serves = rw (left g c.before)
          (subst (λ t. ServesTxn (at_annals g.H.Annals.told) (at_annals g.H.Annals.last) t (g.X.Shelf.shelving c.put.new.self))
          (sym (ap (λ (t : Transaction (Object g.row.B.Denot g.row.H.Denot)). holding t (without_held c.args.o t.held)) c.self.view_is))
          (serves-without_held (at_annals g.H.Annals.told) (at_annals g.H.Annals.last) c.args.self.now c.args.o x _ _ c.requires.serves
          (at g c.before) apart put));
      under = λ t agree was. c.put.ensures.under t was (suits g c.before t agree);
    }

pub returns-clause-agree : goal.returns-clause-agree
returns-clause-agree g c = λ t agree.
    let apart : AreDistinct c.args.self.now.held = subst (λ (t : Transaction (Object g.row.B.Denot g.row.H.Denot)). AreDistinct t.held)
    c.self.view_is c.self.invariant.distinct in
    rw (left g c.before)
    (subst (λ (x : Transaction (Object g.row.B.Denot g.row.H.Denot)). KeepTerms (frame_by g.B.Body.form)
    (LegalBy g.B.P.S.Span.tells g.H.Annals.told g.B.Body.told) t (without_held c.args.o x.held)) (sym c.self.view_is)
    (agree-without_held (frame_by g.B.Body.form)
    (LegalBy g.B.P.S.Span.tells g.H.Annals.told g.B.Body.told) t c.args.o c.args.self.now.held apart agree))

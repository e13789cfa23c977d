-- The object at its place leaves, and is put back as it came.
use Rattle.std.proofs.Common.{◌≡◌, [], None, Some, ap, sym, ◌∙◌, subst, slice_index_or}
use Rattle.std.specs.Prelude.{IsSomeAnd}
use Rattle.object_locks.specs.Shelving.{Terms, Suits, IsPut}
use Rattle.eos_ops.specs.declared.plain.Plain.TheVariants.{Absent}
use Rattle.shadow_txn.specs.Acts.{IsLed}
use Rattle.shadow_txn.specs.Objects.{IsLegalObject}
use Rattle.shadow_txn.specs.declared.plain_object.PlainObject.{PlainObject}
use Rattle.shadow_txn.specs.Held.{held_object, without_held, IsFirstAt, AreDistinct}
use Rattle.shadow_txn.specs.Serving.{Serves, Agree}
use Rattle.shadow_txn.specs.Transaction.{Transaction, holding}
use Rattle.shadow_txn.proofs.ServingLemmas.{agreed}
use Rattle.shadow_txn.proofs.HeldLemmas.{at_place, held_object-at, without_held-at}
use Rattle.shadow_txn.proofs.LettingGoLemmas.{sound-without_held, serves-without_held, agree-without_held, may_return}
use Rattle.shadow_txn.proofs.txn.Txn.unhold.Goals as goal

-- o stands at the place
place : (g : _) (c : goal.After-put-arg-1 g) → IsFirstAt c.self.inside.held.items c.args.o c.in-Some.i
place g c = subst (λ held. IsFirstAt held c.args.o c.in-Some.i) c.deref.ensures.value c.in-Some.ensures.found

number : (g : _) (c : goal.After-put-arg-1 g) → c.remove-number.result.number ≡ c.args.o
number g c = (at_place c.self.inside.held.items c.args.o c.in-Some.i c.remove-number.result (place g c) c.remove-number.ensures.value).1

at : (g : _) (c : goal.After-put-arg-1 g) → held_object c.args.o c.args.self.now.held ≡ Some c.remove-number.result.object
at g c =
    sym (ap (λ (t : Transaction (PlainObject g.row.H.Denot)). held_object c.args.o t.held) c.self.view_is)
    ∙ held_object-at c.self.inside.held.items c.args.o c.in-Some.i c.remove-number.result (place g c) c.remove-number.ensures.value

rests : (g : _) (c : goal.After-put-arg-1 g) → c.remove-number.result.object.working ≡ None
rests g c = subst (λ r. IsSomeAnd r (λ (x : PlainObject g.row.H.Denot). x.working ≡ None)) (at g c) c.requires.held

-- what the terms ask of it
legal : (g : _) (c : goal.After-put-arg-1 g) (t : Terms) → Agree g.H.Annals.tells g.H.Annals.told t c.args.self.now.held
    → Suits {T = PlainObject g.row.H.Denot} (λ _. [])
    (IsLegalObject g.H.Annals.told) t c.remove-number.result.number c.remove-number.result.object
legal g c t agree =
    let fits = agreed g.H.Annals.tells g.H.Annals.told t c.args.self.now.held g.met.H.Annals.tells_all agree in
    record {
      framed = sym fits.0;
      history = subst (λ n. IsLegalObject g.H.Annals.told (slice_index_or t.opened n Absent)
          c.remove-number.result.object) (sym (number g c))
          (fits.1 c.args.o c.remove-number.result.object (at g c));
    }

left : (g : _) (c : goal.After-put-arg-1 g) → c.remove-number.new.self.items ≡ without_held c.args.o c.self.inside.held.items
left g c =
    c.remove-number.ensures.items
    ∙ without_held-at c.self.inside.held.items c.args.o c.in-Some.i c.remove-number.result (place g c) c.remove-number.ensures.value

pub put-requires-clause-out : goal.put-requires-clause-out
put-requires-clause-out g c =
    let x = c.remove-number.result.object in
    rw (number g c) (may_return _ (g.H.Annals.told x.annals) (g.X.Shelf.shelving c.args.shelf.now)
    (c.requires.serves.came c.args.o x (at g c)))

pub put-requires-clause-rests : goal.put-requires-clause-rests
put-requires-clause-rests g c = rests g c

pub put-requires-clause-terms : goal.put-requires-clause-terms
put-requires-clause-terms g c = let terms = c.requires.terms in (terms.0, terms.1, legal g c terms.0 terms.2)

pub invariant_of-self : goal.invariant_of-self
invariant_of-self g c =
    rw (left g c.before, c.remove-number.ensures.capacity)
    (sound-without_held (λ x. g.H.Annals.spare x.annals) (λ x. g.H.Annals.last x.annals)
    (IsLed g.H.Annals.tells g.H.Annals.told g.H.Annals.last) _ _ c.args.o c.self.invariant)

pub returns-clause-txn : goal.returns-clause-txn
returns-clause-txn g c =
    rw (left g c.before) (ap (λ (t : Transaction (PlainObject g.row.H.Denot)). holding t (without_held c.args.o t.held)) c.self.view_is)

pub returns-clause-put : goal.returns-clause-put
returns-clause-put g c =
    let x = c.remove-number.result.object in
    rw (at g c.before) (subst (λ n. IsPut (g.H.Annals.told x.annals) n x (g.X.Shelf.shelving c.args.shelf.now)
    (g.X.Shelf.shelving c.put.new.self)) (number g c.before) c.put.ensures.put)

pub returns-clause-serves : goal.returns-clause-serves
returns-clause-serves g c =
    let x = c.remove-number.result.object in
    let put = subst (λ n. IsPut (g.H.Annals.told x.annals) n x (g.X.Shelf.shelving c.args.shelf.now)
    (g.X.Shelf.shelving c.put.new.self)) (number g c.before) c.put.ensures.put in
    let apart : AreDistinct c.args.self.now.held =
    subst (λ (t : Transaction (PlainObject g.row.H.Denot)). AreDistinct t.held) c.self.view_is
    c.self.invariant.distinct in
    rw (left g c.before)
    (subst (λ t. Serves g.H.Annals.told g.H.Annals.last t (g.X.Shelf.shelving c.put.new.self))
    (sym (ap (λ (t : Transaction (PlainObject g.row.H.Denot)). holding t (without_held c.args.o t.held)) c.self.view_is))
    (serves-without_held g.H.Annals.told g.H.Annals.last c.args.self.now c.args.o x _ _ c.requires.serves (at g c.before) apart put))

pub returns-clause-under : goal.returns-clause-under
returns-clause-under g c = λ t agree was. c.put.ensures.under t was (legal g c.before t agree)

pub returns-clause-agree : goal.returns-clause-agree
returns-clause-agree g c = λ t agree.
    let apart : AreDistinct c.args.self.now.held =
    subst (λ (t : Transaction (PlainObject g.row.H.Denot)). AreDistinct t.held) c.self.view_is
    c.self.invariant.distinct in
    rw (left g c.before)
    (subst (λ (x : Transaction (PlainObject g.row.H.Denot)). Agree g.H.Annals.tells g.H.Annals.told t
    (without_held c.args.o x.held)) (sym c.self.view_is)
    (agree-without_held g.H.Annals.tells g.H.Annals.told t c.args.o c.args.self.now.held apart agree))

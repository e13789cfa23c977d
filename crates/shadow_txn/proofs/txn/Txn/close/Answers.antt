-- What is held came from the shelf, and goes back to it.
use Rattle.std.proofs.Common.{◌≡◌, ◌+◌, max, ap, sym, ◌∙◌, subst}
use Rattle.shadow_txn.specs.Ending.{HasEnded, IsEnding, HaveEnds, MayEnd, end_with}
use Rattle.shadow_txn.specs.Serving.{Serves}
use Rattle.shadow_txn.specs.Transaction.{Transaction, with_end, greatest_last, end_stamp}
use Rattle.shadow_txn.specs.declared.plain_object.PlainObject.{PlainObject}
use Rattle.shadow_txn.proofs.EndingLemmas.{can_end, may_end, serves_ended}
use Rattle.shadow_txn.proofs.ServingLemmas.{agreed_inside}
use Rattle.shadow_txn.proofs.txn.Txn.close.Goals as goal

-- the transaction when its fields are open
abbrev open_txn : (g : _) (c : goal.After-put_all-arg-2-1 g) → Transaction (PlainObject g.row.H.Denot)
open_txn g c = record {
  session = c.self.inside.session;
  objects = c.self.inside.objects;
  is_open =
      c.self.inside.active;
  number = c.self.inside.number;
  stamp = c.self.inside.stamp;
  held =
      c.self.inside.held.items;
}

serves : (g : _) (c : goal.After-put_all-arg-2-1 g) →
    Serves g.H.Annals.told g.H.Annals.last (open_txn g c) (g.X.Shelf.shelving c.args.shelf.now)
serves g c = subst (λ t. Serves g.H.Annals.told g.H.Annals.last t (g.X.Shelf.shelving c.args.shelf.now))
    (sym c.self.view_is) c.requires.serves

stamp : (g : _) (c : goal.After-put_all-arg-2-1 g) → c.next_stamp-stamp.result ≡ end_stamp (λ x. g.H.Annals.last x.annals) (open_txn g c)
stamp g c =
    c.next_stamp-stamp.ensures.stamp ∙ ap (λ held. max c.self.inside.stamp
    (greatest_last (λ x. g.H.Annals.last x.annals) held) + 1) c.deref.ensures.value

pub put_all-requires-clause-each : goal.put_all-requires-clause-each
put_all-requires-clause-each g c =
    can_end g.H.Annals.tells g.H.Annals.told g.H.Annals.last g.H.Annals.spare _ c.next_stamp-stamp.result
    (open_txn g c) _ c.self.invariant (serves g c) (stamp g c)

pub put_all-requires-clause-may : goal.put_all-requires-clause-may
put_all-requires-clause-may g c =
    let active = ap (λ (t : Transaction (PlainObject g.row.H.Denot)). t.is_open) c.self.view_is ∙ c.requires.open in
    may_end g.H.Annals.told g.H.Annals.last (open_txn g c) c.next_stamp-stamp.result _ (serves g c) active
    (c.self.invariant.begun active) c.self.invariant.distinct (stamp g c)

pub put_all-requires-clause-terms : goal.put_all-requires-clause-terms
put_all-requires-clause-terms g c =
    let all = c.requires.terms in
    let fits = agreed_inside g.H.Annals.tells g.H.Annals.told all.0 _ _ c.self.view_is g.met.H.Annals.tells_all all.2 in
    (all.0, all.1, fits.0, fits.1)

pub returns-clause-ends : goal.returns-clause-ends
returns-clause-ends g c =
    subst (λ (t : Transaction (PlainObject g.row.H.Denot)). HaveEnds g.H.Annals.told
    (end_with c.next_stamp-stamp.result t.session t.number c.args.committed) t.held
    (g.X.Shelf.shelving c.put_all.new.shelf))
    c.self.view_is c.put_all.ensures.ends

pub returns-clause-serves : goal.returns-clause-serves
returns-clause-serves g c =
    let txn : Transaction (PlainObject g.row.H.Denot) = c.args.self.now in
    let ending = subst (λ (t : Transaction (PlainObject g.row.H.Denot)). IsEnding
    (HasEnded g.H.Annals.told g.H.Annals.last c.next_stamp-stamp.result t.session t.number c.args.committed)
    t.held (g.X.Shelf.shelving c.args.shelf.now)
    (g.X.Shelf.shelving c.put_all.new.shelf)) c.self.view_is c.put_all.ensures.shelf in
    let may = subst (λ (t : Transaction (PlainObject g.row.H.Denot)). MayEnd c.next_stamp-stamp.result t.session
    t.number (g.X.Shelf.shelving c.put_all.new.shelf)) c.self.view_is c.put_all.ensures.may in
    rw c.put_all.ensures.none
    (subst (λ t. Serves g.H.Annals.told g.H.Annals.last t (g.X.Shelf.shelving c.put_all.new.shelf))
    (sym (ap (λ t. with_end t c.next_stamp-stamp.result) c.self.view_is))
    (serves_ended g.H.Annals.told g.H.Annals.last _ txn c.next_stamp-stamp.result
    (g.X.Shelf.shelving c.args.shelf.now) (g.X.Shelf.shelving c.put_all.new.shelf)
    c.requires.serves ending may))

pub returns-clause-under : goal.returns-clause-under
returns-clause-under g c = λ t agree under. let fits =
    agreed_inside g.H.Annals.tells g.H.Annals.told t _ _ c.self.view_is g.met.H.Annals.tells_all agree in
    c.put_all.ensures.under t fits.0 fits.1 under

-- What was taken is held behind the others.
use Rattle.std.proofs.Common.{◌≡◌, ℕ, ◌++◌, ◌∷◌, [], length, ap, sym, ◌∙◌, None, subst, arith, List}
use Rattle.base_laws.proofs.OptionLaws.{none-unless}
use Rattle.eos_ops.specs.declared.act.Act.{Act}
use Rattle.object_body.specs.declared.object.Object.{Object}
use Rattle.object_locks.specs.Shelving.{Suits}
use Rattle.shadow_txn.specs.declared.held.Held.{Held}
use Rattle.shadow_txn.specs.Held.{held_object}
use Rattle.shadow_txn.specs.Transaction.{Transaction, holding}
use Rattle.shadow_txn.proofs.ServingLemmas.{sound-push}
use Rattle.body_txn.specs.Acts.{IsLedBy}
use Rattle.body_txn.specs.Fields.{body_of, at_annals, at_body, frame_by, LegalBy, RestsBy}
use Rattle.body_txn.specs.Serving.{ServesTxn, KeepTerms}
use Rattle.body_txn.specs.Taking.{TookObject}
use Rattle.body_txn.proofs.ActLemmas.{led-new}
use Rattle.body_txn.proofs.ServingLemmas.{serves-push, agree-push}
use Rattle.body_txn.proofs.txn.Txn.hold.Goals as goal

-- the object wasn't held
away : (g : _) (c : goal.After-push_reserved g) → held_object c.args.o c.args.self.now.held ≡ None
away g c = none-unless _ (sym c.holds.ensures ∙ c.if-holds.false)

-- and was taken under its number
taken : (g : _) (c : goal.After-push_reserved g)
    → TookObject body_of (at_annals g.H.Annals.told) (at_annals g.H.Annals.last) (at_annals g.H.Annals.spare)
    (RestsBy g.B.Body.form) c.args.o c.in_ok-object.object (g.X.Shelf.shelving c.args.shelf.now)
    (g.X.Shelf.shelving c.take_ready.new.shelf)
taken g c =
    subst (λ n. TookObject body_of (at_annals g.H.Annals.told) (at_annals g.H.Annals.last) (at_annals g.H.Annals.spare)
    (RestsBy g.B.Body.form) n c.in_ok-object.object (g.X.Shelf.shelving c.args.shelf.now) (g.X.Shelf.shelving c.take_ready.new.shelf))
    c.in_ok-number.ensures.ok.0 c.in_ok-object.ensures.ok

-- the transaction holds it behind the others
whole : (g : _) (c : goal.After-push_reserved g)
    → record {
      session = c.self.inside.session;
      objects = c.self.inside.objects;
      is_open = c.self.inside.active;
      number = c.self.inside.number;
      stamp = c.self.inside.stamp;
      held = c.push_reserved.new.self.items;
    }
    ≡ holding c.args.self.now (c.args.self.now.held ++ record { number = c.args.o; object = c.in_ok-object.object; acts = [] } ∷ [])
whole g c =
    let one : ℕ → List Act
    → Held (Object g.row.B.Denot g.row.H.Denot) = λ n acts. record { number = n; object = c.in_ok-object.object; acts = acts } in
    rw c.push_reserved.ensures.items
    (ap (λ t. holding t (t.held ++ one c.in_ok-number.number c.new.result ∷ [])) c.self.view_is
    ∙ ap (λ n. holding c.args.self.now (c.args.self.now.held ++ one n c.new.result ∷ [])) c.in_ok-number.ensures.ok.0
    ∙ ap (λ acts. holding c.args.self.now (c.args.self.now.held ++ one c.args.o acts ∷ [])) c.new.ensures)

pub invariant_of-self : goal.invariant_of-self
invariant_of-self g c =
    let object = c.in_ok-object.ensures.ok in
    let number = c.in_ok-number.ensures.ok in
    let open_now = ap (λ t. t.is_open) c.self.view_is ∙ c.requires.open in
    let objects = ap (λ t. t.objects) c.self.view_is in
    let count = ap (λ t. length t.held) c.self.view_is in
    let free = ap (λ t. held_object c.in_ok-number.number t.held) c.self.view_is ∙ ap (λ n. held_object n c.args.self.now.held) number.0
    ∙ away g c in
    rw (c.push_reserved.ensures.items, c.push_reserved.ensures.capacity)
    (sound-push (at_annals g.H.Annals.spare) (at_annals g.H.Annals.last)
    (IsLedBy g.B.P.S.Span.tells g.B.Body.suits (at_body g.B.Body.form) (at_body g.B.Body.told) g.H.Annals.tells
    (at_annals g.H.Annals.told) (at_annals g.H.Annals.last)) _ _
    (record { number = c.in_ok-number.number; object = c.in_ok-object.object; acts = c.new.result })
    c.self.invariant open_now free (omega (arith, objects, number.0, number.1)) (omega (arith, count, number.2)) object.room object.left
    (rw c.new.ensures (led-new g.B.P.S.Span.tells g.B.Body.suits (at_body g.B.Body.form) (at_body g.B.Body.told) g.H.Annals.tells
    (at_annals g.H.Annals.told)
    (at_annals g.H.Annals.last) c.in_ok-object.object c.in_ok-object.ensures.tied object.at_rest object.ages)))

pub returns-clause-agree : goal.returns-clause-agree
returns-clause-agree g c = λ t under agree.
    let suits = subst (λ n. Suits (frame_by g.B.Body.form)
    (LegalBy g.B.P.S.Span.tells g.H.Annals.told g.B.Body.told) t n c.in_ok-object.object) c.in_ok-number.ensures.ok.0
    (c.in_ok-object.ensures.suits t under) in
    subst (λ (x : Transaction (Object g.row.B.Denot g.row.H.Denot)). KeepTerms (frame_by g.B.Body.form)
    (LegalBy g.B.P.S.Span.tells g.H.Annals.told g.B.Body.told) t x.held) (sym (whole g c))
    (agree-push (frame_by g.B.Body.form) (LegalBy g.B.P.S.Span.tells g.H.Annals.told g.B.Body.told) t
    (record { number = c.args.o; object = c.in_ok-object.object; acts = [] }) c.args.self.now.held suits agree)

pub returns-clause-hold : goal.returns-clause-hold
returns-clause-hold g c = record {
  again = (λ same. absurd cc, λ some. let other = sym c.holds.ensures ∙ c.if-holds.false in absurd cc);
  same = λ same. absurd cc;
  took = λ same. record { object = c.in_ok-object.object; taken = taken g c; held = whole g c };
  err = tt;
  left = tt;
}

pub returns-clause-serves : goal.returns-clause-serves
returns-clause-serves g c =
    subst (λ t. ServesTxn (at_annals g.H.Annals.told) (at_annals g.H.Annals.last) t (g.X.Shelf.shelving c.take_ready.new.shelf))
    (sym (whole g c))
    (serves-push body_of (at_annals g.H.Annals.told) (at_annals g.H.Annals.last) (at_annals g.H.Annals.spare)
    (RestsBy g.B.Body.form) c.args.self.now c.args.o c.in_ok-object.object _ _ c.requires.serves (taken g c) (away g c))

-- The act is noted at the place of its object.
use Rattle.std.proofs.Common.{◌≡◌, subst, slice_set, refl}
use Rattle.eos_ops.specs.declared.command.Command.TheVariants as command
use Rattle.object_body.specs.declared.object.Object.{Object}
use Rattle.shadow_txn.specs.Acts.{noted}
use Rattle.shadow_txn.specs.Held.{IsFirstAt}
use Rattle.shadow_txn.specs.Replies.{length_reply}
use Rattle.shadow_txn.specs.Transaction.{Transaction, holding, noting}
use Rattle.shadow_txn.proofs.ServingLemmas.{sound-set}
use Rattle.body_txn.specs.Acts.{IsLedBy}
use Rattle.body_txn.specs.Fields.{at_annals, at_body}
use Rattle.body_txn.proofs.ActLemmas.{led-length, right-length}
use Rattle.body_txn.proofs.PlaceLemmas.{IsAt, is-at, call-noted}
use Rattle.body_txn.proofs.ServingLemmas.{goes-on-noted}
use Rattle.body_txn.proofs.txn.Txn.length.Goals as goal

-- o stands at the place
place : (g : _) (c : goal.After-self-1 g) → IsFirstAt c.self.inside.held.items c.args.o c.in-Some.i
place g c = subst (λ held. IsFirstAt held c.args.o c.in-Some.i) c.deref.ensures.value c.in-Some.ensures.found

-- the transaction when its fields are open
abbrev open_txn : (g : _) (c : goal.After-self-1 g) → Transaction (Object g.row.B.Denot g.row.H.Denot)
open_txn g c = record {
  session = c.self.inside.session;
  objects = c.self.inside.objects;
  is_open = c.self.inside.active;
  number = c.self.inside.number;
  stamp = c.self.inside.stamp;
  held = c.self.inside.held.items;
}

-- the held object
at : (g : _) (c : goal.After-self-1 g)
    → IsAt (IsLedBy g.B.P.S.Span.tells g.B.Body.suits (at_body g.B.Body.form) (at_body g.B.Body.told) g.H.Annals.tells
    (at_annals g.H.Annals.told) (at_annals g.H.Annals.last)) c.args.self.now c.args.o c.index_mut.result.now
at g c = is-at _ _ _ _ (open_txn g c) c.args.self.now c.args.o c.in-Some.i c.index_mut.result.now c.self.view_is c.self.invariant
    (place g c) c.index_mut.ensures.value

-- as before, with the act
whole : (g : _) (c : goal.After-self-1 g)
    → holding (open_txn g c) (slice_set c.self.inside.held.items c.in-Some.i c.length_of_held.new.one) ≡ noting c.args.o
    (noted g.H.Annals.tells (command.Length c.args.o) (length_reply c.length_of_held.result)) c.args.self.now
whole g c =
    call-noted (open_txn g c) c.args.self.now c.args.o c.in-Some.i c.index_mut.result.now c.length_of_held.new.one
    (λ n. noted g.H.Annals.tells (command.Length n) (length_reply c.length_of_held.result)) c.self.view_is
    (place g c) c.index_mut.ensures.value c.length_of_held.ensures.same

pub invariant_of-self : goal.invariant_of-self
invariant_of-self g c =
    let h = c.index_mut.result.now in
    rw c.length_of_held.ensures.same
    (sound-set (at_annals g.H.Annals.spare) (at_annals g.H.Annals.last) _ _ (open_txn g c) c.args.o c.in-Some.i h h.object
    (noted g.H.Annals.tells (command.Length h.number) (length_reply c.length_of_held.result)) c.self.invariant
    (place g c) c.index_mut.ensures.value refl refl
    (λ led. led-length g.B.P.S.Span.tells g.B.Body.suits (at_body g.B.Body.form) (at_body g.B.Body.told) g.H.Annals.tells
    (at_annals g.H.Annals.told) (at_annals g.H.Annals.last) h.object h.acts h.number _
    (λ tell. right-length g.H.Annals.tells _ _ _ (led.tied tell).working c.length_of_held.ensures.reply) led))

pub returns-clause-reply : goal.returns-clause-reply
returns-clause-reply g c = rw (at g c).found c.length_of_held.ensures.reply

pub returns-clause-right : goal.returns-clause-right
returns-clause-right g c = λ tell. rw (at g c).found
    (right-length g.H.Annals.tells _ _ _ ((at g c).made.tied tell).working c.length_of_held.ensures.reply)

pub returns-clause-same : goal.returns-clause-same
returns-clause-same g c = whole g c

pub returns-clause-goes_on : goal.returns-clause-goes_on
returns-clause-goes_on g c = goes-on-noted _ _ _ _ c.args.self.now _ c.args.o _ (whole g c)

pub returns-clause-tied : goal.returns-clause-tied
returns-clause-tied g c = λ tell. rw (at g c).found ((at g c).made.tied tell)

-- The act is noted at the place of its object.
use Rattle.std.proofs.Common.{◌≡◌, ap, sym, ◌∙◌, subst, slice_set, Some, refl}
use Rattle.eos_ops.specs.declared.command.Command.TheVariants as command
use Rattle.shadow_txn.specs.declared.plain_object.PlainObject.{PlainObject}
use Rattle.shadow_txn.specs.Acts.{IsLed, noted}
use Rattle.shadow_txn.specs.Held.{held_object, IsFirstAt}
use Rattle.shadow_txn.specs.Replies.{bytes_reply}
use Rattle.shadow_txn.specs.Serving.{Serves, Agree}
use Rattle.shadow_txn.specs.Transaction.{Transaction, holding, noting}
use Rattle.shadow_txn.proofs.ActLemmas.{led-read}
use Rattle.shadow_txn.proofs.HeldLemmas.{at_place, held_object-at, noting-same}
use Rattle.shadow_txn.proofs.ServingLemmas.{sound-set, serves-noting, agree-noting}
use Rattle.shadow_txn.proofs.txn.Txn.read.Goals as goal

-- o stands at the place
place : (g : _) (c : goal.After-self-1 g) → IsFirstAt c.self.inside.held.items c.args.o c.in-Some.i
place g c = subst (λ held. IsFirstAt held c.args.o c.in-Some.i) c.deref.ensures.value c.in-Some.ensures.found

number : (g : _) (c : goal.After-self-1 g) → c.index_mut.result.now.number ≡ c.args.o
number g c = (at_place c.self.inside.held.items c.args.o c.in-Some.i c.index_mut.result.now (place g c) c.index_mut.ensures.value).1

at : (g : _) (c : goal.After-self-1 g) → held_object c.args.o c.args.self.now.held ≡ Some c.index_mut.result.now.object
at g c =
    sym (ap (λ t. held_object c.args.o t.held) c.self.view_is)
    ∙ held_object-at c.self.inside.held.items c.args.o c.in-Some.i c.index_mut.result.now (place g c) c.index_mut.ensures.value

-- the transaction when its fields are open
abbrev open_txn : (g : _) (c : goal.After-self-1 g) → Transaction (PlainObject g.row.H.Denot)
open_txn g c = record {
  session = c.self.inside.session;
  objects = c.self.inside.objects;
  is_open =
      c.self.inside.active;
  number = c.self.inside.number;
  stamp = c.self.inside.stamp;
  held =
      c.self.inside.held.items;
}

-- as before, with the act
whole : (g : _) (c : goal.After-self-1 g)
    → holding (open_txn g c) (slice_set c.self.inside.held.items c.in-Some.i c.read.new.self)
    ≡ noting c.args.o (noted g.H.Annals.tells (command.Read c.args.o c.args.at c.args.len)
    (bytes_reply c.read.result)) c.args.self.now
whole g c =
    let h = c.index_mut.result.now in
    ap (λ k. holding (open_txn g c) (slice_set c.self.inside.held.items c.in-Some.i k)) c.read.ensures.same
    ∙ noting-same (open_txn g c) c.args.o c.in-Some.i h
    (noted g.H.Annals.tells (command.Read h.number c.args.at c.args.len) (bytes_reply c.read.result))
    (place g c) c.index_mut.ensures.value
    ∙ ap (noting c.args.o (noted g.H.Annals.tells (command.Read h.number c.args.at c.args.len) (bytes_reply c.read.result))) c.self.view_is
    ∙ ap (λ n. noting c.args.o (noted g.H.Annals.tells (command.Read n c.args.at c.args.len)
    (bytes_reply c.read.result)) c.args.self.now) (number g c)

pub invariant_of-self : goal.invariant_of-self
invariant_of-self g c =
    let h = c.index_mut.result.now in
    rw c.read.ensures.same
    (sound-set (λ x. g.H.Annals.spare x.annals) (λ x. g.H.Annals.last x.annals)
    (IsLed g.H.Annals.tells g.H.Annals.told g.H.Annals.last) _ (open_txn g c) c.args.o c.in-Some.i h h.object
    (noted g.H.Annals.tells (command.Read h.number c.args.at c.args.len)
    (bytes_reply c.read.result)) c.self.invariant (place g c) c.index_mut.ensures.value refl refl
    (led-read g.H.Annals.tells g.H.Annals.told g.H.Annals.last h.object h.acts h.number c.args.at c.args.len
    c.read.result c.read.ensures.reply))

pub returns-clause-reply : goal.returns-clause-reply
returns-clause-reply g c = rw (at g c) c.read.ensures.reply

pub returns-clause-same : goal.returns-clause-same
returns-clause-same g c = whole g c

pub returns-clause-serves : goal.returns-clause-serves
returns-clause-serves g c = λ shelf s.
    subst (λ t. Serves g.H.Annals.told g.H.Annals.last t shelf) (sym (whole g c))
    (serves-noting g.H.Annals.told g.H.Annals.last c.args.self.now c.args.o _ shelf s)

pub returns-clause-agree : goal.returns-clause-agree
returns-clause-agree g c = λ t fits.
    subst (λ (x : Transaction (PlainObject g.row.H.Denot)). Agree g.H.Annals.tells g.H.Annals.told t x.held)
    (sym (whole g c)) (agree-noting g.H.Annals.tells g.H.Annals.told t c.args.self.now c.args.o _ fits)

pub returns-clause-memory : goal.returns-clause-memory
returns-clause-memory g c = rw (at g c) c.read.ensures.memory

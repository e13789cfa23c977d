-- The object at its place is edited and the act is noted, and nothing else.
use Rattle.std.proofs.Common.{◌≡◌, ap, sym, ◌∙◌, subst, slice_set, Some}
use Rattle.shadow_txn.specs.declared.plain_object.PlainObject.{PlainObject}
use Rattle.shadow_txn.specs.Acts.{IsLed, noted, edit_command}
use Rattle.shadow_txn.specs.Held.{held_object, with_object, IsFirstAt}
use Rattle.shadow_txn.specs.Objects.{edited_object}
use Rattle.shadow_txn.specs.Serving.{Serves, Agree}
use Rattle.shadow_txn.specs.Transaction.{Transaction, holding, noting}
use Rattle.base_laws.proofs.ResultLaws.{if_ok}
use Rattle.eos_ops.specs.Objects.{reply_of}
use Rattle.eos_ops.specs.declared.act.Act.{Act}
use Rattle.eos_ops.specs.declared.reply.Reply.TheVariants as reply
use Rattle.std.specs.Prelude.{List}
use Rattle.shadow_txn.specs.Held.{done_to}
use Rattle.shadow_txn.proofs.ActLemmas.{Changed, changed}
use Rattle.shadow_txn.proofs.HeldLemmas.{at_place, held_object-at, noting-same, noting-object}
use Rattle.shadow_txn.proofs.ServingLemmas.{sound-set, serves-noting, serves-with_object, agree-noting, agree-object}
use Rattle.shadow_txn.proofs.txn.Txn.change.Goals as goal

-- o stands at the place
place : (g : _) (c : goal.After-self-1 g) → IsFirstAt c.self.inside.held.items c.args.o c.in-Some.i
place g c = subst (λ held. IsFirstAt held c.args.o c.in-Some.i) c.deref.ensures.value c.in-Some.ensures.found

number : (g : _) (c : goal.After-self-1 g) → c.index_mut.result.now.number ≡ c.args.o
number g c = (at_place c.self.inside.held.items c.args.o c.in-Some.i c.index_mut.result.now (place g c) c.index_mut.ensures.value).1

at : (g : _) (c : goal.After-self-1 g) → held_object c.args.o c.args.self.now.held ≡ Some c.index_mut.result.now.object
at g c =
    sym (ap (λ t. held_object c.args.o t.held) c.self.view_is)
    ∙ held_object-at c.self.inside.held.items c.args.o c.in-Some.i c.index_mut.result.now (place g c) c.index_mut.ensures.value

-- the transaction when its fields are open
abbrev open_txn : (g : _) (c : goal.After-self-1 g) → Transaction (PlainObject g.row.H.Denot)
open_txn g c = record {
  session = c.self.inside.session;
  objects = c.self.inside.objects;
  is_open =
      c.self.inside.active;
  number = c.self.inside.number;
  stamp = c.self.inside.stamp;
  held =
      c.self.inside.held.items;
}

-- what the object is now
made : (g : _) (c : goal.After-self-1 g) → Changed g.H.Annals.tells g.H.Annals.told g.H.Annals.last c.index_mut.result.now c.change.new.self
made g c =
    changed g.H.Annals.tells g.H.Annals.told g.H.Annals.last c.index_mut.result.now c.change.new.self c.args.edit.now c.change.result
    c.change.ensures.outcome c.change.ensures.done c.change.ensures.refused c.change.ensures.err

-- the transaction with a held object that has another value and acts more
whole : (g : _) (c : goal.After-self-1 g) (x : PlainObject g.row.H.Denot) (acts : List Act) →
    c.change.new.self ≡ done_to c.index_mut.result.now x acts
    → holding (open_txn g c) (slice_set c.self.inside.held.items c.in-Some.i c.change.new.self)
    ≡ noting c.args.o acts (holding c.args.self.now (with_object c.args.o x c.args.self.now.held))
whole g c x acts is =
    ap (λ k. holding (open_txn g c) (slice_set c.self.inside.held.items c.in-Some.i k)) is
    ∙ noting-object (open_txn g c) c.args.o c.in-Some.i c.index_mut.result.now x acts (place g c) c.index_mut.ensures.value
    ∙ ap (λ (t : Transaction (PlainObject g.row.H.Denot)). noting c.args.o acts (holding t (with_object c.args.o x t.held))) c.self.view_is

-- the same object, with acts more
same : (g : _) (c : goal.After-self-1 g) (acts : List Act) →
    c.change.new.self ≡ done_to c.index_mut.result.now c.index_mut.result.now.object acts
    → holding (open_txn g c) (slice_set c.self.inside.held.items c.in-Some.i c.change.new.self) ≡ noting c.args.o acts c.args.self.now
same g c acts is =
    ap (λ k. holding (open_txn g c) (slice_set c.self.inside.held.items c.in-Some.i k)) is
    ∙ noting-same (open_txn g c) c.args.o c.in-Some.i c.index_mut.result.now acts (place g c) c.index_mut.ensures.value
    ∙ ap (noting c.args.o acts) c.self.view_is

pub invariant_of-self : goal.invariant_of-self
invariant_of-self g c =
    let h = c.index_mut.result.now in
    let new = made g c in
    rw new.is
    (sound-set (λ x. g.H.Annals.spare x.annals) (λ x. g.H.Annals.last x.annals)
    (IsLed g.H.Annals.tells g.H.Annals.told g.H.Annals.last) _ (open_txn g c) c.args.o c.in-Some.i h new.object
    new.more
    c.self.invariant (place g c) c.index_mut.ensures.value (ap g.H.Annals.spare new.annals) (ap g.H.Annals.last new.annals) new.led)

pub returns-clause-outcome : goal.returns-clause-outcome
returns-clause-outcome g c = rw (at g c) c.change.ensures.outcome

pub returns-clause-done : goal.returns-clause-done
returns-clause-done g c = λ e.
    let h = c.index_mut.result.now in
    let x = edited_object c.args.edit.now h.object in
    rw (at g c)
    (whole g c x (noted g.H.Annals.tells (edit_command h.number c.args.edit.now) reply.Ok) (c.change.ensures.done e)
    ∙ ap (λ n. noting c.args.o (noted g.H.Annals.tells (edit_command n c.args.edit.now) reply.Ok)
    (holding c.args.self.now (with_object c.args.o x c.args.self.now.held))) (number g c))

pub returns-clause-refused : goal.returns-clause-refused
returns-clause-refused g c =
    let h = c.index_mut.result.now in
    if_ok c.change.result
    (λ outcome is refused.
    same g c (noted g.H.Annals.tells (edit_command h.number c.args.edit.now) (reply_of outcome)) (is refused)
    ∙ ap (λ n. noting c.args.o (noted g.H.Annals.tells (edit_command n c.args.edit.now) (reply_of outcome)) c.args.self.now) (number g c))
    c.change.ensures.refused

pub returns-clause-serves : goal.returns-clause-serves
returns-clause-serves g c = λ shelf s.
    let new = made g c in
    subst (λ t. Serves g.H.Annals.told g.H.Annals.last t shelf) (sym (whole g c new.object new.more new.is))
    (serves-noting g.H.Annals.told g.H.Annals.last _ c.args.o new.more shelf
    (serves-with_object g.H.Annals.told g.H.Annals.last c.args.self.now c.args.o c.index_mut.result.now.object
    new.object shelf (at g c) new.annals s))

pub returns-clause-agree : goal.returns-clause-agree
returns-clause-agree g c = λ t fits.
    let new = made g c in
    subst (λ (x : Transaction (PlainObject g.row.H.Denot)). Agree g.H.Annals.tells g.H.Annals.told t x.held)
    (sym (whole g c new.object new.more new.is))
    (agree-noting g.H.Annals.tells g.H.Annals.told t
    (holding c.args.self.now (with_object c.args.o new.object c.args.self.now.held)) c.args.o new.more
    (agree-object g.H.Annals.tells g.H.Annals.told t c.args.o c.index_mut.result.now.object new.object
    c.args.self.now.held (at g c) new.committed new.annals fits))

pub returns-clause-memory : goal.returns-clause-memory
returns-clause-memory g c = rw (at g c) c.change.ensures.memory

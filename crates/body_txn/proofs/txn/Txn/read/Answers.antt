-- The object at its place is read and the act is noted, and nothing else.
use Rattle.std.proofs.Common.{◌≡◌, ap, subst, slice_set, List, ℕ, IsTrue}
use Rattle.eos_ops.specs.declared.act.Act.{Act}
use Rattle.eos_ops.specs.declared.command.Command.TheVariants as command
use Rattle.object_body.specs.declared.object.Object.{Object}
use Rattle.object_locks.specs.Shelving.{Terms, Suits}
use Rattle.shadow_txn.specs.Acts.{noted}
use Rattle.shadow_txn.specs.Held.{with_object, IsFirstAt}
use Rattle.shadow_txn.specs.Replies.{bytes_reply}
use Rattle.shadow_txn.specs.Transaction.{Transaction, holding, noting}
use Rattle.shadow_txn.proofs.ServingLemmas.{sound-set}
use Rattle.body_txn.specs.Acts.{IsLedBy}
use Rattle.body_txn.specs.Fields.{at_annals, at_body, frame_by, LegalBy}
use Rattle.body_txn.proofs.ActLemmas.{IsReadTold, led-read, read-told, read-form}
use Rattle.body_txn.proofs.WantLemmas.{read-wants}
use Rattle.body_txn.proofs.PlaceLemmas.{IsAt, is-at, at-found, call-held}
use Rattle.body_txn.proofs.ServingLemmas.{goes-on, suits-kept}
use Rattle.body_txn.proofs.txn.Txn.read.Goals as goal

-- o stands at the place
place : (g : _) (c : goal.After-self-1 g) → IsFirstAt c.self.inside.held.items c.args.o c.in-Some.i
place g c = subst (λ held. IsFirstAt held c.args.o c.in-Some.i) c.deref.ensures.value c.in-Some.ensures.found

-- the transaction when its fields are open
abbrev open_txn : (g : _) (c : goal.After-self-1 g) → Transaction (Object g.row.B.Denot g.row.H.Denot)
open_txn g c = record {
  session = c.self.inside.session;
  objects = c.self.inside.objects;
  is_open = c.self.inside.active;
  number = c.self.inside.number;
  stamp = c.self.inside.stamp;
  held = c.self.inside.held.items;
}

-- the held object
at : (g : _) (c : goal.After-self-1 g)
    → IsAt (IsLedBy g.B.P.S.Span.tells g.B.Body.suits (at_body g.B.Body.form) (at_body g.B.Body.told) g.H.Annals.tells
    (at_annals g.H.Annals.told) (at_annals g.H.Annals.last)) c.args.self.now c.args.o c.index_mut.result.now
at g c = is-at _ _ _ _ (open_txn g c) c.args.self.now c.args.o c.in-Some.i c.index_mut.result.now c.self.view_is c.self.invariant
    (place g c) c.index_mut.ensures.value

-- the acts that are noted
abbrev acts : (g : _) (c : goal.After-self-1 g) → ℕ → List Act
acts g c n = noted g.H.Annals.tells (command.Read n c.args.at c.args.len) (bytes_reply c.read_held.result)

-- as before, with the object as the read left it
whole : (g : _) (c : goal.After-self-1 g)
    → holding (open_txn g c) (slice_set c.self.inside.held.items c.in-Some.i c.read_held.new.one)
    ≡ noting c.args.o (acts g c c.args.o) (holding c.args.self.now (with_object c.args.o c.read_held.ensures.now c.args.self.now.held))
whole g c =
    call-held (open_txn g c) c.args.self.now c.args.o c.in-Some.i c.index_mut.result.now c.read_held.new.one c.read_held.ensures.now
    (acts g c) c.self.view_is (place g c) c.index_mut.ensures.value c.read_held.ensures.held

-- what came of it, told
told : (g : _) (c : goal.After-self-1 g) → IsTrue g.B.P.S.Span.tells
    → IsReadTold c.args.at c.args.len (bytes_reply c.read_held.result) (g.B.Body.told c.index_mut.result.now.object.body)
    (g.B.Body.told c.read_held.ensures.now.body)
told g c tell = read-told _ _ _ _ _ _ _ _ _ _ _ _ _ c.read_held.ensures.made.1 tell ((at g c).made.tied tell).working

-- the form stays
form : (g : _) (c : goal.After-self-1 g) → g.B.Body.form c.read_held.ensures.now.body ≡ g.B.Body.form c.index_mut.result.now.object.body
form g c =
    read-form g.B.P.S.Span.tells g.B.Body.suits g.B.Body.may_read g.H.Annals.tells c.args.at c.args.len (bytes_reply c.read_held.result)
    (g.B.Body.form c.index_mut.result.now.object.body) (g.B.Body.form c.read_held.ensures.now.body)
    (g.B.Body.told c.index_mut.result.now.object.body)
    (g.B.Body.told c.read_held.ensures.now.body) (g.B.P.Port.meter c.args.port.now)
    (g.B.P.Port.meter c.read_held.new.port) c.read_held.ensures.made.1

pub invariant_of-self : goal.invariant_of-self
invariant_of-self g c =
    let h = c.index_mut.result.now in
    let made = c.read_held.ensures.made in
    rw c.read_held.ensures.held
    (sound-set (at_annals g.H.Annals.spare) (at_annals g.H.Annals.last) _ _ (open_txn g c) c.args.o c.in-Some.i h c.read_held.ensures.now
    (acts g c h.number) c.self.invariant (place g c) c.index_mut.ensures.value (ap g.H.Annals.spare made.0) (ap g.H.Annals.last made.0)
    (led-read g.B.P.S.Span.tells g.B.Body.suits (at_body g.B.Body.form) (at_body g.B.Body.told) g.H.Annals.tells
    (at_annals g.H.Annals.told) (at_annals g.H.Annals.last) h.object c.read_held.ensures.now h.acts h.number c.args.at c.args.len _
    (ap g.H.Annals.told made.0) (ap g.H.Annals.last made.0) (form g c) (told g c)))

pub returns-clause-read : goal.returns-clause-read
returns-clause-read g c = record {
  was = c.index_mut.result.now.object;
  now = c.read_held.ensures.now;
  found = (at g c).found;
  made = c.read_held.ensures.made;
  held = whole g c;
}

pub returns-clause-right : goal.returns-clause-right
returns-clause-right g c = λ tell. rw (at g c).found (told g c tell).right

pub returns-clause-memory : goal.returns-clause-memory
returns-clause-memory g c = λ quiet is.
    read-wants _ _ _ _ _ _ _ _ _ _ _ _ _ c.read_held.ensures.made.1 quiet (ap bytes_reply is)

-- the terms of the object are kept
suits : (g : _) (c : goal.After-self-1 g) (t : Terms)
    → Suits (frame_by g.B.Body.form) (LegalBy g.B.P.S.Span.tells g.H.Annals.told g.B.Body.told) t c.args.o c.index_mut.result.now.object
    → Suits (frame_by g.B.Body.form) (LegalBy g.B.P.S.Span.tells g.H.Annals.told g.B.Body.told) t c.args.o c.read_held.ensures.now
suits g c t was =
    let made = c.read_held.ensures.made in
    suits-kept g.B.P.S.Span.tells g.B.Body.form g.B.Body.told g.H.Annals.told t c.args.o c.index_mut.result.now.object
    c.read_held.ensures.now
    (ap (λ f. f.numbers) (form g c)) made.0 (λ tell. ap (λ x. x.committed) (told g c tell).same) was

pub returns-clause-goes_on : goal.returns-clause-goes_on
returns-clause-goes_on g c =
    let made = c.read_held.ensures.made in
    goes-on _ _ _ _ c.args.self.now _ c.args.o c.index_mut.result.now.object c.read_held.ensures.now (acts g c c.args.o) (at g c).found
    (ap g.H.Annals.told made.0) (ap g.H.Annals.last made.0) (suits g c) (whole g c)

pub read_held-requires : goal.read_held-requires
read_held-requires g c = record {
  page = at-found _ c.args.self.now c.args.o c.in-Some.i c.index_mut.result.now
      (λ x. (g.B.P.Port.meter c.args.port.now).page ≡ (g.B.Body.form x.body).numbers.page) c.self.view_is
      (subst (λ held. IsFirstAt held c.args.o c.in-Some.i) c.deref.ensures.value c.in-Some.ensures.found)
      c.index_mut.ensures.value c.requires.page;
}

pub returns-clause-tied : goal.returns-clause-tied
returns-clause-tied g c = λ tell. rw (at g c).found ((at g c).made.tied tell)

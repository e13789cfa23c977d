-- The object at its place is edited and the act is noted, and nothing else; or nothing happened.
use Rattle.std.proofs.Common.{◌≡◌, ◌-◌, ◌%◌, ap, subst, slice_set, List, [], ℕ, IsTrue, inl, inr}
use Rattle.eos_ops.specs.declared.act.Act.{Act}
use Rattle.object_body.specs.declared.object.Object.{Object}
use Rattle.shadow_txn.specs.Acts.{edit_command, noted}
use Rattle.shadow_txn.specs.Held.{with_object, IsFirstAt, done_to}
use Rattle.shadow_txn.specs.Replies.{edit_reply}
use Rattle.shadow_txn.specs.Transaction.{Transaction, holding, noting}
use Rattle.shadow_txn.proofs.ServingLemmas.{sound-set}
use Rattle.object_body.specs.Calls.{Stage}
use Rattle.object_body.specs.Places.{IsReady}
use Rattle.superdirectory.specs.Rest.{count}
use Rattle.body_txn.specs.Acts.{IsLedBy}
use Rattle.body_txn.specs.Calls.{IsCallOf, MakesEdit}
use Rattle.body_txn.specs.Fields.{at_annals, at_body, frame_by, LegalBy}
use Rattle.shadow_txn.proofs.ActLemmas.{no_memory}
use Rattle.body_txn.proofs.ActLemmas.{IsEditTold, led-edit, edit-told, edit-numbers}
use Rattle.body_txn.proofs.WantLemmas.{edit-wants}
use Rattle.body_txn.proofs.PlaceLemmas.{IsAt, is-at, at-found, call-held, call-noted, done-none, Turned, turned-not}
use Rattle.body_txn.proofs.ServingLemmas.{goes-on, suits-kept}
use Rattle.body_txn.proofs.txn.Txn.edit.Goals as goal

-- o stands at the place
place : (g : _) (c : goal.After-self-1 g) → IsFirstAt c.self.inside.held.items c.args.o c.in-Some.i
place g c = subst (λ held. IsFirstAt held c.args.o c.in-Some.i) c.deref.ensures.value c.in-Some.ensures.found

-- the transaction when its fields are open
abbrev open_txn : (g : _) (c : goal.After-self-1 g) → Transaction (Object g.row.B.Denot g.row.H.Denot)
open_txn g c = record {
  session = c.self.inside.session;
  objects = c.self.inside.objects;
  is_open = c.self.inside.active;
  number = c.self.inside.number;
  stamp = c.self.inside.stamp;
  held = c.self.inside.held.items;
}

-- the held object
at : (g : _) (c : goal.After-self-1 g)
    → IsAt (IsLedBy g.B.P.S.Span.tells g.B.Body.suits (at_body g.B.Body.form) (at_body g.B.Body.told) g.H.Annals.tells
    (at_annals g.H.Annals.told) (at_annals g.H.Annals.last)) c.args.self.now c.args.o c.index_mut.result.now
at g c = is-at _ _ _ _ (open_txn g c) c.args.self.now c.args.o c.in-Some.i c.index_mut.result.now c.self.view_is c.self.invariant
    (place g c) c.index_mut.ensures.value

-- the acts that are noted
abbrev acts : (g : _) (c : goal.After-self-1 g) → ℕ → List Act
acts g c n = noted g.H.Annals.tells (edit_command n c.args.edit.now) (edit_reply c.edit_held.result)

-- what the body was and what it is, with the spaces
abbrev stage : (g : _) (c : goal.After-self-1 g) → Object g.row.B.Denot g.row.H.Denot → Stage
stage g c x = record {
  form = g.B.Body.form x.body;
  told = g.B.Body.told x.body;
  rest = g.L.Hints.rest c.args.latches.now;
  trace = g.L.Hints.trace c.args.latches.now;
}

abbrev stage_after : (g : _) (c : goal.After-self-1 g) → Object g.row.B.Denot g.row.H.Denot → Stage
stage_after g c x = record {
  form = g.B.Body.form x.body;
  told = g.B.Body.told x.body;
  rest = g.L.Hints.rest c.edit_held.new.latches;
  trace = g.L.Hints.trace c.edit_held.new.latches;
}

-- an edit that was made of the held object
abbrev Made : (g : _) (c : goal.After-self-1 g) → Type 0
Made g c =
    IsCallOf (λ x y. (y.annals ≡ x.annals)
    × MakesEdit g.B.P.S.Span.tells g.B.Body.suits g.B.Body.laid g.B.Body.may_refuse g.B.Body.may_write c.own_space-start.result
    c.args.edit.now (edit_reply c.edit_held.result)
    (stage g c x) (stage_after g c y) (g.B.P.Port.meter c.args.port.now) (g.B.P.Port.meter c.edit_held.new.port))
    (acts g c c.index_mut.result.now.number) c.index_mut.result.now c.edit_held.new.one

-- what came of it, told
told : (g : _) (c : goal.After-self-1 g) (made : Made g c) → IsTrue g.B.P.S.Span.tells
    → IsEditTold c.args.edit.now (edit_reply c.edit_held.result) (g.B.Body.told c.index_mut.result.now.object.body)
    (g.B.Body.told made.now.body)
told g c made tell =
    edit-told _ _ _ _ _ _ _ _ (stage g c c.index_mut.result.now.object) (stage_after g c made.now) _ _ made.made.1 tell
    ((at g c).made.tied tell).working

turned-by : (g : _) (c : goal.After-self-1 g) → Made g c
    → Turned (at_annals g.H.Annals.told) (at_annals g.H.Annals.last) (at_annals g.H.Annals.spare) (frame_by g.B.Body.form)
    (LegalBy g.B.P.S.Span.tells g.H.Annals.told g.B.Body.told)
    (IsLedBy g.B.P.S.Span.tells g.B.Body.suits (at_body g.B.Body.form) (at_body g.B.Body.told) g.H.Annals.tells (at_annals g.H.Annals.told)
    (at_annals g.H.Annals.last)) c.index_mut.result.now c.edit_held.new.one
turned-by g c made =
    let h = c.index_mut.result.now in
    let same = made.made.0 in
    let body = made.made.1 in
    record {
      now = made.now;
      more = acts g c;
      is = made.held;
      ends = ap g.H.Annals.told same;
      stamp = ap g.H.Annals.last same;
      room = ap g.H.Annals.spare same;
      made = led-edit g.B.P.S.Span.tells g.B.Body.suits (at_body g.B.Body.form) (at_body g.B.Body.told) g.H.Annals.tells
          (at_annals g.H.Annals.told) (at_annals g.H.Annals.last) h.object made.now h.acts h.number c.args.edit.now _
          (ap g.H.Annals.told same) (ap g.H.Annals.last same) body.body.tied (told g c made) (at g c).made;
      suits = λ t o was. suits-kept g.B.P.S.Span.tells g.B.Body.form g.B.Body.told g.H.Annals.told t o h.object made.now
          (edit-numbers _ _ _ _ _ _ _ _ (stage g c h.object) (stage_after g c made.now) _ _ body) same
          (λ tell. (told g c made tell).committed) was;
    }

turned : (g : _) (c : goal.After-self-1 g)
    → Turned (at_annals g.H.Annals.told) (at_annals g.H.Annals.last) (at_annals g.H.Annals.spare) (frame_by g.B.Body.form)
    (LegalBy g.B.P.S.Span.tells g.H.Annals.told g.B.Body.told)
    (IsLedBy g.B.P.S.Span.tells g.B.Body.suits (at_body g.B.Body.form) (at_body g.B.Body.told) g.H.Annals.tells (at_annals g.H.Annals.told)
    (at_annals g.H.Annals.last)) c.index_mut.result.now c.edit_held.new.one
turned g c =
    elim c.edit_held.ensures [
      | inl none ↦ turned-not _ _ _ _ _ _ _ _ (at g c).made none.1.1
      | inr made ↦ turned-by g c made
    ]

-- as before, with the object as the edit left it
whole : (g : _) (c : goal.After-self-1 g) (y : Object g.row.B.Denot g.row.H.Denot) (more : ℕ → List Act)
    → c.edit_held.new.one ≡ done_to c.index_mut.result.now y (more c.index_mut.result.now.number)
    → holding (open_txn g c) (slice_set c.self.inside.held.items c.in-Some.i c.edit_held.new.one)
    ≡ noting c.args.o (more c.args.o) (holding c.args.self.now (with_object c.args.o y c.args.self.now.held))
whole g c y more is =
    call-held (open_txn g c) c.args.self.now c.args.o c.in-Some.i c.index_mut.result.now c.edit_held.new.one y more c.self.view_is
    (place g c) c.index_mut.ensures.value is

pub invariant_of-self : goal.invariant_of-self
invariant_of-self g c =
    let h = c.index_mut.result.now in
    let new = turned g c in
    rw new.is
    (sound-set (at_annals g.H.Annals.spare) (at_annals g.H.Annals.last) _ _ (open_txn g c) c.args.o c.in-Some.i h new.now
    (new.more h.number)
    c.self.invariant (place g c) c.index_mut.ensures.value new.room new.stamp (λ led. new.made))

-- the session's own space
start : (g : _) (c : goal.After-self-1 g)
    → c.own_space-start.result ≡ (c.args.self.now.session - 1) % count (g.L.Hints.rest c.args.latches.now)
start g c = let session = ap (λ (t : Transaction (Object g.row.B.Denot g.row.H.Denot)). t.session) c.self.view_is in cc

pub returns-clause-edit : goal.returns-clause-edit
returns-clause-edit g c =
    elim c.edit_held.ensures [
      | inl none ↦ inl (
        none.0,
        (
          none.1.0,
          call-noted (open_txn g c) c.args.self.now c.args.o c.in-Some.i c.index_mut.result.now c.edit_held.new.one
              (λ n. []) c.self.view_is (place g c) c.index_mut.ensures.value (done-none _ _ none.1.1),
          none.1.2,
          none.1.3,
        ),
      )
      | inr made ↦ inr (record {
        was = c.index_mut.result.now.object;
        now = made.now;
        found = (at g c).found;
        made = (
          made.made.0,
          subst
              (λ n. MakesEdit g.B.P.S.Span.tells g.B.Body.suits g.B.Body.laid g.B.Body.may_refuse g.B.Body.may_write n c.args.edit.now
              (edit_reply c.edit_held.result) (stage g c c.index_mut.result.now.object) (stage_after g c made.now)
              (g.B.P.Port.meter c.args.port.now) (g.B.P.Port.meter c.edit_held.new.port)) (start g c) made.made.1,
        );
        held = whole g c made.now (acts g c) made.held;
      })
    ]

pub returns-clause-right : goal.returns-clause-right
returns-clause-right g c = λ tell.
    elim c.edit_held.ensures [
      | inl none ↦ λ own. absurd (no_memory _ own (ap edit_reply none.1.0))
      | inr made ↦ rw (at g c).found (told g c made tell).right
    ]

pub returns-clause-memory : goal.returns-clause-memory
returns-clause-memory g c = λ quiet is.
    elim c.edit_held.ensures [
      | inl none ↦ let never = none.0 in absurd cc
      | inr made ↦ edit-wants _ _ _ _ _ _ _ _ (stage g c c.index_mut.result.now.object) (stage_after g c made.now) _ _ made.made.1
          (ap edit_reply is)
    ]

pub returns-clause-goes_on : goal.returns-clause-goes_on
returns-clause-goes_on g c =
    let new = turned g c in
    goes-on _ _ _ _ c.args.self.now _ c.args.o c.index_mut.result.now.object new.now (new.more c.args.o) (at g c).found
    new.ends new.stamp (λ t was. new.suits t c.args.o was) (whole g c new.now new.more new.is)

pub edit_held-requires-clause-page : goal.edit_held-requires-clause-page
edit_held-requires-clause-page g c =
    at-found _ c.args.self.now c.args.o c.in-Some.i c.index_mut.result.now
    (λ x. (g.B.P.Port.meter c.args.port.now).page ≡ (g.B.Body.form x.body).numbers.page)
    c.self.view_is (subst (λ held. IsFirstAt held c.args.o c.in-Some.i) c.deref.ensures.value c.in-Some.ensures.found)
    c.index_mut.ensures.value c.requires.page

pub edit_held-requires-clause-ready : goal.edit_held-requires-clause-ready
edit_held-requires-clause-ready g c =
    at-found _ c.args.self.now c.args.o c.in-Some.i c.index_mut.result.now
    (λ x. IsReady (g.B.Body.form x.body).numbers (g.L.Hints.rest c.args.latches.now))
    c.self.view_is (subst (λ held. IsFirstAt held c.args.o c.in-Some.i) c.deref.ensures.value c.in-Some.ensures.found)
    c.index_mut.ensures.value c.requires.ready

pub returns-clause-tied : goal.returns-clause-tied
returns-clause-tied g c = λ tell. rw (at g c).found ((at g c).made.tied tell)

-- A hold that is refused, an answer, and an object that is put back.
use Rattle.std.proofs.Common.{◌≡◌, ◌-◌, ◌%◌, None, Err, is_some, sym, subst, ap, ◌∙◌}
use Rattle.std.proofs.lemmas.Bool.{false≢true}
use Rattle.base_laws.proofs.OptionLaws.{none-of}
use Rattle.shadow_txn.specs.Held.{held_object}
use Rattle.world.specs.Session.{hold_reply}
use Rattle.superdirectory.specs.Rest.{count}
use Rattle.superdirectory.specs.Solo.{rest_of}
use Rattle.body_world.specs.Served.{IsAnswer, IsWorked, MakesCommand, works_of}
use Rattle.body_world.specs.Session.{shown_by}
use Rattle.body_world.proofs.Holding.{has-it, ready-from, serves-session, memory-is}
use Rattle.body_world.proofs.Made.{made}
use Rattle.body_world.proofs.Serving.{answer-kept, answer-back, sound-after, store-after, rests-after}
use Rattle.body_world.proofs.Storing.{store-ready, in-store}
use Rattle.body_world.proofs.Taking.{IsRefused, answer-refused}
use Rattle.body_world.proofs.Terms.{session-terms}
use Rattle.body_world.proofs.serve.serve.Goals as goal

pub hold-requires-clause-terms : goal.hold-requires-clause-terms
hold-requires-clause-terms g c =
    let terms = session-terms g.P.S.Span.tells g.B.Body.form g.B.Body.told c.requires.store.0 c.args.objects.now c.args.txn.now
    (works_of c.args.spaces.now (g.P.Port.meter c.args.port.now)) c.requires.sound c.requires.store.1 in
    (terms.0, terms.1)

pub returns-in-Err : goal.returns-in-Err
returns-in-Err g c =
    let away : held_object c.args.o c.args.txn.now.held ≡ None =
    none-of (held_object c.args.o c.args.txn.now.held) (λ some. let wrong = c.in-Err.ensures.hold.again.1 some in absurd cc) in
    let refused : IsRefused c.in-Err.fail c.args.o c.args.objects.now c.args.txn.now = record {
      away = away;
      no_object = (
        λ e. (c.in-Err.ensures.cause.no_object.0 (ap Err e)).1,
        λ past. let fails = c.in-Err.ensures.cause.no_object.1 (away, past) in cc,
      );
      full = (
        λ e. let why = c.in-Err.ensures.cause.full.0 (ap Err e) in
            (why.1, why.2),
        λ many. let fails = c.in-Err.ensures.cause.full.1 (away, many.0, many.1) in cc,
      );
      busy = λ e. c.in-Err.ensures.cause.busy.0 (ap Err e);
      plenty = λ e. false≢true (c.in-Err.ensures.cause.memory (ap Err e));
    } in
    let start = (c.args.txn.now.session - 1) % count (rest_of c.args.spaces.now) in
    let works = works_of c.args.spaces.now (g.P.Port.meter c.args.port.now) in
    let Makes = MakesCommand g.P.S.Span.tells g.B.Body.suits g.B.Body.laid g.B.Body.may_refuse g.B.Body.may_write g.B.Body.may_read
    start c.args.command in
    subst (λ r. IsAnswer g.P.S.Span.tells g.B.Body.suits (shown_by g.B.Body.form g.B.Body.told) (Makes r)
    c.args.command c.args.o r c.args.objects.now c.args.txn.now works c.hold.new.shelf c.hold.new.self works) (sym c.refusal.ensures)
    (subst (λ t. IsAnswer g.P.S.Span.tells g.B.Body.suits (shown_by g.B.Body.form g.B.Body.told) (Makes (hold_reply c.in-Err.fail))
    c.args.command c.args.o (hold_reply c.in-Err.fail) c.args.objects.now c.args.txn.now works c.hold.new.shelf t works)
    (sym c.in-Err.ensures.hold.err)
    (answer-refused g.P.S.Span.tells g.B.Body.suits g.B.Body.form g.B.Body.told (Makes (hold_reply c.in-Err.fail)) c.args.command
    c.args.o c.in-Err.fail c.args.objects.now c.hold.new.shelf c.args.txn.now works c.requires.sound refused c.in-Err.ensures.hold.left))

pub answer-reply-requires-clause-held : goal.answer-reply-requires-clause-held
answer-reply-requires-clause-held g c =
    let has = has-it g.B.Body.form g.B.Body.told c.args.o _ _ c.in-Ok.took c.args.objects.now c.hold.new.shelf c.args.txn.now
    c.hold.new.self
    c.requires.sound c.in-Ok.ensures.hold c.in-Ok.ensures.cause in
    let ready = ready-from (shown_by g.B.Body.form g.B.Body.told) c.args.o c.in-Ok.took c.args.objects.now c.hold.new.shelf c.args.txn.now
    c.hold.new.self c.requires.sound c.requires.open has in
    ap is_some ready.1.found

pub answer-reply-requires-clause-store : goal.answer-reply-requires-clause-store
answer-reply-requires-clause-store g c =
    let has = has-it g.B.Body.form g.B.Body.told c.args.o _ _ c.in-Ok.took c.args.objects.now c.hold.new.shelf c.args.txn.now
    c.hold.new.self
    c.requires.sound c.in-Ok.ensures.hold c.in-Ok.ensures.cause in
    let ready = ready-from (shown_by g.B.Body.form g.B.Body.told) c.args.o c.in-Ok.took c.args.objects.now c.hold.new.shelf c.args.txn.now
    c.hold.new.self c.requires.sound c.requires.open has in
    in-store (shown_by g.B.Body.form g.B.Body.told) c.requires.store.0 c.args.o ready.0 c.hold.new.shelf c.hold.new.self _
    (store-ready (shown_by g.B.Body.form g.B.Body.told) c.requires.store.0 c.args.o ready.0 c.args.objects.now c.hold.new.shelf
    c.args.txn.now c.hold.new.self _ c.requires.store.1 ready.1) ready.1.found

pub unhold-requires-clause-held : goal.unhold-requires-clause-held
unhold-requires-clause-held g c =
    let has = has-it g.B.Body.form g.B.Body.told c.args.o _ _ c.in-Ok.took c.args.objects.now c.hold.new.shelf c.args.txn.now
    c.hold.new.self
    c.requires.sound c.in-Ok.ensures.hold c.in-Ok.ensures.cause in
    let what = made g.P.S.Span.tells g.B.Body.suits g.B.Body.laid g.B.Body.may_refuse g.B.Body.may_write g.B.Body.may_read _ c.args.command
    c.answer-reply.result (shown_by g.B.Body.form g.B.Body.told c.answer-reply.ensures.was)
    (shown_by g.B.Body.form g.B.Body.told c.answer-reply.ensures.now) _ _ c.answer-reply.ensures.makes in
    rests-after _ _ (shown_by g.B.Body.form g.B.Body.told) _ c.args.command c.args.o c.answer-reply.result c.in-Ok.took
    c.args.objects.now c.hold.new.shelf c.args.txn.now c.hold.new.self c.answer-reply.new.txn _ _ c.requires.sound c.requires.open has
    c.if-not-took.false (memory-is c.answer-reply.result (sym c.is_memory.ensures ∙ c.if-not-is_memory.false)) c.answer-reply.ensures what

pub unhold-requires-clause-serves : goal.unhold-requires-clause-serves
unhold-requires-clause-serves g c =
    let has = has-it g.B.Body.form g.B.Body.told c.args.o _ _ c.in-Ok.took c.args.objects.now c.hold.new.shelf c.args.txn.now
    c.hold.new.self
    c.requires.sound c.in-Ok.ensures.hold c.in-Ok.ensures.cause in
    let sound = sound-after _ _ (shown_by g.B.Body.form g.B.Body.told) _ c.args.command c.args.o c.answer-reply.result c.in-Ok.took
    c.args.objects.now c.hold.new.shelf c.args.txn.now c.hold.new.self c.answer-reply.new.txn c.requires.sound c.requires.open has
    c.answer-reply.ensures in
    serves-session _ c.hold.new.shelf c.answer-reply.new.txn sound

pub unhold-requires-clause-terms : goal.unhold-requires-clause-terms
unhold-requires-clause-terms g c =
    let has = has-it g.B.Body.form g.B.Body.told c.args.o _ _ c.in-Ok.took c.args.objects.now c.hold.new.shelf c.args.txn.now
    c.hold.new.self
    c.requires.sound c.in-Ok.ensures.hold c.in-Ok.ensures.cause in
    let sound = sound-after _ _ (shown_by g.B.Body.form g.B.Body.told) _ c.args.command c.args.o c.answer-reply.result c.in-Ok.took
    c.args.objects.now c.hold.new.shelf c.args.txn.now c.hold.new.self c.answer-reply.new.txn c.requires.sound c.requires.open has
    c.answer-reply.ensures in
    let what = made g.P.S.Span.tells g.B.Body.suits g.B.Body.laid g.B.Body.may_refuse g.B.Body.may_write g.B.Body.may_read _ c.args.command
    c.answer-reply.result (shown_by g.B.Body.form g.B.Body.told c.answer-reply.ensures.was)
    (shown_by g.B.Body.form g.B.Body.told c.answer-reply.ensures.now) _ _ c.answer-reply.ensures.makes in
    session-terms _ _ _ c.requires.store.0 c.hold.new.shelf c.answer-reply.new.txn _ sound
    (store-after _ _ (shown_by g.B.Body.form g.B.Body.told) _ c.requires.store.0 c.args.command c.args.o c.answer-reply.result c.in-Ok.took
    c.args.objects.now c.hold.new.shelf c.args.txn.now c.hold.new.self c.answer-reply.new.txn
    (works_of c.args.spaces.now (g.P.Port.meter c.args.port.now)) _ _ c.requires.sound c.requires.open has c.requires.store.1
    c.answer-reply.ensures what)

pub returns : goal.returns
returns g c =
    let has = has-it g.B.Body.form g.B.Body.told c.args.o _ _ c.in-Ok.took c.args.objects.now c.hold.new.shelf c.args.txn.now
    c.hold.new.self c.requires.sound c.in-Ok.ensures.hold c.in-Ok.ensures.cause in
    let ready = ready-from (shown_by g.B.Body.form g.B.Body.told) c.args.o c.in-Ok.took c.args.objects.now c.hold.new.shelf c.args.txn.now
    c.hold.new.self c.requires.sound c.requires.open has in
    let worked = subst (λ k. IsWorked g.P.S.Span.tells g.B.Body.suits (shown_by g.B.Body.form g.B.Body.told)
    (λ x y. MakesCommand g.P.S.Span.tells g.B.Body.suits g.B.Body.laid g.B.Body.may_refuse g.B.Body.may_write g.B.Body.may_read
    ((k - 1) % count (rest_of c.args.spaces.now)) c.args.command c.answer-reply.result x y
    (works_of c.args.spaces.now (g.P.Port.meter c.args.port.now))
    (works_of c.answer-reply.new.spaces (g.P.Port.meter c.answer-reply.new.port)))
    c.args.command c.args.o c.answer-reply.result c.hold.new.self c.answer-reply.new.txn) ready.1.session c.answer-reply.ensures in
    answer-back _ _ (shown_by g.B.Body.form g.B.Body.told) (MakesCommand g.P.S.Span.tells g.B.Body.suits g.B.Body.laid g.B.Body.may_refuse
    g.B.Body.may_write g.B.Body.may_read ((c.args.txn.now.session - 1) % count (rest_of c.args.spaces.now)) c.args.command
    c.answer-reply.result)
    c.args.command c.args.o c.answer-reply.result c.in-Ok.took
    c.args.objects.now c.hold.new.shelf c.unhold.new.shelf c.args.txn.now c.hold.new.self c.answer-reply.new.txn c.unhold.new.self _ _
    c.requires.sound c.requires.open has c.if-not-took.false
    (memory-is c.answer-reply.result (sym c.is_memory.ensures ∙ c.if-not-is_memory.false)) worked c.unhold.ensures.txn c.unhold.ensures.put

pub returns-then-not-is_memory : goal.returns-then-not-is_memory
returns-then-not-is_memory g c =
    let has = has-it g.B.Body.form g.B.Body.told c.args.o _ _ c.in-Ok.took c.args.objects.now c.hold.new.shelf c.args.txn.now
    c.hold.new.self c.requires.sound c.in-Ok.ensures.hold c.in-Ok.ensures.cause in
    let ready = ready-from (shown_by g.B.Body.form g.B.Body.told) c.args.o c.in-Ok.took c.args.objects.now c.hold.new.shelf c.args.txn.now
    c.hold.new.self c.requires.sound c.requires.open has in
    let worked = subst (λ k. IsWorked g.P.S.Span.tells g.B.Body.suits (shown_by g.B.Body.form g.B.Body.told)
    (λ x y. MakesCommand g.P.S.Span.tells g.B.Body.suits g.B.Body.laid g.B.Body.may_refuse g.B.Body.may_write g.B.Body.may_read
    ((k - 1) % count (rest_of c.args.spaces.now)) c.args.command c.answer-reply.result x y
    (works_of c.args.spaces.now (g.P.Port.meter c.args.port.now))
    (works_of c.answer-reply.new.spaces (g.P.Port.meter c.answer-reply.new.port)))
    c.args.command c.args.o c.answer-reply.result c.hold.new.self c.answer-reply.new.txn) ready.1.session c.answer-reply.ensures in
    answer-kept _ _ (shown_by g.B.Body.form g.B.Body.told) (MakesCommand g.P.S.Span.tells g.B.Body.suits g.B.Body.laid g.B.Body.may_refuse
    g.B.Body.may_write g.B.Body.may_read ((c.args.txn.now.session - 1) % count (rest_of c.args.spaces.now)) c.args.command
    c.answer-reply.result)
    c.args.command c.args.o c.answer-reply.result c.in-Ok.took
    c.args.objects.now c.hold.new.shelf c.args.txn.now c.hold.new.self c.answer-reply.new.txn _ _ c.requires.sound c.requires.open has
    (λ yes. absurd (false≢true (sym (sym c.is_memory.ensures ∙ c.if-not-is_memory.true) ∙ yes))) worked

pub returns-then-not-took : goal.returns-then-not-took
returns-then-not-took g c =
    let has = has-it g.B.Body.form g.B.Body.told c.args.o _ _ c.in-Ok.took c.args.objects.now c.hold.new.shelf c.args.txn.now
    c.hold.new.self c.requires.sound c.in-Ok.ensures.hold c.in-Ok.ensures.cause in
    let ready = ready-from (shown_by g.B.Body.form g.B.Body.told) c.args.o c.in-Ok.took c.args.objects.now c.hold.new.shelf c.args.txn.now
    c.hold.new.self c.requires.sound c.requires.open has in
    let worked = subst (λ k. IsWorked g.P.S.Span.tells g.B.Body.suits (shown_by g.B.Body.form g.B.Body.told)
    (λ x y. MakesCommand g.P.S.Span.tells g.B.Body.suits g.B.Body.laid g.B.Body.may_refuse g.B.Body.may_write g.B.Body.may_read
    ((k - 1) % count (rest_of c.args.spaces.now)) c.args.command c.answer-reply.result x y
    (works_of c.args.spaces.now (g.P.Port.meter c.args.port.now))
    (works_of c.answer-reply.new.spaces (g.P.Port.meter c.answer-reply.new.port)))
    c.args.command c.args.o c.answer-reply.result c.hold.new.self c.answer-reply.new.txn) ready.1.session c.answer-reply.ensures in
    answer-kept _ _ (shown_by g.B.Body.form g.B.Body.told) (MakesCommand g.P.S.Span.tells g.B.Body.suits g.B.Body.laid g.B.Body.may_refuse
    g.B.Body.may_write g.B.Body.may_read ((c.args.txn.now.session - 1) % count (rest_of c.args.spaces.now)) c.args.command
    c.answer-reply.result)
    c.args.command c.args.o c.answer-reply.result c.in-Ok.took
    c.args.objects.now c.hold.new.shelf c.args.txn.now c.hold.new.self c.answer-reply.new.txn _ _ c.requires.sound c.requires.open has
    (λ yes. c.if-not-took.true) worked

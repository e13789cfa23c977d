-- A hold that is refused, an answer, and an object that is put back.
use Rattle.std.proofs.Common.{◌≡◌, [], Some, None, Err, is_some, refl, sym, subst, ap, ◌∙◌}
use Rattle.std.specs.Prelude.{IfSome}
use Rattle.std.proofs.lemmas.Bool.{false≢true}
use Rattle.base_laws.proofs.OptionLaws.{none-of}
use Rattle.object_locks.specs.Shelving.{IsPut}
use Rattle.object_locks.specs.Solo.{solo_shelving}
use Rattle.shadow_txn.specs.Held.{held_object, without_held}
use Rattle.shadow_txn.specs.Transaction.{holding}
use Rattle.world.specs.Served.{IsAnswer}
use Rattle.world.specs.Session.{Session, hold_reply}
use Rattle.world.proofs.Serving.{HasIt, has-it, ready-from, answer-served, answer-memory_new, rests-new}
use Rattle.world.proofs.Taking.{IsRefused, answer-refused}
use Rattle.world.proofs.serve.serve.Goals as goal

pub hold-requires-clause-terms : goal.hold-requires-clause-terms
hold-requires-clause-terms c = (record { frame = []; opened = [] }, λ o value home. record { framed = refl; history = tt })

pub returns-in-Err : goal.returns-in-Err
returns-in-Err c =
    let away : held_object c.args.o c.args.txn.now.held ≡ None =
    none-of (held_object c.args.o c.args.txn.now.held) (λ some. false≢true (c.in-Err.ensures.held some).0) in
    let refused : IsRefused c.in-Err.fail c.args.o c.args.objects.now c.args.txn.now = record {
      away = away;
      no_object = (λ e. (c.in-Err.ensures.no_object.0 (ap Err e)).1, λ past. let fails = c.in-Err.ensures.no_object.1 (away, past) in cc);
      full = (
        λ e. let why = c.in-Err.ensures.full.0 (ap Err e) in
            (why.1, why.2),
        λ many. let fails = c.in-Err.ensures.full.1 (away, many.0, many.1) in cc,
      );
      busy = λ e. c.in-Err.ensures.busy.0 (ap Err e);
      plenty = λ e. false≢true (c.in-Err.ensures.memory (ap Err e));
    } in
    subst (λ r. IsAnswer c.args.command c.args.o r c.args.objects.now c.args.txn.now c.hold.new.shelf
    c.hold.new.self) (sym c.refusal.ensures)
    (subst (λ t. IsAnswer c.args.command c.args.o (hold_reply c.in-Err.fail) c.args.objects.now c.args.txn.now
    c.hold.new.shelf t) (sym c.in-Err.ensures.err)
    (answer-refused c.args.command c.args.o c.in-Err.fail c.args.objects.now c.hold.new.shelf c.args.txn.now
    c.requires.sound refused c.in-Err.ensures.left))

pub answer-requires-clause-held : goal.answer-requires-clause-held
answer-requires-clause-held c =
    let has : HasIt c.args.o c.args.objects.now c.args.txn.now c.hold.new.shelf c.hold.new.self =
    has-it c.args.o _ c.args.objects.now c.hold.new.shelf c.args.txn.now c.hold.new.self c.requires.sound
    (λ held. let same = c.hold.ensures.held held in
    (same.1, same.2)) c.in_default.ensures.ok (λ why. let full = c.hold.ensures.full.1 why in absurd cc) in
    let ready = ready-from c.args.o c.args.objects.now c.hold.new.shelf c.args.txn.now c.hold.new.self
    c.requires.sound c.requires.open has in
    ap is_some ready.1.found

pub unhold-requires-clause-held : goal.unhold-requires-clause-held
unhold-requires-clause-held c =
    let has : HasIt c.args.o c.args.objects.now c.args.txn.now c.hold.new.shelf c.hold.new.self =
    has-it c.args.o _ c.args.objects.now c.hold.new.shelf c.args.txn.now c.hold.new.self c.requires.sound
    (λ held. let same = c.hold.ensures.held held in
    (same.1, same.2)) c.in_default.ensures.ok (λ why. let full = c.hold.ensures.full.1 why in absurd cc) in
    let new = rests-new c.args.o c.args.objects.now c.hold.new.shelf c.args.txn.now c.hold.new.self has (sym c.if-was_held.ensures) in
    let found : held_object c.args.o c.answer.new.txn.held ≡ Some new.0 =
    ap (λ (t : Session). held_object c.args.o t.held) c.in-Err-2.ensures.err ∙ new.1 in
    rw found new.2

pub unhold-requires-clause-terms : goal.unhold-requires-clause-terms
unhold-requires-clause-terms c = (record { frame = []; opened = [] }, (λ o value home. record { framed = refl; history = tt }), refl)

pub returns-in-Ok : goal.returns-in-Ok
returns-in-Ok c =
    let has : HasIt c.args.o c.args.objects.now c.args.txn.now c.hold.new.shelf c.hold.new.self =
    has-it c.args.o _ c.args.objects.now c.hold.new.shelf c.args.txn.now c.hold.new.self c.requires.sound
    (λ held. let same = c.hold.ensures.held held in
    (same.1, same.2)) c.in_default.ensures.ok (λ why. let full = c.hold.ensures.full.1 why in absurd cc) in
    answer-served c.args.command c.args.o c.in-Ok.reply c.args.objects.now c.hold.new.shelf c.args.txn.now
    c.hold.new.self c.answer.new.txn c.requires.sound c.requires.open has
    c.in-Ok.ensures.reply c.in-Ok.ensures.ok

pub returns-in-Err-2 : goal.returns-in-Err-2
returns-in-Err-2 c =
    let has : HasIt c.args.o c.args.objects.now c.args.txn.now c.hold.new.shelf c.hold.new.self =
    has-it c.args.o _ c.args.objects.now c.hold.new.shelf c.args.txn.now c.hold.new.self c.requires.sound
    (λ held. let same = c.hold.ensures.held held in
    (same.1, same.2)) c.in_default.ensures.ok (λ why. let full = c.hold.ensures.full.1 why in absurd cc) in
    answer-memory_new c.args.command c.args.o c.args.objects.now c.hold.new.shelf c.unhold.new.shelf c.args.txn.now
    c.hold.new.self c.unhold.new.self c.requires.sound c.requires.open has
    c.in-Err-2.ensures.memory (sym c.if-was_held.ensures)
    (subst (λ (t : Session). c.unhold.new.self ≡ holding t (without_held c.args.o t.held)) c.in-Err-2.ensures.err c.unhold.ensures.txn)
    (subst (λ (t : Session). IfSome (held_object c.args.o t.held)
    (λ y. IsPut None c.args.o y (solo_shelving c.hold.new.shelf)
    (solo_shelving c.unhold.new.shelf))) c.in-Err-2.ensures.err c.unhold.ensures.put)

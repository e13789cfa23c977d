-- A command that only looks leaves the object alone.
use Rattle.std.proofs.Common.{◌≡◌, ◌⊎◌, inl, inr, refl, sym, subst}
use Rattle.eos_ops.specs.declared.command.Command.{Command}
use Rattle.eos_ops.specs.declared.command.Command.TheVariants.{Begin, Commit, Abort, Status}
use Rattle.eos_ops.specs.declared.plain.Plain.{Plain}
use Rattle.eos_ops.specs.Objects.{after_in}
use Rattle.shadow_txn.specs.Replies.{working_in}
use Rattle.world.specs.Session.{IsWorked}
use Rattle.world.proofs.Working.{worked-same, on_ok-from}
use Rattle.world.proofs.answer.answer.Goals as goal

pub returns-in-Length-clause-ok : goal.returns-in-Length-clause-ok
unfolding after_in
returns-in-Length-clause-ok c =
    let looks : after_in c.args.command (working_in c.args.o c.args.txn.now.held)
    ≡ working_in c.args.o c.args.txn.now.held = rw c.in-Length.is refl in
    on_ok-from c.length_answer.result (λ reply is.
    subst (λ t. IsWorked (after_in c.args.command (working_in c.args.o c.args.txn.now.held)) c.args.o c.args.txn.now
    t) (sym c.length_answer.ensures.same)
    (subst (λ x. IsWorked x c.args.o c.args.txn.now c.args.txn.now) (sym looks) (worked-same c.args.o c.args.txn.now c.requires.held)))

pub returns-in-Read-clause-ok : goal.returns-in-Read-clause-ok
unfolding after_in
returns-in-Read-clause-ok c =
    let looks : after_in c.args.command (working_in c.args.o c.args.txn.now.held)
    ≡ working_in c.args.o c.args.txn.now.held = rw c.in-Read.is refl in
    on_ok-from c.read_answer.result (λ reply is.
    subst (λ t. IsWorked (after_in c.args.command (working_in c.args.o c.args.txn.now.held)) c.args.o c.args.txn.now
    t) (sym c.read_answer.ensures.same)
    (subst (λ x. IsWorked x c.args.o c.args.txn.now c.args.txn.now) (sym looks) (worked-same c.args.o c.args.txn.now c.requires.held)))

-- a command on no object changes none
looks : (command : Command) (x : Plain) → (command ≡ Begin)
    ⊎ ((command ≡ Commit) ⊎ ((command ≡ Abort) ⊎ (command ≡ Status))) → after_in command x ≡ x
unfolding after_in
looks command x (inl begin) = rw begin refl
looks command x (inr (inl commit)) = rw commit refl
looks command x (inr (inr (inl abort))) = rw abort refl
looks command x (inr (inr (inr status))) = rw status refl

pub returns-in-Begin-clause-ok : goal.returns-in-Begin-clause-ok
returns-in-Begin-clause-ok c =
    subst (λ x. IsWorked x c.args.o c.args.txn.now c.args.txn.now)
    (sym (looks c.args.command (working_in c.args.o c.args.txn.now.held) c.in-Begin.is))
    (worked-same c.args.o c.args.txn.now c.requires.held)

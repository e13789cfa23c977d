-- A held object that an edit leaves alone, and one that it changes.
use Rattle.std.proofs.Common.{◌≡◌, ℕ, true, false, Ok, Err, Result, IsSome, refl, ap, sym, ◌∙◌, subst}
use Rattle.std.specs.Prelude.{OnOk, IsErr, ◌↔◌}
use Rattle.std.specs.Option.{option_map_or}
use Rattle.std.proofs.lemmas.Bool.{false≢true}
use Rattle.base_laws.proofs.OptionLaws.{some-if}
use Rattle.eos_ops.specs.declared.edit.Edit.{Edit}
use Rattle.eos_ops.specs.declared.outcome.Outcome.TheVariants.{Done}
use Rattle.eos_ops.specs.declared.outcome.Outcome.TheVariants as outcome
use Rattle.eos_ops.specs.declared.plain.Plain.TheVariants.{Absent}
use Rattle.eos_ops.specs.declared.reply.Reply.TheVariants as reply
use Rattle.eos_ops.specs.Edits.{outcome_in, edited}
use Rattle.eos_ops.specs.Objects.{reply_of}
use Rattle.eos_ops.proofs.EditLemmas.{edited-refused}
use Rattle.shadow_txn.specs.declared.fails.TxnFail.{TxnFail}
use Rattle.shadow_txn.specs.declared.fails.TxnFail.TheVariants.{Exists, Missing, Range, Fault, NoSpace, Memory}
use Rattle.shadow_txn.specs.Held.{held_object}
use Rattle.shadow_txn.specs.Objects.{working_of}
use Rattle.shadow_txn.specs.Replies.{working_in, fail_reply}
use Rattle.shadow_txn.specs.Transaction.{holding}
use Rattle.world.specs.Session.{Session, IsWorked}
use Rattle.world.proofs.HeldLists.{with_object-same}

-- a held object that a command only looks at
pub worked-same : (o : ℕ) (txn : Session) → IsSome (held_object o txn.held) → IsWorked (working_in o txn.held) o txn txn
worked-same o txn held =
    let some = some-if (held_object o txn.held) held in
    record {
      was = some.0;
      now = some.0;
      held = some.1;
      committed = refl;
      working = sym (ap (λ x. option_map_or working_of x Absent) some.1);
      annals = refl;
      txn = sym (ap (holding txn) (with_object-same o some.0 txn.held some.1));
    }

fail-not_ok : (fail : TxnFail) → fail_reply fail ≡ reply.Ok → ⊥
fail-not_ok Exists e = cc
fail-not_ok Missing e = cc
fail-not_ok (Range n) e = cc
fail-not_ok Fault e = cc
fail-not_ok (NoSpace n) e = cc
fail-not_ok Memory e = cc

-- an edit that the object refused leaves it alone
pub worked-refused : (e : Edit) (o : ℕ) (fail : TxnFail) (txn : Session) → IsSome (held_object o txn.held) →
    fail_reply fail ≡ reply_of (outcome_in e (working_in o txn.held)) →
    IsWorked (edited e (working_in o txn.held)) o txn txn
worked-refused e o fail txn held answer =
    let other : outcome_in e (working_in o txn.held) ≡ Done → ⊥ = λ done. fail-not_ok fail (answer ∙ ap reply_of done) in
    subst (λ x. IsWorked x o txn txn) (sym (edited-refused e (working_in o txn.held) other)) (worked-same o txn held)

-- where an answer comes, this holds
pub on_ok-from : {A E P : Type 0} (r : Result A E) → ((a : A) → r ≡ Ok a → P) → OnOk r P
on_ok-from (Ok a) step = step a refl
on_ok-from (Err e) step = tt

-- an answer that came isn't want of memory
pub not-memory : {A E : Type 0} (r : Result A E) (a : A) (fail : TxnFail) → r ≡ Ok a → (IsErr r ↔ (fail ≡ Memory)) → fail ≡ Memory → ⊥
not-memory r a fail is memory e = let err = subst (λ r. IsErr r) is (memory.1 e) in absurd (false≢true err)

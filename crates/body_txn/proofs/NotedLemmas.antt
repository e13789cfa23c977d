-- A held object with what was noted of a command.
use Rattle.std.proofs.Common.{◌≡◌, ℕ, List, [], ◌++◌, Bool, true, false, append-nil, refl, ap, sym, ◌∙◌, Some}
use Rattle.eos_ops.specs.declared.act.Act.{Act}
use Rattle.eos_ops.specs.declared.command.Command.{Command}
use Rattle.eos_ops.specs.declared.reply.Reply.{Reply}
use Rattle.eos_ops.specs.Objects.{object_of, with_bytes}
use Rattle.shadow_txn.specs.declared.held.Held.{Held}
use Rattle.shadow_txn.specs.Acts.{is_objects_own, noted}
use Rattle.shadow_txn.specs.Held.{done_to}
use Rattle.shadow_txn.proofs.ActLemmas.{noted-none}

-- the held object with another value and other acts
abbrev pub held_as : {T : Type 0} → Held T → T → List Act → Held T
held_as h x acts = record { number = h.number; object = x; acts = acts }

-- no acts are kept
pub noted-not : {T : Type 0} (keeps : Bool) (h : Held T) (x : T) (c : Command) (r : Reply) → keeps ≡ false
    → held_as h x h.acts ≡ done_to h x (noted keeps c r)
noted-not keeps h x c r none = rw none (ap (held_as h x) (sym (append-nil h.acts)))

-- the act was noted, where acts are kept
pub noted-kept : {T : Type 0} (keeps : Bool) (h : Held T) (x : T) (acts : List Act) (c : Command) (r : Reply) → keeps ≡ true
    → acts ≡ h.acts ++ noted true c r → held_as h x acts ≡ done_to h x (noted keeps c r)
noted-kept keeps h x acts c r kept more = rw kept (ap (held_as h x) more)

-- the reply isn't the object's own
noted-other-acts : (keeps : Bool) (n : ℕ) (c : Command) (r : Reply) → object_of c ≡ Some n → with_bytes c ≡ c → is_objects_own r ≡ false
    → noted keeps c r ≡ []
noted-other-acts false n c r on bytes other = refl
noted-other-acts true n c r on bytes other = noted-none n c r on bytes other

pub noted-other : {T : Type 0} (keeps : Bool) (h : Held T) (x : T) (n : ℕ) (c : Command) (r : Reply) → object_of c ≡ Some n
    → with_bytes c ≡ c → is_objects_own r ≡ false
    → held_as h x h.acts ≡ done_to h x (noted keeps c r)
noted-other keeps h x n c r on bytes other =
    ap (held_as h x) (sym (append-nil h.acts)) ∙ ap (λ acts. done_to h x acts) (sym (noted-other-acts keeps n c r on bytes other))

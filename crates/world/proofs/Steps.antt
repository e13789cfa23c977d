-- Each answer that the world gives is a step of the machine.
use Rattle.std.proofs.Common.{◌≡◌, ℕ, Bool, true, false, ◌==◌, Some, None, unwrap_or, if◌then◌else◌, refl, ap, subst, ◌∙◌, sym, inl, inr}
use Rattle.std.specs.Prelude.{IsSomeAnd}
use Rattle.std.specs.Option.{option_map_or}
use Rattle.std.proofs.lemmas.Bool.{cases_Bool}
use Rattle.eos_ops.specs.declared.command.Command.{Command}
use Rattle.eos_ops.specs.declared.command.Command.TheVariants.{Begin, Commit, Abort, Status}
use Rattle.eos_ops.specs.declared.limits.TheConstants.{LAST_STAMP}
use Rattle.eos_ops.specs.declared.reply.Reply.{Reply}
use Rattle.eos_ops.specs.declared.reply.Reply.TheVariants as reply
use Rattle.eos_ops.specs.Memory.{TakesMemory}
use Rattle.eos_ops.specs.Objects.{object_of, is_too_long, reply_in}
use Rattle.history.specs.Event.{Opens, Closes}
use Rattle.history.proofs.EventLaws.{after_in-with_bytes}
use Rattle.machine.specs.Machine.{Machine, slot_at, seat_at, is_active, with_slot}
use Rattle.machine.specs.Next.{next}
use Rattle.machine.specs.Replies.{refused, answer, bounds_reply, IsStep}
use Rattle.world.specs.Served.{served}
use Rattle.world.proofs.Deeds.{refusal_at, refused-object, deed-refusal, deed-memory, deed-reply_in, deed-too_long}

-- a command on an object is refused
pub step-refused : (m : Machine) (s : ℕ) (c : Command) (o : ℕ) (r : Reply) → is_too_long c ≡ false →
    object_of c ≡ Some o → refusal_at m s o ≡ Some r → IsStep m s c r m
step-refused m s c o r short is refusal = record {
  reply = inl (sym (ap (λ first. unwrap_or first (answer m c)) (refused-object m s c o short is ∙ refusal)));
  state = sym (ap (next m s) (deed-refusal m s c o r is refusal));
}

-- there was no memory for the object's answer
pub step-memory : (m : Machine) (s : ℕ) (c : Command) (o : ℕ) → is_too_long c ≡ false → object_of c ≡ Some o →
    refusal_at m s o ≡ None → TakesMemory c (slot_at m o).working → IsStep m s c reply.Memory m
step-memory m s c o short is free takes = record {
  reply = inr (
    refl,
    refused-object m s c o short is ∙ free,
    subst (λ t. IsSomeAnd t (λ p. TakesMemory c (slot_at m p).working)) (sym is) takes,
  );
  state = sym (ap (next m s) (deed-memory c o is));
}

-- the object answers
pub step-served : (m : Machine) (s : ℕ) (c : Command) (o : ℕ) → is_too_long c ≡ false → object_of c ≡ Some o → refusal_at m s o ≡ None
    → IsStep m s c (reply_in c (slot_at m o).working) (with_slot m o (served s c (slot_at m o)))
step-served m s c o short is free = record {
  reply = inl (sym (ap (λ first. unwrap_or first (answer m c)) (refused-object m s c o short is ∙ free)
      ∙ ap (λ object. option_map_or (λ p. reply_in c (slot_at m p).working) object (bounds_reply c)) is));
  state =
      ap (λ x. with_slot m o (record {
        committed = (slot_at m o).committed;
        working = x;
        holder = Some s;
        stamp =
            (slot_at m o).stamp;
      })) (sym (after_in-with_bytes c (slot_at m o).working))
      ∙ sym (ap (next m s) (deed-reply_in c o (slot_at m o).working is));
}

-- the command asks for too much
pub step-too_long : (m : Machine) (s : ℕ) (c : Command) → is_too_long c ≡ true → IsStep m s c reply.TooLong m
unfolding refused
step-too_long m s c long = record {
  reply = inl (rw long refl);
  state = sym (ap (next m s) (deed-too_long c));
}

-- a transaction is open already
pub step-active : (m : Machine) (s : ℕ) → is_active m s ≡ true → IsStep m s Begin reply.Active m
unfolding refused
step-active m s active = record { reply = inl (rw active refl); state = refl }

-- the session's stamp is the last one
pub step-worn : (m : Machine) (s : ℕ) → is_active m s ≡ false → ((seat_at m s).stamp == LAST_STAMP) ≡ true → IsStep m s Begin reply.Worn m
unfolding refused
step-worn m s idle worn = record { reply = inl (rw (idle, worn) refl); state = refl }

-- a transaction begins
pub step-begins : (m : Machine) (s : ℕ) → is_active m s ≡ false → ((seat_at m s).stamp == LAST_STAMP) ≡ false →
    IsStep m s Begin reply.Ok (next m s Opens)
unfolding refused
step-begins m s idle fresh = record { reply = inl (rw (idle, fresh) refl); state = refl }

-- there is nothing to end
pub step-idle : (m : Machine) (s : ℕ) (committed : Bool) → is_active m s ≡ false →
    IsStep m s (if committed then Commit else Abort) reply.Idle m
unfolding refused
step-idle m s true idle = record { reply = inl (rw idle refl); state = refl }
step-idle m s false idle = record { reply = inl (rw idle refl); state = refl }

-- a transaction ends
pub step-closes : (m : Machine) (s : ℕ) (committed : Bool) → is_active m s ≡ true →
    IsStep m s (if committed then Commit else Abort) reply.Ok (next m s (Closes committed))
unfolding refused
step-closes m s true active = record { reply = inl (rw active refl); state = refl }
step-closes m s false active = record { reply = inl (rw active refl); state = refl }

-- there are no pages to count
pub step-status : (m : Machine) (s : ℕ) → IsStep m s Status (reply.Status 0 0 0) m
unfolding refused
step-status m s = elim (cases_Bool (is_active m s)) [
  | inl active ↦ record { reply = inl (rw active refl); state = refl }
  | inr idle ↦ record { reply = inl (rw idle refl); state = refl }
]

-- The counts add up.
use Rattle.std.proofs.Common.{◌≡◌, ℕ, suc, List, [], ◌∷◌, length, map, sum, refl, arith}
use Rattle.std.specs.List.{AllByRecursion, range_with_len}
use Rattle.eos_ops.specs.declared.command.Command.{Command}
use Rattle.eos_ops.specs.declared.reply.Reply.{Reply}
use Rattle.eos_ops.specs.declared.reply.Reply.TheVariants as reply
use Rattle.history.specs.Event.{Event}
use Rattle.work_gen.specs.Summary.{counted_at}

abbrev counts_of : List Event → List ℕ
counts_of past = map (counted_at past) (range_with_len 0 17)

-- one reply is one more in all
one-more : (past : List Event) (s : ℕ) (c : Command) (r : Reply) (n : ℕ) → (r ≡ reply.Again → ⊥) → sum (counts_of past) ≡ n →
    sum (counts_of (record { session = s; command = c; reply = r } ∷ past)) ≡ suc n
one-more past s c reply.Ok n other so = omega (arith, so)
one-more past s c (reply.Length m) n other so = omega (arith, so)
one-more past s c (reply.Bytes bytes) n other so = omega (arith, so)
one-more past s c (reply.Range m) n other so = omega (arith, so)
one-more past s c reply.Exists n other so = omega (arith, so)
one-more past s c reply.Missing n other so = omega (arith, so)
one-more past s c reply.Busy n other so = omega (arith, so)
one-more past s c reply.Full n other so = omega (arith, so)
one-more past s c reply.NoObject n other so = omega (arith, so)
one-more past s c (reply.NoSpace m) n other so = omega (arith, so)
one-more past s c reply.Fault n other so = omega (arith, so)
one-more past s c reply.Memory n other so = omega (arith, so)
one-more past s c reply.Idle n other so = omega (arith, so)
one-more past s c reply.Active n other so = omega (arith, so)
one-more past s c reply.TooLong n other so = omega (arith, so)
one-more past s c reply.Worn n other so = omega (arith, so)
one-more past s c (reply.Status free locked held) n other so = omega (arith, so)
one-more past s c reply.Again n other so = absurd (other refl)

pub counts-add-up : (past : List Event) → AllByRecursion (λ e. e.reply ≡ reply.Again → ⊥) past →
    sum (counts_of past) ≡ length past
counts-add-up [] all = refl
counts-add-up (e ∷ past) all = one-more past e.session e.command e.reply (length past) all.0 (counts-add-up past all.1)

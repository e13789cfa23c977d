-- Draws, lines and a summary worked by hand.
use Rattle.std.proofs.Common.{◌≡◌, true, false, refl, [], ◌∷◌}
use Rattle.eos_ops.specs.declared.command.Command.TheVariants.{Begin, Insert}
use Rattle.eos_ops.specs.declared.payload.Payload.TheVariants.{Made}
use Rattle.eos_ops.specs.declared.plain.Plain.TheVariants.{Absent}
use Rattle.eos_ops.specs.declared.reply.Reply.TheVariants as reply
use Rattle.work_gen.specs.Generator.{number_after, started, made_lines, after_lines}
use Rattle.work_gen.specs.Summary.{summary_of}

first : number_after 1 1 ≡ 1015568748
first = refl

fourth : number_after 4 1 ≡ 3027450565
fourth = refl

-- session 1 begins, since 15496 is a multiple of 4, and goes on, since 24200 is one: 33046 leaves 6
-- and 46195 leaves 3, so it inserts into object 3
lines : made_lines 2 (started 1) ≡ record { session = 1; command = Begin }
    ∷ record { session = 1; command = Insert 3 3312 (Made 217 50774) } ∷ []
lines = refl

-- seven draws were made
after : after_lines 2 (started 1) ≡ record { number = 3327581586; begun = true ∷ false ∷ false ∷ false ∷ [] }
after = refl

-- over an object that is absent the first is done and the second refused
told : summary_of (record { session = 1; command = Insert 3 3312 (Made 217 50774); reply = reply.Missing }
    ∷ record { session = 1; command = Begin; reply = reply.Ok } ∷ []) (Absent ∷ [])
    ≡ record {
      lines = 2;
      counts = 1 ∷ 0 ∷ 0 ∷ 0 ∷ 0 ∷ 1 ∷ 0 ∷ 0 ∷ 0 ∷ 0 ∷ 0 ∷ 0 ∷ 0 ∷ 0 ∷ 0 ∷ 0 ∷ 0 ∷ [];
      present = 0;
      total = 0;
    }
told = refl

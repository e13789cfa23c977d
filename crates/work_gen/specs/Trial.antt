-- What it is to have run made lines, by what one command makes of the state of its server.
use Rattle.std.specs.Prelude.{◌≡◌, ℕ, List, [], map}
use Rattle.eos_ops.specs.declared.command.Command.{Command}
use Rattle.eos_ops.specs.declared.reply.Reply.{Reply}
use Rattle.script_model.specs.Grammar.{spelled}
use Rattle.script_run.specs.Served.{HasRunLines}
use Rattle.work_gen.specs.Generator.{Generator, made_lines}
use Rattle.work_gen.specs.Summary.{Summary, summary_of}

-- n made lines were run, as the script that spells them is: this output would be its answer, and
-- the summary is that of its events, with no object counted.
pub record HasRunMade {S : Type 0} (step : S → ℕ → Command → Reply → S → Type 0) (w : S) (g : Generator)
    (n : ℕ) (summary : Summary) (w' : S) : Type 0 where
  pub output : List ℕ
  pub ran : HasRunLines step w (map spelled (made_lines n g)) output w'
  pub told : summary ≡ summary_of ran.past []

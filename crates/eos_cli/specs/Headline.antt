-- What a run of the program means.
use Rattle.std.specs.Prelude.{ℕ, List, IsTrue}
use Rattle.std.specs.List.{AllByRecursion}
use Rattle.eos_ops.specs.declared.plain.Plain.{Plain}
use Rattle.history.specs.Event.{Event}
use Rattle.script_run.specs.Headline.{IsSerialRun}
use Rattle.eos_cli.specs.Step.{is_plain_reply}

-- These lines were run over objects in memory that were these at first, and the output answers
-- them: the events are one serial run, and none of their replies tells of a want of space or of a
-- fault.
pub record HasSerialRun (db : List Plain) (lines : List (List ℕ)) (output : List ℕ) : Type 0 where
  pub past : List Event
  pub run : IsSerialRun db lines output past
  pub plain : AllByRecursion (λ e. IsTrue (is_plain_reply e.reply)) past

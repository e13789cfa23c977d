use Rattle.moment_model.specs.Edit.{edited_slot}
use Rattle.moment_model.specs.Version.{IsGood}
use Rattle.soundness_laws.proofs.EditLemmas.{edited-sound}
use Rattle.soundness_laws.proofs.RunLemmas.{run-sound}
use Rattle.soundness_laws.proofs.runs.a_run_of_trees_keeps_soundness.Goals as goal

pub returns : goal.returns
returns c = λ n sessions first events. run-sound edited_slot IsGood n sessions first events edited-sound

use Rattle.soundness_laws.proofs.edits.an_edit_keeps_soundness.Goals as goal
use Rattle.soundness_laws.proofs.EditLemmas.{edited-sound}

pub returns : goal.returns
returns c = edited-sound

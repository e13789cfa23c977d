use Rattle.edit_plan.proofs.EntryLemmas.{pieces-numbered}
use Rattle.edit_plan.proofs.law.pieces_of_entries_are_numbered.Goals as goal

pub returns : goal.returns
returns c = pieces-numbered

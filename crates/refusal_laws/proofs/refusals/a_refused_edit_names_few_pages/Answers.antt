use Rattle.refusal_laws.proofs.RefusalLemmas.{edited-refused}
use Rattle.refusal_laws.proofs.refusals.a_refused_edit_names_few_pages.Goals as goal

pub returns : goal.returns
returns c = edited-refused

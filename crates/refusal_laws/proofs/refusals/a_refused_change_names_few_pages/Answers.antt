use Rattle.refusal_laws.proofs.RefusalLemmas.{granted-refused}
use Rattle.refusal_laws.proofs.refusals.a_refused_change_names_few_pages.Goals as goal

pub returns : goal.returns
returns c = granted-refused

-- The counts go by the events alone.
use Rattle.work_gen.proofs.SumLemmas.{counts-add-up}
use Rattle.work_gen.proofs.laws.each_line_is_counted_once.Goals as goal

pub returns : goal.returns
returns c past db all = counts-add-up past all

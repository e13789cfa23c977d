use Rattle.std.proofs.Common.{ap, sym, ◌∙◌}
use Rattle.layout_model.specs.Levels.{sizes_of}
use Rattle.tree_splice.proofs.RunLemmas.{no_sizes}
use Rattle.tree_splice.proofs.node_run.counts_for.Goals as goal

pub returns-then-n-eq0 : goal.returns-then-n-eq0
returns-then-n-eq0 c = c.new.ensures.items ∙ sym (ap (sizes_of c.args.f) c.if-n-eq0.true ∙ no_sizes c.args.f)

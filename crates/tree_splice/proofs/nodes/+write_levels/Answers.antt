-- The first level is written, and those above it.
use Rattle.std.proofs.Common.{refl, arith}
use Rattle.base_laws.proofs.ResultLaws.{on_ok}
use Rattle.tree_splice.proofs.NodesLemmas.{first-rest, levels-before, levels-written}
use Rattle.tree_splice.proofs.nodes.+write_levels.Goals as goal

pub returns-clause-written : goal.returns-clause-written
returns-clause-written g t c =
    let split = first-rest c.args.levels.now c.first-item.result (omega (arith, c.in-len1-up.len_at_least)) c.first-item.is in
    on_ok c.write_levels.result
    (λ above t'.
    levels-written c.args.level _ c.args.at c.len.result c.args.levels.now c.first-item.result c.write_nodes.new.pages.pages
    c.write_levels.new.pages.pages split refl c.len.ensures.count (c.in_ok-write_nodes.ensures.written t') c.write_levels.ensures.before
    (above t'))
    c.write_levels.ensures.written

pub returns-clause-before : goal.returns-clause-before
returns-clause-before g t c =
    levels-before c.args.at c.len.result c.args.pages.now.pages c.write_nodes.new.pages.pages c.write_levels.new.pages.pages
    c.in_ok-write_nodes.ensures.before c.write_levels.ensures.before

use Rattle.script_run.proofs.LineLemmas.{script_lines-found, script_lines-none}
use Rattle.script_run.proofs.lines.cut_line.Goals as goal

pub returns-in-Some-clause-cut : goal.returns-in-Some-clause-cut
returns-in-Some-clause-cut c =
    script_lines-found _ _ _ c.in-Some.at c.in-Some.ensures.0 c.in-Some.ensures.1 c.split_at.ensures.front c.split_at.ensures.back

pub returns-in-None-clause-cut : goal.returns-in-None-clause-cut
returns-in-None-clause-cut c =
    script_lines-none _ _ _ c.requires c.in-None.ensures c.split_at-in-None.ensures.front c.split_at-in-None.ensures.back

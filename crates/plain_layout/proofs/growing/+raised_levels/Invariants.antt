use Rattle.plain_layout.proofs.growing.+raised_levels.Given as goal

abbrev pub decreases-raised_levels : goal.decreases-raised_levels
decreases-raised_levels l = l.steps

use Rattle.plain_layout.proofs.granting.+halved.Given as goal

abbrev pub decreases-halved : goal.decreases-halved
decreases-halved l = l.steps

use Rattle.plain_layout.proofs.granting.+numbers.Given as goal

abbrev pub decreases-numbers : goal.decreases-numbers
decreases-numbers l = l.count

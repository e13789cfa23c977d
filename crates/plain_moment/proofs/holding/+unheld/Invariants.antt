use Rattle.plain_moment.proofs.holding.+unheld.Given as goal

abbrev pub decreases-unheld : goal.decreases-unheld
decreases-unheld l = l.objects

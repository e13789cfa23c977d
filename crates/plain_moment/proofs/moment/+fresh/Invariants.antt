use Rattle.plain_moment.proofs.moment.+fresh.Given as goal

abbrev pub decreases-fresh : goal.decreases-fresh
decreases-fresh l = l.objects

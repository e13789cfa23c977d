use Rattle.tree_splice.proofs.down.+push_way.Given as goal

abbrev pub decreases-push_way : goal.decreases-push_way
decreases-push_way g l = l.height

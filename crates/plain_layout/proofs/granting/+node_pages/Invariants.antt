use Rattle.plain_layout.proofs.granting.+node_pages.Given as goal

abbrev pub decreases-node_pages : goal.decreases-node_pages
decreases-node_pages l = l.count

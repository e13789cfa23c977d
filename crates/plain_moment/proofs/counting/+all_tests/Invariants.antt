use Rattle.plain_moment.proofs.counting.+all_tests.Given as goal

abbrev pub decreases-all_tests : goal.decreases-all_tests
decreases-all_tests l = l.count

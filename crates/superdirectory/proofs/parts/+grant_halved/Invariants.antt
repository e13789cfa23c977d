use Rattle.superdirectory.proofs.parts.+grant_halved.Given as goal

-- a half is smaller
abbrev pub decreases-grant_halved : goal.decreases-grant_halved
decreases-grant_halved g l = l.n

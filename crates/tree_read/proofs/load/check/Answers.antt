-- Where the device tells, the node is the one that is asked for, so no fault is counted then.
use Rattle.std.proofs.Common.{IsTrue, refl}
use Rattle.fault_count.proofs.CountLaws.{HasCause-found, Reads-blame, Reads-none}
use Rattle.tree_read.proofs.load.check.Goals as goal

pub returns-then-is_named-clause-reads : goal.returns-then-is_named-clause-reads
returns-then-is_named-clause-reads g c = Reads-none 0 (g.P.Port.meter c.args.port.now)

pub returns-clause-reads : goal.returns-clause-reads
returns-clause-reads g c =
    let old = g.P.Port.meter c.args.port.now in
    let new = g.P.Port.meter c.blame.new.self in
    Reads-blame new.faults old new c.blame.ensures.counts c.blame.ensures.kept

pub returns-clause-cause : goal.returns-clause-cause
returns-clause-cause g c =
    let untold : IsTrue g.P.S.Span.tells → ⊥ = λ t.
    let yes = c.is_named.ensures.1 (c.requires.level t, c.requires.bytes t) in
    let broken = rw c.if-is_named.false at yes in
    absurd cc in
    HasCause-found _ _ _ _ refl c.blame.ensures.kept (c.blame.ensures.faults untold) refl

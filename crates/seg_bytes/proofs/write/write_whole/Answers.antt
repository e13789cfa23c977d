use Rattle.fault_count.proofs.CountLaws.{Writes-none}
use Rattle.seg_bytes.proofs.Overwrites.{IsOverwritten-none}
use Rattle.seg_bytes.proofs.write.write_whole.Goals as goal

pub returns-then-is_empty-clause-writes : goal.returns-then-is_empty-clause-writes
returns-then-is_empty-clause-writes g c = Writes-none _ _

pub returns-clause-writes : goal.returns-clause-writes
returns-clause-writes g c = c.write_run.ensures.writes

pub returns-then-is_empty-clause-others : goal.returns-then-is_empty-clause-others
returns-then-is_empty-clause-others g c = record { others = IsOverwritten-none _ _ _; sized = c.requires.sized }

pub returns-clause-others : goal.returns-clause-others
returns-clause-others g c = record { others = c.write_run.ensures.others; sized = c.write_run.ensures.sized }

use Rattle.fault_count.proofs.CountLaws.{Reads-none}
use Rattle.seg_bytes.proofs.run.read_whole.Goals as goal

pub returns-then-is_empty-clause-reads : goal.returns-then-is_empty-clause-reads
returns-then-is_empty-clause-reads g c = Reads-none _ _

pub returns-clause-reads : goal.returns-clause-reads
returns-clause-reads g c = c.read_run.ensures.reads

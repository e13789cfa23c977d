-- A line that was served is a line run, whether its answer was written or cut.
use Rattle.std.proofs.Common.{inl}
use Rattle.script_run.specs.Served.{answer_line}
use Rattle.script_run.proofs.ServedLemmas.{line-run}
use Rattle.script_run.proofs.run.run_line.Goals as goal

pub returns-in-Ok-write_answer-clause-ran : goal.returns-in-Ok-write_answer-clause-ran
returns-in-Ok-write_answer-clause-ran g c = (
  answer_line c.in-Ok.told,
  (
    line-run g.W.Server.step _ _ _ c.in-Ok.told c.in-Ok.ensures.told,
    c.in-Ok-write_answer.ensures.all,
  ),
)

pub returns-in-Err-Fault-clause-broken : goal.returns-in-Err-Fault-clause-broken
returns-in-Err-Fault-clause-broken g c = inl (
  answer_line c.in-Ok.told,
  (line-run g.W.Server.step _ _ _ c.in-Ok.told c.in-Ok.ensures.told, c.in-Err-Fault.ensures.part),
)

pub returns-clause-broken : goal.returns-clause-broken
returns-clause-broken g c = inl (
  answer_line c.in-Ok.told,
  (line-run g.W.Server.step _ _ _ c.in-Ok.told c.in-Ok.ensures.told, c.in-Err-Memory.ensures.part),
)

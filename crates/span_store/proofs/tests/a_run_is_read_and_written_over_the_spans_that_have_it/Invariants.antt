use Rattle.std.proofs.Common.{◌≡◌}
use Rattle.span_store.proofs.tests.a_run_is_read_and_written_over_the_spans_that_have_it.Given as goal

-- the port keeps its page size
abbrev pub invariant-loop-first : goal.invariant-loop-first
invariant-loop-first g l = l.port.meter.page ≡ 256

abbrev pub invariant-loop-first-2 : goal.invariant-loop-first-2
invariant-loop-first-2 g l = l.port.meter.page ≡ 256

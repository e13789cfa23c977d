-- What the pages of a run hold, one by one.
use Rattle.std.proofs.Common.{ℕ, ◌/◌, length, arith}
use Rattle.base_laws.proofs.ResultLaws.{on_ok}
use Rattle.store_format.proofs.RowLemmas.{run-row, kept-row}
use Rattle.store_format.proofs.writing.write_run.Goals as goal

pub returns-clause-bytes : goal.returns-clause-bytes
returns-clause-bytes g c =
    let size : ℕ = (g.P.Port.meter c.args.port.now).page in
    let count : ℕ = length c.args.bytes.now / size in
    on_ok c.write.result
    (λ shown tell page inside. run-row size c.args.from count (g.P.S.Span.contents c.write.new.s) c.args.bytes.now
    (c.write.ensures.sized tell) (omega (arith, c.requires.range, c.write.ensures.others.count)) (shown tell) page inside)
    c.write.ensures.bytes

pub returns-clause-others : goal.returns-clause-others
returns-clause-others g c =
    kept-row c.args.from (length c.args.bytes.now / (g.P.Port.meter c.args.port.now).page) (g.P.S.Span.contents c.args.span.now)
    (g.P.S.Span.contents c.write.new.s) c.write.ensures.others

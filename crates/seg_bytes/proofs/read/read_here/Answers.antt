-- A part of a segment lies in the run of its pages.
use Rattle.std.proofs.Common.{◌≡◌, ◌+◌, ◌-◌, ◌<◌, ◌^◌, take, drop, ◌∙◌, arith}
use Rattle.std.specs.Prelude.{IsTrue}
use Rattle.base_laws.proofs.ResultLaws.{on_ok}
use Rattle.tree_model.specs.Tree.{page_count}
use Rattle.tree_model.specs.Content.{run_bytes}
use Rattle.span_store.specs.Held.{bytes_on}
use Rattle.fault_count.proofs.CountLaws.{Reads-none}
use Rattle.seg_bytes.proofs.Runs.{AreFull-held, HasBytes-end, HasBytes-less, segment_part}
use Rattle.seg_bytes.proofs.read.read_here.Goals as goal

pub returns-then-count-eq0-clause-reads : goal.returns-then-count-eq0-clause-reads
returns-then-count-eq0-clause-reads g c = Reads-none _ _

pub read_from-requires-clause-held : goal.read_from-requires-clause-held
read_from-requires-clause-held g c =
    let none = c.if-count-eq0.false in
    let some : 0 < c.args.count = omega (arith, none) in
    HasBytes-less c.args.held.now (g.P.Port.meter c.args.port.now).page c.args.pair.page
    (c.args.skip + c.args.count) c.args.pair.bytes c.requires.scratch.some
    (HasBytes-end c.args.held.now (g.P.Port.meter c.args.port.now).page c.args.pair.page c.args.pair.bytes
    (2 ^ 32 - 1) (omega arith) c.requires.held.run c.requires.held.numbers (omega arith))
    (c.requires.inside some)

pub returns-clause-bytes : goal.returns-clause-bytes
returns-clause-bytes g c =
    let none = c.if-count-eq0.false in
    let some : 0 < c.args.count = omega (arith, none) in
    on_ok c.read_from.result
    (λ (read : IsTrue g.P.S.Span.tells → take c.args.count c.read_from.new.out ≡ take c.args.count
    (drop c.args.skip (run_bytes (bytes_on c.args.held.now) c.args.pair.page
    (page_count (g.P.Port.meter c.args.port.now).page (c.args.skip + c.args.count))))) told.
    read told ∙ segment_part (bytes_on c.args.held.now)
    (g.P.Port.meter c.args.port.now).page c.args.pair.page c.args.pair.bytes c.args.skip c.args.count
    c.requires.scratch.some
    (AreFull-held g.P.S.Span.tells (g.P.Port.meter c.args.port.now).page c.args.pair.page
    (page_count (g.P.Port.meter c.args.port.now).page c.args.pair.bytes) c.args.held.now c.requires.sized told
    c.requires.held.run)
    (c.requires.inside some))
    c.read_from.ensures.bytes

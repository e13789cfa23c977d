-- Whole pages hold the bytes, and what stands behind them.
use Rattle.std.proofs.Common.{◌≡◌, ◌*◌, ◌/◌, ◌≤◌, length, take, drop, ap, ◌∙◌, arith}
use Rattle.std.specs.Prelude.{IsTrue}
use Rattle.std.proofs.lemmas.List.{length-take-le, take-append-le}
use Rattle.base_laws.proofs.ResultLaws.{on_ok}
use Rattle.tree_model.specs.Tree.{page_count}
use Rattle.tree_model.specs.Content.{run_bytes}
use Rattle.tree_model.proofs.PageCountLaws.{count-holds}
use Rattle.span_store.specs.Held.{bytes_on}
use Rattle.seg_bytes.proofs.PageCounts.{whole_part, ceil_pages}
use Rattle.seg_bytes.proofs.run.read_front.Goals as goal

pub read_whole-requires-clause-even : goal.read_whole-requires-clause-even
read_whole-requires-clause-even g c =
    (whole_part (page_count (g.P.Port.meter c.args.port.now).page c.args.count) (g.P.Port.meter c.args.port.now).page
    (length (take (c.div_ceil.result * c.page-size.result) c.args.out.now)) c.requires.some
    (length-take-le (c.div_ceil.result * c.page-size.result) c.args.out.now (omega arith)
    ∙ ceil_pages (g.P.Port.meter c.args.port.now).page c.page-size.result c.args.count c.div_ceil.result
    c.requires.some c.page-size.ensures c.div_ceil.ensures)).0

pub returns-then-room-out-clause-bytes : goal.returns-then-room-out-clause-bytes
returns-then-room-out-clause-bytes g c =
    let pages : c.div_ceil.result * c.page-size.result
    ≡ page_count (g.P.Port.meter c.args.port.now).page c.args.count * (g.P.Port.meter c.args.port.now).page =
    ceil_pages (g.P.Port.meter c.args.port.now).page c.page-size.result c.args.count c.div_ceil.result
    c.requires.some c.page-size.ensures c.div_ceil.ensures in
    let long : length (take (c.div_ceil.result * c.page-size.result) c.args.out.now) ≡ c.div_ceil.result * c.page-size.result =
    length-take-le (c.div_ceil.result * c.page-size.result) c.args.out.now (omega arith) in
    let whole = whole_part (page_count (g.P.Port.meter c.args.port.now).page c.args.count)
    (g.P.Port.meter c.args.port.now).page (length (take (c.div_ceil.result * c.page-size.result) c.args.out.now))
    c.requires.some (long ∙ pages) in
    let enough = count-holds (g.P.Port.meter c.args.port.now).page c.args.count c.requires.some in
    let full : c.args.count ≤ length c.read_whole.new.out = omega (arith, c.read_whole.auto.out, long, pages, enough) in
    on_ok c.read_whole.result
    (λ (read : IsTrue g.P.S.Span.tells → c.read_whole.new.out ≡ run_bytes (bytes_on c.args.held.now) c.args.first
    (length (take (c.div_ceil.result * c.page-size.result) c.args.out.now) / (g.P.Port.meter c.args.port.now).page)) told.
    take-append-le c.args.count c.read_whole.new.out (drop (c.div_ceil.result * c.page-size.result) c.args.out.now) full
    ∙ ap (take c.args.count) (read told ∙ ap (run_bytes (bytes_on c.args.held.now) c.args.first) whole.1))
    c.read_whole.ensures.bytes

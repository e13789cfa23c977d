-- Whole pages, and then a part of the next one.
use Rattle.std.proofs.Common.{◌≡◌, ℕ, ◌+◌, ◌-◌, ◌*◌, ◌/◌, length, take, sym, ap, ◌∙◌, arith}
use Rattle.std.specs.Prelude.{IsTrue}
use Rattle.base_laws.proofs.ResultLaws.{on_ok}
use Rattle.tree_model.specs.Tree.{page_count}
use Rattle.tree_model.specs.Content.{run_bytes}
use Rattle.span_store.specs.Held.{bytes_on}
use Rattle.seg_bytes.proofs.PageCounts.{whole_part}
use Rattle.seg_bytes.proofs.Runs.{AreFull-held, front_bytes}
use Rattle.seg_bytes.proofs.run.read_exactly.Goals as goal

pub read_whole-requires-clause-even : goal.read_whole-requires-clause-even
read_whole-requires-clause-even g c =
    (whole_part (length c.args.out.now / (g.P.Port.meter c.args.port.now).page) (g.P.Port.meter c.args.port.now).page
    (length c.split_at_mut-whole.result.0.now) c.requires.some
    (c.split_at_mut-whole.ensures.front_len ∙ ap (λ (k : ℕ). length c.args.out.now / k * k) c.page-size.ensures)).0

pub returns-clause-bytes : goal.returns-clause-bytes
returns-clause-bytes g c =
    let size : ℕ = (g.P.Port.meter c.args.port.now).page in
    let n : ℕ = length c.args.out.now in
    let pages : length c.args.out.now / c.page-size.result
    ≡ length c.args.out.now / (g.P.Port.meter c.args.port.now).page =
    ap (λ (k : ℕ). length c.args.out.now / k) c.page-size.ensures in
    let front = whole_part (length c.args.out.now / (g.P.Port.meter c.args.port.now).page)
    (g.P.Port.meter c.args.port.now).page (length c.split_at_mut-whole.result.0.now) c.requires.some
    (c.split_at_mut-whole.ensures.front_len ∙ ap (λ (k : ℕ). length c.args.out.now / k * k) c.page-size.ensures) in
    let rows : length c.args.out.now / c.page-size.result * c.page-size.result
    ≡ length c.args.out.now / c.page-size.result * (g.P.Port.meter c.args.port.now).page =
    ap (λ (k : ℕ). length c.args.out.now / c.page-size.result * k) c.page-size.ensures in
    let left : length c.split_at_mut-whole.result.1.now
    ≡ length c.args.out.now - length c.args.out.now / c.page-size.result * (g.P.Port.meter
    c.args.port.now).page = omega (arith, rows, c.split_at_mut-whole.ensures.back_len) in
    on_ok c.read_part.result
    (λ (rest : IsTrue g.P.S.Span.tells → c.read_part.new.out ≡ take (length c.split_at_mut-whole.result.1.now)
    (bytes_on c.args.held.now (c.args.first + length c.args.out.now / c.page-size.result))) told.
    front_bytes (bytes_on c.args.held.now) (g.P.Port.meter c.args.port.now).page c.args.first
    (length c.args.out.now) (length c.args.out.now / c.page-size.result) c.read_whole.new.out
    c.read_part.new.out
    c.requires.some pages
    (AreFull-held g.P.S.Span.tells (g.P.Port.meter c.args.port.now).page c.args.first
    (page_count (g.P.Port.meter c.args.port.now).page (length c.args.out.now)) c.args.held.now c.requires.sized
    told c.requires.held.run)
    (c.in_ok-read_whole.ensures.bytes told ∙ ap (run_bytes (bytes_on c.args.held.now) c.args.first) (front.1 ∙ sym pages))
    (rest told ∙ ap (λ (k : ℕ). take k (bytes_on c.args.held.now (c.args.first + length c.args.out.now / c.page-size.result))) left))
    c.read_part.ensures.bytes

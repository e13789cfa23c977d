-- The rest of a page that is begun, and then the pages behind it.
use Rattle.std.proofs.Common.{◌≡◌, ℕ, ◌+◌, ◌-◌, ◌/◌, ◌%◌, ◌≤◌, length, take, drop, min, sym, ap, subst, ◌∙◌, arith}
use Rattle.std.specs.Prelude.{IsTrue}
use Rattle.base_laws.proofs.ResultLaws.{on_ok}
use Rattle.tree_model.specs.Tree.{page_count}
use Rattle.tree_model.specs.Content.{run_bytes}
use Rattle.span_store.specs.Held.{bytes_on}
use Rattle.seg_bytes.specs.Segments.{HasBytes, pages_touched}
use Rattle.fault_count.proofs.CountLaws.{Reads-then}
use Rattle.seg_bytes.proofs.Runs.{AreFull-held, take-joined, read_even, read_odd, odd_pages, HasBytes-from, behind_first}
use Rattle.seg_bytes.proofs.run.read_from.Goals as goal

pub read_front-requires-clause-held : goal.read_front-requires-clause-held
read_front-requires-clause-held g c =
    subst (λ (k : ℕ). HasBytes c.args.held.now (g.P.Port.meter c.args.port.now).page
    (c.args.first + c.args.skip / k) c.args.count) (sym c.page-size.ensures)
    (HasBytes-from c.args.held.now (g.P.Port.meter c.args.port.now).page c.args.first c.args.skip
    c.args.count c.requires.some c.requires.held
    (sym (ap (λ (k : ℕ). c.args.skip % k) c.page-size.ensures) ∙ c.if-from-eq0.true))

pub returns-then-from-eq0-clause-bytes : goal.returns-then-from-eq0-clause-bytes
returns-then-from-eq0-clause-bytes g c =
    on_ok c.read_front.result
    (λ (read : IsTrue g.P.S.Span.tells → take c.args.count c.read_front.new.out ≡ take c.args.count
    (run_bytes (bytes_on c.args.held.now) (c.args.first + c.args.skip / c.page-size.result)
    (page_count (g.P.Port.meter c.args.port.now).page c.args.count))) told.
    read_even (bytes_on c.args.held.now) (g.P.Port.meter c.args.port.now).page c.page-size.result c.args.first
    c.args.skip c.args.count (take c.args.count c.read_front.new.out)
    c.requires.some c.page-size.ensures
    (AreFull-held g.P.S.Span.tells (g.P.Port.meter c.args.port.now).page c.args.first
    (page_count (g.P.Port.meter c.args.port.now).page (c.args.skip + c.args.count)) c.args.held.now
    c.requires.sized told c.requires.held.run)
    c.if-from-eq0.true (read told))
    c.read_front.ensures.bytes

pub read_front-requires-2-clause-held : goal.read_front-requires-2-clause-held
read_front-requires-2-clause-held g c =
    behind_first c.args.held.now (g.P.Port.meter c.args.port.now).page c.page-size.result
    (g.P.Port.meter c.read_part.new.port).page c.args.first c.args.skip c.args.count c.min-head.result
    c.requires.some c.page-size.ensures c.in_ok-read_part.ensures.reads.used.page c.requires.held
    c.if-from-eq0.false c.min-head.ensures

pub returns-clause-bytes : goal.returns-clause-bytes
returns-clause-bytes g c =
    let same : (g.P.Port.meter c.read_part.new.port).page ≡ (g.P.Port.meter c.args.port.now).page =
    c.in_ok-read_part.ensures.reads.used.page in
    let long : length c.read_part.new.out ≡ c.min-head.result =
    omega (arith, c.read_part.auto.out, c.split_at_mut-front.ensures.front_len) in
    on_ok c.read_front-2.result
    (λ (read : IsTrue g.P.S.Span.tells → take (c.args.count - c.min-head.result) c.read_front-2.new.out
    ≡ take (c.args.count - c.min-head.result)
    (run_bytes (bytes_on c.args.held.now) (c.args.first + c.args.skip / c.page-size.result + 1)
    (page_count (g.P.Port.meter c.read_part.new.port).page (c.args.count - c.min-head.result)))) told.
    take-joined c.args.count c.min-head.result c.read_part.new.out c.read_front-2.new.out long
    (omega (arith, c.min-head.ensures))
    ∙ read_odd (bytes_on c.args.held.now) (g.P.Port.meter c.args.port.now).page c.page-size.result c.args.first
    c.args.skip c.args.count c.min-head.result c.read_part.new.out
    (take (c.args.count - c.min-head.result) c.read_front-2.new.out)
    c.requires.some c.page-size.ensures
    (AreFull-held g.P.S.Span.tells (g.P.Port.meter c.args.port.now).page c.args.first
    (page_count (g.P.Port.meter c.args.port.now).page (c.args.skip + c.args.count)) c.args.held.now
    c.requires.sized told c.requires.held.run)
    c.if-from-eq0.false c.min-head.ensures
    (c.in_ok-read_part.ensures.bytes told ∙ ap (λ (k : ℕ). take k
    (drop (c.args.skip % c.page-size.result)
    (bytes_on c.args.held.now (c.args.first + c.args.skip / c.page-size.result))))
    c.split_at_mut-front.ensures.front_len)
    (read told
    ∙ ap (λ (k : ℕ). take (c.args.count - c.min-head.result)
    (run_bytes (bytes_on c.args.held.now) (c.args.first + c.args.skip / c.page-size.result + 1)
    (page_count k (c.args.count - c.min-head.result)))) same))
    c.read_front-2.ensures.bytes

pub returns-clause-reads : goal.returns-clause-reads
returns-clause-reads g c =
    let front : min 1 (length c.split_at_mut-front.result.0.now) ≡ min 1 c.min-head.result =
    ap (min 1) c.split_at_mut-front.ensures.front_len in
    let rest : page_count (g.P.Port.meter c.read_part.new.port).page (c.args.count - c.min-head.result)
    ≡ page_count (g.P.Port.meter c.args.port.now).page (c.args.count - c.min-head.result) =
    ap (λ (k : ℕ). page_count k (c.args.count - c.min-head.result)) c.in_ok-read_part.ensures.reads.used.page in
    let most = odd_pages (g.P.Port.meter c.args.port.now).page c.page-size.result c.args.skip
    c.args.count c.min-head.result c.requires.some c.page-size.ensures c.if-from-eq0.false
    c.min-head.ensures in
    Reads-then _ _ _ _ _ _ c.in_ok-read_part.ensures.reads c.read_front-2.ensures.reads
    (subst (λ (k : ℕ). k + page_count (g.P.Port.meter c.read_part.new.port).page
    (c.args.count - c.min-head.result) ≤ pages_touched (g.P.Port.meter c.args.port.now).page c.args.skip
    c.args.count) (sym front)
    (subst (λ (k : ℕ). min 1 c.min-head.result + k ≤ pages_touched (g.P.Port.meter c.args.port.now).page c.args.skip
    c.args.count) (sym rest) most))

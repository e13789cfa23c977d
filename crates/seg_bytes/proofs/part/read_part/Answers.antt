-- A page of scratch is one page, whose bytes are then copied.
use Rattle.std.proofs.Common.{◌≡◌, ℕ, ◌+◌, ◌-◌, List, length, take, drop, sym, ap, subst, ◌∙◌, arith}
use Rattle.std.specs.Prelude.{IsTrue}
use Rattle.tree_model.specs.Content.{run_bytes}
use Rattle.span_store.specs.Held.{has, bytes_on}
use Rattle.seg_bytes.proofs.PageCounts.{one_page, some_left}
use Rattle.fault_count.proofs.CountLaws.{Reads-none, Reads-more}
use Rattle.tree_model.proofs.PageCountLaws.{run_bytes-one}
use Rattle.seg_bytes.proofs.part.read_part.Goals as goal

pub returns-then-is_empty-clause-reads : goal.returns-then-is_empty-clause-reads
returns-then-is_empty-clause-reads g c = Reads-none _ _

pub read_run-requires-clause-held : goal.read_run-requires-clause-held
read_run-requires-clause-held g c =
    let one = one_page (g.P.Port.meter c.args.port.now).page (length c.args.scratch.now) c.requires.some c.requires.scratch in
    let more = some_left (length c.args.out.now) c.is_empty.result c.is_empty.ensures c.if-is_empty.false in
    λ q from to. let same : q ≡ c.args.page = omega arith in
    subst (λ (k : ℕ). IsTrue (has c.args.held.now k)) (sym same) (c.requires.held more)

pub returns-in_err-read_run-clause-reads : goal.returns-in_err-read_run-clause-reads
returns-in_err-read_run-clause-reads g c =
    let one = one_page (g.P.Port.meter c.args.port.now).page (length c.args.scratch.now) c.requires.some c.requires.scratch in
    let more = some_left (length c.args.out.now) c.is_empty.result c.is_empty.ensures c.if-is_empty.false in
    Reads-more _ _ _ _ c.in_err-read_run.ensures.reads (omega arith)

pub returns-clause-reads : goal.returns-clause-reads
returns-clause-reads g c =
    let one = one_page (g.P.Port.meter c.args.port.now).page (length c.args.scratch.now) c.requires.some c.requires.scratch in
    let more = some_left (length c.args.out.now) c.is_empty.result c.is_empty.ensures c.if-is_empty.false in
    Reads-more _ _ _ _ c.in_ok-read_run.ensures.reads (omega arith)

pub returns-clause-bytes : goal.returns-clause-bytes
returns-clause-bytes g c =
    let one = one_page (g.P.Port.meter c.args.port.now).page (length c.args.scratch.now) c.requires.some c.requires.scratch in
    let count : c.args.from + length c.args.out.now - c.args.from ≡ length c.args.out.now = omega arith in
    λ told. c.copy_from_slice.ensures.after
    ∙ ap (λ (k : ℕ). take k (drop c.args.from c.read_run.new.out)) count
    ∙ ap (λ (bytes : List ℕ). take (length c.args.out.now) (drop c.args.from bytes))
    (c.in_ok-read_run.ensures.bytes told ∙ ap (run_bytes (bytes_on c.args.held.now) c.args.page) one
    ∙ run_bytes-one (bytes_on c.args.held.now) c.args.page)

-- A page of scratch is one page.
use Rattle.std.proofs.Common.{◌≡◌, ℕ, ◌-◌, ◌/◌, ◌++◌, length, replicate, sym, ap, subst, ◌∙◌, arith}
use Rattle.std.specs.Prelude.{IsTrue}
use Rattle.base_laws.proofs.ResultLaws.{on_ok}
use Rattle.tree_model.specs.Content.{run_bytes}
use Rattle.span_store.specs.Held.{has, bytes_on}
use Rattle.seg_bytes.proofs.PageCounts.{one_page, some_left}
use Rattle.fault_count.proofs.CountLaws.{Writes-none, Writes-more}
use Rattle.tree_model.proofs.PageCountLaws.{run_bytes-one}
use Rattle.seg_bytes.proofs.Overwrites.{IsOverwritten-more, IsOverwritten-none}
use Rattle.seg_bytes.proofs.write.write_last.Goals as goal

pub returns-then-is_empty-clause-writes : goal.returns-then-is_empty-clause-writes
returns-then-is_empty-clause-writes g c = Writes-none _ _

pub write_run-requires-clause-held : goal.write_run-requires-clause-held
write_run-requires-clause-held g c =
    let less = c.requires.less in
    let one = one_page (g.P.Port.meter c.args.port.now).page (length c.fill.new.page) (omega arith)
    (c.fill.auto.page ∙ c.requires.scratch) in
    let more = some_left (length c.args.bytes.now) c.is_empty.result c.is_empty.ensures c.if-is_empty.false in
    λ q from to. let same : q ≡ c.args.page = omega arith in
    subst (λ (k : ℕ). IsTrue (has c.args.held.now k)) (sym same) (c.requires.held more)

pub returns-clause-bytes : goal.returns-clause-bytes
returns-clause-bytes g c =
    let less = c.requires.less in
    let one = one_page (g.P.Port.meter c.args.port.now).page (length c.fill.new.page) (omega arith)
    (c.fill.auto.page ∙ c.requires.scratch) in
    on_ok c.write_run.result
    (λ (wrote : IsTrue g.P.S.Span.tells → run_bytes (bytes_on c.write_run.new.self) c.args.page
    (length c.fill.new.page / (g.P.Port.meter c.args.port.now).page) ≡ c.fill.new.page) told more.
    sym (ap (run_bytes (bytes_on c.write_run.new.self) c.args.page) one ∙ run_bytes-one (bytes_on c.write_run.new.self) c.args.page)
    ∙ wrote told ∙ c.fill.ensures
    ∙ ap (λ (k : ℕ). c.args.bytes.now ++ replicate (k - length c.args.bytes.now) 0) c.requires.scratch)
    c.write_run.ensures.bytes

pub returns-clause-writes : goal.returns-clause-writes
returns-clause-writes g c =
    let less = c.requires.less in
    let one = one_page (g.P.Port.meter c.args.port.now).page (length c.fill.new.page) (omega arith)
    (c.fill.auto.page ∙ c.requires.scratch) in
    let more = some_left (length c.args.bytes.now) c.is_empty.result c.is_empty.ensures c.if-is_empty.false in
    Writes-more _ _ _ _ c.write_run.ensures.writes (omega arith)

pub returns-then-is_empty-clause-others : goal.returns-then-is_empty-clause-others
returns-then-is_empty-clause-others g c = record { others = IsOverwritten-none _ _ _; sized = c.requires.sized }

pub returns-clause-others : goal.returns-clause-others
returns-clause-others g c =
    let less = c.requires.less in
    let one = one_page (g.P.Port.meter c.args.port.now).page (length c.fill.new.page) (omega arith)
    (c.fill.auto.page ∙ c.requires.scratch) in
    let more = some_left (length c.args.bytes.now) c.is_empty.result c.is_empty.ensures c.if-is_empty.false in
    record {
      others = IsOverwritten-more _ _ _ _ _ c.write_run.ensures.others (omega (arith, one, more));
      sized = c.write_run.ensures.sized;
    }

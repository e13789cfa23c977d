-- One page is a run of one.
use Rattle.std.proofs.Common.{◌≡◌, ℕ, ◌+◌, length, sym, ap, subst, ◌∙◌, arith}
use Rattle.base_laws.proofs.ResultLaws.{on_ok}
use Rattle.base_laws.proofs.NumberLaws.{one_page}
use Rattle.store_format.specs.Rows.{row_page, KeepsPagesBut}
use Rattle.store_format.proofs.RowLemmas.{fits-one, whole-page}
use Rattle.store_format.proofs.writing.write_page.Goals as goal

pub write_run-requires : goal.write_run-requires
write_run-requires g c = fits-one g.P.S.Span.tells (g.P.Port.meter c.args.port.now).page c.args.at (length c.args.page.now)
    (g.P.S.Span.contents c.args.span.now) c.requires.some c.requires.page c.requires.range c.requires.sized

pub returns-clause-bytes : goal.returns-clause-bytes
returns-clause-bytes g c =
    let size : ℕ = (g.P.Port.meter c.args.port.now).page in
    let one = one_page (length c.args.page.now) size c.requires.page c.requires.some in
    let here : c.args.at + 0 ≡ c.args.at = omega arith in
    on_ok c.write_run.result
    (λ shown tell. ap (row_page (g.P.S.Span.contents c.write_run.new.span)) (sym here)
    ∙ (shown tell 0 (omega (arith, one)) ∙ whole-page size c.args.page.now c.requires.page)) c.write_run.ensures.bytes

pub returns-clause-others : goal.returns-clause-others
returns-clause-others g c =
    let size : ℕ = (g.P.Port.meter c.args.port.now).page in
    subst (λ (k : ℕ). KeepsPagesBut c.args.at k (row_page (g.P.S.Span.contents c.args.span.now))
    (row_page (g.P.S.Span.contents c.write_run.new.span)))
    (one_page (length c.args.page.now) size c.requires.page c.requires.some) c.write_run.ensures.others

-- One directory more at each step.
use Rattle.std.proofs.Common.{◌≡◌, ℕ, ◌*◌, ◌/◌, length, replicate, true, sym, ap, subst, ◌∙◌, arith}
use Rattle.std.proofs.lemmas.Bool.{false≢true}
use Rattle.base_laws.proofs.ResultLaws.{always_on_err}
use Rattle.base_laws.proofs.NumberLaws.{eights}
use Rattle.block_model.specs.Directory.{directory_page as directory_bytes}
use Rattle.fault_count.proofs.CountLaws.{IsUsed-then}
use Rattle.store_format.specs.Rows.{row_page, KeepsPagesBut}
use Rattle.store_format.specs.Blank.{blank_directory}
use Rattle.store_format.proofs.WritingLemmas.{one-more, cut-at-directory, same-shape}
use Rattle.store_format.proofs.formatting.write_directories.Goals as goal

pub write_blank_directory-requires-clause-whole : goal.write_blank_directory-requires-clause-whole
write_blank_directory-requires-clause-whole g c =
    subst (λ (k : ℕ). 8 * (k / 8) ≡ k) (sym c.space_pages-pages.ensures.exact)
    (eights c.args.geometry.now.order c.page-size.ensures.range.order_low)

pub returns-in_err-write_page-clause-failed : goal.returns-in_err-write_page-clause-failed
returns-in_err-write_page-clause-failed g c =
    let n = c.args.geometry.now in
    let between = row_page (g.P.S.Span.contents c.loop-s.span) in
    let now = row_page (g.P.S.Span.contents c.write_page.new.span) in
    always_on_err c.from_residual.result
    (λ tell. cut-at-directory n (blank_directory n) c.loop-s.s (row_page (g.P.S.Span.contents c.args.span.now)) between now
    (omega (arith, c.loop-s-test.true, c.spaces-s-end.ensures)) (c.loop-s.invariant.stand tell)
    (subst (λ (k : ℕ). KeepsPagesBut k 1 between now) c.directory_page.ensures c.in_err-write_page.ensures.others))

pub loop-s-preserved : goal.loop-s-preserved
loop-s-preserved g c =
    let n = c.args.geometry.now in
    let old = g.P.S.Span.contents c.args.span.now in
    let between = g.P.S.Span.contents c.loop-s.span in
    let now = g.P.S.Span.contents c.write_page.new.span in
    let size : length c.loop-s.page ≡ n.page = c.loop-s.auto.page ∙ c.requires.room in
    let bytes : c.write_blank_directory.new.out ≡ blank_directory n c.loop-s.s =
    c.write_blank_directory.ensures
    ∙ (ap (λ (k : ℕ). directory_bytes k c.loop-s.s (replicate c.space_pages-pages.result true)) size
    ∙ ap (λ (k : ℕ). directory_bytes n.page c.loop-s.s (replicate k true)) c.space_pages-pages.ensures.exact) in
    record {
      stand = λ tell. one-more n (blank_directory n) c.loop-s.s (row_page old) (row_page between) (row_page now)
          (c.loop-s.invariant.stand tell)
          (subst (λ (k : ℕ). KeepsPagesBut k 1 (row_page between) (row_page now)) c.directory_page.ensures
          c.in_ok-write_page.ensures.others)
          (ap (row_page now) (sym c.directory_page.ensures) ∙ (c.in_ok-write_page.ensures.bytes tell ∙ bytes));
      place = c.in_ok-write_page.ensures.place ∙ c.loop-s.invariant.place;
      shape = same-shape g.P.S.Span.tells n.page (g.P.Port.meter c.loop-s.port).page old between now
          (c.loop-s.invariant.used.page ∙ c.requires.page) c.loop-s.invariant.shape c.in_ok-write_page.ensures.shape;
      used = IsUsed-then (g.P.Port.meter c.args.port.now) (g.P.Port.meter c.loop-s.port) (g.P.Port.meter c.write_page.new.port)
          c.loop-s.invariant.used c.in_ok-write_page.ensures.port;
      still = c.in_ok-write_page.ensures.cause.still false≢true ∙ c.loop-s.invariant.still;
    }

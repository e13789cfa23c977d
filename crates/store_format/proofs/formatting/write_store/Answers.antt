-- The front pages are written last, in one run.
use Rattle.std.proofs.Common.{◌≡◌, ℕ, ◌*◌, length, sym, ap, subst, ◌∙◌, arith}
use Rattle.base_laws.proofs.ResultLaws.{on_ok, always_on_err}
use Rattle.geometry_model.proofs.NumberLaws.{page_size-low}
use Rattle.page_port.specs.Pages.{IsSized}
use Rattle.store_format.specs.Rows.{row_page}
use Rattle.store_format.specs.Writing.{front_count}
use Rattle.store_format.specs.Blank.{blank_directory, blank_front}
use Rattle.store_format.proofs.RowLemmas.{fits-many}
use Rattle.store_format.proofs.WritingLemmas.{store-written, store-cut}
use Rattle.store_format.proofs.BlankLemmas.{length-front}
use Rattle.store_format.proofs.formatting.write_store.Goals as goal

pub write_run-requires : goal.write_run-requires
write_run-requires g c =
    let n = c.args.geometry.now in
    let range = c.page-size.ensures.range in
    let unit : (g.P.Port.meter c.write_directories.new.port).page ≡ n.page = c.in_ok-write_directories.ensures.port.page ∙
    c.requires.page in
    let low = page_size-low n.page range.page_size in
    let long : length c.put_blank_front.new.room ≡ front_count n * (g.P.Port.meter c.write_directories.new.port).page =
    ap length c.put_blank_front.ensures ∙ (length-front n range ∙ ap (λ (k : ℕ). front_count n * k) (sym unit)) in
    fits-many g.P.S.Span.tells (g.P.Port.meter c.write_directories.new.port).page (front_count n) (length c.put_blank_front.new.room)
    (g.P.S.Span.contents c.write_directories.new.span) (omega (arith, unit, low)) (omega arith) long
    (omega (arith, c.in_ok-write_directories.ensures.shape.count, c.requires.count))
    (subst (λ (k : ℕ). IsSized g.P.S.Span.tells k (g.P.S.Span.contents c.write_directories.new.span)) (sym unit)
    c.in_ok-write_directories.ensures.shape.sized)

pub returns-clause-written : goal.returns-clause-written
returns-clause-written g c =
    let n = c.args.geometry.now in
    let range = c.page-size.ensures.range in
    let unit : (g.P.Port.meter c.write_directories.new.port).page ≡ n.page = c.in_ok-write_directories.ensures.port.page ∙
    c.requires.page in
    let low = page_size-low n.page range.page_size in
    on_ok c.write_run.result
    (λ shown tell. store-written n (blank_directory n) (blank_front n) c.put_blank_front.new.room
    (g.P.Port.meter c.write_directories.new.port).page
    (row_page (g.P.S.Span.contents c.args.span.now)) (row_page (g.P.S.Span.contents c.write_directories.new.span))
    (row_page (g.P.S.Span.contents c.write_run.new.span)) unit (omega (arith, low)) c.put_blank_front.ensures (length-front n range)
    (c.in_ok-write_directories.ensures.written tell) c.write_run.ensures.others (shown tell)) c.write_run.ensures.bytes

pub returns-clause-failed : goal.returns-clause-failed
returns-clause-failed g c =
    let n = c.args.geometry.now in
    let range = c.page-size.ensures.range in
    let unit : (g.P.Port.meter c.write_directories.new.port).page ≡ n.page = c.in_ok-write_directories.ensures.port.page ∙
    c.requires.page in
    let low = page_size-low n.page range.page_size in
    always_on_err c.write_run.result
    (λ tell. store-cut n (blank_directory n) (blank_front n) c.put_blank_front.new.room (g.P.Port.meter c.write_directories.new.port).page
    (row_page (g.P.S.Span.contents c.args.span.now)) (row_page (g.P.S.Span.contents c.write_directories.new.span))
    (row_page (g.P.S.Span.contents c.write_run.new.span)) unit (omega (arith, low)) c.put_blank_front.ensures (length-front n range)
    (c.in_ok-write_directories.ensures.written tell) c.write_run.ensures.others)

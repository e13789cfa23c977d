-- The directories are written one by one, and the front pages behind them in one run.
use Rattle.std.proofs.Common.{◌≡◌, ℕ, ◌*◌, ◌≤◌, List, length, map, refl, rules, sym, ap, subst, ◌∙◌, arith}
use Rattle.std.proofs.lemmas.List.{length-map, length-take-le}
use Rattle.base_laws.proofs.ResultLaws.{on_ok, always_on_err}
use Rattle.geometry_model.specs.Numbers.{objects}
use Rattle.geometry_model.proofs.NumberLaws.{page_size-low}
use Rattle.tree_pages.specs.Entry.{Entry}
use Rattle.page_port.specs.Pages.{IsSized}
use Rattle.span_store.specs.Held.{span_of, spans_of}
use Rattle.store_format.specs.Writing.{front_count}
use Rattle.store_format.proofs.RowLemmas.{fits-many}
use Rattle.store_parts.specs.Fixed.{FixedView}
use Rattle.image_store.specs.Closing.{AreSpansWritten, closed_front, directory_of, fixed_of}
use Rattle.image_store.proofs.CatalogLemmas.{length-closed}
use Rattle.image_store.proofs.FixedLemmas.{as-many, spaces-sized, directories-each, fixed-still, run-still}
use Rattle.image_store.proofs.FixedLemmas.{all-written, directories-cut, front-cut}
use Rattle.image_store.proofs.fixed.write_pages.Goals as goal

pub write_directories-requires-clause-some : goal.write_directories-requires-clause-some
write_directories-requires-clause-some g c =
    let low = page_size-low c.args.geometry.now.page c.page-size.ensures.range.page_size in
    omega (arith, low, c.requires.page)

pub write_directories-requires-clause-room : goal.write_directories-requires-clause-room
write_directories-requires-clause-room g c =
    let n = c.args.geometry.now in
    let room : List ℕ = c.args.room.now in
    let long : length room ≡ front_count n * n.page = c.requires.fixed.room in
    let rows : 1 * n.page ≤ front_count n * n.page = omega arith in
    length-take-le c.page-size.result room (omega (arith, long, rows, c.page-size.ensures.exact))
    ∙ (c.page-size.ensures.exact ∙ sym c.requires.page)

pub write_directories-requires-clause-count : goal.write_directories-requires-clause-count
write_directories-requires-clause-count g c =
    let spans = length-map c.args.directories.now (span_of g.P.S.Span.start g.P.S.Span.contents) in
    (sym spans ∙ (c.requires.fixed.number ∙ sym (as-many c.args.geometry.now c.args.spaces.now c.requires.spaces)))

pub write_directories-requires-clause-sizes : goal.write_directories-requires-clause-sizes
write_directories-requires-clause-sizes g c =
    spaces-sized c.args.geometry.now c.args.spaces.now (g.P.Port.meter c.args.port.now).page c.requires.spaces c.requires.page

pub write_directories-requires-clause-each : goal.write_directories-requires-clause-each
write_directories-requires-clause-each g c =
    directories-each g.P.S.Span.start g.P.S.Span.contents g.P.S.Span.tells c.args.geometry.now (g.P.Port.meter c.args.port.now).page
    (fixed_of g.P.S.Span.start g.P.S.Span.contents c.args.front.now c.args.directories.now c.args.room.now)
    c.args.directories.now c.requires.page
    refl c.requires.fixed

pub write_run-requires : goal.write_run-requires
write_run-requires g c =
    let n = c.args.geometry.now in
    let range = c.page-size.ensures.range in
    let entries : List Entry = map (λ x. g.B.Stored.entry x.body) c.args.objects.now in
    let many : length entries ≡ objects n = length-map c.args.objects.now (λ x. g.B.Stored.entry x.body) ∙ c.requires.objects in
    let size : ℕ = (g.P.Port.meter c.write_directories.new.port).page in
    let unit : size ≡ n.page = c.in_ok-write_directories.ensures.port.page ∙ c.requires.page in
    let low = page_size-low n.page range.page_size in
    let long : length c.put_front.new.room ≡ front_count n * size =
    ap length c.put_front.ensures ∙ (length-closed n entries range many ∙ ap (λ (k : ℕ). front_count n * k) (sym unit)) in
    let run = c.requires.fixed.front in
    fits-many g.P.S.Span.tells size (front_count n) (length c.put_front.new.room) (g.P.S.Span.contents c.args.front.now)
    (omega (arith, unit, low)) (omega arith) long (omega (arith, run.count))
    (subst (λ (k : ℕ). IsSized g.P.S.Span.tells k (g.P.S.Span.contents c.args.front.now)) (sym unit) run.sized)

pub returns-clause-fixed : goal.returns-clause-fixed
returns-clause-fixed g c =
    let n = c.args.geometry.now in
    let range = c.page-size.ensures.range in
    let entries : List Entry = map (λ x. g.B.Stored.entry x.body) c.args.objects.now in
    let many : length entries ≡ objects n = length-map c.args.objects.now (λ x. g.B.Stored.entry x.body) ∙ c.requires.objects in
    let tells = g.P.S.Span.tells in
    let unit : (g.P.Port.meter c.write_directories.new.port).page ≡ n.page =
    c.in_ok-write_directories.ensures.port.page ∙ c.requires.page in
    let old : FixedView = fixed_of g.P.S.Span.start g.P.S.Span.contents c.args.front.now c.args.directories.now c.args.room.now in
    fixed-still tells n (g.P.Port.meter c.args.port.now).page (length c.args.spaces.now) (directory_of c.args.spaces.now) old
    (fixed_of g.P.S.Span.start g.P.S.Span.contents c.write_run.new.span
    c.write_directories.new.directories c.put_front.new.room)
    c.requires.page c.requires.fixed
    c.in_ok-write_directories.ensures.written
    (run-still tells (g.P.Port.meter c.write_directories.new.port).page n.page 0 (front_count n) old.front
    (span_of g.P.S.Span.start g.P.S.Span.contents c.write_run.new.span) unit c.requires.fixed.front c.write_run.ensures.place
    c.write_run.ensures.shape)
    (ap length c.put_front.ensures ∙ (length-closed n entries range many ∙ sym c.requires.fixed.room))

pub returns-clause-written : goal.returns-clause-written
returns-clause-written g c =
    let n = c.args.geometry.now in
    let range = c.page-size.ensures.range in
    let entries : List Entry = map (λ x. g.B.Stored.entry x.body) c.args.objects.now in
    let many : length entries ≡ objects n = length-map c.args.objects.now (λ x. g.B.Stored.entry x.body) ∙ c.requires.objects in
    let spaces = c.args.spaces.now in
    let size : ℕ = (g.P.Port.meter c.args.port.now).page in
    let unit : (g.P.Port.meter c.write_directories.new.port).page ≡ n.page =
    c.in_ok-write_directories.ensures.port.page ∙ c.requires.page in
    let low = page_size-low n.page range.page_size in
    let old : FixedView = fixed_of g.P.S.Span.start g.P.S.Span.contents c.args.front.now c.args.directories.now c.args.room.now in
    on_ok c.write_run.result
    (λ shown tell. all-written g.P.S.Span.tells n size (g.P.Port.meter c.write_directories.new.port).page spaces (closed_front n entries)
    c.put_front.new.room old (fixed_of g.P.S.Span.start g.P.S.Span.contents c.write_run.new.span
    c.write_directories.new.directories c.put_front.new.room) tell c.requires.spaces unit (omega (arith, low)) c.put_front.ensures
    (length-closed n entries range many)
    (subst (λ (k : ℕ). AreSpansWritten g.P.S.Span.tells size (directory_of spaces) k old.directories
    (spans_of g.P.S.Span.start g.P.S.Span.contents c.write_directories.new.directories)) (as-many n spaces c.requires.spaces)
    c.in_ok-write_directories.ensures.written)
    (shown tell)) c.write_run.ensures.bytes

pub returns-clause-failed : goal.returns-clause-failed
returns-clause-failed g c =
    let n = c.args.geometry.now in
    let spaces = c.args.spaces.now in
    let size : ℕ = (g.P.Port.meter c.args.port.now).page in
    let old : FixedView = fixed_of g.P.S.Span.start g.P.S.Span.contents c.args.front.now c.args.directories.now c.args.room.now in
    always_on_err c.write_run.result (λ tell. (
      n.spaces,
      front-cut g.P.S.Span.tells n size spaces old (fixed_of g.P.S.Span.start g.P.S.Span.contents c.write_run.new.span
          c.write_directories.new.directories c.put_front.new.room) tell c.requires.spaces
          (subst (λ (k : ℕ). AreSpansWritten g.P.S.Span.tells size (directory_of spaces) k old.directories
          (spans_of g.P.S.Span.start g.P.S.Span.contents c.write_directories.new.directories)) (as-many n spaces c.requires.spaces)
          c.in_ok-write_directories.ensures.written),
    ))

pub returns-in_err-write_directories-clause-fixed : goal.returns-in_err-write_directories-clause-fixed
returns-in_err-write_directories-clause-fixed g c =
    let failed = c.in_err-write_directories.ensures.failed in
    let old : FixedView = fixed_of g.P.S.Span.start g.P.S.Span.contents c.args.front.now c.args.directories.now c.args.room.now in
    fixed-still g.P.S.Span.tells c.args.geometry.now (g.P.Port.meter c.args.port.now).page failed.0 (directory_of c.args.spaces.now) old
    (fixed_of g.P.S.Span.start g.P.S.Span.contents c.args.front.now
    c.write_directories.new.directories _)
    c.requires.page c.requires.fixed failed.2 c.requires.fixed.front (search rules)

pub returns-in_err-write_directories-clause-failed : goal.returns-in_err-write_directories-clause-failed
returns-in_err-write_directories-clause-failed g c =
    let n = c.args.geometry.now in
    let spaces = c.args.spaces.now in
    let failed = c.in_err-write_directories.ensures.failed in
    let old : FixedView = fixed_of g.P.S.Span.start g.P.S.Span.contents c.args.front.now c.args.directories.now c.args.room.now in
    let less = failed.1 in
    always_on_err c.from_residual.result (λ tell. (
      failed.0,
      directories-cut g.P.S.Span.tells n (g.P.Port.meter c.args.port.now).page failed.0 spaces old
          (fixed_of g.P.S.Span.start g.P.S.Span.contents c.args.front.now
          c.write_directories.new.directories _) tell c.requires.spaces
          (omega (arith, less, as-many n spaces c.requires.spaces)) failed.2 refl,
    ))

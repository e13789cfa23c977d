-- The whole mount comes back with what was written.
use Rattle.std.proofs.Common.{◌≡◌, ℕ, ◌<◌, List, [], replicate, None, refl, sym, ap, subst, ◌∙◌, arith}
use Rattle.std.specs.Prelude.{IsTrue}
use Rattle.std.proofs.lemmas.Bool.{false≢true}
use Rattle.fault_count.specs.Counts.{Meter, Rose}
use Rattle.geometry_model.specs.Numbers.{pages}
use Rattle.page_port.specs.Device.{Device}
use Rattle.image_model.specs.Image.{image_pages}
use Rattle.store_format.specs.Rows.{row_page}
use Rattle.store_format.specs.Blank.{blank_directory, blank_front}
use Rattle.store_format.proofs.WritingLemmas.{written-alike, cut-alike}
use Rattle.store_format.proofs.FormatLemmas.{CameBack, IsAllOut, whole-back, failed-count, clean-count}
use Rattle.store_format.proofs.formatting.format_mounted.Goals as goal

pub returns-in-Ok-clause-home : goal.returns-in-Ok-clause-home
returns-in-Ok-clause-home g c = λ tell.
    let n = c.args.geometry.now in
    let contents = g.Y.S.Span.contents c.write_store-written.new.span in
    let back : CameBack n contents (g.Y.Bay.device c.absorb.new.self) =
    whole-back n (g.Y.S.Span.start c.write_store-written.new.span) (g.Y.Bay.device c.absorb.new.self).faults contents
    (g.Y.Bay.device c.args.bay.now) (g.Y.Bay.device c.restore.new.self) (g.Y.Bay.device c.absorb.new.self)
    (record { mounted = c.requires.mounted; out = c.requires.out tell; none = c.requires.none tell })
    (c.write_store-written.ensures.place ∙ c.requires.start) (c.write_store-written.ensures.shape.count ∙ c.requires.count)
    (c.write_store-written.ensures.shape.sized tell) (c.restore.ensures.pages tell) (c.restore.ensures.home tell) c.absorb.ensures.stays in
    back.home

pub returns-in-Ok-clause-size : goal.returns-in-Ok-clause-size
returns-in-Ok-clause-size g c = λ tell.
    let n = c.args.geometry.now in
    let contents = g.Y.S.Span.contents c.write_store-written.new.span in
    let back : CameBack n contents (g.Y.Bay.device c.absorb.new.self) =
    whole-back n (g.Y.S.Span.start c.write_store-written.new.span) (g.Y.Bay.device c.absorb.new.self).faults contents
    (g.Y.Bay.device c.args.bay.now) (g.Y.Bay.device c.restore.new.self) (g.Y.Bay.device c.absorb.new.self)
    (record { mounted = c.requires.mounted; out = c.requires.out tell; none = c.requires.none tell })
    (c.write_store-written.ensures.place ∙ c.requires.start) (c.write_store-written.ensures.shape.count ∙ c.requires.count)
    (c.write_store-written.ensures.shape.sized tell) (c.restore.ensures.pages tell) (c.restore.ensures.home tell) c.absorb.ensures.stays in
    back.size

pub returns-in-Err-clause-home : goal.returns-in-Err-clause-home
returns-in-Err-clause-home g c = λ tell.
    let n = c.args.geometry.now in
    let contents = g.Y.S.Span.contents c.write_store-written.new.span in
    let back : CameBack n contents (g.Y.Bay.device c.absorb.new.self) =
    whole-back n (g.Y.S.Span.start c.write_store-written.new.span) (g.Y.Bay.device c.absorb.new.self).faults contents
    (g.Y.Bay.device c.args.bay.now) (g.Y.Bay.device c.restore.new.self) (g.Y.Bay.device c.absorb.new.self)
    (record { mounted = c.requires.mounted; out = c.requires.out tell; none = c.requires.none tell })
    (c.write_store-written.ensures.place ∙ c.requires.start) (c.write_store-written.ensures.shape.count ∙ c.requires.count)
    (c.write_store-written.ensures.shape.sized tell) (c.restore.ensures.pages tell) (c.restore.ensures.home tell) c.absorb.ensures.stays in
    back.home

pub returns-in-Err-clause-size : goal.returns-in-Err-clause-size
returns-in-Err-clause-size g c = λ tell.
    let n = c.args.geometry.now in
    let contents = g.Y.S.Span.contents c.write_store-written.new.span in
    let back : CameBack n contents (g.Y.Bay.device c.absorb.new.self) =
    whole-back n (g.Y.S.Span.start c.write_store-written.new.span) (g.Y.Bay.device c.absorb.new.self).faults contents
    (g.Y.Bay.device c.args.bay.now) (g.Y.Bay.device c.restore.new.self) (g.Y.Bay.device c.absorb.new.self)
    (record { mounted = c.requires.mounted; out = c.requires.out tell; none = c.requires.none tell })
    (c.write_store-written.ensures.place ∙ c.requires.start) (c.write_store-written.ensures.shape.count ∙ c.requires.count)
    (c.write_store-written.ensures.shape.sized tell) (c.restore.ensures.pages tell) (c.restore.ensures.home tell) c.absorb.ensures.stays in
    back.size

pub returns-in-Ok-clause-written : goal.returns-in-Ok-clause-written
returns-in-Ok-clause-written g c = λ tell.
    let n = c.args.geometry.now in
    let contents = g.Y.S.Span.contents c.write_store-written.new.span in
    let back : CameBack n contents (g.Y.Bay.device c.absorb.new.self) =
    whole-back n (g.Y.S.Span.start c.write_store-written.new.span) (g.Y.Bay.device c.absorb.new.self).faults contents
    (g.Y.Bay.device c.args.bay.now) (g.Y.Bay.device c.restore.new.self) (g.Y.Bay.device c.absorb.new.self)
    (record { mounted = c.requires.mounted; out = c.requires.out tell; none = c.requires.none tell })
    (c.write_store-written.ensures.place ∙ c.requires.start) (c.write_store-written.ensures.shape.count ∙ c.requires.count)
    (c.write_store-written.ensures.shape.sized tell) (c.restore.ensures.pages tell) (c.restore.ensures.home tell) c.absorb.ensures.stays in
    written-alike n (blank_directory n) (blank_front n) (row_page (g.Y.S.Span.contents c.args.span))
    (row_page (g.Y.S.Span.contents c.args.span))
    (row_page contents) (image_pages n (g.Y.Bay.device c.absorb.new.self).bytes) (λ q inside. refl) back.shown
    (c.in-Ok.ensures.written tell)

pub returns-in-Err-clause-failed : goal.returns-in-Err-clause-failed
returns-in-Err-clause-failed g c = λ tell.
    let n = c.args.geometry.now in
    let contents = g.Y.S.Span.contents c.write_store-written.new.span in
    let back : CameBack n contents (g.Y.Bay.device c.absorb.new.self) =
    whole-back n (g.Y.S.Span.start c.write_store-written.new.span) (g.Y.Bay.device c.absorb.new.self).faults contents
    (g.Y.Bay.device c.args.bay.now) (g.Y.Bay.device c.restore.new.self) (g.Y.Bay.device c.absorb.new.self)
    (record { mounted = c.requires.mounted; out = c.requires.out tell; none = c.requires.none tell })
    (c.write_store-written.ensures.place ∙ c.requires.start) (c.write_store-written.ensures.shape.count ∙ c.requires.count)
    (c.write_store-written.ensures.shape.sized tell) (c.restore.ensures.pages tell) (c.restore.ensures.home tell) c.absorb.ensures.stays in
    cut-alike n (blank_directory n) (row_page (g.Y.S.Span.contents c.args.span)) (row_page (g.Y.S.Span.contents c.args.span))
    (row_page contents) (image_pages n (g.Y.Bay.device c.absorb.new.self).bytes) (λ q inside. refl) back.shown
    (c.in-Err.ensures.failed tell)

pub returns-in-Err-clause-cause : goal.returns-in-Err-clause-cause
returns-in-Err-clause-cause g c =
    failed-count _ (g.Y.Bay.device c.args.bay.now).faults (g.Y.Bay.device c.restore.new.self).faults
    (g.Y.P.Port.meter c.write_store-written.new.port).faults (g.Y.Bay.device c.absorb.new.self).faults
    (ap (λ (d : Device). d.faults) c.restore.ensures.others) c.absorb.ensures.kept c.absorb.ensures.faults
    (subst (λ (k : ℕ). Rose k (g.Y.P.Port.meter c.write_store-written.new.port).faults) (ap (λ (m : Meter). m.faults) c.requires.port)
    (c.in-Err.ensures.cause.raised refl)) refl

pub returns-in-Ok-clause-cause : goal.returns-in-Ok-clause-cause
returns-in-Ok-clause-cause g c =
    clean-count _ (g.Y.Bay.device c.args.bay.now).faults (g.Y.Bay.device c.restore.new.self).faults
    (g.Y.Bay.device c.absorb.new.self).faults (ap (λ (d : Device). d.faults) c.restore.ensures.others)
    (c.absorb.ensures.none (c.in-Ok.ensures.cause.still false≢true ∙ ap (λ (m : Meter). m.faults) c.requires.port)) (λ bad. cc)

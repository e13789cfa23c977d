-- What was written on the mount, as bytes of the device.
use Rattle.std.proofs.Common.{◌≡◌, ℕ, ◌<◌, List, [], replicate, None, length, refl, sym, ap, subst, ◌∙◌, arith}
use Rattle.std.specs.Prelude.{IsTrue}
use Rattle.base_laws.proofs.ResultLaws.{on_ok, on_err, always_on_err}
use Rattle.geometry_model.specs.Numbers.{pages}
use Rattle.page_port.specs.Device.{Device, IsFront}
use Rattle.image_model.specs.Super.{image_page}
use Rattle.image_model.specs.Image.{image_pages}
use Rattle.store_format.specs.Rows.{row_page}
use Rattle.store_format.specs.Formatting.{store_bytes}
use Rattle.store_format.proofs.FormatLemmas.{CameBack, IsAllOut, whole-back, front-shown}
use Rattle.store_format.proofs.FormatLemmas.{mount-formatted, mount-cut, same-cut, came-back-cut, mounted-out}
use Rattle.store_format.proofs.formatting.format_prepared.Goals as goal

pub returns-in_err-span-clause-failed : goal.returns-in_err-span-clause-failed
returns-in_err-span-clause-failed g c = always_on_err c.from_residual.result
    (λ tell. same-cut c.args.geometry.now (g.Y.Bay.device c.args.bay.now).bytes (g.Y.Bay.device c.mount.new.self).bytes
    (c.requires.size tell)
    (ap (λ (d : Device). d.bytes) c.in_err-span.ensures.err))

pub returns-in-Ok-clause-formatted : goal.returns-in-Ok-clause-formatted
returns-in-Ok-clause-formatted g c =
    let n = c.args.geometry.now in
    let was = (g.Y.Bay.device c.args.bay.now).bytes in
    let old = g.Y.S.Span.contents c.in_ok-span.span in
    let front : IsFront g.Y.S.Span.tells (g.Y.Bay.device c.args.bay.now) n.page (pages n) (g.Y.S.Span.start c.in_ok-span.span) old =
    subst (λ (k : ℕ). IsFront g.Y.S.Span.tells (g.Y.Bay.device c.args.bay.now) k (pages n) (g.Y.S.Span.start c.in_ok-span.span) old)
    c.page.ensures.exact
    (subst (λ (k : ℕ). IsFront g.Y.S.Span.tells (g.Y.Bay.device c.args.bay.now) c.page.result k (g.Y.S.Span.start c.in_ok-span.span) old)
    c.pages.ensures c.in_ok-span.ensures.front) in
    on_ok c.format_mounted.result
    (λ written tell. mount-formatted n was old (g.Y.Bay.device c.format_mounted.new.bay) c.page.ensures.range (c.requires.size tell)
    (front-shown n was old (c.requires.size tell) front.count (front.sized tell) (front.bytes tell)) (written tell)
    (c.format_mounted.ensures.size tell)) c.format_mounted.ensures.written

pub returns-in-Ok-clause-failed : goal.returns-in-Ok-clause-failed
returns-in-Ok-clause-failed g c =
    let n = c.args.geometry.now in
    let was = (g.Y.Bay.device c.args.bay.now).bytes in
    let old = g.Y.S.Span.contents c.in_ok-span.span in
    let front : IsFront g.Y.S.Span.tells (g.Y.Bay.device c.args.bay.now) n.page (pages n) (g.Y.S.Span.start c.in_ok-span.span) old =
    subst (λ (k : ℕ). IsFront g.Y.S.Span.tells (g.Y.Bay.device c.args.bay.now) k (pages n) (g.Y.S.Span.start c.in_ok-span.span) old)
    c.page.ensures.exact
    (subst (λ (k : ℕ). IsFront g.Y.S.Span.tells (g.Y.Bay.device c.args.bay.now) c.page.result k (g.Y.S.Span.start c.in_ok-span.span) old)
    c.pages.ensures c.in_ok-span.ensures.front) in
    on_err c.format_mounted.result
    (λ cut tell. mount-cut n was old (g.Y.Bay.device c.format_mounted.new.bay) (c.requires.size tell)
    (front-shown n was old (c.requires.size tell) front.count (front.sized tell) (front.bytes tell)) (cut tell)
    (c.format_mounted.ensures.size tell)) c.format_mounted.ensures.failed

pub returns-in-Err-clause-failed : goal.returns-in-Err-clause-failed
returns-in-Err-clause-failed g c = λ tell.
    let n = c.args.geometry.now in
    let was = (g.Y.Bay.device c.args.bay.now).bytes in
    let old = g.Y.S.Span.contents c.in_ok-span.span in
    let front : IsFront g.Y.S.Span.tells (g.Y.Bay.device c.args.bay.now) n.page (pages n) (g.Y.S.Span.start c.in_ok-span.span) old =
    subst (λ (k : ℕ). IsFront g.Y.S.Span.tells (g.Y.Bay.device c.args.bay.now) k (pages n) (g.Y.S.Span.start c.in_ok-span.span) old)
    c.page.ensures.exact
    (subst (λ (k : ℕ). IsFront g.Y.S.Span.tells (g.Y.Bay.device c.args.bay.now) c.page.result k (g.Y.S.Span.start c.in_ok-span.span) old)
    c.pages.ensures c.in_ok-span.ensures.front) in
    let back : CameBack n old (g.Y.Bay.device c.restore.new.self) =
    whole-back n (g.Y.S.Span.start c.in_ok-span.span) (g.Y.Bay.device c.restore.new.self).faults old
    (g.Y.Bay.device c.port.new.self) (g.Y.Bay.device c.restore.new.self) (g.Y.Bay.device c.restore.new.self)
    (mounted-out n (g.Y.Bay.device c.args.bay.now) (g.Y.Bay.device c.mount.new.self) (g.Y.Bay.device c.port.new.self) c.page.result
    c.pages.result
    (g.Y.Bay.device c.mount.new.self).faults (g.Y.Bay.device c.port.new.self).faults c.page.ensures.exact c.pages.ensures
    (c.requires.size tell) (c.in_ok-span.ensures.ok tell) c.port.ensures.stays)
    front.first front.count (front.sized tell) (c.restore.ensures.pages tell) (c.restore.ensures.home tell) refl in
    came-back-cut n was old (g.Y.Bay.device c.restore.new.self) (c.requires.size tell)
    (front-shown n was old (c.requires.size tell) front.count (front.sized tell) (front.bytes tell)) back

pub returns-in-Err-clause-home : goal.returns-in-Err-clause-home
returns-in-Err-clause-home g c = λ tell.
    let n = c.args.geometry.now in
    let was = (g.Y.Bay.device c.args.bay.now).bytes in
    let old = g.Y.S.Span.contents c.in_ok-span.span in
    let front : IsFront g.Y.S.Span.tells (g.Y.Bay.device c.args.bay.now) n.page (pages n) (g.Y.S.Span.start c.in_ok-span.span) old =
    subst (λ (k : ℕ). IsFront g.Y.S.Span.tells (g.Y.Bay.device c.args.bay.now) k (pages n) (g.Y.S.Span.start c.in_ok-span.span) old)
    c.page.ensures.exact
    (subst (λ (k : ℕ). IsFront g.Y.S.Span.tells (g.Y.Bay.device c.args.bay.now) c.page.result k (g.Y.S.Span.start c.in_ok-span.span) old)
    c.pages.ensures c.in_ok-span.ensures.front) in
    let back : CameBack n old (g.Y.Bay.device c.restore.new.self) =
    whole-back n (g.Y.S.Span.start c.in_ok-span.span) (g.Y.Bay.device c.restore.new.self).faults old
    (g.Y.Bay.device c.port.new.self) (g.Y.Bay.device c.restore.new.self) (g.Y.Bay.device c.restore.new.self)
    (mounted-out n (g.Y.Bay.device c.args.bay.now) (g.Y.Bay.device c.mount.new.self) (g.Y.Bay.device c.port.new.self) c.page.result
    c.pages.result
    (g.Y.Bay.device c.mount.new.self).faults (g.Y.Bay.device c.port.new.self).faults c.page.ensures.exact c.pages.ensures
    (c.requires.size tell) (c.in_ok-span.ensures.ok tell) c.port.ensures.stays)
    front.first front.count (front.sized tell) (c.restore.ensures.pages tell) (c.restore.ensures.home tell) refl in
    back.home

-- The size was made the store's before.
use Rattle.std.proofs.Common.{◌≡◌, ℕ, ◌*◌, List, ap, subst, ◌∙◌, sym, inr}
use Rattle.base_laws.proofs.ResultLaws.{on_ok, on_err}
use Rattle.geometry_model.specs.Numbers.{pages}
use Rattle.page_port.specs.Device.{Device, resized}
use Rattle.store_format.specs.Formatting.{IsFormatted, IsHalfFormatted, store_bytes}
use Rattle.store_format.proofs.FormatLemmas.{prepared-formatted, prepared-cut}
use Rattle.store_format.proofs.formatting.format.Goals as goal

pub returns-clause-failed : goal.returns-clause-failed
returns-clause-failed g c =
    let n = c.args.geometry.now in
    let first = (g.Y.Bay.device c.args.bay.now).bytes in
    let now = (g.Y.Bay.device c.format_prepared.new.bay).bytes in
    on_err c.format_prepared.result
    (λ cut tell.
    let size : c.pages.result * c.page.result ≡ store_bytes n =
    ap (λ (k : ℕ). k * c.page.result) c.pages.ensures ∙ ap (λ (k : ℕ). pages n * k) c.page.ensures.exact in
    let bytes : (g.Y.Bay.device c.prepare.new.self).bytes ≡ resized (store_bytes n) first =
    ap (λ (d : Device). d.bytes) (c.in_ok-prepare.ensures.ok tell) ∙ ap (λ (k : ℕ). resized k first) size in
    inr (prepared-cut n first now (subst (λ (xs : List ℕ). IsHalfFormatted n xs now) bytes (cut tell))))
    c.format_prepared.ensures.failed

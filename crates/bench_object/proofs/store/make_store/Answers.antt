-- The spaces of the store are alike, and can be asked for pages.
use Rattle.std.proofs.Common.{ℕ, subst, sym, arith}
use Rattle.geometry_model.specs.Numbers.{Numbers, space_pages}
use Rattle.superdirectory.specs.Solo.{SoloView, rest_of, solo_of}
use Rattle.bench_object.specs.Store.{CanEdit}
use Rattle.bench_object.proofs.StoreLemmas.{alike-first, can-edit}
use Rattle.bench_object.proofs.store.make_store.Goals as goal

pub new-requires-clause-some : goal.new-requires-clause-some
new-requires-clause-some c = omega (arith, c.in_ok-spaces.ensures.long, c.page-page.ensures.range.spaces_low)

pub new-requires-clause-most : goal.new-requires-clause-most
new-requires-clause-most c = omega (arith, c.in_ok-spaces.ensures.long, c.page-page.ensures.range.spaces_high)

pub new-requires-clause-alike : goal.new-requires-clause-alike
new-requires-clause-alike c = (
  c.args.geometry.now.page,
  space_pages c.args.geometry.now,
  alike-first c.args.geometry.now c.args.geometry.now.spaces c.in_ok-spaces.spaces.items c.in_ok-spaces.ensures,
)

pub returns : goal.returns
returns c =
    let n = c.args.geometry.now in
    let alike = alike-first n n.spaces c.in_ok-spaces.spaces.items c.in_ok-spaces.ensures in
    let told = c.in-Ok.ensures.told n.page (space_pages n) alike in
    let port = c.in_ok-port.ensures.page in
    subst (λ (k : ℕ). CanEdit c.in_ok-body.body.numbers k (rest_of c.in-Ok.latches)) (sym port)
    (subst (λ (s : SoloView). CanEdit c.in_ok-body.body.numbers n.page (rest_of s)) (sym told)
    (subst (λ (m : Numbers). CanEdit m n.page (rest_of (solo_of n.page (space_pages n) c.in_ok-spaces.spaces.items)))
    (sym c.in_ok-body.ensures)
    (can-edit n c.in_ok-spaces.spaces.items c.page-page.ensures.range.spaces_low c.in_ok-spaces.ensures)))

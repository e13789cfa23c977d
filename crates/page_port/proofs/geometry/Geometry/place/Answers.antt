-- The row of a page behind the catalog gives its space, and the place in the row its place there.
use Rattle.std.proofs.Common.{◌≡◌, ℕ, ◌+◌, ◌-◌, ◌/◌, ◌%◌, ◌<◌, Some, arith, ap, sym, ◌∙◌, subst}
use Rattle.geometry_model.specs.Numbers.{Numbers, space_pages}
use Rattle.geometry_model.proofs.PageLaws.{place-past, place-none}
use Rattle.page_port.proofs.GeometryLaws.{place-head, place-behind, place-before}
use Rattle.page_port.proofs.geometry.Geometry.place.Goals as goal
use Rattle.page_port.proofs.geometry.Geometry.place.Goals.{then-page-self-via-then-page-self}
use Rattle.page_port.proofs.geometry.Geometry.place.Goals.{then-page-self-via-else-page-self+then-page-pages}

pub returns-then-page-self-clause-exact : goal.returns-then-page-self-clause-exact
returns-then-page-self-clause-exact c =
    let catalog : c.self.inside.catalog ≡ c.args.self.now.catalog = ap (λ (n : Numbers). n.catalog) c.self.view_is in
    sym (elim c.then-page-self.branch [
      | then-page-self-via-then-page-self w ↦ place-before c.args.self.now c.args.page (omega (arith, catalog, w.if-page-self.true))
      | then-page-self-via-else-page-self+then-page-pages w ↦
          place-past c.args.self.now c.args.page (omega (arith, w.pages.ensures, w.if-page-pages.true))
    ])

pub returns-then-page-self-clause-none : goal.returns-then-page-self-clause-none
returns-then-page-self-clause-none c =
    let catalog : c.self.inside.catalog ≡ c.args.self.now.catalog = ap (λ (n : Numbers). n.catalog) c.self.view_is in
    place-none c.args.self.now c.args.page (elim c.then-page-self.branch [
      | then-page-self-via-then-page-self w ↦ place-before c.args.self.now c.args.page (omega (arith, catalog, w.if-page-self.true))
      | then-page-self-via-else-page-self+then-page-pages w ↦
          place-past c.args.self.now c.args.page (omega (arith, w.pages.ensures, w.if-page-pages.true))
    ])

pub returns-then-at-eq0-clause-exact : goal.returns-then-at-eq0-clause-exact
returns-then-at-eq0-clause-exact c =
    let catalog : c.args.self.now.catalog ≡ c.self.inside.catalog = sym (ap (λ (n : Numbers). n.catalog) c.self.view_is) in
    sym (place-head c.args.self.now c.args.page
    (ap (λ k. (c.args.page - (1 + k)) % (1 + space_pages c.args.self.now)) catalog
    ∙ ap (λ k. (c.args.page - (1 + c.self.inside.catalog)) % (1 + k)) (sym c.space_pages-width.ensures.exact)
    ∙ c.if-at-eq0.true))

pub returns-then-at-eq0-clause-none : goal.returns-then-at-eq0-clause-none
returns-then-at-eq0-clause-none c =
    place-none c.args.self.now c.args.page (sym (returns-then-at-eq0-clause-exact c))

pub returns-clause-exact : goal.returns-clause-exact
returns-clause-exact c =
    let catalog : c.args.self.now.catalog ≡ c.self.inside.catalog = sym (ap (λ (n : Numbers). n.catalog) c.self.view_is) in
    let more : 0 < (c.args.page - (1 + c.args.self.now.catalog)) % (1 + space_pages c.args.self.now) =
    subst (λ (k : ℕ). 0 < (c.args.page - (1 + k)) % (1 + space_pages c.args.self.now)) (sym catalog)
    (subst (λ (k : ℕ). 0 < (c.args.page - (1 + c.self.inside.catalog)) % (1 + k)) c.space_pages-width.ensures.exact (omega arith)) in
    sym (place-behind c.args.self.now c.args.page (omega (arith, catalog, c.if-page-self.false))
    (omega (arith, c.pages.ensures, c.if-page-pages.false)) more
    ∙ ap (λ k. Some (
      (c.args.page - (1 + k)) / (1 + space_pages c.args.self.now),
      (c.args.page - (1 + k)) % (1 + space_pages c.args.self.now) - 1,
    )) catalog
    ∙ ap (λ k. Some (
      (c.args.page - (1 + c.self.inside.catalog)) / (1 + k),
      (c.args.page - (1 + c.self.inside.catalog)) % (1 + k) - 1,
    )) (sym c.space_pages-width.ensures.exact))

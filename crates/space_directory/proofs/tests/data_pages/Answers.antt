-- Each page behind the first three has 256 bytes, as each page of the mount has.
use Rattle.std.proofs.Common.{◌≡◌, ℕ, List, length, refl, subst, sym}
use Rattle.std.proofs.lemmas.List.Elements.{All-drop}
use Rattle.page_port.specs.Pages.{AreOf}
use Rattle.space_directory.proofs.tests.data_pages.Goals as goal

pub returns-clause-sized : goal.returns-clause-sized
returns-clause-sized c =
    let rest : AreOf 256 c.cut.new.self.pages = subst (λ (pages : List (List ℕ)). AreOf 256 pages) (sym c.cut.ensures.rest_pages)
    (All-drop (λ (page : List ℕ). length page ≡ 256) 3 c.in-Ok-mount.span.pages (c.in-Ok-mount.ensures.front.sized refl)) in
    rest

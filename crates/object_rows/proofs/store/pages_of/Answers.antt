-- What is left of the pages of a mount has their size.
use Rattle.std.proofs.Common.{◌≡◌, ℕ, List, length, refl, sym, subst}
use Rattle.std.proofs.lemmas.List.Elements.{All-drop}
use Rattle.page_port.specs.Pages.{AreOf}
use Rattle.object_rows.proofs.store.pages_of.Goals as goal

pub returns-clause-sized : goal.returns-clause-sized
returns-clause-sized c =
    subst (AreOf 256) (sym c.cut-head.ensures.rest_pages)
    (All-drop (λ (page : List ℕ). length page ≡ 256) 3 c.in-Ok-mount.pages.pages (c.in-Ok-mount.ensures.front.sized refl))

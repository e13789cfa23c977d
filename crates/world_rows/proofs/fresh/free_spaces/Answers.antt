-- A space of 16 free pages is all of a store with one space.
use Rattle.std.proofs.Common.{◌≡◌, List, length, sym, subst, arith, ℕ, ◌∙◌}
use Rattle.std.proofs.lemmas.List.Elements.{All-drop}
use Rattle.page_port.specs.Pages.{AreOf}
use Rattle.geometry_model.specs.Numbers.{Numbers}
use Rattle.txn_rows.specs.Session.{small}
use Rattle.world_rows.specs.Rows.{AreFreeSpaces}
use Rattle.world_rows.proofs.RowsLemmas.{free-one}
use Rattle.world_rows.proofs.fresh.free_spaces.Goals as goal

pub read_page-requires-clause-sized : goal.read_page-requires-clause-sized
read_page-requires-clause-sized c = λ tell.
    let pages = c.cut-head.new.self.pages in
    let rest : AreOf 256 pages = subst (AreOf 256) (sym c.cut-head.ensures.rest_pages)
    (All-drop (λ (page : List ℕ). length page ≡ 256) 4 c.in-Ok-mount.span.pages (c.in-Ok-mount.ensures.front.sized tell)) in
    subst (λ (n : Numbers). AreOf n.page pages) (sym c.in_ok-geometry.ensures) rest

pub returns : goal.returns
returns c =
    subst (AreFreeSpaces small) (sym c.in-Ok-from_array.ensures.items)
    (free-one _ _ _ _ c.in-Ok-read_page.read.space c.in_ok-geometry.ensures
    (omega (arith, c.cut-head.ensures.rest, c.in-Ok-mount.ensures.front.first)) c.in-Ok-read_page.ensures.read
    c.in-Ok-read_page.ensures.space (sym c.counts.ensures.free ∙ c.if-counts-ne16.false))

-- The lowest new level is the one that is raised.
use Rattle.std.proofs.Common.{◌≡◌, ◌++◌, OnOk, List, map, subst}
use Rattle.layout_model.specs.Levels.{NewLevel}
use Rattle.tree_splice.specs.Remade.{remade}
use Rattle.tree_splice.proofs.UpLemmas.{planted}
use Rattle.tree_splice.proofs.up.plant.Goals as goal

pub returns-clause-levels : goal.returns-clause-levels
returns-clause-levels c =
    subst (λ (levels : List NewLevel). OnOk c.raise.result (c.raise.new.into.items ≡ c.args.into.now.items ++ map remade levels))
    (planted c.args.f c.new.result c.in_ok-first.first c.args.fresh.now c.args.pages.now c.new.ensures c.in_ok-first.ensures.level
    c.in_ok-first.ensures.rebuilt)
    c.raise.ensures.levels

-- The greatest order is the only one.
use Rattle.std.proofs.Common.{ℕ, List, Bool, subst, sym}
use Rattle.block_model.specs.Block.{IsLargest}
use Rattle.block_model.proofs.Laws.{largest-unique}
use Rattle.buddy_map.specs.Tree.{AreMasks}
use Rattle.buddy_map.proofs.map.BuddyMap.largest.Goals as goal

pub returns-clause-computed : goal.returns-clause-computed
returns-clause-computed c =
    let pages = c.self.inside.pages.items in
    let tree : AreMasks pages c.self.inside.order c.deref.result.now =
    subst (λ (masks : List ℕ). AreMasks pages c.self.inside.order masks) (sym c.deref.ensures.value) c.self.invariant.2 in
    largest-unique c.args.self.now c.largest_of.result
    (subst (λ (free : List Bool). IsLargest free c.largest_of.result) c.self.view_is (c.largest_of.ensures pages tree))

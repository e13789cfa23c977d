-- The place is the only one, and its pages lie in the map.
use Rattle.std.proofs.Common.{ℕ, ◌+◌, ◌^◌, ◌<◌, List, Bool, Some, None, length, subst, sym, ap, arith}
use Rattle.std.specs.Prelude.{slice_index}
use Rattle.block_model.specs.Block.{IsPlace}
use Rattle.block_model.proofs.Laws.{place-unique, IsPlace-within}
use Rattle.buddy_map.specs.Tree.{AreMasks}
use Rattle.buddy_map.proofs.Descent.{root_small}
use Rattle.buddy_map.proofs.map.BuddyMap.grant.Goals as goal

pub place_of-requires-clause-orders : goal.place_of-requires-clause-orders
place_of-requires-clause-orders c =
    subst (λ (masks : List ℕ). slice_index masks 1 < 2 ^ (c.self.inside.order + 1)) (sym c.deref.ensures.value)
    (root_small c.self.inside.pages.items c.self.inside.order c.self.inside.masks.items c.self.invariant.2)

pub returns-in_default-clause-computed : goal.returns-in_default-clause-computed
returns-in_default-clause-computed c =
    let pages = c.self.inside.pages.items in
    let tree : AreMasks pages c.self.inside.order c.deref.result.now =
    subst (λ (masks : List ℕ). AreMasks pages c.self.inside.order masks) (sym c.deref.ensures.value) c.self.invariant.2 in
    place-unique c.args.self.now c.args.n None
    (subst (λ (free : List Bool). IsPlace free c.args.n None) c.self.view_is (c.in_default.ensures pages tree))

pub take_out-requires : goal.take_out-requires
take_out-requires c =
    let pages = c.self.inside.pages.items in
    let tree : AreMasks pages c.self.inside.order c.deref.result.now =
    subst (λ (masks : List ℕ). AreMasks pages c.self.inside.order masks) (sym c.deref.ensures.value) c.self.invariant.2 in
    omega (
      arith,
      IsPlace-within pages c.args.n c.in-Some.first c.requires.some (c.in-Some.ensures pages tree),
      ap length c.self.view_is,
    )

pub returns-clause-computed : goal.returns-clause-computed
returns-clause-computed c =
    let pages = c.self.inside.pages.items in
    let tree : AreMasks pages c.self.inside.order c.deref.result.now =
    subst (λ (masks : List ℕ). AreMasks pages c.self.inside.order masks) (sym c.deref.ensures.value) c.self.invariant.2 in
    place-unique c.args.self.now c.args.n (Some c.in-Some.first)
    (subst (λ (free : List Bool). IsPlace free c.args.n (Some c.in-Some.first)) c.self.view_is (c.in-Some.ensures pages tree))

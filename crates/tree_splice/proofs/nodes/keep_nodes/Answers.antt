-- One node more is kept, and the others are left.
use Rattle.std.proofs.Common.{◌≡◌, ℕ, List, length, get_or, refl, ap, sym, subst, ◌∙◌, arith}
use Rattle.std.specs.List.{AllByRecursion}
use Rattle.layout_model.specs.Levels.{PageNode}
use Rattle.tree_model.specs.declared.entry.Pair.{Pair}
use Rattle.tree_model.specs.Node.{NodeBytes, room_of}
use Rattle.tree_read.proofs.CacheLemmas.{KeepsNodes-keep}
use Rattle.tree_splice.specs.Remade.{row_pages}
use Rattle.tree_splice.specs.Way.{IsMade}
use Rattle.tree_splice.proofs.NodesLemmas.{left-all, left-next, whole-all, whole-next}
use Rattle.tree_splice.proofs.nodes.keep_nodes.Goals as goal

pub loop-number-init : goal.loop-number-init
loop-number-init c =
    let all = left-all c.args.nodes.now c.pairs-left.result.now c.pairs-left.ensures in
    record {
      whole = whole-all c.args.nodes.now c.pairs-left.result.now c.pairs-left.ensures;
      fits = subst (AllByRecursion (IsMade c.args.node.now.pairs.room)) (sym all) c.requires.made;
      room = refl;
      kept = λ told size at right made stand. right;
      left = λ told size at made stand. (
        subst (AllByRecursion (IsMade (room_of size))) (sym all) made,
        λ t. subst (AllByRecursion (λ (n : PageNode). NodeBytes (at n.page) c.args.level n.pairs)) (sym all) (stand t),
      );
    }

pub loop-number-preserved : goal.loop-number-preserved
loop-number-preserved c =
    let kept = c.loop-number.invariant in
    let nodes = c.args.nodes.now in
    let i = c.loop-number.number in
    let left = c.loop-number.left.now in
    let here = c.split_at.result.0.now in
    let behind = c.split_at.result.1.now in
    let inside = c.loop-number-test.true in
    let count = c.len-number-end.ensures.count in
    let next = left-next nodes c.counts.result.now left here behind i (omega (arith, inside, count)) c.counts.ensures.counts
    c.split_at.ensures.front c.split_at.ensures.back in
    let page : get_or (row_pages nodes) i 0 ≡ get_or c.pages.result.now i 0 = ap (λ (ps : List ℕ). get_or ps i 0) (sym c.pages.ensures) in
    record {
      whole = whole-next nodes c.counts.result.now left behind i (omega (arith, inside, count)) c.counts.ensures.counts kept.whole
          c.split_at.ensures.back;
      fits = (subst (AllByRecursion (IsMade c.args.node.now.pairs.room)) next kept.fits).1;
      room = c.set_node.ensures.room ∙ kept.room;
      kept = λ told size at right made stand.
          let rest = kept.left told size at made stand in
          let one = (subst (AllByRecursion (IsMade (room_of size))) next rest.0).0 in
          let most = one.most in
          let few = ap length c.set_node.ensures.pairs in
          KeepsNodes-keep told size at c.loop-number.cache c.keep.new.self (get_or c.pages.result.now i 0) c.set_node.new.node
          c.keep.ensures.others
          c.keep.ensures.node (omega (arith, most, few))
          (λ t.
          let stands = (subst (AllByRecursion (λ (n : PageNode). NodeBytes (at n.page) c.args.level n.pairs)) next (rest.1 t)).0 in
          subst (λ (k : ℕ). NodeBytes (at (get_or c.pages.result.now i 0)) k c.set_node.new.node.pairs.items) (sym c.set_node.ensures.level)
          (subst (λ (ps : List Pair). NodeBytes (at (get_or c.pages.result.now i 0)) c.args.level ps) (sym c.set_node.ensures.pairs)
          (subst (λ (q : ℕ). NodeBytes (at q) c.args.level here) page stands)))
          (kept.kept told size at right made stand);
      left = λ told size at made stand.
          let rest = kept.left told size at made stand in (
            (subst (AllByRecursion (IsMade (room_of size))) next rest.0).1,
            λ t. (subst (AllByRecursion (λ (n : PageNode). NodeBytes (at n.page) c.args.level n.pairs)) next (rest.1 t)).1,
          );
    }

-- The pairs so far are the first ones on the page.
use Rattle.std.proofs.Common.{◌*◌, drop, ap, sym, ◌∙◌, ◌++◌, ◌∷◌, [], List, length, arith}
use Rattle.std.proofs.lemmas.List.{drop-drop}
use Rattle.tree_model.specs.declared.entry.Pair.{Pair}
use Rattle.tree_model.specs.Node.{pair_in, pairs_in}
use Rattle.node_codec.proofs.ReadLemmas.{length-pairs_in, pairs_in-more}
use Rattle.node_codec.proofs.read.read_pairs.Goals as goal

pub put-requires : goal.put-requires
put-requires c =
    let so_far = ap length c.loop-i.invariant.items ∙ length-pairs_in c.loop-i.i (drop 8 c.args.page.now) in
    omega (arith, so_far)

pub loop-i-preserved : goal.loop-i-preserved
loop-i-preserved c =
    let more = pairs_in-more c.loop-i.i (drop 8 c.args.page.now) in
    let place = drop-drop (12 * c.loop-i.i) 8 c.args.page.now in
    record {
      items = c.put.ensures.items
          ∙ ap (λ (xs : List Pair). xs ++ c.pair_at.result ∷ []) c.loop-i.invariant.items
          ∙ ap (λ (p : Pair). pairs_in c.loop-i.i (drop 8 c.args.page.now) ++ p ∷ []) (c.pair_at.ensures ∙ ap pair_in (sym place))
          ∙ sym more;
      room = c.put.ensures.room ∙ c.loop-i.invariant.room;
    }

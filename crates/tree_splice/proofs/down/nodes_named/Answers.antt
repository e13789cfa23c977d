-- One node more is read and appended.
use Rattle.std.proofs.Common.{List, ◌++◌, [], ◌∷◌, get_or, ap, sym, ◌∙◌}
use Rattle.layout_model.specs.Levels.{PageNode}
use Rattle.span_store.specs.Held.{bytes_on}
use Rattle.tree_model.specs.declared.entry.Pair.{Pair}
use Rattle.tree_model.specs.Tree.{HasNode}
use Rattle.tree_pages.specs.Levels.{node_on}
use Rattle.tree_read.proofs.CacheLemmas.{AsksSearch-on}
use Rattle.tree_read.proofs.LevelLemmas.{AllByRecursion-at}
use Rattle.tree_splice.proofs.DownLemmas.{named-more, reads-then}
use Rattle.tree_splice.proofs.PlaceLemmas.{no_pair}
use Rattle.tree_splice.proofs.down.nodes_named.Goals as goal

pub push_named-requires : goal.push_named-requires
push_named-requires g c =
    AsksSearch-on _ _ _ _ _ _ c.loop-pair.invariant.reads.uses.used.page c.requires.pages c.loop-pair.invariant.reads.nodes
    (λ t. AllByRecursion-at (λ (q : Pair). HasNode (bytes_on c.args.held.now) q.page c.args.level 0 q.bytes) c.args.pairs.now
    c.loop-pair.pair-index no_pair c.loop-pair-test.true (c.requires.stands t))

pub loop-pair-preserved : goal.loop-pair-preserved
loop-pair-preserved g c =
    let at = bytes_on c.args.held.now in
    let i = c.loop-pair.pair-index in
    let kept = c.loop-pair.invariant in
    record {
      reads = reads-then _ _ _ at _ _ _ _ _ kept.reads c.push_named.ensures.reads kept.reads.uses.used.page;
      told = λ t.
          c.in_ok-push_named.ensures.told t
          ∙ (ap (λ (ns : List PageNode). ns ++ node_on at (get_or c.args.pairs.now i no_pair).page ∷ []) (kept.told t)
          ∙ sym (named-more at c.args.pairs.now i c.loop-pair-test.true));
      sound = c.in_ok-push_named.ensures.sound kept.sound;
      quiet = c.in_ok-push_named.ensures.cause.still (λ bad. absurd cc) ∙ kept.quiet;
    }

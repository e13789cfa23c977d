-- The node that is loaded has pairs, and where the device tells it is the one that the pair names.
use Rattle.std.proofs.Common.{List, ◌++◌, [], ◌∷◌, ap, sym, subst, ◌∙◌}
use Rattle.std.specs.List.{AllByRecursion}
use Rattle.base_laws.proofs.ListLaws.{all-append}
use Rattle.layout_model.specs.Levels.{PageNode}
use Rattle.span_store.specs.Held.{bytes_on}
use Rattle.tree_model.specs.declared.entry.Pair.{Pair}
use Rattle.tree_splice.specs.Way.{HasSomePairs, IsSoundNode}
use Rattle.tree_splice.proofs.DownLemmas.{node-pairs}
use Rattle.tree_splice.proofs.down.push_named.Goals as goal

pub check-requires : goal.check-requires
check-requires g c = record {
  told = λ t.
      subst HasSomePairs (sym (c.pairs_of-pairs.ensures ∙ c.in_ok-node.ensures.told t))
      (node-pairs (bytes_on c.args.held.now) c.args.pair.page c.args.level 0 c.args.pair.bytes (c.requires.stands t));
}

pub returns-clause-told : goal.returns-clause-told
returns-clause-told g c = λ t.
    c.in_ok-push.ensures.ok
    ∙ ap (λ (ps : List Pair). c.args.into.now ++ record { page = c.args.pair.page; pairs = ps } ∷ [])
    (c.pairs_of-pairs.ensures ∙ c.in_ok-node.ensures.told t)

pub returns-clause-sound : goal.returns-clause-sound
returns-clause-sound g c = λ sound.
    subst (λ (ns : List PageNode). AllByRecursion IsSoundNode ns) (sym c.in_ok-push.ensures.ok)
    (all-append IsSoundNode c.args.into.now _ sound (c.in_ok-check.ensures.sound, tt))

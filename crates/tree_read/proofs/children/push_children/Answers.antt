-- Each pair is looked at in the place that those before it give it.
use Rattle.std.proofs.Common.{ℕ, ◌+◌, ◌++◌, ◌∷◌, [], List, take, sym, ap, ◌∙◌, append_assoc, slice_index_or, arith}
use Rattle.tree_model.specs.declared.entry.Pair.{Pair}
use Rattle.tree_model.specs.declared.entry.Placed.{Placed}
use Rattle.tree_model.specs.Range.{in_range}
use Rattle.tree_read.proofs.ChildLemmas.{bytes_of-more, bytes_of-first, in_range-more}
use Rattle.tree_read.proofs.children.push_children.Goals as goal

abbrev none : Pair
none = record { bytes = 0; page = 0 }

pub push_child-requires : goal.push_child-requires
push_child-requires c =
    let more = bytes_of-more c.args.pairs.now c.loop-pair.pair-index none c.loop-pair-test.true in
    let first = bytes_of-first c.args.pairs.now (c.loop-pair.pair-index + 1) in
    omega arith

pub loop-pair-preserved : goal.loop-pair-preserved
loop-pair-preserved c =
    let pairs = c.args.pairs.now in
    let i = c.loop-pair.pair-index in
    let more = bytes_of-more pairs i none c.loop-pair-test.true in
    let found = in_range-more c.args.from c.args.to c.args.start pairs i none c.loop-pair-test.true in
    record {
      place = omega arith;
      items = c.in_ok-push_child.ensures
          ∙ ap (λ (xs : List Placed). xs ++ in_range c.args.from c.args.to c.loop-pair.place
          (slice_index_or pairs i none ∷ [])) c.loop-pair.invariant.items
          ∙ ap (λ (n : ℕ). (c.args.into.now.items ++ in_range c.args.from c.args.to c.args.start (take i pairs))
          ++ in_range c.args.from c.args.to n (slice_index_or pairs i none ∷ [])) c.loop-pair.invariant.place
          ∙ append_assoc c.args.into.now.items _ _
          ∙ ap (λ (xs : List Placed). c.args.into.now.items ++ xs) (sym found);
    }

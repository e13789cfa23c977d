use Rattle.std.proofs.Common.{◌∙◌, arith}
use Rattle.tree_splice.proofs.NameLemmas.{whole-first, whole-more, names-more, counted-more, counted-first, names-end}
use Rattle.tree_splice.proofs.naming.push_names.Goals as goal

pub split_at-requires : goal.split_at-requires
split_at-requires c =
    whole-first c.args.counts.now c.loop-number.left.now c.loop-number.number (omega arith) c.loop-number.invariant.whole

pub loop-number-preserved : goal.loop-number-preserved
loop-number-preserved c =
    let pages = c.args.pages.now in
    let counts = c.args.counts.now in
    let left = c.loop-number.left.now in
    let i = c.loop-number.number in
    record {
      whole = whole-more counts left c.split_at.result.1.now i (omega arith) c.loop-number.invariant.whole c.split_at.ensures.back;
      named = names-more pages counts left c.split_at.result.0.now c.split_at.result.1.now i c.in-Some.bytes c.loop-number.into.items
          c.push_pair.new.into.items
          (omega arith) c.requires.same c.split_at.ensures.front c.split_at.ensures.back c.in-Some.ensures.1 c.in_ok-push_pair.ensures
          ∙ c.loop-number.invariant.named;
      wide = λ counted. counted-more pages counts left c.split_at.result.1.now i (omega arith) c.requires.same c.split_at.ensures.back
          (c.loop-number.invariant.wide counted);
    }

pub returns-in_default-clause-wide : goal.returns-in_default-clause-wide
returns-in_default-clause-wide c = λ bad counted.
    c.in_default.ensures (counted-first c.args.pages.now c.args.counts.now c.loop-number.left.now c.split_at.result.0.now
    c.loop-number.number (omega arith) c.requires.same
    c.split_at.ensures.front (c.loop-number.invariant.wide counted))

pub returns-clause-named : goal.returns-clause-named
returns-clause-named c =
    names-end c.args.pages.now c.args.counts.now c.loop-number.left.now c.loop-number.number c.loop-number.into.items _ (omega arith)
    c.loop-number.invariant.named

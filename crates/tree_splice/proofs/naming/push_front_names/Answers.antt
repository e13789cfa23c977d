-- The three lists that are handed on are those of the first nodes.
use Rattle.std.proofs.Common.{◌≡◌, ℕ, List, ◌++◌, OnOk, map, take, ap, sym, subst, arith}
use Rattle.std.proofs.lemmas.List.Sums.{sum_by-take-le}
use Rattle.layout_model.specs.Levels.{PageNode, pair_of}
use Rattle.tree_splice.specs.Remade.{AreCounted}
use Rattle.tree_splice.proofs.RunLemmas.{total, AreOf-nodes, AreOf-same, AreOf-whole, AreOf-front}
use Rattle.tree_splice.proofs.naming.push_front_names.Goals as goal

pub total-requires : goal.total-requires
total-requires c =
    let less = sum_by-take-le (λ (n : ℕ). n) c.counts.result.now c.args.n in
    let same = ap total c.front-counts.ensures in
    let small = c.counts.ensures.small in
    omega (arith, less, same, small)

pub push_names-requires-clause-same : goal.push_names-requires-clause-same
push_names-requires-clause-same c =
    let nodes = c.args.run.now in
    AreOf-same (take c.args.n nodes) c.front.result.now c.front-counts.result.now c.front-pairs.result.now
    (AreOf-front c.args.n c.total.result nodes c.pages.result.now c.front.result.now c.counts.result.now c.front-counts.result.now
    c.pairs.result.now c.front-pairs.result.now
    c.pages.ensures c.front.ensures c.counts.ensures.counts c.front-counts.ensures c.pairs.ensures c.total.ensures c.front-pairs.ensures)

pub push_names-requires-clause-whole : goal.push_names-requires-clause-whole
push_names-requires-clause-whole c =
    let nodes = c.args.run.now in
    let whole = AreOf-whole (take c.args.n nodes) c.front.result.now c.front-counts.result.now c.front-pairs.result.now
    (AreOf-front c.args.n c.total.result nodes c.pages.result.now c.front.result.now c.counts.result.now c.front-counts.result.now
    c.pairs.result.now c.front-pairs.result.now
    c.pages.ensures c.front.ensures c.counts.ensures.counts c.front-counts.ensures c.pairs.ensures c.total.ensures c.front-pairs.ensures) in
    omega (arith, whole)

pub returns-clause-named : goal.returns-clause-named
returns-clause-named c =
    let nodes = c.args.run.now in
    let same = AreOf-nodes (take c.args.n nodes) c.front.result.now c.front-counts.result.now c.front-pairs.result.now
    (AreOf-front c.args.n c.total.result nodes c.pages.result.now c.front.result.now c.counts.result.now c.front-counts.result.now
    c.pairs.result.now c.front-pairs.result.now
    c.pages.ensures c.front.ensures c.counts.ensures.counts c.front-counts.ensures c.pairs.ensures c.total.ensures c.front-pairs.ensures) in
    subst (λ (ns : List PageNode). OnOk c.push_names.result (c.push_names.new.into.items ≡ c.args.into.now.items ++ map pair_of ns)) same
    c.push_names.ensures.named

pub returns-clause-wide : goal.returns-clause-wide
returns-clause-wide c = λ bad counted.
    let nodes = c.args.run.now in
    let same = AreOf-nodes (take c.args.n nodes) c.front.result.now c.front-counts.result.now c.front-pairs.result.now
    (AreOf-front c.args.n c.total.result nodes c.pages.result.now c.front.result.now c.counts.result.now c.front-counts.result.now
    c.pairs.result.now c.front-pairs.result.now
    c.pages.ensures c.front.ensures c.counts.ensures.counts c.front-counts.ensures c.pairs.ensures c.total.ensures c.front-pairs.ensures) in
    c.push_names.ensures.wide bad (subst AreCounted (sym same) counted)

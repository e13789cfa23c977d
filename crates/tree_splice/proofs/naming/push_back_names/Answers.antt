-- The three lists that are handed on are those of the nodes behind.
use Rattle.std.proofs.Common.{◌≡◌, ℕ, List, ◌++◌, OnOk, map, take, drop, ap, sym, subst, ◌∙◌, arith}
use Rattle.std.proofs.lemmas.List.Sums.{sum_by-take-le}
use Rattle.layout_model.specs.Levels.{PageNode, pair_of}
use Rattle.tree_splice.specs.Remade.{AreCounted}
use Rattle.tree_splice.proofs.RunLemmas.{total, AreOf-nodes, AreOf-same, AreOf-whole, AreOf-back}
use Rattle.tree_splice.proofs.naming.push_back_names.Goals as goal

pub total-requires : goal.total-requires
total-requires c =
    let less = sum_by-take-le (λ (n : ℕ). n) c.counts.result.now c.args.n in
    let same = ap total c.front.ensures in
    let small = c.counts.ensures.small in
    omega (arith, less, same, small)

pub push_names-requires-clause-same : goal.push_names-requires-clause-same
push_names-requires-clause-same c =
    AreOf-same (drop c.args.n c.args.run.now) c.rest.result.now c.rest-2.result.now c.rest-pairs.result.now
    (AreOf-back c.args.n c.total.result c.args.run.now c.pages.result.now c.rest.result.now c.counts-2.result.now c.rest-2.result.now
    c.front.result.now c.pairs.result.now c.rest-pairs.result.now
    c.pages.ensures c.rest.ensures c.counts-2.ensures.counts c.rest-2.ensures c.pairs.ensures
    (c.front.ensures ∙ ap (λ (ks : List ℕ). take c.args.n ks) c.counts.ensures.counts) c.total.ensures c.rest-pairs.ensures)

pub push_names-requires-clause-whole : goal.push_names-requires-clause-whole
push_names-requires-clause-whole c =
    let whole = AreOf-whole (drop c.args.n c.args.run.now) c.rest.result.now c.rest-2.result.now c.rest-pairs.result.now
    (AreOf-back c.args.n c.total.result c.args.run.now c.pages.result.now c.rest.result.now c.counts-2.result.now c.rest-2.result.now
    c.front.result.now c.pairs.result.now c.rest-pairs.result.now
    c.pages.ensures c.rest.ensures c.counts-2.ensures.counts c.rest-2.ensures c.pairs.ensures
    (c.front.ensures ∙ ap (λ (ks : List ℕ). take c.args.n ks) c.counts.ensures.counts) c.total.ensures c.rest-pairs.ensures) in
    omega (arith, whole)

pub returns-clause-named : goal.returns-clause-named
returns-clause-named c =
    let same = AreOf-nodes (drop c.args.n c.args.run.now) c.rest.result.now c.rest-2.result.now c.rest-pairs.result.now
    (AreOf-back c.args.n c.total.result c.args.run.now c.pages.result.now c.rest.result.now c.counts-2.result.now c.rest-2.result.now
    c.front.result.now c.pairs.result.now c.rest-pairs.result.now
    c.pages.ensures c.rest.ensures c.counts-2.ensures.counts c.rest-2.ensures c.pairs.ensures
    (c.front.ensures ∙ ap (λ (ks : List ℕ). take c.args.n ks) c.counts.ensures.counts) c.total.ensures c.rest-pairs.ensures) in
    subst (λ (ns : List PageNode). OnOk c.push_names.result (c.push_names.new.into.items ≡ c.args.into.now.items ++ map pair_of ns)) same
    c.push_names.ensures.named

pub returns-clause-wide : goal.returns-clause-wide
returns-clause-wide c = λ bad counted.
    let same = AreOf-nodes (drop c.args.n c.args.run.now) c.rest.result.now c.rest-2.result.now c.rest-pairs.result.now
    (AreOf-back c.args.n c.total.result c.args.run.now c.pages.result.now c.rest.result.now c.counts-2.result.now c.rest-2.result.now
    c.front.result.now c.pairs.result.now c.rest-pairs.result.now
    c.pages.ensures c.rest.ensures c.counts-2.ensures.counts c.rest-2.ensures c.pairs.ensures
    (c.front.ensures ∙ ap (λ (ks : List ℕ). take c.args.n ks) c.counts.ensures.counts) c.total.ensures c.rest-pairs.ensures) in
    c.push_names.ensures.wide bad (subst AreCounted (sym same) counted)

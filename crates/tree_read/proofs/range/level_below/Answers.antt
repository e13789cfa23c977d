-- Each node adds those of its pairs that have a byte in the range.
use Rattle.std.proofs.Common.{◌≡◌, ◌+◌, ◌++◌, List, length, take, get_or, sym, ap, subst, ◌∙◌, arith}
use Rattle.tree_model.specs.declared.entry.Pair.{Pair}
use Rattle.tree_model.specs.declared.entry.Placed.{Placed}
use Rattle.tree_model.specs.Tree.{bytes_of, pairs_on}
use Rattle.tree_model.specs.Range.{in_range}
use Rattle.tree_read.specs.Cost.{below}
use Rattle.tree_read.specs.Search.{EndsInside, IsNamed}
use Rattle.base_laws.proofs.ListLaws.{all-append}
use Rattle.std.proofs.lemmas.List.{take_all}
use Rattle.tree_model.specs.Range.{start_of}
use Rattle.tree_read.proofs.CoverLemmas.{AreChildren, AreChildren-more, AreChildren-cover, adjoined-start}
use Rattle.tree_read.proofs.LevelLemmas.{AllByRecursion-at, below-more, in_range-inside}
use Rattle.std.specs.Prelude.{IsSome}
use Rattle.page_cache.specs.Kept.{kept}
use Rattle.tree_read.proofs.CacheLemmas.{AsksSearch-on, Visits-then, kept-same}
use Rattle.fault_count.proofs.CountLaws.{Reads-more}
use Rattle.span_store.specs.Held.{bytes_on}
use Rattle.tree_read.proofs.range.level_below.Goals as goal

abbrev none : Placed
none = record { start = 0; pair = record { bytes = 0; page = 0 } }

pub load-requires : goal.load-requires
load-requires g c =
    AsksSearch-on _ _ _ _ _ _ c.loop-parent.invariant.visits.reads.used.page c.requires.asks.pages c.loop-parent.invariant.visits.nodes
    (λ t. AllByRecursion-at (IsNamed (bytes_on c.args.held.now) c.args.level) c.args.nodes.now c.loop-parent.parent-index none
    c.loop-parent-test.true (c.requires.asks.stands t))

pub push_children-requires : goal.push_children-requires
push_children-requires g c =
    let ends : EndsInside (get_or c.args.nodes.now c.loop-parent.parent-index none) =
    AllByRecursion-at EndsInside c.args.nodes.now c.loop-parent.parent-index none c.loop-parent-test.true c.requires.reaches.ends in
    let sum = ap bytes_of c.pairs_of.ensures ∙ c.in_ok-node.ensures.sum in
    omega (arith, ends, sum)

pub loop-parent-preserved : goal.loop-parent-preserved
loop-parent-preserved g c =
    let i = c.loop-parent.parent-index in
    let nodes = c.args.nodes.now in
    let s = get_or nodes i none in
    let from = c.args.from in
    let to = c.args.to in
    let at = bytes_on c.args.held.now in
    let same = c.loop-parent.invariant.visits.reads.used.page in
    let ps = c.pairs_of.result.now in
    let ends : EndsInside s = AllByRecursion-at EndsInside nodes i none c.loop-parent-test.true c.requires.reaches.ends in
    let sum : bytes_of ps ≡ s.pair.bytes = ap bytes_of c.pairs_of.ensures ∙ c.in_ok-node.ensures.sum in
    record {
      visits = Visits-then _ _ _ _ i 1 (i + 1) _ _ _ _ _ _ _ _ c.loop-parent.invariant.visits c.load.ensures.visits same
          (λ kept_same held. kept-same c.args.cache.now c.loop-parent.cache s.pair.page kept_same
          (AllByRecursion-at (λ r. IsSome (kept c.args.cache.now r.pair.page)) nodes i none c.loop-parent-test.true held))
          (omega arith);
      told = λ t.
          let pairs : ps ≡ pairs_on at s.pair.page = c.pairs_of.ensures ∙ c.in_ok-node.ensures.told t in
          c.in_ok-push_children.ensures
          ∙ ap (λ (xs : List Placed). xs ++ in_range from to s.start ps) (c.loop-parent.invariant.told t)
          ∙ ap (λ (xs : List Pair). below at from to (take i nodes) ++ in_range from to s.start xs) pairs
          ∙ sym (below-more at from to nodes i none c.loop-parent-test.true);
      quiet = c.in_ok-node.ensures.cause.still (λ bad. absurd cc) ∙ c.loop-parent.invariant.quiet;
      spelled = AreChildren-more from to (start_of nodes) nodes c.loop-parent.children.items
          c.push_children.new.into.items ps i none c.loop-parent-test.true
          c.loop-parent.invariant.spelled (adjoined-start nodes i none c.requires.reaches.covers.adjoined
          c.loop-parent-test.true) sum c.in_ok-push_children.ensures;
      fits =
          let inside = in_range-inside from to s.start ps (omega arith) in
          rw c.in_ok-push_children.ensures
          (all-append EndsInside c.loop-parent.children.items (in_range from to s.start ps) c.loop-parent.invariant.fits inside);
    }

pub returns-in_err-node-clause-visits : goal.returns-in_err-node-clause-visits
returns-in_err-node-clause-visits g c =
    let i = c.loop-parent.parent-index in
    let nodes = c.args.nodes.now in
    Visits-then _ _ _ _ i 1 (length nodes) _ _ _ _ _ _ _ _ c.loop-parent.invariant.visits c.load.ensures.visits
    c.loop-parent.invariant.visits.reads.used.page
    (λ same held. kept-same c.args.cache.now c.loop-parent.cache (get_or nodes i none).pair.page same
    (AllByRecursion-at (λ r. IsSome (kept c.args.cache.now r.pair.page)) nodes i none c.loop-parent-test.true held))
    (omega arith)

pub returns-in_err-push_children-clause-visits : goal.returns-in_err-push_children-clause-visits
returns-in_err-push_children-clause-visits g c =
    let i = c.loop-parent.parent-index in
    let nodes = c.args.nodes.now in
    Visits-then _ _ _ _ i 1 (length nodes) _ _ _ _ _ _ _ _ c.loop-parent.invariant.visits c.load.ensures.visits
    c.loop-parent.invariant.visits.reads.used.page
    (λ same held. kept-same c.args.cache.now c.loop-parent.cache (get_or nodes i none).pair.page same
    (AllByRecursion-at (λ r. IsSome (kept c.args.cache.now r.pair.page)) nodes i none c.loop-parent-test.true held))
    (omega arith)

pub returns-clause-visits : goal.returns-clause-visits
returns-clause-visits g c =
    let visits = c.loop-parent.invariant.visits in record {
      nodes = visits.nodes;
      reads = Reads-more c.loop-parent.parent-index (length c.args.nodes.now) _ _ visits.reads (omega arith);
      cached = visits.cached;
    }

pub returns-clause-reaches : goal.returns-clause-reaches
returns-clause-reaches g c =
    let nodes = c.args.nodes.now in
    let children = c.loop-parent.children.items in
    let all = take_all c.loop-parent.parent-index nodes (omega arith) in
    record {
      covers = AreChildren-cover c.args.from c.args.to nodes children c.requires.reaches.covers
          (subst (λ (ss : List Placed). AreChildren c.args.from c.args.to (start_of nodes) ss children) all
          c.loop-parent.invariant.spelled);
      ends = c.loop-parent.invariant.fits;
    }

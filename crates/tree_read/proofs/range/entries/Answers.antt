-- What is under a level's nodes stays what the range meets of all entries, down to the entries.
use Rattle.std.proofs.Common.{◌≡◌, ℕ, suc, ◌-◌, ◌*◌, ◌/◌, Bool, IsTrue, List, length, refl, sym, ap, subst, ◌∙◌, arith}
use Rattle.std.specs.List.{AllByRecursion}
use Rattle.tree_model.specs.declared.entry.Placed.{Placed}
use Rattle.tree_model.specs.Node.{room_of}
use Rattle.tree_model.specs.Tree.{Pages}
use Rattle.fault_count.specs.Counts.{Meter}
use Rattle.page_cache.specs.Kept.{KeptNodes}
use Rattle.tree_read.specs.Cost.{AreKept, below, nodes_in_range}
use Rattle.tree_read.specs.Search.{IsNamed, KeepsNodes, Reaches, Searches, top as top_of}
use Rattle.tree_read.proofs.LevelLemmas.{IsLevel, IsLevel-top, IsLevel-below, IsLevel-named, IsLevel-entries, length-nodes-next}
use Rattle.tree_read.proofs.CacheLemmas.{AreKept-below, AreKept-level, AreKept-same, AsksSearch-on, CostsNothing-none}
use Rattle.tree_read.proofs.CacheLemmas.{CostsNothing-then, length-nodes-found}
use Rattle.tree_read.proofs.TreeLemmas.{found}
use Rattle.tree_read.proofs.MeterLemmas.{Uses-none, Uses-then}
use Rattle.span_store.specs.Held.{bytes_on}
use Rattle.tree_read.proofs.range.entries.Goals as goal

pub loop-level-init : goal.loop-level-init
loop-level-init g c =
    let root = c.args.root.now in
    let at = bytes_on c.args.held.now in
    let m = g.P.Port.meter c.args.port.now in
    let items : c.in_ok-children.children.items ≡ top_of root c.args.from c.args.to = c.in_ok-children.ensures.top in
    record {
      nodes = c.requires.asks.nodes;
      uses = Uses-none m;
      quiet = refl;
      reaches = c.in_ok-children.ensures.reaches;
      told = λ t. subst (IsLevel at c.args.from c.args.to root.height root.page root.height) (sym items)
          (IsLevel-top at (room_of m.page / 2) c.args.from c.args.to root.height root.page root.length
          (c.requires.asks.stands t) c.requires.order c.requires.inside);
      few = λ t.
          let same = ap (λ (ss : List Placed). length (nodes_in_range at c.args.from c.args.to root.height ss)) items in
          omega arith;
      cached = λ t held. (
        CostsNothing-none c.args.cache.now m,
        subst (λ (ss : List Placed). AreKept c.args.cache.now
            (nodes_in_range at c.args.from c.args.to root.height ss)) (sym items) held,
      );
    }

-- nothing was looked at yet
none_yet : (told : Bool) (size : ℕ) (at : Pages) (by : List Placed) (cache : KeptNodes) (m : Meter) → KeepsNodes told size at cache
    → Searches told size at by cache cache m m
none_yet told size at by cache m nodes =
    record { nodes = nodes; uses = Uses-none m; few = λ t. omega arith; cached = λ t held. refl }

pub returns-in_err-children-clause-searches : goal.returns-in_err-children-clause-searches
returns-in_err-children-clause-searches g c = none_yet _ _ _ _ _ _ c.requires.asks.nodes

pub level_below-requires-clause-asks : goal.level_below-requires-clause-asks
level_below-requires-clause-asks g c =
    let root = c.args.root.now in
    let at = bytes_on c.args.held.now in
    let level = c.loop-level.level in
    let e : level ≡ suc (level - 1) = omega arith in
    AsksSearch-on _ _ _ _ _ _ c.loop-level.invariant.uses.used.page c.requires.asks.pages c.loop-level.invariant.nodes
    (λ t. subst (AllByRecursion (IsNamed at level)) (sym c.as_slice.ensures.value)
    (IsLevel-named at c.args.from c.args.to root.height root.page level (level - 1) c.loop-level.children.items e
    (c.loop-level.invariant.told t)))

pub level_below-requires-clause-reaches : goal.level_below-requires-clause-reaches
level_below-requires-clause-reaches g c =
    subst (Reaches c.args.from c.args.to) (sym c.as_slice.ensures.value) c.loop-level.invariant.reaches

pub returns-in_err-children-2-clause-searches : goal.returns-in_err-children-2-clause-searches
returns-in_err-children-2-clause-searches g c =
    let at = bytes_on c.args.held.now in
    let level = c.loop-level.level in
    let e : level ≡ suc (level - 1) = omega arith in
    let m0 = g.P.Port.meter c.args.port.now in
    let m1 = g.P.Port.meter c.loop-level.port in
    let m2 = g.P.Port.meter c.level_below.new.port in
    record {
      nodes = subst (λ (n : ℕ). KeepsNodes g.P.S.Span.tells n at c.level_below.new.cache)
          c.loop-level.invariant.uses.used.page c.level_below.ensures.visits.nodes;
      uses = Uses-then (length c.as_slice.result.now) m0 m1 m2 c.loop-level.invariant.uses c.level_below.ensures.visits.reads;
      few = λ t.
          let nodes = length-nodes-next at c.args.from c.args.to level (level - 1) c.loop-level.children.items e in
          let same = ap length c.as_slice.ensures.value in
          let read = c.level_below.ensures.visits.reads.most in
          let before = c.loop-level.invariant.few t in
          omega (arith, nodes, same, read, before);
      cached = λ t held.
          let so_far = c.loop-level.invariant.cached t held in
          let here = AreKept-same c.args.cache.now c.loop-level.cache c.loop-level.children.items so_far.0.same
          (AreKept-level c.args.cache.now at c.args.from c.args.to level (level - 1) c.loop-level.children.items e
          so_far.1) in
          (c.level_below.ensures.visits.cached (subst (AreKept c.loop-level.cache) (sym c.as_slice.ensures.value) here)).read
          ∙ so_far.0.read;
    }

pub loop-level-preserved : goal.loop-level-preserved
loop-level-preserved g c =
    let root = c.args.root.now in
    let at = bytes_on c.args.held.now in
    let from = c.args.from in
    let to = c.args.to in
    let level = c.loop-level.level in
    let e : level ≡ suc (level - 1) = omega arith in
    let m0 = g.P.Port.meter c.args.port.now in
    let m1 = g.P.Port.meter c.loop-level.port in
    let m2 = g.P.Port.meter c.level_below.new.port in
    let old = c.loop-level.children.items in
    let new = c.in_ok-children-2.children.items in
    let page : m1.page ≡ m0.page = c.loop-level.invariant.uses.used.page in
    let items = λ (t : IsTrue g.P.S.Span.tells). c.in_ok-children-2.ensures.told t ∙ ap (below at from to) c.as_slice.ensures.value in
    record {
      nodes = subst (λ (n : ℕ). KeepsNodes g.P.S.Span.tells n (bytes_on c.args.held.now) c.level_below.new.cache)
          page c.level_below.ensures.visits.nodes;
      uses = Uses-then (length c.as_slice.result.now) m0 m1 m2 c.loop-level.invariant.uses c.level_below.ensures.visits.reads;
      quiet = c.in_ok-children-2.ensures.cause.still (λ bad. absurd cc) ∙ c.loop-level.invariant.quiet;
      reaches = c.in_ok-children-2.ensures.reaches;
      told = λ t. subst (IsLevel at from to root.height root.page (level - 1)) (sym (items t))
          (IsLevel-below at from to root.height root.page level (level - 1) old e (c.loop-level.invariant.told t));
      few = λ t.
          let nodes = length-nodes-next at from to level (level - 1) old e in
          let same = ap length c.as_slice.ensures.value in
          let read = c.level_below.ensures.visits.reads.most in
          let before = c.loop-level.invariant.few t in
          let next = ap (λ (ss : List Placed). length (nodes_in_range at from to (level - 1) ss)) (items t) in
          omega (arith, nodes, same, read, before, next);
      cached = λ t held.
          let so_far = c.loop-level.invariant.cached t held in
          let here = AreKept-same c.args.cache.now c.loop-level.cache old so_far.0.same
          (AreKept-level c.args.cache.now at from to level (level - 1) old e so_far.1) in
          let slice : AreKept c.loop-level.cache c.as_slice.result.now =
          subst (AreKept c.loop-level.cache) (sym c.as_slice.ensures.value) here in (
            CostsNothing-then c.args.cache.now c.loop-level.cache c.level_below.new.cache m0 m1 m2 so_far.0
                (c.level_below.ensures.visits.cached slice),
            subst (λ (ss : List Placed). AreKept c.args.cache.now (nodes_in_range at from to (level - 1) ss))
                (sym (items t)) (AreKept-below c.args.cache.now at from to level (level - 1) old e so_far.1),
          );
    }

pub returns-clause-told : goal.returns-clause-told
returns-clause-told g c = λ t.
    let root = c.args.root.now in
    IsLevel-entries (bytes_on c.args.held.now) c.args.from c.args.to root.height root.page c.loop-level.level c.loop-level.children.items
    (omega arith) (c.loop-level.invariant.told t)

pub returns-clause-searches : goal.returns-clause-searches
returns-clause-searches g c = record {
  nodes = c.loop-level.invariant.nodes;
  uses = c.loop-level.invariant.uses;
  few = λ t. let few = c.loop-level.invariant.few t in omega (arith, few);
  cached = λ t held. (c.loop-level.invariant.cached t held).0.read;
}

pub returns-clause-level : goal.returns-clause-level
returns-clause-level g c = λ t.
    let root = c.args.root.now in
    let at = bytes_on c.args.held.now in
    let m = g.P.Port.meter c.args.port.now in
    let first = IsLevel-top at (room_of m.page / 2) c.args.from c.args.to root.height root.page root.length
    (c.requires.asks.stands t) c.requires.order c.requires.inside in
    let last = IsLevel-entries at c.args.from c.args.to root.height root.page c.loop-level.level
    c.loop-level.children.items (omega arith) (c.loop-level.invariant.told t) in
    let nodes = length-nodes-found at c.args.from c.args.to root.height (top_of root c.args.from c.args.to) first.each first.trees in
    let count : length (found at root.height c.args.from c.args.to (top_of root c.args.from c.args.to))
    ≡ length c.loop-level.children.items = ap length (first.all ∙ sym last) in
    let times = ap (λ (n : ℕ). root.height * n) count in
    let few = c.loop-level.invariant.few t in
    omega (arith, nodes, times, few)

-- At each level one pair has the byte, and below it stands the one that the definition has.
use Rattle.std.proofs.Common.{◌≡◌, ℕ, suc, ◌+◌, ◌-◌, ◌/◌, Bool, [], ◌∷◌, refl, sym, ap, subst, ◌∙◌, arith}
use Rattle.tree_model.specs.declared.entry.Placed.{Placed}
use Rattle.tree_model.specs.Node.{room_of}
use Rattle.tree_model.specs.Tree.{Pages, bytes_of}
use Rattle.fault_count.specs.Counts.{Meter}
use Rattle.page_cache.specs.Kept.{KeptNodes}
use Rattle.tree_read.specs.Search.{KeepsNodes, Visits}
use Rattle.tree_read.proofs.LevelLemmas.{IsLevel, IsLevel-find, IsLevel-named, IsLevel-one, one-inside, same_pair}
use Rattle.tree_read.proofs.CacheLemmas.{AreKept-child, AreKept-level, AreKept-root, AsksSearch-on, CostsNothing-none}
use Rattle.tree_read.proofs.CacheLemmas.{Visits-then, kept-same}
use Rattle.fault_count.proofs.CountLaws.{Reads-none, Reads-more}
use Rattle.span_store.specs.Held.{bytes_on}
use Rattle.tree_read.proofs.search.find.Goals as goal

-- no node was looked at yet
none_yet : (told : Bool) (size : ℕ) (at : Pages) (n : ℕ) (F : Type 0) (cache : KeptNodes) (m : Meter) → KeepsNodes told size at cache
    → Visits told size at n F cache cache m m
none_yet told size at n F cache m nodes =
    record { nodes = nodes; reads = Reads-none n m; cached = λ f. CostsNothing-none cache m }

pub loop-level-init : goal.loop-level-init
loop-level-init g c =
    let root = c.args.root.now in
    let m = g.P.Port.meter c.args.port.now in
    record {
      down = omega arith;
      visits = none_yet _ _ _ _ _ _ _ c.requires.asks.nodes;
      quiet = refl;
      here = let inside = c.requires.inside in record { from = omega arith; to = omega arith; fits = c.root_pair-child.ensures.fits };
      told = λ t. subst (λ (s : Placed). IsLevel (bytes_on c.args.held.now) c.args.at (c.args.at + 1) root.height
          root.page root.height (s ∷ []))
          (same_pair c.root_pair-child.result root.length root.page c.root_pair-child.ensures.start
          c.root_pair-child.ensures.bytes c.root_pair-child.ensures.page)
          (IsLevel-find (bytes_on c.args.held.now)
          (room_of m.page / 2) c.args.at root.height root.page root.length (c.requires.asks.stands t)
          c.requires.inside);
      left = λ t held.
          let same = same_pair c.root_pair-child.result root.length root.page c.root_pair-child.ensures.start
          c.root_pair-child.ensures.bytes c.root_pair-child.ensures.page in
          AreKept-root c.args.cache.now (bytes_on c.args.held.now) c.args.at root.height root.page root.length
          c.root_pair-child.result same held;
    }

pub load-requires : goal.load-requires
load-requires g c =
    let root = c.args.root.now in
    let level = c.loop-level.level in
    let e : level ≡ suc (level - 1) = omega arith in
    AsksSearch-on _ _ _ _ _ _ c.loop-level.invariant.visits.reads.used.page c.requires.asks.pages c.loop-level.invariant.visits.nodes
    (λ t. (IsLevel-named (bytes_on c.args.held.now) c.args.at (c.args.at + 1) root.height root.page level (level - 1)
    (c.loop-level.child ∷ []) e (c.loop-level.invariant.told t)).0)

pub loop-level-preserved : goal.loop-level-preserved
loop-level-preserved g c =
    let root = c.args.root.now in
    let at = c.args.at in
    let pages = bytes_on c.args.held.now in
    let level = c.loop-level.level in
    let e : level ≡ suc (level - 1) = omega arith in
    let page = c.loop-level.invariant.visits.reads.used.page in
    let s = c.loop-level.child in
    let r = c.child_at-child.result in
    let ps = c.pairs_of.result.now in
    let down = c.loop-level.invariant.down in
    let here = c.loop-level.invariant.here in
    let sum : bytes_of ps ≡ s.pair.bytes = ap bytes_of c.pairs_of.ensures ∙ c.in_ok-node.ensures.sum in
    let inside = one-inside at s.start ps r c.child_at-child.ensures (omega arith) in
    record {
      down = omega arith;
      visits = Visits-then _ _ _ _ (root.height - level) 1 (root.height - (level - 1)) _ _ _ _ _ _ _ _
          c.loop-level.invariant.visits c.load.ensures.visits page
          (λ same f. kept-same c.args.cache.now c.loop-level.cache s.pair.page same
          (AreKept-level c.args.cache.now pages at (at + 1) level (level - 1) (s ∷ []) e
          (c.loop-level.invariant.left f.0 f.1)).0)
          (omega arith);
      quiet = c.in_ok-node.ensures.cause.still (λ bad. absurd cc) ∙ c.loop-level.invariant.quiet;
      here = inside;
      told = λ t. IsLevel-one pages at (at + 1) root.height root.page level (level - 1) s r ps e
          (c.pairs_of.ensures ∙ c.in_ok-node.ensures.told t) c.child_at-child.ensures (c.loop-level.invariant.told t);
      left = λ t held. AreKept-child c.args.cache.now pages at level (level - 1) s r ps e (c.pairs_of.ensures
          ∙ c.in_ok-node.ensures.told t) c.child_at-child.ensures (c.loop-level.invariant.left t held);
    }

pub returns-in_err-node-clause-visits : goal.returns-in_err-node-clause-visits
returns-in_err-node-clause-visits g c =
    let root = c.args.root.now in
    let level = c.loop-level.level in
    let e : level ≡ suc (level - 1) = omega arith in
    let s = c.loop-level.child in
    let down = c.loop-level.invariant.down in
    Visits-then _ _ _ _ (root.height - level) 1 root.height _ _ _ _ _ _ _ _
    c.loop-level.invariant.visits c.load.ensures.visits c.loop-level.invariant.visits.reads.used.page
    (λ same f. kept-same c.args.cache.now c.loop-level.cache s.pair.page same
    (AreKept-level c.args.cache.now (bytes_on c.args.held.now) c.args.at (c.args.at + 1) level (level - 1) (s ∷ []) e
    (c.loop-level.invariant.left f.0 f.1)).0)
    (omega arith)

pub returns-clause-visits : goal.returns-clause-visits
returns-clause-visits g c =
    let visits = c.loop-level.invariant.visits in record {
      nodes = visits.nodes;
      reads = Reads-more (c.args.root.now.height - c.loop-level.level) c.args.root.now.height _ _ visits.reads (omega arith);
      cached = visits.cached;
    }

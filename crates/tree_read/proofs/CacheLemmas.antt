-- Nodes that the cache keeps cost no page, and the nodes of a level are no more than the segments found.
use Rattle.std.proofs.Common.{◌≡◌, ℕ, zero, suc, ◌+◌, ◌*◌, ◌≤◌, true, List, [], ◌∷◌, ◌++◌, length, refl, sym, ap}
use Rattle.std.proofs.Common.{subst, ◌∙◌, append-nil, arith}
use Rattle.std.specs.Prelude.{◌≢◌, Bool, IfSome, IsSome, IsTrue, Option, Some, None, is_some, nat_lt}
use Rattle.std.specs.List.{AllByRecursion}
use Rattle.std.proofs.Math.Nat.{suc-mul}
use Rattle.std.proofs.lemmas.Bool.{false≢true, lt-ltb}
use Rattle.tree_model.specs.declared.entry.Pair.{Pair}
use Rattle.tree_model.specs.declared.entry.Placed.{Placed}
use Rattle.node_codec.specs.declared.parsed.Node.{Node}
use Rattle.tree_model.specs.Node.{NodeBytes, room_of}
use Rattle.tree_model.specs.Tree.{Pages, AreTrees, HasNode, bytes_of, pairs_on}
use Rattle.tree_model.proofs.NodeLemmas.{node_in-level, node_in-pairs}
use Rattle.tree_model.specs.Range.{in_range, is_in_range, pairs_of}
use Rattle.fault_count.specs.Counts.{Meter}
use Rattle.page_cache.specs.Kept.{IsNodeOf, KeepsSame, KeptNodes, kept}
use Rattle.tree_read.specs.Cost.{AreKept, CostsNothing, below, nodes_in_range}
use Rattle.tree_read.specs.Search.{ArePages, AsksSearch, KeepsNodes, Visits, top}
use Rattle.fault_count.proofs.CountLaws.{Reads-then}
use Rattle.page_cache.proofs.CallerLemmas.{each-same, each-kept, HaveAtMost-same, HaveAtMost-kept}
use Rattle.span_store.specs.Held.{Held, bytes_on}
use Rattle.tree_read.proofs.TreeLemmas.{found, length-found}
use Rattle.tree_read.proofs.LevelLemmas.{AreTrees-below, below-each, found-below, length-nodes, root_pair}

-- a node that is kept stands on its page where what is kept does
pub kept_node : (page : List ℕ) (o : Option Node) (n : Node) → IfSome o (λ k. NodeBytes page k.level k.pairs.items) → Some n ≡ o
    → NodeBytes page n.level n.pairs.items
kept_node page o n right is =
    let P : Option Node → Type 0 = λ k. IfSome k (λ m. NodeBytes page m.level m.pairs.items) in
    subst P (sym is) right

-- the node on a page is the one that is named
pub named_node : (at : Pages) (page level bytes : ℕ) (n : Node) → HasNode at page level 0 bytes
    → NodeBytes (at page) n.level n.pairs.items → (n.level ≡ level) × (bytes_of n.pairs.items ≡ bytes)
named_node at page level bytes n named node = (
  sym (node_in-level (at page) n.level n.pairs.items node) ∙ named.is_level,
  ap bytes_of (sym (node_in-pairs (at page) n.level n.pairs.items node)) ∙ named.counted,
)

-- no call
pub CostsNothing-none : (cache : KeptNodes) (m : Meter) → CostsNothing cache cache m m
CostsNothing-none cache m = record { same = record { each = λ page. refl; most = refl }; read = refl }

-- one after the other
pub CostsNothing-then : (a b c : KeptNodes) (old mid new : Meter) → CostsNothing a b old mid → CostsNothing b c mid new
    → CostsNothing a c old new
CostsNothing-then a b c old mid new first second = record {
  same = record { each = λ page. second.same.each page ∙ first.same.each page; most = second.same.most ∙ first.same.most };
  read = second.read ∙ first.read;
}

-- nodes that are right where the same are kept
pub KeepsNodes-same : (told : Bool) (size : ℕ) (at : Pages) (a b : KeptNodes) → KeepsSame a b → KeepsNodes told size at a
    → KeepsNodes told size at b
KeepsNodes-same told size at a b same nodes = record {
  small = HaveAtMost-same (room_of size) a b same nodes.small;
  right = λ t. each-same (λ page n. NodeBytes (at page) n.level n.pairs.items) a b same (nodes.right t);
}

-- and where a right one was kept more
pub KeepsNodes-keep : (told : Bool) (size : ℕ) (at : Pages) (a b : KeptNodes) (page : ℕ) (node : Node)
    → ((q : ℕ) → q ≢ page → IfSome (kept b q) (λ other. kept a q ≡ Some other))
    → IfSome (kept b page) (IsNodeOf node) → length node.pairs.items ≤ room_of size
    → (IsTrue told → NodeBytes (at page) node.level node.pairs.items) → KeepsNodes told size at a → KeepsNodes told size at b
KeepsNodes-keep told size at a b page node others put fits right nodes = record {
  small = HaveAtMost-kept (room_of size) a b page node others put fits nodes.small;
  right = λ t. each-kept (λ p n. NodeBytes (at p) n.level n.pairs.items) a b page node others put
      (λ n is. subst (λ (level : ℕ). NodeBytes (at page) level n.pairs.items) is.level
      (subst (λ (pairs : List Pair). NodeBytes (at page) node.level pairs) is.pairs (right t)))
      (nodes.right t);
}

-- a search goes on as it began, on pages of the same size
pub AsksSearch-on : (told : Bool) (size page : ℕ) (held : Held) (c : KeptNodes) (G : Type 0) → page ≡ size
    → ArePages told size held → KeepsNodes told size (bytes_on held) c → (IsTrue told → G) → AsksSearch told page held c G
AsksSearch-on told size page held c G same pages nodes stands = record {
  pages = subst (λ (n : ℕ). ArePages told n held) (sym same) pages;
  nodes = subst (λ (n : ℕ). KeepsNodes told n (bytes_on held) c) (sym same) nodes;
  stands = stands;
}

-- nodes looked at after others
pub Visits-then : (told : Bool) (size page : ℕ) (at : Pages) (a b n : ℕ) (F G : Type 0) (c0 c1 c2 : KeptNodes) (m0 m1 m2 : Meter)
    → Visits told size at a F c0 c1 m0 m1 → Visits told page at b G c1 c2 m1 m2 → page ≡ size → (KeepsSame c0 c1 → F → G)
    → a + b ≤ n → Visits told size at n F c0 c2 m0 m2
Visits-then told size page at a b n F G c0 c1 c2 m0 m1 m2 first second same on within = record {
  nodes = subst (λ (k : ℕ). KeepsNodes told k at c2) same second.nodes;
  reads = Reads-then a b n m0 m1 m2 first.reads second.reads within;
  cached = λ f. let free = first.cached f in CostsNothing-then c0 c1 c2 m0 m1 m2 free (second.cached (on free.same f));
}

-- what is kept is kept where the same is kept
pub kept-same : (a b : KeptNodes) (page : ℕ) → KeepsSame a b → IsSome (kept a page) → IsSome (kept b page)
kept-same a b page same held = ap is_some (same.each page) ∙ held

pub AreKept-same : (a b : KeptNodes) (nodes : List Placed) → KeepsSame a b → AreKept a nodes → AreKept b nodes
AreKept-same a b [] same held = tt
AreKept-same a b (s ∷ nodes) same held = (kept-same a b s.pair.page same held.0, AreKept-same a b nodes same held.1)

pub AreKept-front : (cache : KeptNodes) (xs ys : List Placed) → AreKept cache (xs ++ ys) → AreKept cache xs
AreKept-front cache [] ys held = tt
AreKept-front cache (x ∷ xs) ys held = (held.0, AreKept-front cache xs ys held.1)

pub AreKept-back : (cache : KeptNodes) (xs ys : List Placed) → AreKept cache (xs ++ ys) → AreKept cache ys
AreKept-back cache [] ys held = held
AreKept-back cache (x ∷ xs) ys held = AreKept-back cache xs ys held.1

-- a level of nodes, and those below it
pub AreKept-level : (cache : KeptNodes) (at : Pages) (from to level next : ℕ) (ss : List Placed) → level ≡ suc next
    → AreKept cache (nodes_in_range at from to level ss) → AreKept cache ss
AreKept-level cache at from to level next ss e held =
    AreKept-front cache ss (nodes_in_range at from to next (below at from to ss))
    (subst (λ (n : ℕ). AreKept cache (nodes_in_range at from to n ss)) e held)

pub AreKept-below : (cache : KeptNodes) (at : Pages) (from to level next : ℕ) (ss : List Placed) → level ≡ suc next
    → AreKept cache (nodes_in_range at from to level ss) → AreKept cache (nodes_in_range at from to next (below at from to ss))
AreKept-below cache at from to level next ss e held =
    AreKept-back cache ss (nodes_in_range at from to next (below at from to ss))
    (subst (λ (n : ℕ). AreKept cache (nodes_in_range at from to n ss)) e held)

-- the search for one byte starts at the root
pub AreKept-root : (cache : KeptNodes) (pages : Pages) (at height page bytes : ℕ) (s : Placed) → root_pair page bytes ≡ s
    → AreKept cache (nodes_in_range pages at (at + 1) height (top (record { height = height; page = page; length = bytes }) at (at + 1)))
    → AreKept cache (nodes_in_range pages at (at + 1) height (s ∷ []))
AreKept-root cache pages at height page bytes s e held =
    let some : nat_lt at (at + 1) ≡ true = lt-ltb at (at + 1) (omega arith) in
    let is : top (record { height = height; page = page; length = bytes }) at (at + 1) ≡ root_pair page bytes ∷ [] = rw some refl in
    subst (λ (r : Placed). AreKept cache (nodes_in_range pages at (at + 1) height (r ∷ []))) e
    (subst (λ (ss : List Placed). AreKept cache (nodes_in_range pages at (at + 1) height ss)) is held)

-- and goes on with the one child that has the byte
pub AreKept-child : (cache : KeptNodes) (pages : Pages) (at level next : ℕ) (s r : Placed) (ps : List Pair) → level ≡ suc next
    → ps ≡ pairs_on pages s.pair.page → in_range at (at + 1) s.start ps ≡ r ∷ []
    → AreKept cache (nodes_in_range pages at (at + 1) level (s ∷ [])) → AreKept cache (nodes_in_range pages at (at + 1) next (r ∷ []))
AreKept-child cache pages at level next s r ps e pairs one held =
    let kids : below pages at (at + 1) (s ∷ []) ≡ r ∷ [] =
    append-nil (in_range at (at + 1) s.start (pairs_on pages s.pair.page)) ∙ ap (in_range at (at + 1) s.start) (sym pairs) ∙ one in
    subst (λ (ss : List Placed). AreKept cache (nodes_in_range pages at (at + 1) next ss)) kids
    (AreKept-below cache pages at (at + 1) level next (s ∷ []) e held)

-- each level has no more nodes than there are segments under them
pub length-nodes-found : (at : Pages) (from to height : ℕ) (ss : List Placed) → AllByRecursion (λ s. is_in_range from to s ≡ true) ss
    → AreTrees at 0 height (pairs_of ss)
    → length (nodes_in_range at from to height ss) ≤ height * length (found at height from to ss)
length-nodes-found at from to zero ss each trees = omega arith
length-nodes-found at from to (suc height) ss each trees =
    let here = length-found at 0 (suc height) from to ss each trees in
    let below_all =
    length-nodes-found at from to height (below at from to ss) (below-each at from to ss) (AreTrees-below at height from to ss trees) in
    let same = ap length (found-below at height from to ss trees) in
    let count = length-nodes at from to height ss in
    let times = ap (λ (n : ℕ). height * n) same in
    let more = suc-mul height (length (found at (suc height) from to ss)) in
    omega (arith, here, below_all, same, count, times, more)

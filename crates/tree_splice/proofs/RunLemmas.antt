-- Nodes kept as three lists, their pages, their numbers of pairs and all pairs; and what is read from these.
use Rattle.std.proofs.Common.{
  ◌≡◌,
  ℕ,
  zero,
  suc,
  ◌+◌,
  ◌-◌,
  ◌/◌,
  ◌<◌,
  ◌≤◌,
  true,
  false,
  List,
  [],
  ◌∷◌,
  ◌++◌,
  length,
  take,
  drop,
  replicate,
  get_or,
  refl,
  sym,
  ap,
  arith,
  ◌∙◌,
  length-append,
  length-take,
  length-drop,
  nat_lt,
  sum_by,
}
use Rattle.std.specs.Prelude.{if◌then◌else◌}
use Rattle.std.proofs.Math.Nat.{div-eq_of_lt}
use Rattle.std.proofs.Math.Seq.{take-length, take-append_seam, drop-append_seam}
use Rattle.std.proofs.lemmas.Bool.{lt-ltb, le-ltb}
use Rattle.std.proofs.lemmas.List.{
  length-replicate,
  length-map,
  take-append-le,
  drop-append-le,
  take-append-drop,
  drop-map,
  take-map,
  length-take-le,
  drop_more,
  drop_all,
}
use Rattle.std.proofs.lemmas.List.Sums.{sum_by-cons}
use Rattle.tree_model.specs.declared.entry.Pair.{Pair}
use Rattle.layout_model.specs.Levels.{PageNode, Site, pairs_of_level, node_at, nodes_at, sizes_of, cut_into, on_pages}
use Rattle.layout_laws.proofs.LevelLemmas.{pairs-append, pairs-cons, count-cons, cut-pairs}
use Rattle.tree_splice.specs.Remade.{counts_of, row_pages, number_at}

-- the sum of a list
abbrev pub total : List ℕ → ℕ
total ns = sum_by (λ n. n) ns

-- ---- the three lists

-- where there are so many pairs, nodes that are cut from them have these numbers of pairs
pub counts-kept : (pages counts : List ℕ) (pairs : List Pair) → total counts ≤ length pairs →
    counts_of (on_pages pages (cut_into counts pairs)) ≡ counts
counts-kept pages [] pairs enough = refl
counts-kept [] (n ∷ counts) pairs enough =
    let sum = sum_by-cons (λ (m : ℕ). m) n counts in
    let left = length-drop n pairs in
    let first : length (take n pairs) ≡ n = length-take-le n pairs (omega (arith, sum, enough)) in
    let others = counts-kept [] counts (drop n pairs) (omega (arith, sum, enough, left)) in
    ap (λ (k : ℕ). k ∷ counts_of (on_pages [] (cut_into counts (drop n pairs)))) first ∙ ap (λ (ks : List ℕ). n ∷ ks) others
counts-kept (page ∷ pages) (n ∷ counts) pairs enough =
    let sum = sum_by-cons (λ (m : ℕ). m) n counts in
    let left = length-drop n pairs in
    let first : length (take n pairs) ≡ n = length-take-le n pairs (omega (arith, sum, enough)) in
    let others = counts-kept pages counts (drop n pairs) (omega (arith, sum, enough, left)) in
    ap (λ (k : ℕ). k ∷ counts_of (on_pages pages (cut_into counts (drop n pairs)))) first ∙ ap (λ (ks : List ℕ). n ∷ ks) others

-- as many pages as nodes are the pages of the nodes
pub pages-kept : (pages counts : List ℕ) (pairs : List Pair) → length pages ≡ length counts →
    row_pages (on_pages pages (cut_into counts pairs)) ≡ pages
pages-kept [] [] pairs same = refl
pages-kept (page ∷ pages) [] pairs same = absurd (omega (arith, same))
pages-kept [] (n ∷ counts) pairs same = absurd (omega (arith, same))
pages-kept (page ∷ pages) (n ∷ counts) pairs same = ap (λ (ps : List ℕ). page ∷ ps)
    (pages-kept pages counts (drop n pairs) (omega (arith, same)))

-- and the pairs are all there
pub pairs-kept : (pages counts : List ℕ) (pairs : List Pair) → total counts ≡ length pairs →
    pairs_of_level (on_pages pages (cut_into counts pairs)) ≡ pairs
pairs-kept pages counts pairs all = cut-pairs pages counts pairs ∙ (ap (λ (n : ℕ). take n pairs) all ∙ take-length pairs)

-- ---- pages that are padded with page 0

pub pages-padded : (pages : List ℕ) (k : ℕ) (parts : List (List Pair)) → on_pages (pages ++ replicate k 0) parts ≡ on_pages pages parts
pages-padded [] zero [] = refl
pages-padded [] (suc k) [] = refl
pages-padded [] zero (part ∷ parts) = refl
pages-padded [] (suc k) (part ∷ parts) =
    ap (λ (nodes : List PageNode). record { page = 0; pairs = part } ∷ nodes) (pages-padded [] k parts)
pages-padded (page ∷ pages) k [] = refl
pages-padded (page ∷ pages) k (part ∷ parts) =
    ap (λ (nodes : List PageNode). record { page = page; pairs = part } ∷ nodes) (pages-padded pages k parts)

pub pages-cut : (n : ℕ) (pages : List ℕ) (parts : List (List Pair)) → length parts ≤ n → on_pages (take n pages) parts ≡ on_pages pages
    parts
pages-cut zero [] [] few = refl
pages-cut zero (page ∷ pages) [] few = refl
pages-cut zero pages (part ∷ parts) few = absurd (omega (arith, few))
pages-cut (suc n) [] parts few = refl
pages-cut (suc n) (page ∷ pages) [] few = refl
pages-cut (suc n) (page ∷ pages) (part ∷ parts) few =
    ap (λ (nodes : List PageNode). record { page = page; pairs = part } ∷ nodes) (pages-cut n pages parts (omega (arith, few)))

pub parts-count : (counts : List ℕ) (pairs : List Pair) → length (cut_into counts pairs) ≡ length counts
parts-count [] pairs = refl
parts-count (n ∷ counts) pairs = ap suc (parts-count counts (drop n pairs))

-- so the nodes are on the first of the pages
pub pages-made : (n k : ℕ) (pages : List ℕ) (parts : List (List Pair)) → length parts ≤ n →
    on_pages (take n pages ++ replicate k 0) parts ≡ on_pages pages parts
pages-made n k pages parts few = pages-padded (take n pages) k parts ∙ pages-cut n pages parts few

pub padded-length : (n : ℕ) (pages : List ℕ) → length (take n pages ++ replicate (n - length pages) 0) ≡ n
padded-length n pages =
    let both = length-append (take n pages) (replicate (n - length pages) 0) in
    let front = length-take n pages in
    let back = length-replicate {A = ℕ} (n - length pages) 0 in
    omega (arith, both, front, back)

no_nodes : (f : ℕ) → (0 + (f - 1)) / f ≡ 0
no_nodes zero = refl
no_nodes (suc f) = div-eq_of_lt (omega arith)

pub no_sizes : (f : ℕ) → sizes_of f 0 ≡ []
no_sizes f = rw (no_nodes f) refl

-- ---- a site

-- the node that has a pair, by numbers of pairs alone
pub node_at_number : (nodes : List PageNode) (at : ℕ) → node_at nodes at ≡ number_at (counts_of nodes) at
node_at_number [] at = refl
node_at_number (node ∷ rest) at =
    ap (λ (k : ℕ). if nat_lt at (length node.pairs) then 0 else suc k) (node_at_number rest (at - length node.pairs))

-- the nodes have as many pairs as their numbers together
pub pairs-counted : (nodes : List PageNode) → length (pairs_of_level nodes) ≡ total (counts_of nodes)
pairs-counted [] = refl
pairs-counted (node ∷ rest) =
    count-cons node rest ∙ (ap (λ (k : ℕ). length node.pairs + k) (pairs-counted rest) ∙ sym
    (sum_by-cons (λ (n : ℕ). n) (length node.pairs) (counts_of rest)))

-- the pairs of the first nodes, and those of the nodes behind them
pub pairs-front : (n : ℕ) (nodes : List PageNode) → pairs_of_level (take n nodes) ≡ take (length (pairs_of_level (take n nodes)))
    (pairs_of_level nodes)
pairs-front n nodes =
    let whole : pairs_of_level (take n nodes) ++ pairs_of_level (drop n nodes) ≡ pairs_of_level nodes =
    sym (pairs-append (take n nodes) (drop n nodes)) ∙ ap pairs_of_level (take-append-drop n nodes) in
    sym (ap (λ (ps : List Pair). take (length (pairs_of_level (take n nodes))) ps) (sym whole) ∙ take-append_seam
    (pairs_of_level (take n nodes)) (pairs_of_level (drop n nodes)))

pub pairs-back : (n : ℕ) (nodes : List PageNode) → pairs_of_level (drop n nodes) ≡ drop (length (pairs_of_level (take n nodes)))
    (pairs_of_level nodes)
pairs-back n nodes =
    let whole : pairs_of_level (take n nodes) ++ pairs_of_level (drop n nodes) ≡ pairs_of_level nodes =
    sym (pairs-append (take n nodes) (drop n nodes)) ∙ ap pairs_of_level (take-append-drop n nodes) in
    sym (ap (λ (ps : List Pair). drop (length (pairs_of_level (take n nodes))) ps) (sym whole) ∙ drop-append_seam
    (pairs_of_level (take n nodes)) (pairs_of_level (drop n nodes)))

-- the numbers of pairs of the first nodes, and of those behind them
pub counts-front : (n : ℕ) (nodes : List PageNode) → take n (counts_of nodes) ≡ counts_of (take n nodes)
counts-front n nodes = take-map (λ (node : PageNode). length node.pairs) n nodes

pub counts-back : (n : ℕ) (nodes : List PageNode) → drop n (counts_of nodes) ≡ counts_of (drop n nodes)
counts-back n nodes = drop-map (λ (node : PageNode). length node.pairs) n nodes

-- so many pairs the first nodes have
pub front-total : (n : ℕ) (nodes : List PageNode) → length (pairs_of_level (take n nodes)) ≡ total (take n (counts_of nodes))
front-total n nodes = pairs-counted (take n nodes) ∙ ap total (sym (counts-front n nodes))

-- so the pairs of a site are some in a row
pub site-pairs : (nodes : List PageNode) (site : Site) →
    pairs_of_level (nodes_at nodes site)
    ≡ take (total (take site.nodes (drop site.before (counts_of nodes))))
    (drop (total (take site.before (counts_of nodes))) (pairs_of_level nodes))
site-pairs nodes site =
    let back = drop site.before nodes in
    let start = front-total site.before nodes in
    let behind : pairs_of_level back ≡ drop (total (take site.before (counts_of nodes))) (pairs_of_level nodes) =
    pairs-back site.before nodes ∙ ap (λ (n : ℕ). drop n (pairs_of_level nodes)) start in
    let count : length (pairs_of_level (take site.nodes back)) ≡ total (take site.nodes (drop site.before (counts_of nodes))) =
    front-total site.nodes back ∙ ap (λ (ks : List ℕ). total (take site.nodes ks)) (sym (counts-back site.before nodes)) in
    pairs-front site.nodes back
    ∙ (ap (λ (n : ℕ). take n (pairs_of_level back)) count
    ∙ ap (λ (ps : List Pair). take (total (take site.nodes (drop site.before (counts_of nodes)))) ps) behind)

-- a node at the end: its page, its number of pairs and its pairs at the ends of the three lists
pub one-more : (pages counts : List ℕ) (pairs more : List Pair) (page : ℕ) → length pages ≡ length counts → total counts ≡ length pairs →
    on_pages (pages ++ page ∷ []) (cut_into (counts ++ length more ∷ []) (pairs ++ more))
    ≡ on_pages pages (cut_into counts pairs) ++ record { page = page; pairs = more } ∷ []
one-more [] [] [] more page same all = ap (λ (ps : List Pair). record { page = page; pairs = ps } ∷ []) (take-length more)
one-more [] [] (pair ∷ pairs) more page same all = absurd (omega (arith, all))
one-more [] (n ∷ counts) pairs more page same all = absurd (omega (arith, same))
one-more (p ∷ pages) [] pairs more page same all = absurd (omega (arith, same))
one-more (p ∷ pages) (n ∷ counts) pairs more page same all =
    let sum = sum_by-cons (λ (m : ℕ). m) n counts in
    let left = length-drop n pairs in
    let within : n ≤ length pairs = omega (arith, sum, all) in
    let others = one-more pages counts (drop n pairs) more page (omega (arith, same)) (omega (arith, sum, all, left)) in
    ap (λ (ps : List Pair). record { page = p; pairs = ps } ∷ on_pages (pages ++ page ∷ [])
    (cut_into (counts ++ length more ∷ []) (drop n (pairs ++ more)))) (take-append-le n pairs more within)
    ∙ (ap (λ (ps : List Pair). record { page = p; pairs = take n pairs } ∷ on_pages (pages ++ page ∷ [])
    (cut_into (counts ++ length more ∷ []) ps)) (drop-append-le n pairs more within)
    ∙ ap (λ (nodes : List PageNode). record { page = p; pairs = take n pairs } ∷ nodes) others)

pub counts_length : (nodes : List PageNode) → length (counts_of nodes) ≡ length nodes
counts_length nodes = length-map nodes (λ (node : PageNode). length node.pairs)

-- the node that has a pair, found step by step
pub number_at-here : (counts : List ℕ) (i left : ℕ) → i < length counts → left < get_or counts i 0 → number_at (drop i counts) left ≡ 0
number_at-here counts i left inside here =
    let test : nat_lt left (get_or counts i 0) ≡ true = lt-ltb left (get_or counts i 0) here in
    ap (λ (ks : List ℕ). number_at ks left) (drop_more counts i 0 inside) ∙ rw test refl

pub number_at-past : (counts : List ℕ) (i left : ℕ) → i < length counts → get_or counts i 0 ≤ left →
    number_at (drop i counts) left ≡ suc (number_at (drop (i + 1) counts) (left - get_or counts i 0))
number_at-past counts i left inside past =
    let test : nat_lt left (get_or counts i 0) ≡ false = le-ltb left (get_or counts i 0) past in
    ap (λ (ks : List ℕ). number_at ks left) (drop_more counts i 0 inside) ∙ rw test refl

pub number_at-none : (counts : List ℕ) (i left : ℕ) → length counts ≤ i → number_at (drop i counts) left ≡ 0
number_at-none counts i left past = ap (λ (ks : List ℕ). number_at ks left) (drop_all i counts past)

-- ---- the three lists of nodes are these nodes again

pub nodes-again : (nodes : List PageNode) → on_pages (row_pages nodes) (cut_into (counts_of nodes) (pairs_of_level nodes)) ≡ nodes
nodes-again [] = refl
nodes-again (node ∷ rest) =
    let n = length node.pairs in
    let all = pairs_of_level (node ∷ rest) in
    let first : take n all ≡ node.pairs = ap (λ (ps : List Pair). take n ps) (pairs-cons node rest) ∙ take-append_seam node.pairs
    (pairs_of_level rest) in
    let left : drop n all ≡ pairs_of_level rest = ap (λ (ps : List Pair). drop n ps) (pairs-cons node rest) ∙ drop-append_seam node.pairs
    (pairs_of_level rest) in
    ap (λ (ps : List Pair). record { page = node.page; pairs = ps } ∷ on_pages (row_pages rest) (cut_into (counts_of rest) (drop n all)))
    first
    ∙ (ap (λ (ps : List Pair). record { page = node.page; pairs = node.pairs } ∷ on_pages (row_pages rest) (cut_into (counts_of rest) ps))
    left
    ∙ ap (λ (nodes : List PageNode). record { page = node.page; pairs = node.pairs } ∷ nodes) (nodes-again rest))

-- the first pairs are those of the first nodes, and the others those of the nodes behind them
pub front-pairs : (n : ℕ) (nodes : List PageNode) → take (total (take n (counts_of nodes))) (pairs_of_level nodes) ≡ pairs_of_level
    (take n nodes)
front-pairs n nodes = ap (λ (k : ℕ). take k (pairs_of_level nodes)) (sym (front-total n nodes)) ∙ sym (pairs-front n nodes)

pub back-pairs : (n : ℕ) (nodes : List PageNode) → drop (total (take n (counts_of nodes))) (pairs_of_level nodes) ≡ pairs_of_level
    (drop n nodes)
back-pairs n nodes = ap (λ (k : ℕ). drop k (pairs_of_level nodes)) (sym (front-total n nodes)) ∙ sym (pairs-back n nodes)

-- three lists that are those of some nodes
pub record AreOf (nodes : List PageNode) (pages counts : List ℕ) (pairs : List Pair) : Type 0 where
  pub on : pages ≡ row_pages nodes
  pub sized : counts ≡ counts_of nodes
  pub all : pairs ≡ pairs_of_level nodes

pub AreOf-nodes : (nodes : List PageNode) (pages counts : List ℕ) (pairs : List Pair) → AreOf nodes pages counts pairs →
    on_pages pages (cut_into counts pairs) ≡ nodes
AreOf-nodes nodes pages counts pairs of =
    ap (λ (ps : List ℕ). on_pages ps (cut_into counts pairs)) of.on
    ∙ (ap (λ (ks : List ℕ). on_pages (row_pages nodes) (cut_into ks pairs)) of.sized
    ∙ (ap (λ (ps : List Pair). on_pages (row_pages nodes) (cut_into (counts_of nodes) ps)) of.all ∙ nodes-again nodes))

pub AreOf-same : (nodes : List PageNode) (pages counts : List ℕ) (pairs : List Pair) → AreOf nodes pages counts pairs → length pages ≡
    length counts
AreOf-same nodes pages counts pairs of =
    ap length of.on ∙ (length-map nodes (λ (node : PageNode). node.page) ∙ sym (ap length of.sized ∙ counts_length nodes))

pub AreOf-whole : (nodes : List PageNode) (pages counts : List ℕ) (pairs : List Pair) → AreOf nodes pages counts pairs → total counts ≡
    length pairs
AreOf-whole nodes pages counts pairs of = ap total of.sized ∙ (sym (pairs-counted nodes) ∙ sym (ap length of.all))

-- the first of the three lists are those of the first nodes
pub AreOf-front : (n k : ℕ) (nodes : List PageNode) (pages0 pages counts0 counts : List ℕ) (pairs0 pairs : List Pair) →
    pages0 ≡ row_pages nodes → pages ≡ take n pages0 → counts0 ≡ counts_of nodes → counts ≡ take n counts0 →
    pairs0 ≡ pairs_of_level nodes → k ≡ total counts → pairs ≡ take k pairs0 → AreOf (take n nodes) pages counts pairs
AreOf-front n k nodes pages0 pages counts0 counts pairs0 pairs p0 p c0 c ps0 sum ps =
    let own : counts ≡ take n (counts_of nodes) = c ∙ ap (λ (ks : List ℕ). take n ks) c0 in
    record {
      on = p ∙ (ap (λ (qs : List ℕ). take n qs) p0 ∙ take-map (λ (node : PageNode). node.page) n nodes);
      sized = own ∙ counts-front n nodes;
      all = ps ∙ (ap (λ (j : ℕ). take j pairs0) sum
          ∙ (ap (λ (qs : List Pair). take (total counts) qs) ps0
          ∙ (ap (λ (ks : List ℕ). take (total ks) (pairs_of_level nodes)) own ∙ front-pairs n nodes)));
    }

-- and the others those of the nodes behind them
pub AreOf-back : (n k : ℕ) (nodes : List PageNode) (pages0 pages counts0 counts before : List ℕ) (pairs0 pairs : List Pair) →
    pages0 ≡ row_pages nodes → pages ≡ drop n pages0 → counts0 ≡ counts_of nodes → counts ≡ drop n counts0 →
    pairs0 ≡ pairs_of_level nodes → before ≡ take n (counts_of nodes) → k ≡ total before → pairs ≡ drop k pairs0 →
    AreOf (drop n nodes) pages counts pairs
AreOf-back n k nodes pages0 pages counts0 counts before pairs0 pairs p0 p c0 c ps0 front sum ps = record {
  on = p ∙ (ap (λ (qs : List ℕ). drop n qs) p0 ∙ drop-map (λ (node : PageNode). node.page) n nodes);
  sized = c ∙ (ap (λ (ks : List ℕ). drop n ks) c0 ∙ counts-back n nodes);
  all = ps ∙ (ap (λ (j : ℕ). drop j pairs0) sum
      ∙ (ap (λ (qs : List Pair). drop (total before) qs) ps0
      ∙ (ap (λ (ks : List ℕ). drop (total ks) (pairs_of_level nodes)) front ∙ back-pairs n nodes)));
}

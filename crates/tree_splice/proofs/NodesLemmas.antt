-- Nodes of a run one after the other, written to pages of a list or kept.
use Rattle.std.proofs.Common.{
  ◌≡◌,
  ℕ,
  suc,
  ◌+◌,
  ◌-◌,
  ◌<◌,
  ◌≤◌,
  List,
  [],
  ◌∷◌,
  ◌++◌,
  length,
  set,
  take,
  drop,
  get_or,
  sym,
  ap,
  subst,
  arith,
  ◌∙◌,
}
use Rattle.std.specs.List.{AllByRecursion}
use Rattle.std.proofs.lemmas.List.{drop-drop, drop-set-add, get_or-set_same, length-drop, length-map, take-set-le, take_rest}
use Rattle.layout_model.specs.Levels.{PageNode, pairs_of_level}
use Rattle.tree_model.specs.declared.entry.Pair.{Pair}
use Rattle.tree_model.specs.Node.{NodeBytes}
use Rattle.tree_model.specs.Tree.{Pages}
use Rattle.tree_splice.specs.Fresh.{FreshPage, AreAllWritten, AreSamePages, AreNodesWritten, IsPageWritten, emptied, no_fresh_page}
use Rattle.tree_splice.specs.Remade.{counts_of, row_pages}
use Rattle.tree_splice.specs.Way.{AreAllMade, IsMade, MadeStand}
use Rattle.tree_splice.specs.declared.remade.Remade.{Remade}
use Rattle.tree_splice.proofs.FreshLemmas.{drop-drop-same, take-fewer, written-front, written-more, written-same}
use Rattle.tree_splice.proofs.NameLemmas.{left_of, left-more, whole-more}
use Rattle.tree_splice.proofs.RunLemmas.{counts_length, nodes-again, pairs-counted, total}

-- ---- the nodes that are left

-- at first all are
pub left-all : (nodes : List PageNode) (pairs : List Pair) → pairs ≡ pairs_of_level nodes → left_of (row_pages nodes) (counts_of nodes)
    pairs 0 ≡ nodes
left-all nodes pairs all = ap (λ (ps : List Pair). left_of (row_pages nodes) (counts_of nodes) ps 0) all ∙ nodes-again nodes

pub whole-all : (nodes : List PageNode) (pairs : List Pair) → pairs ≡ pairs_of_level nodes → total (drop 0 (counts_of nodes)) ≤ length pairs
whole-all nodes pairs all =
    let count = pairs-counted nodes in
    let same = ap length all in
    omega (arith, count, same)

-- the next one, and those behind it
pub left-next : (nodes : List PageNode) (counts : List ℕ) (left here behind : List Pair) (i : ℕ) → i < length nodes → counts ≡ counts_of
    nodes →
    here ≡ take (get_or counts i 0) left → behind ≡ drop (get_or counts i 0) left →
    left_of (row_pages nodes) (counts_of nodes) left i
    ≡ record { page = get_or (row_pages nodes) i 0; pairs = here } ∷ left_of (row_pages nodes) (counts_of nodes) behind (i + 1)
left-next nodes counts left here behind i inside same front back =
    let long = length-map nodes (λ (node : PageNode). node.page) in
    let many = counts_length nodes in
    let n = get_or (counts_of nodes) i 0 in
    let front_is : take n left ≡ here = ap (λ (ks : List ℕ). take (get_or ks i 0) left) (sym same) ∙ sym front in
    let back_is : drop n left ≡ behind = ap (λ (ks : List ℕ). drop (get_or ks i 0) left) (sym same) ∙ sym back in
    left-more (row_pages nodes) (counts_of nodes) left i (omega (arith, inside, long)) (omega (arith, long, many))
    ∙ (ap (λ (ps : List Pair). record { page = get_or (row_pages nodes) i 0; pairs = ps } ∷ left_of (row_pages nodes) (counts_of nodes)
    (drop n left) (i + 1)) front_is
    ∙ ap (λ (ps : List Pair). record { page = get_or (row_pages nodes) i 0; pairs = here } ∷ left_of (row_pages nodes) (counts_of nodes) ps
    (i + 1)) back_is)

pub whole-next : (nodes : List PageNode) (counts : List ℕ) (left behind : List Pair) (i : ℕ) → i < length nodes → counts ≡ counts_of nodes →
    total (drop i (counts_of nodes)) ≤ length left → behind ≡ drop (get_or counts i 0) left → total (drop (i + 1) (counts_of nodes)) ≤
    length behind
whole-next nodes counts left behind i inside same whole back =
    let many = counts_length nodes in
    whole-more (counts_of nodes) left behind i (omega (arith, inside, many)) whole
    (back ∙ ap (λ (ks : List ℕ). drop (get_or ks i 0) left) same)

-- ---- one node more is written

pub written-next : (k at i : ℕ) (done : List PageNode) (old new : List FreshPage) (node : PageNode) →
    IsPageWritten (at + i) old new → at + i <
    length old →
    length done ≡ i → NodeBytes (get_or new (at + i) no_fresh_page).bytes k node.pairs → AreNodesWritten k done (drop at old) →
    AreNodesWritten k
    (done ++ node ∷ []) (drop at new)
written-next k at i done old new node written inside long stands all =
    let p = record (get_or old (at + i) no_fresh_page) { bytes = written.bytes } in
    let shown : drop at new ≡ set (drop at old) i p = ap (drop at) written.now ∙ drop-set-add at old i p in
    let here : get_or new (at + i) no_fresh_page ≡ p = ap (λ (ps : List FreshPage). get_or ps
    (at + i) no_fresh_page) written.now ∙ get_or-set_same old
    (at + i) p no_fresh_page inside in
    let left = length-drop at old in
    subst (AreNodesWritten k (done ++ node ∷ [])) (sym shown)
    (written-more k i done (drop at old) p node long (omega (arith, left, inside))
    (subst (λ (q : FreshPage). NodeBytes q.bytes k node.pairs) here stands) all)

pub before-next : (at i : ℕ) (old new : List FreshPage) → IsPageWritten (at + i) old new → take at new ≡ take at old
before-next at i old new written =
    ap (take at) written.now ∙ take-set-le at old (at + i) (record (get_or old (at + i) no_fresh_page) { bytes = written.bytes })
    (omega arith)

pub same-next : (index : ℕ) (first old new : List FreshPage) → AreSamePages first old → IsPageWritten index old new → AreSamePages first new
same-next index first old new same written = written-same index old new written ∙ same

pub same-length : (old new : List FreshPage) → AreSamePages old new → length new ≡ length old
same-length old new same =
    let a = length-map new emptied in
    let b = length-map old emptied in
    let e = ap length same in
    omega (arith, a, b, e)

-- ---- levels one after the other

-- a list that begins with this item
pub first-rest : {X : Type 0} (xs : List X) (x : X) → 0 < length xs → x ≡ get_or xs 0 x → xs ≡ x ∷ drop 1 xs
first-rest [] x some is = absurd (omega (arith, some))
first-rest (y ∷ xs) x some is = ap (λ z. z ∷ xs) (sym is)

pub levels-written : (k k' at n : ℕ) (levels : List Remade) (first : Remade) (mid new : List FreshPage) → levels ≡ first ∷ drop 1 levels →
    k' ≡ k + 1 →
    n ≡ length first.made → AreNodesWritten k first.made (drop at mid) → take (at + n) new ≡ take (at + n) mid →
    AreAllWritten k' (take (length levels - 1) (drop 1 levels)) (drop (at + n) new) → AreAllWritten k levels (drop at new)
levels-written k k' at n levels first mid new split next count here before above =
    let front : take (length first.made) (drop at new) ≡ take (length first.made) (drop at mid) =
    subst (λ (m : ℕ). take m (drop at new) ≡ take m (drop at mid)) count (drop-drop-same at n mid new before) in
    let level : k' ≡ suc k = omega (arith, next) in
    let rest : AreAllWritten (suc k) (drop 1 levels) (drop (at + n) new) =
    subst (λ (j : ℕ). AreAllWritten j (drop 1 levels) (drop (at + n) new)) level
    (subst (λ (ls : List Remade). AreAllWritten k' ls (drop (at + n) new)) (take_rest levels 1) above) in
    let behind : drop (at + n) new ≡ drop (length first.made) (drop at new) =
    sym (drop-drop n at new) ∙ ap (λ (m : ℕ). drop m (drop at new)) count in
    subst (λ (ls : List Remade). AreAllWritten k ls (drop at new)) (sym split) (
      written-front k first.made (drop at mid) (drop at new) front here,
      subst (λ (ps : List FreshPage). AreAllWritten (suc k) (drop 1 levels) ps) behind rest,
    )

pub levels-before : (at n : ℕ) (old mid new : List FreshPage) → take at mid ≡ take at old → take (at + n) new ≡ take (at + n) mid → take at
    new ≡ take at old
levels-before at n old mid new first next = take-fewer at n mid new next ∙ first

-- the first level, and those above it
pub made-first : (f : ℕ) (levels : List Remade) (first : Remade) → levels ≡ first ∷ drop 1 levels → AreAllMade f levels →
    AllByRecursion (IsMade f) first.made × AreAllMade f (take (length levels - 1) (drop 1 levels))
made-first f levels first split made =
    let all : AreAllMade f (first ∷ drop 1 levels) = subst (AreAllMade f) split made in
    (all.0, subst (AreAllMade f) (sym (take_rest levels 1)) all.1)

pub stand-first : (at : Pages) (k k' : ℕ) (levels : List Remade) (first : Remade) → levels ≡ first ∷ drop 1 levels → k' ≡ k + 1 → MadeStand
    at k levels →
    AllByRecursion (λ node. NodeBytes (at node.page) k node.pairs) first.made × MadeStand at k' (take (length levels - 1) (drop 1 levels))
stand-first at k k' levels first split next stand =
    let all : MadeStand at k (first ∷ drop 1 levels) = subst (MadeStand at k) split stand in
    let level : suc k ≡ k' = omega (arith, next) in (
      all.0,
      subst (λ (ls : List Remade). MadeStand at k' ls) (sym (take_rest levels 1))
          (subst (λ (j : ℕ). MadeStand at j (drop 1 levels)) level all.1),
    )

-- Levels read from the root down, and what reading does.
use Rattle.std.proofs.Common.{◌≡◌, ◌≢◌, ℕ, zero, suc, ◌+◌, ◌-◌, ◌<◌, ◌≤◌, Bool, List, [], ◌∷◌, ◌++◌, length, take, drop, get_or, refl, sym, ap, subst, arith, ◌∙◌}
use Rattle.std.specs.List.{AllByRecursion, flat_map}
use Rattle.std.proofs.lemmas.List.Concat.{flat_map-cons}
use Rattle.std.proofs.lemmas.List.{map-append, take_more}
use Rattle.base_laws.proofs.ListLaws.{all-map}
use Rattle.change_laws.proofs.SizeLemmas.{all-drop, all-take}
use Rattle.fault_count.specs.Counts.{Meter, Reads}
use Rattle.fault_count.proofs.CountLaws.{IsUsed-then}
use Rattle.layout_model.specs.Levels.{PageNode, pairs_of_level}
use Rattle.page_cache.specs.Kept.{KeptNodes}
use Rattle.tree_model.specs.declared.entry.Pair.{Pair}
use Rattle.tree_model.specs.Node.{IsPair}
use Rattle.tree_model.specs.Tree.{Pages, AreTrees, HasNode, IsTree, pairs_on}
use Rattle.tree_pages.specs.Levels.{node_on}
use Rattle.tree_pages.proofs.ShapeLemmas.{trees-named}
use Rattle.tree_read.specs.Search.{KeepsNodes, Visits, ReadsNodes}
use Rattle.tree_read.proofs.MeterLemmas.{Uses-then}
use Rattle.tree_read.proofs.TreeLemmas.{AreTrees-root}
use Rattle.tree_splice.specs.Way.{HasSomePairs, named_on}
use Rattle.tree_splice.proofs.PlaceLemmas.{no_pair}

-- ---- what reading does

pub reads-visit : (told : Bool) (size page : ℕ) (at : Pages) (n : ℕ) (F : Type 0) (c0 c1 : KeptNodes) (old mid new : Meter) →
    ReadsNodes told size at c0 old mid → Visits told page at n F c0 c1 mid new → page ≡ size → ReadsNodes told size at c1 old new
reads-visit told size page at n F c0 c1 old mid new first visits same = record {
  nodes = subst (λ (k : ℕ). KeepsNodes told k at c1) same visits.nodes;
  uses = Uses-then n old mid new first.uses visits.reads;
}

pub reads-more : (told : Bool) (size : ℕ) (at : Pages) (n : ℕ) (c : KeptNodes) (old mid new : Meter) →
    ReadsNodes told size at c old mid → Reads n mid new → ReadsNodes told size at c old new
reads-more told size at n c old mid new first reads = record { nodes = first.nodes; uses = Uses-then n old mid new first.uses reads }

pub reads-then : (told : Bool) (size page : ℕ) (at : Pages) (c0 c1 : KeptNodes) (old mid new : Meter) →
    ReadsNodes told size at c0 old mid → ReadsNodes told page at c1 mid new → page ≡ size → ReadsNodes told size at c1 old new
reads-then told size page at c0 c1 old mid new first second same = record {
  nodes = subst (λ (k : ℕ). KeepsNodes told k at c1) same second.nodes;
  uses = record {
    used = IsUsed-then old mid new first.uses.used second.uses.used;
    written =
        second.uses.written ∙ first.uses.written;
  };
}

-- ---- nodes that are named

-- the pairs of a node
pub node-pairs : (at : Pages) (page level least bytes : ℕ) → HasNode at page level least bytes → HasSomePairs (pairs_on at page)
node-pairs at page level least bytes has = record {
  some = has.held.sound.some;
  bytes = all-map IsPair (λ (p : Pair). 1 ≤ p.bytes) (λ p is. is.some) (pairs_on at page) has.held.sound.each;
}

pub named-more : (at : Pages) (pairs : List Pair) (i : ℕ) → i < length pairs →
    named_on at (take (i + 1) pairs) ≡ named_on at (take i pairs) ++ node_on at (get_or pairs i no_pair).page ∷ []
named-more at pairs i inside =
    ap (named_on at) (take_more pairs i no_pair inside)
    ∙ map-append (λ (p : Pair). node_on at p.page) (take i pairs) (get_or pairs i no_pair ∷ [])

pub trees-here : (at : Pages) (height : ℕ) (pairs : List Pair) → height ≢ 0 → AreTrees at 0 height pairs →
    AllByRecursion (λ (p : Pair). HasNode at p.page height 0 p.bytes) pairs
trees-here at zero pairs some trees = absurd (some refl)
trees-here at (suc height) pairs some trees =
    all-map (λ (p : Pair). HasNode at p.page (suc height) 0 p.bytes × AreTrees at 0 height (pairs_on at p.page))
    (λ (p : Pair). HasNode at p.page (suc height) 0 p.bytes) (λ p here. here.0) pairs trees

pub flat-named : (at : Pages) (pairs : List Pair) → pairs_of_level (named_on at pairs) ≡ flat_map (λ p. pairs_on at p.page) pairs
flat-named at [] = refl
flat-named at (p ∷ pairs) =
    flat_map-cons (λ (node : PageNode). node.pairs) (node_on at p.page) (named_on at pairs)
    ∙ (ap (λ (ps : List Pair). pairs_on at p.page ++ ps) (flat-named at pairs) ∙ sym
    (flat_map-cons (λ (q : Pair). pairs_on at q.page) p pairs))

pub trees-below : (at : Pages) (height : ℕ) (pairs below : List Pair) (nodes : List PageNode) → height ≢ 0 → nodes ≡ named_on at pairs →
    below ≡ pairs_of_level nodes → AreTrees at 0 height pairs → AreTrees at 0 (height - 1) below
trees-below at zero pairs below nodes some named listed trees = absurd (some refl)
trees-below at (suc height) pairs below nodes some named listed trees =
    let less : suc height - 1 ≡ height = omega arith in
    subst (λ (ps : List Pair). AreTrees at 0 (suc height - 1) ps) (sym (listed ∙ ap pairs_of_level named))
    (subst (λ (h : ℕ). AreTrees at 0 h (pairs_of_level (named_on at pairs))) (sym less)
    (subst (λ (ps : List Pair). AreTrees at 0 height ps) (sym (flat-named at pairs)) (trees-named at 0 height pairs trees)))

pub trees-top : (at : Pages) (half height page bytes : ℕ) → IsTree at half height page bytes →
    AreTrees at 0 height (record { bytes = bytes; page = page } ∷ [])
trees-top at half zero page bytes tree = tt
trees-top at half (suc height) page bytes tree = AreTrees-root at half height page bytes tree

-- some of the pairs that name trees
pub trees-part : (at : Pages) (height n k : ℕ) (pairs : List Pair) → AreTrees at 0 height pairs →
    AreTrees at 0 height (take n (drop k pairs))
trees-part at zero n k pairs trees = tt
trees-part at (suc height) n k pairs trees =
    let P : Pair → Type 0 = λ p. HasNode at p.page (suc height) 0 p.bytes × AreTrees at 0 height (pairs_on at p.page) in
    all-take P n (drop k pairs) (all-drop P k pairs trees)

-- The levels of a tree on pages have the shape of a tree, and each node stands on its page.
use Rattle.std.proofs.Common.{◌≡◌, ℕ, zero, suc, ◌/◌, ◌≤◌, Bool, false, cond, List, [], ◌∷◌, ◌++◌, length, map}
use Rattle.std.proofs.Common.{refl, sym, ap, subst, arith, ◌∙◌, nat_eq}
use Rattle.std.specs.List.{AllByRecursion, flat_map}
use Rattle.std.proofs.lemmas.List.{length-map, append-nil, length-append}
use Rattle.std.proofs.lemmas.Bool.{ne_eqb}
use Rattle.base_laws.proofs.ListLaws.{all-map}
use Rattle.tree_model.specs.declared.entry.Pair.{Pair}
use Rattle.tree_model.specs.Node.{NodeBytes, node_in, room_of}
use Rattle.tree_model.specs.Tree.{Pages, pairs_on, AreTrees, root_least}
use Rattle.layout_model.specs.Levels.{PageNode, pair_of, pairs_of_level}
use Rattle.moment_model.specs.Version.{IsFilled, AreFilled, Carries, AreLevels}
use Rattle.tree_pages.specs.Levels.{node_on, named_by, levels_down}
use Rattle.tree_pages.specs.Stored.{AreWithin, AreStored}
use Rattle.tree_pages.proofs.UnderLemmas.{trees-flat_map}
use Rattle.tree_pages.proofs.DownLemmas.{pairs-named, down-step}

-- a node stands on its page at this level
abbrev pub StandsAt : Pages → ℕ → PageNode → Type 0
StandsAt at k node = NodeBytes (at node.page) k node.pairs

-- the nodes that trees' pairs name
pub stands-named : (at : Pages) (half height : ℕ) (pairs : List Pair) → AreTrees at half (suc height) pairs →
    AllByRecursion (StandsAt at (suc height)) (map (λ p. node_on at p.page) pairs)
stands-named at half height [] trees = tt
stands-named at half height (p ∷ ps) trees =
    (subst (λ k. NodeBytes (at p.page) k (pairs_on at p.page)) trees.0.0.is_level trees.0.0.held, stands-named at half height ps trees.1)

-- and the trees under them
pub trees-named : (at : Pages) (half height : ℕ) (pairs : List Pair) → AreTrees at half (suc height) pairs →
    AreTrees at half height (flat_map (λ p. pairs_on at p.page) pairs)
trees-named at half height pairs trees =
    trees-flat_map at half height (λ (p : Pair). pairs_on at p.page) pairs (all-map _ _ (λ p is. is.1) pairs trees)

-- the pairs are the names of the nodes
pub names-named : (at : Pages) (half height : ℕ) (pairs : List Pair) → AreTrees at half (suc height) pairs →
    pairs ≡ map pair_of (map (λ p. node_on at p.page) pairs)
names-named at half height [] trees = refl
names-named at half height (p ∷ ps) trees =
    let here : p ≡ pair_of (node_on at p.page) = ap (λ b. record { bytes = b; page = p.page }) (sym trees.0.0.counted) in
    ap (λ x. x ∷ ps) here ∙ ap (λ xs. pair_of (node_on at p.page) ∷ xs) (names-named at half height ps trees.1)

-- a node on a page of this size has at most so many pairs
pub stands-room : (at : Pages) (size k : ℕ) (node : PageNode) → AreWithin size at → StandsAt at k node → length node.pairs ≤ room_of size
stands-room at size k node within stands =
    let room = stands.sound.room in
    let most = within node.page in
    omega (arith, room, most)

-- nodes of trees are filled
fills-named : (at : Pages) (half height size : ℕ) (pairs : List Pair) → AreWithin size at → AreTrees at half (suc height) pairs →
    AllByRecursion (IsFilled (room_of size) half) (map (λ p. node_on at p.page) pairs)
fills-named at half height size [] within trees = tt
fills-named at half height size (p ∷ ps) within trees = (
  record {
    low = trees.0.0.filled;
    high = stands-room at size (node_in (at p.page)).level (node_on at p.page) within trees.0.0.held;
  },
  fills-named at half height size ps within trees.1,
)

-- nodes that each have a pair have as many pairs as they are
pairs-many : (at : Pages) (k : ℕ) (nodes : List PageNode) → AllByRecursion (StandsAt at k) nodes →
    length nodes ≤ length (pairs_of_level nodes)
pairs-many at k [] stand = let none : 0 ≤ 0 = omega arith in none
pairs-many at k (node ∷ rest) stand =
    let some = stand.0.sound.some in
    let more = pairs-many at k rest stand.1 in
    let whole = length-append node.pairs (pairs_of_level rest) in
    let sum : suc (length rest) ≤ length (node.pairs ++ pairs_of_level rest) = omega (arith, some, more, whole) in
    sum

-- nodes above the lowest level have two pairs
two-pairs : (at : Pages) (f k : ℕ) (nodes : List PageNode) → 1 ≤ length nodes → AllByRecursion (StandsAt at k) nodes → AreFilled f 2 nodes →
    2 ≤ length (pairs_of_level nodes)
two-pairs at f k [] some stand filled = let none : 1 ≤ 0 = some in absurd (omega (arith, none))
two-pairs at f k (node ∷ []) some stand filled =
    let low : 2 ≤ length node.pairs = filled.0.low in
    subst (λ xs. 2 ≤ length xs) (sym (append-nil node.pairs)) low
two-pairs at f k (node ∷ next ∷ rest) some stand filled =
    let many = pairs-many at k (node ∷ next ∷ rest) stand in
    let two : suc (suc (length rest)) ≤ length (pairs_of_level (node ∷ next ∷ rest)) = many in
    let least : 2 ≤ suc (suc (length rest)) = omega arith in
    omega (arith, two, least)

-- a level of two nodes or more has half full ones
many-filled : (f root : ℕ) (nodes : List PageNode) → 2 ≤ length nodes → AllByRecursion (IsFilled f (f / 2)) nodes → AreFilled f root nodes
many-filled f root nodes many filled =
    let other : nat_eq (length nodes) 1 ≡ false = ne_eqb (length nodes) 1 (λ one. omega (arith, one, many)) in
    subst (λ (b : Bool). AllByRecursion (IsFilled f (cond b root (f / 2))) nodes) (sym other) filled

-- the levels down from nodes that are well filled, under levels that carry them
pub down-shape : (at : Pages) (size height : ℕ) (nodes : List PageNode) (above : List (List PageNode)) →
    AreWithin size at → 1 ≤ length nodes →
    AllByRecursion (StandsAt at (suc height)) nodes → AreFilled (room_of size) (root_least (suc height)) nodes →
    AreTrees at (room_of size / 2) height (pairs_of_level nodes) → Carries (room_of size) nodes above →
    AreLevels (room_of size) (levels_down at (suc height) nodes ++ above)
down-shape at size zero nodes above within some stand filled trees carried = (filled, carried)
down-shape at size (suc height) nodes above within some stand filled trees carried =
    let f = room_of size in
    let pairs = pairs_of_level nodes in
    let below = named_by at nodes in
    let two : 2 ≤ length pairs = two-pairs at f (suc (suc height)) nodes some stand (filled-2 f height nodes filled) in
    let long : length below ≡ length pairs = length-map pairs (λ (p : Pair). node_on at p.page) in
    let many : 2 ≤ length below = omega (arith, two, long) in
    let one : 1 ≤ length below = omega (arith, many) in
    let below_filled = many-filled f (root_least (suc height)) below many (fills-named at (f / 2) height size pairs within trees) in
    let below_trees = subst (AreTrees at (f / 2) height) (sym (pairs-named at nodes)) (trees-named at (f / 2) height pairs trees) in
    let carries : Carries f below (nodes ∷ above) =
    (many, names-named at (f / 2) height pairs trees, filled-2 f height nodes filled, carried) in
    subst (AreLevels f) (sym (down-step at (suc height) nodes above))
    (down-shape at size height below (nodes ∷ above) within one (stands-named at (f / 2) height pairs trees)
    below_filled below_trees carries)
  where
    filled-2 : (f height : ℕ) (nodes : List PageNode) → AreFilled f (root_least (suc (suc height))) nodes → AreFilled f 2 nodes
    filled-2 f height nodes filled =
        let other : nat_eq (suc (suc height)) 1 ≡ false = ne_eqb (suc (suc height)) 1 (λ one. omega (arith, one)) in
        subst (λ (b : Bool). AreFilled f (cond b 1 2) nodes) other filled

-- each node of the levels down stands on its page
pub down-stored : (at : Pages) (half height : ℕ) (nodes : List PageNode) (above : List (List PageNode)) →
    AllByRecursion (StandsAt at (suc height)) nodes → AreTrees at half height (pairs_of_level nodes) →
    AreStored at (suc (suc height)) above →
    AreStored at 1 (levels_down at (suc height) nodes ++ above)
down-stored at half zero nodes above stand trees stored = (stand, stored)
down-stored at half (suc height) nodes above stand trees stored =
    let pairs = pairs_of_level nodes in
    subst (AreStored at 1) (sym (down-step at (suc height) nodes above))
    (down-stored at half height (named_by at nodes) (nodes ∷ above) (stands-named at half height pairs trees)
    (subst (AreTrees at half height) (sym (pairs-named at nodes)) (trees-named at half height pairs trees)) (stand, stored))

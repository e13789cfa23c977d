-- The steps of the way up, as the code takes them.
use Rattle.std.proofs.Common.{
  ◌≡◌,
  ℕ,
  zero,
  suc,
  ◌+◌,
  ◌-◌,
  ◌<◌,
  ◌≤◌,
  ◌⊎◌,
  inl,
  inr,
  true,
  false,
  List,
  [],
  ◌∷◌,
  ◌++◌,
  length,
  map,
  take,
  drop,
  ◌^◌,
  refl,
  sym,
  ap,
  subst,
  arith,
  ◌∙◌,
  append_assoc,
}
use Rattle.std.specs.List.{AllByRecursion}
use Rattle.std.proofs.Math.Seq.{take-nil, drop-nil}
use Rattle.std.proofs.lemmas.Bool.{le-leb, lt-leb}
use Rattle.std.proofs.lemmas.List.{append-nil, map-append}
use Rattle.tree_model.specs.declared.entry.Pair.{Pair}
use Rattle.tree_model.specs.Tree.{bytes_of}
use Rattle.layout_model.specs.Levels.{PageNode, NewLevel, pair_of, level_after, is_top, raised_levels}
use Rattle.local_laws.specs.Path.{PathLevel, is_top_of_path, new_path_from}
use Rattle.layout_laws.proofs.LevelLemmas.{raised_levels-head, test_cases}
use Rattle.tree_splice.specs.Remade.{AreCounted, remade, rebuilt}
use Rattle.tree_splice.specs.declared.remade.Remade.{Remade}

-- ---- one step of each recursion

pub raised-none : (steps f : ℕ) (below : NewLevel) (pages : List ℕ) → steps ≡ 0 → raised_levels steps f below pages ≡ below ∷ []
raised-none steps f below pages none = ap (λ (k : ℕ). raised_levels k f below pages) none

pub raised-top : (steps f : ℕ) (below : NewLevel) (pages : List ℕ) → is_top below ≡ true → raised_levels steps f below pages ≡ below ∷ []
raised-top zero f below pages top = refl
raised-top (suc steps) f below pages top = rw (top, raised_levels) refl

pub raised-more : (steps f : ℕ) (below : NewLevel) (pages : List ℕ) → 0 < steps → is_top below ≡ false → raised_levels steps f below pages
    ≡ below ∷ raised_levels (steps - 1) f (level_after f [] 0 0 (map pair_of below.nodes) (drop (length below.made) pages))
    (drop (length below.made) pages)
raised-more zero f below pages some more = absurd (omega (arith, some))
raised-more (suc steps) f below pages some more =
    let e : steps ≡ suc steps - 1 = omega arith in
    let step : raised_levels (suc steps) f below pages
    ≡ below ∷ raised_levels steps f (level_after f [] 0 0 (map pair_of below.nodes) (drop (length below.made) pages))
    (drop (length below.made) pages)
    = rw (more, raised_levels) refl in
    step ∙ ap (λ (k : ℕ). below ∷ raised_levels k f (level_after f [] 0 0 (map pair_of below.nodes) (drop (length below.made) pages))
    (drop (length below.made) pages)) e

pub path-top : (f : ℕ) (below : NewLevel) (level up : PathLevel) (above : List PathLevel) (pages : List ℕ) → is_top_of_path level below ≡
    true →
    new_path_from f below level (up ∷ above) pages ≡ below ∷ []
path-top f below level up above pages top = rw (top, new_path_from) refl

pub path-more : (f : ℕ) (below : NewLevel) (level up : PathLevel) (above : List PathLevel) (pages : List ℕ) → is_top_of_path level below ≡
    false →
    new_path_from f below level (up ∷ above) pages
    ≡ below ∷ new_path_from f
    (level_after f up.nodes (level.first + below.from) below.count (map pair_of below.made) (drop (length below.made) pages))
    up above (drop (length below.made) pages)
path-more f below level up above pages more = rw (more, new_path_from) refl

-- ---- levels whose nodes are all made

pub rebuilt-none : (level : Remade) → (rebuilt [] level).nodes ≡ level.made
rebuilt-none level =
    let front : take level.from [] ≡ [] = take-nil {A = PageNode} level.from in
    let back : drop (level.from + level.count) [] ≡ [] = drop-nil {A = PageNode} (level.from + level.count) in
    ap (λ (nodes : List PageNode). nodes ++ (level.made ++ drop (level.from + level.count) [])) front
    ∙ (ap (λ (nodes : List PageNode). level.made ++ nodes) back ∙ append-nil level.made)

-- ---- the size tells whether a level is the highest

pub size-few : (level : NewLevel) (n : ℕ) → n ≡ length level.nodes → n ≤ 1 → is_top level ≡ true
size-few level n same few = le-leb (length level.nodes) 1 (omega (arith, same, few))

pub size-many : (level : NewLevel) (n : ℕ) → n ≡ length level.nodes → 1 < n → is_top level ≡ false
size-many level n same many = lt-leb (length level.nodes) 1 (omega (arith, same, many))

-- ---- counted nodes

pub all-parts : {X : Type 0} (P : X → Type 0) (xs ys : List X) → AllByRecursion P (xs ++ ys) → AllByRecursion P xs × AllByRecursion P ys
all-parts P [] ys all = (tt, all)
all-parts P (x ∷ xs) ys all = let others = all-parts P xs ys all.1 in ((all.0, others.0), others.1)

pub counted-made : (nodes : List PageNode) (level : Remade) → AreCounted (rebuilt nodes level).nodes → AreCounted level.made
counted-made nodes level counted =
    let behind = drop (level.from + level.count) nodes in
    (all-parts (λ (node : PageNode). bytes_of node.pairs < 2 ^ 64) level.made behind
    (all-parts (λ (node : PageNode). bytes_of node.pairs < 2 ^ 64) (take level.from nodes) (level.made ++ behind) counted).1).0

pub counted-front : (nodes : List PageNode) (level : Remade) → AreCounted (rebuilt nodes level).nodes → AreCounted (take level.from nodes)
counted-front nodes level counted =
    let behind = drop (level.from + level.count) nodes in
    (all-parts (λ (node : PageNode). bytes_of node.pairs < 2 ^ 64) (take level.from nodes) (level.made ++ behind) counted).0

pub counted-back : (nodes : List PageNode) (level : Remade) → AreCounted (rebuilt nodes level).nodes → AreCounted
    (drop (level.from + level.count) nodes)
counted-back nodes level counted =
    let behind = drop (level.from + level.count) nodes in
    (all-parts (λ (node : PageNode). bytes_of node.pairs < 2 ^ 64) level.made behind
    (all-parts (λ (node : PageNode). bytes_of node.pairs < 2 ^ 64) (take level.from nodes) (level.made ++ behind) counted).1).1

-- the names of all nodes of a rebuilt level
pub names-around : (nodes : List PageNode) (level : Remade) → map pair_of (rebuilt nodes level).nodes
    ≡ (map pair_of (take level.from nodes) ++ map pair_of level.made) ++ map pair_of (drop (level.from + level.count) nodes)
names-around nodes level =
    let behind = drop (level.from + level.count) nodes in
    map-append pair_of (take level.from nodes) (level.made ++ behind)
    ∙ (ap (λ (ps : List Pair). map pair_of (take level.from nodes) ++ ps) (map-append pair_of level.made behind)
    ∙ sym (append_assoc (map pair_of (take level.from nodes)) (map pair_of level.made) (map pair_of behind)))

-- ---- a level is added, and those above it

pub levels-last : (old new : List Remade) (below : Remade) (level : NewLevel) (all : List NewLevel) → all ≡ level ∷ [] → below ≡ remade
    level →
    new ≡ old ++ below ∷ [] → new ≡ old ++ map remade all
levels-last old new below level all one kept added =
    added ∙ (ap (λ (b : Remade). old ++ b ∷ []) kept ∙ sym (ap (λ (ls : List NewLevel). old ++ map remade ls) one))

pub levels-step : (old mid new : List Remade) (below : Remade) (level : NewLevel) (all rest : List NewLevel) → all ≡ level ∷ rest → below ≡
    remade level →
    mid ≡ old ++ below ∷ [] → new ≡ mid ++ map remade rest → new ≡ old ++ map remade all
levels-step old mid new below level all rest step kept added others =
    others
    ∙ (ap (λ (ls : List Remade). ls ++ map remade rest) added
    ∙ (append_assoc old (below ∷ []) (map remade rest)
    ∙ (ap (λ (b : Remade). old ++ b ∷ map remade rest) kept ∙ sym (ap (λ (ls : List NewLevel). old ++ map remade ls) step))))

-- above the old root
pub raise-step : (steps f : ℕ) (nodes : List PageNode) (below : Remade) (pages : List ℕ) (names : List Pair) (left : List ℕ)
    (next : NewLevel) →
    0 < steps → 1 < below.size → below ≡ remade (rebuilt nodes below) →
    names ≡ map pair_of (rebuilt nodes below).nodes → left ≡ drop (length below.made) pages → next ≡ level_after f [] 0 0 names left →
    raised_levels steps f (rebuilt nodes below) pages ≡ rebuilt nodes below ∷ raised_levels (steps - 1) f next left
raise-step steps f nodes below pages names left next some many kept named rest made =
    let level = rebuilt nodes below in
    let size : below.size ≡ length level.nodes = ap (λ (b : Remade). b.size) kept in
    let again : next ≡ level_after f [] 0 0 (map pair_of level.nodes) (drop (length below.made) pages) =
    made ∙ (ap (λ (ps : List Pair). level_after f [] 0 0 ps left) named ∙ ap
    (λ (qs : List ℕ). level_after f [] 0 0 (map pair_of level.nodes) qs) rest) in
    raised-more steps f level pages some (size-many level below.size size many)
    ∙ (ap (λ (l : NewLevel). level ∷ raised_levels (steps - 1) f l (drop (length below.made) pages)) (sym again)
    ∙ ap (λ (qs : List ℕ). level ∷ raised_levels (steps - 1) f next qs) (sym rest))

pub raise-last : (steps f : ℕ) (nodes : List PageNode) (below : Remade) (pages : List ℕ) → below.size ≤ 1 → below ≡ remade
    (rebuilt nodes below) →
    raised_levels steps f (rebuilt nodes below) pages ≡ rebuilt nodes below ∷ []
raise-last steps f nodes below pages few kept =
    raised-top steps f (rebuilt nodes below) pages (size-few (rebuilt nodes below) below.size (ap (λ (b : Remade). b.size) kept) few)

-- below it
pub path-step : (f : ℕ) (below : Remade) (level up : PathLevel) (above : List PathLevel) (pages : List ℕ) (names : List Pair)
    (left : List ℕ) (from : ℕ) (next : NewLevel) →
    is_top_of_path level (rebuilt level.nodes below) ≡ false →
    names ≡ map pair_of below.made → left ≡ drop (length below.made) pages → from ≡ level.first + below.from →
    next ≡ level_after f up.nodes from below.count names left →
    new_path_from f (rebuilt level.nodes below) level (up ∷ above) pages ≡ rebuilt level.nodes below ∷ new_path_from f next up above left
path-step f below level up above pages names left from next more named rest place made =
    let here = rebuilt level.nodes below in
    let qs = drop (length below.made) pages in
    let again : next ≡ level_after f up.nodes (level.first + below.from) below.count (map pair_of below.made) qs =
    made ∙ (ap (λ (ps : List Pair). level_after f up.nodes from below.count ps left) named
    ∙ (ap (λ (k : ℕ). level_after f up.nodes k below.count (map pair_of below.made) left) place
    ∙ ap (λ (ns : List ℕ). level_after f up.nodes (level.first + below.from) below.count (map pair_of below.made) ns) rest)) in
    path-more f here level up above pages more
    ∙ (ap (λ (l : NewLevel). here ∷ new_path_from f l up above qs) (sym again)
    ∙ ap (λ (ns : List ℕ). here ∷ new_path_from f next up above ns) (sym rest))

pub raise-only : (steps f : ℕ) (nodes : List PageNode) (below : Remade) (pages : List ℕ) → (steps ≡ 0) ⊎ (below.size ≤ 1) → below ≡ remade
    (rebuilt nodes below) →
    raised_levels steps f (rebuilt nodes below) pages ≡ rebuilt nodes below ∷ []
raise-only steps f nodes below pages (inl none) kept = raised-none steps f (rebuilt nodes below) pages none
raise-only steps f nodes below pages (inr few) kept = raise-last steps f nodes below pages few kept

-- the first of the new levels from one on is that one
pub path-head : (f : ℕ) (below : NewLevel) (level : PathLevel) (above : List PathLevel) (pages : List ℕ) →
    (rest : List NewLevel) × (new_path_from f below level above pages ≡ below ∷ rest)
path-head f below level [] pages = raised_levels-head (length below.nodes) f below pages
path-head f below level (up ∷ above) pages = elim (test_cases (is_top_of_path level below)) [
  | inl top ↦ ([], path-top f below level up above pages top)
  | inr more ↦ (
    new_path_from f (level_after f up.nodes (level.first + below.from) below.count (map pair_of below.made)
        (drop (length below.made) pages)) up above (drop (length below.made) pages),
    path-more f below level up above pages more,
  )
]

-- a tree of fresh entries alone
pub planted : (f : ℕ) (none : List PageNode) (first : Remade) (fresh : List Pair) (pages : List ℕ) → none ≡ [] →
    first ≡ remade (level_after f none 0 0 fresh pages) → rebuilt none first ≡ level_after f none 0 0 fresh pages →
    raised_levels first.size f (rebuilt [] first) pages
    ≡ raised_levels (length (level_after f [] 0 0 fresh pages).nodes) f (level_after f [] 0 0 fresh pages) pages
planted f none first fresh pages empty kept is =
    let same : rebuilt [] first ≡ level_after f [] 0 0 fresh pages =
    subst (λ (ns : List PageNode). rebuilt ns first ≡ level_after f ns 0 0 fresh pages) empty is in
    let size : first.size ≡ length (level_after f [] 0 0 fresh pages).nodes =
    ap (λ (r : Remade). r.size) kept ∙ ap (λ (ns : List PageNode). length (level_after f ns 0 0 fresh pages).nodes) empty in
    ap (λ (k : ℕ). raised_levels k f (rebuilt [] first) pages) size
    ∙ ap (λ (l : NewLevel). raised_levels (length (level_after f [] 0 0 fresh pages).nodes) f l pages) same

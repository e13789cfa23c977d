-- What an exchange makes of a tree on pages that tell.
use Rattle.std.proofs.Common.{◌≡◌, ℕ, suc, ◌+◌, ◌-◌, ◌/◌, ◌^◌, ◌<◌, ◌≤◌, true, List, [], ◌∷◌, ◌++◌, length, map, take, drop}
use Rattle.std.proofs.Common.{Option, Some, None, refl, sym, ap, subst, arith, ◌∙◌}
use Rattle.std.specs.List.{AllByRecursion}
use Rattle.std.specs.Prelude.{unwrap_or, IfSome}
use Rattle.std.proofs.lemmas.List.{length-map, take-append-drop, drop-drop}
use Rattle.base_laws.proofs.ListLaws.{all-append, all-map}
use Rattle.content_laws.specs.Spelling.{HaveBytes}
use Rattle.change_laws.proofs.NodeLemmas.{level_uses}
use Rattle.change_laws.proofs.SizeLemmas.{all-take, all-drop}
use Rattle.change_laws.proofs.ShapeLemmas.{spliced-levels}
use Rattle.layout_laws.specs.Naming.{AreNamed, HavePairs as ArePaired}
use Rattle.layout_laws.proofs.LevelLemmas.{count-cons, spliced-entries}
use Rattle.layout_model.specs.Levels.{PageNode, pairs_of_level, spliced, nodes_of_levels, entries_of_levels}
use Rattle.layout_model.specs.Levels.{count_made}
use Rattle.local_laws.specs.Left.{nodes_left, nodes_made}
use Rattle.local_laws.proofs.LeftLemmas.{spliced-difference}
use Rattle.geometry_model.specs.Numbers.{Numbers}
use Rattle.moment_model.specs.Version.{AreLevels, Carries, uses}
use Rattle.page_set.specs.declared.page_run.PageRun.{PageRun}
use Rattle.span_store.specs.Held.{Held, AllSized, bytes_on, page_at}
use Rattle.tree_model.specs.declared.entry.Pair.{Pair}
use Rattle.tree_model.specs.declared.tree.Root.{Root}
use Rattle.tree_model.specs.Node.{IsPair, NodeBytes, room_of}
use Rattle.tree_model.specs.Tree.{Pages, IsTree, bytes_of, entries_of}
use Rattle.tree_pages.specs.Levels.{levels_at}
use Rattle.tree_pages.specs.Stored.{AreStored, AreWithin, root_of}
use Rattle.tree_pages.proofs.TreeLemmas.{levels-shape, levels-entries, tree-bytes, stored-levels, stored-tree}
use Rattle.tree_read.proofs.TreeLemmas.{bytes_of-append}
use Rattle.tree_splice.specs.Remade.{AreAllCounted, remade, row_pages}
use Rattle.tree_splice.specs.Splice.{IsBetween, IsSpliced, extent_of, firsts_of, nodes_on, single_run}
use Rattle.tree_splice.specs.Way.{IsSoundNode, MadeStand}
use Rattle.tree_splice.proofs.CountedLemmas.{spliced-counted}
use Rattle.tree_splice.proofs.NewLemmas.{sound-bytes, spliced-on}
use Rattle.tree_splice.proofs.StoredLemmas.{levels-low, single-runs, spliced-low, spliced-stored}

-- ---- the tree is one of levels

carries-named : (f : ℕ) (below : List PageNode) (above : List (List PageNode)) → Carries f below above → AreNamed (below ∷ above)
carries-named f below [] carries = tt
carries-named f below (nodes ∷ above) carries = (carries.1, carries-named f nodes above carries.3)

levels-named : (f : ℕ) (levels : List (List PageNode)) → AreLevels f levels → AreNamed levels
levels-named f [] are = tt
levels-named f (nodes ∷ above) are = carries-named f nodes above are.1

-- each level has a pair
sound-pairs : (nodes : List PageNode) → 1 ≤ length nodes → AllByRecursion IsSoundNode nodes → 0 < length (pairs_of_level nodes)
sound-pairs [] some sound = absurd (omega (arith, some))
sound-pairs (node ∷ nodes) some sound =
    let count = count-cons node nodes in
    let one = sound.0.some in
    omega (arith, count, one)

carries-paired : (f : ℕ) (below : List PageNode) (above : List (List PageNode)) → Carries f below above → AllByRecursion
    (AllByRecursion IsSoundNode) (below ∷ above) →
    ArePaired (below ∷ above)
carries-paired f below [] carries sound = let one = carries in (sound-pairs below (omega (arith, one)) sound.0, tt)
carries-paired f below (nodes ∷ above) carries sound =
    let two = carries.0 in (sound-pairs below (omega (arith, two)) sound.0, carries-paired f nodes above carries.3 sound.1)

levels-paired : (f : ℕ) (levels : List (List PageNode)) → AreLevels f levels → AllByRecursion (AllByRecursion IsSoundNode) levels →
    ArePaired levels
levels-paired f [] are sound = tt
levels-paired f (nodes ∷ above) are sound = carries-paired f nodes above are.1 sound

pub entries-some : (levels : List (List PageNode)) → AllByRecursion (AllByRecursion IsSoundNode) levels →
    HaveBytes (entries_of_levels levels)
entries-some [] sound = tt
entries-some (nodes ∷ above) sound = sound-bytes nodes sound.0

-- ---- the new entries

-- What is known of an exchange in a tree of levels whose nodes have pairs.
pub record Exchange (f : ℕ) (levels : List (List PageNode)) (from count : ℕ) (fresh : List Pair) : Type 0 where
  pub fan : 4 ≤ f
  pub shape : AreLevels f levels
  pub sound : AllByRecursion (AllByRecursion IsSoundNode) levels
  pub few : from + count ≤ length (entries_of_levels levels)
  pub some : HaveBytes fresh
  pub small : bytes_of (entries_of_levels levels) + bytes_of fresh < 2 ^ 64

bytes-parts : (from count : ℕ) (entries : List Pair) →
    bytes_of (take from entries) + bytes_of (take count (drop from entries)) + bytes_of (drop (from + count) entries) ≡ bytes_of entries
bytes-parts from count entries =
    let one = bytes_of-append (take from entries) (drop from entries) in
    let two = bytes_of-append (take count (drop from entries)) (drop count (drop from entries)) in
    let all = ap bytes_of (take-append-drop from entries) in
    let rest = ap bytes_of (take-append-drop count (drop from entries)) in
    let last = ap bytes_of (drop-drop count from entries) in
    omega (arith, one, two, all, rest, last)

new-bytes : (from count : ℕ) (entries fresh : List Pair) →
    bytes_of (take from entries ++ (fresh ++ drop (from + count) entries)) ≡ bytes_of (take from entries) +
    (bytes_of fresh + bytes_of (drop (from + count) entries))
new-bytes from count entries fresh =
    bytes_of-append (take from entries) (fresh ++ drop (from + count) entries)
    ∙ ap (λ (n : ℕ). bytes_of (take from entries) + n) (bytes_of-append fresh (drop (from + count) entries))

new-some : (from count : ℕ) (entries fresh : List Pair) → HaveBytes entries → HaveBytes fresh →
    HaveBytes (take from entries ++ (fresh ++ drop (from + count) entries))
new-some from count entries fresh all more =
    let P : Pair → Type 0 = λ p. 1 ≤ p.bytes in
    all-append P (take from entries) (fresh ++ drop (from + count) entries) (all-take P from entries all)
    (all-append P fresh (drop (from + count) entries) more (all-drop P (from + count) entries all))

-- each new node can be named, and the new levels counted
pub can-splice : (f : ℕ) (levels : List (List PageNode)) (from count : ℕ) (fresh : List Pair) (pages : List ℕ) →
    Exchange f levels from count fresh →
    AreAllCounted (spliced f levels from count fresh pages) × (length (spliced f levels from count fresh pages) < 256)
can-splice f levels from count fresh pages e =
    let entries = entries_of_levels levels in
    let parts = bytes-parts from count entries in
    let sum = new-bytes from count entries fresh in
    let small = e.small in
    let four = e.fan in
    let less : bytes_of (take from entries ++ (fresh ++ drop (from + count) entries)) < 2 ^ 64 = omega (arith, parts, sum, small) in
    let new = spliced f levels from count fresh pages in
    let listed = spliced-entries f levels from count fresh pages (omega (arith, four)) e.few in (
      spliced-counted f levels from count fresh pages (omega (arith, four)) (levels-named f levels e.shape)
          (levels-paired f levels e.shape e.sound) e.few less,
      spliced-low f levels from count fresh pages
          (levels-low f (nodes_of_levels new) four (spliced-levels f levels from count fresh pages four e.shape e.few)
          (subst HaveBytes (sym listed) (new-some from count entries fresh (entries-some levels e.sound) e.some))
          (subst (λ (ps : List Pair). bytes_of ps < 2 ^ 64) (sym listed) less)),
    )

-- ---- the new tree

-- the pages stand in the new tree as they stood in the old one, or as they were made
uses-made : (page : ℕ) (nodes : List PageNode) (runs : List PageRun) → runs ≡ map single_run (row_pages nodes) →
    uses page (map extent_of runs) ≡ level_uses page nodes
uses-made page nodes runs are = ap (λ (rs : List PageRun). uses page (map extent_of rs)) are ∙ ap (uses page) (single-runs nodes)

pub new-tree : (f : ℕ) (old new : Pages) (root root' : Root) (k count : ℕ) (fresh : List Pair) (pages : List ℕ) (made left : List PageRun) →
    Exchange f (levels_at old root) k count fresh → AreStored new 1 (levels_at old root) →
    MadeStand new 1 (map remade (spliced f (levels_at old root) k count fresh pages)) →
    count_made (spliced f (levels_at old root) k count fresh pages) ≡ length pages →
    made ≡ map single_run pages → left ≡ map single_run (row_pages (nodes_left (levels_at old root)
    (spliced f (levels_at old root) k count fresh pages))) →
    root' ≡ root_of (nodes_of_levels (spliced f (levels_at old root) k count fresh pages)) →
    IsSpliced f old new root root' k count fresh made left
new-tree f old new root root' k count fresh pages made left e stored stand all made_is left_is is =
    let levels = levels_at old root in
    let after = spliced f levels k count fresh pages in
    let firsts : firsts_of made ≡ pages = ap firsts_of made_is ∙ firsts-single pages in
    let shape = spliced-levels f levels k count fresh pages e.fan e.shape e.few in
    let stands = spliced-stored new f levels k count fresh pages stored stand in
    let back : levels_at new root' ≡ nodes_of_levels after =
    ap (levels_at new) is ∙ stored-levels f new (nodes_of_levels after) shape stands in
    let again : after ≡ spliced f levels k count fresh (firsts_of made) = ap (spliced f levels k count fresh) (sym firsts) in
    record {
      levels = back ∙ ap nodes_of_levels again;
      each = sym (ap count_made again) ∙ (all ∙ (sym (ap length firsts) ∙ length-map made (λ (run : PageRun). run.first)));
      tree = subst (λ (r : Root). IsTree new (f / 2) r.height r.page r.length) (sym is)
          (stored-tree f new (nodes_of_levels after) shape stands);
      uses_of = λ page.
          let made_rows : row_pages (nodes_made after) ≡ pages = spliced-on f levels k count fresh pages all in
          let one = uses-made page (nodes_left levels after) left left_is in
          let two = uses-made page (nodes_made after) made (made_is ∙ ap (map single_run) (sym made_rows)) in
          let three = spliced-difference page f levels k count fresh pages in
          let four = ap (nodes_on page) back in
          omega (arith, one, two, three, four);
    }
  where
    firsts-single : (pages : List ℕ) → firsts_of (map single_run pages) ≡ pages
    firsts-single [] = refl
    firsts-single (page ∷ pages) = ap (λ (ps : List ℕ). page ∷ ps) (firsts-single pages)

-- ---- what the code finds

pub within-size : (size : ℕ) (held : Held) → AllSized true size held → AreWithin size (bytes_on held)
within-size size held sized = λ q. go (page_at held q) (sized refl q)
  where
    go : (o : Option (List ℕ)) → IfSome o (λ page. length page ≡ size) → length (unwrap_or o []) ≤ size
    go None is = omega arith
    go (Some page) is = omega (arith, is)

-- nodes that stand on pages have pairs
pub stored-sound : (at : Pages) (k : ℕ) (levels : List (List PageNode)) → AreStored at k levels →
    AllByRecursion (AllByRecursion IsSoundNode) levels
stored-sound at k [] stored = tt
stored-sound at k (nodes ∷ above) stored = (
  all-map (λ (node : PageNode). NodeBytes (at node.page) k node.pairs) IsSoundNode
      (λ node stands. record {
        some = stands.sound.some;
        bytes = all-map IsPair (λ (p : Pair). 1 ≤ p.bytes) (λ p is. is.some) node.pairs stands.sound.each;
      }) nodes stored.0,
  stored-sound at (suc k) above stored.1,
)

-- the levels of a tree on pages that tell
pub tree-exchange : (size : ℕ) (held : Held) (root : Root) (from to k count : ℕ) (fresh : List Pair) → 256 ≤ size → AllSized true size held
    →
    IsTree (bytes_on held) (room_of size / 2) root.height root.page root.length →
    IsBetween (entries_of (bytes_on held) root.height root.page) from to k count → HaveBytes fresh → root.length + bytes_of fresh < 2 ^ 64 →
    Exchange (room_of size) (levels_at (bytes_on held) root) k count fresh × AreStored (bytes_on held) 1 (levels_at (bytes_on held) root)
tree-exchange size held root from to k count fresh large sized tree between some small =
    let at = bytes_on held in
    let n : Numbers = record { page = size; order = 0; spaces = 0; catalog = 0; threshold = 0 } in
    let shape = levels-shape n at root.height root.page root.length (within-size size held sized) tree in
    let listed = levels-entries at root.height root.page in
    let bytes = ap bytes_of listed ∙ tree-bytes at (room_of size / 2) root.height root.page root.length tree in
    let few = between.few in
    let long = ap length listed in (
      record {
        fan = omega (arith, large);
        shape = shape.0;
        sound = stored-sound at 1 (levels_at at root) shape.1;
        few = omega (arith, few, long);
        some = some;
        small = omega (arith, small, bytes);
      },
      shape.1,
    )

-- the new entries' bytes are those that the code counts
pub new-length : (size : ℕ) (held : Held) (root : Root) (from to k count : ℕ) (fresh : List Pair) (pages : List ℕ) →
    IsTree (bytes_on held) (room_of size / 2) root.height root.page root.length →
    Exchange (room_of size) (levels_at (bytes_on held) root) k count fresh →
    IsBetween (entries_of (bytes_on held) root.height root.page) from to k count → from ≤ to →
    root.length - (to - from) + bytes_of fresh
    ≡ bytes_of (entries_of_levels (nodes_of_levels (spliced (room_of size) (levels_at (bytes_on held) root) k count fresh pages)))
new-length size held root from to k count fresh pages tree e between order =
    let at = bytes_on held in
    let levels = levels_at at root in
    let entries = entries_of_levels levels in
    let listed = levels-entries at root.height root.page in
    let bytes = ap bytes_of listed ∙ tree-bytes at (room_of size / 2) root.height root.page root.length tree in
    let four = e.fan in
    let after = ap bytes_of (spliced-entries (room_of size) levels k count fresh pages (omega (arith, four)) e.few) in
    let sum = new-bytes k count entries fresh in
    let parts = bytes-parts k count entries in
    let first : from ≡ bytes_of (take k entries) = between.first ∙ ap (λ (ps : List Pair). bytes_of (take k ps)) (sym listed) in
    let last : to ≡ bytes_of (take (k + count) entries) = between.last ∙ ap (λ (ps : List Pair). bytes_of (take (k + count) ps))
    (sym listed) in
    let whole = ap bytes_of (take-append-drop (k + count) entries) in
    let cut = bytes_of-append (take (k + count) entries) (drop (k + count) entries) in
    omega (arith, bytes, after, sum, parts, first, last, order, whole, cut)

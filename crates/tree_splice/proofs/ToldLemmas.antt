-- The exchange as the code makes it, on pages that tell: what it may do, and the tree that comes of it.
use Rattle.std.proofs.Common.{◌≡◌, ℕ, suc, ◌+◌, ◌-◌, ◌/◌, ◌^◌, ◌<◌, ◌≤◌, Bool, true, false, List, [], ◌∷◌, ◌++◌, length, map}
use Rattle.std.proofs.Common.{Option, Some, None, IsTrue, inl, inr, refl, sym, ap, subst, arith, ◌∙◌}
use Rattle.std.specs.List.{AllByRecursion}
use Rattle.std.specs.Option.{option_or}
use Rattle.std.specs.Prelude.{IfSome, unwrap_or}
use Rattle.std.proofs.lemmas.Bool.{cases_Bool}
use Rattle.std.proofs.lemmas.List.{length-map}
use Rattle.std.proofs.lemmas.List.Concat.{flat_map-cons}
use Rattle.base_laws.proofs.ListLaws.{all-map}
use Rattle.content_laws.specs.Spelling.{HaveBytes}
use Rattle.layout_model.specs.Levels.{PageNode, NewLevel, count_made, entries_of_levels, nodes_of_levels, spliced}
use Rattle.local_laws.specs.Left.{nodes_left, nodes_made}
use Rattle.local_laws.specs.Path.{PathLevel, splice_path}
use Rattle.page_cache.specs.Kept.{KeptNodes, kept}
use Rattle.page_set.specs.declared.page_run.PageRun.{PageRun}
use Rattle.span_store.specs.Held.{Held, HeldSpan, AllSized, begins, begins_in, bytes_in, bytes_on, page_at, page_in}
use Rattle.tree_model.specs.declared.entry.Pair.{Pair}
use Rattle.tree_model.specs.declared.tree.Root.{Root}
use Rattle.tree_model.specs.Node.{NodeBytes, room_of}
use Rattle.tree_model.specs.Tree.{IsTree, bytes_of, entries_of}
use Rattle.tree_pages.specs.Levels.{levels_at}
use Rattle.geometry_model.specs.Numbers.{Numbers}
use Rattle.tree_pages.specs.Stored.{AreStored}
use Rattle.tree_pages.proofs.TreeLemmas.{levels-entries, levels-shape}
use Rattle.tree_read.specs.Search.{KeepsNodes}
use Rattle.tree_splice.specs.Fresh.{FreshPage, AreAllWritten, ArePagesApart, fresh_at, is_on_pages, page_numbers}
use Rattle.tree_splice.specs.Down.{ShowsWay}
use Rattle.tree_splice.specs.Remade.{AreAllCounted, remade, row_pages}
use Rattle.tree_splice.specs.Splice.{CanSplice, IsBetween, IsSpliced, single_run}
use Rattle.tree_splice.specs.Way.{AreAllMade, AreSound, IsMade, IsSoundNode, MadeStand, levels_of, root_with}
use Rattle.tree_splice.specs.declared.remade.Remade.{Remade}
use Rattle.tree_splice.proofs.FreshLemmas.{made_of, made-stand, on-pages, fresh-none}
use Rattle.tree_splice.proofs.CountedLemmas.{narrowed-counted}
use Rattle.tree_splice.proofs.NewLemmas.{path-on}
use Rattle.tree_splice.proofs.PathLemmas.{IsShown, is_shown, path-alike, widened-count, widened-long, widened-stand}
use Rattle.tree_splice.proofs.SpliceLemmas.{Exchange, can-splice, entries-some, new-length, new-tree, stored-sound}
use Rattle.tree_splice.proofs.SpliceLemmas.{tree-exchange, within-size}
use Rattle.tree_splice.proofs.StoredLemmas.{root-new}

-- ---- what stays where pages come to those that are held

-- pages came to those that are held, and nobody had them
pub record Come (numbers : List ℕ) (old new : Held) : Type 0 where
  pub lacked : (q : ℕ) → IsTrue (is_on_pages q numbers) → page_at old q ≡ None
  pub others : (q : ℕ) → is_on_pages q numbers ≡ false → page_at new q ≡ page_at old q

pub node-stays : (numbers : List ℕ) (old new : Held) (q k : ℕ) (pairs : List Pair) → Come numbers old new →
    NodeBytes (bytes_on old q) k pairs → NodeBytes (bytes_on new q) k pairs
node-stays numbers old new q k pairs come stands = elim (cases_Bool (is_on_pages q numbers)) [
  | inl is_so ↦
      let none : bytes_on old q ≡ [] = ap (λ (o : Option (List ℕ)). unwrap_or o []) (come.lacked q is_so) in
      let short : length (bytes_on old q) ≡ 0 = ap length none in
      let room = stands.sound.room in
      absurd (omega (arith, room, short))
  | inr not_so ↦
      subst (λ (bytes : List ℕ). NodeBytes bytes k pairs) (sym (ap (λ (o : Option (List ℕ)). unwrap_or o []) (come.others q not_so))) stands
]

pub stored-stays : (numbers : List ℕ) (old new : Held) (k : ℕ) (levels : List (List PageNode)) → Come numbers old new →
    AreStored (bytes_on old) k levels → AreStored (bytes_on new) k levels
stored-stays numbers old new k [] come stored = tt
stored-stays numbers old new k (nodes ∷ levels) come stored = (
  all-map (λ (node : PageNode). NodeBytes (bytes_on old node.page) k node.pairs)
      (λ (node : PageNode). NodeBytes (bytes_on new node.page) k node.pairs)
      (λ node stands. node-stays numbers old new node.page k node.pairs come stands) nodes stored.0,
  stored-stays numbers old new (suc k) levels come stored.1,
)

if-some : {A : Type 0} (P Q : A → Type 0) (o : Option A) → ((a : A) → P a → Q a) → IfSome o P → IfSome o Q
if-some P Q None step is = tt
if-some P Q (Some a) step is = step a is

pub kept-stays : (told : Bool) (size : ℕ) (numbers : List ℕ) (old new : Held) (c : KeptNodes) → Come numbers old new →
    KeepsNodes told size (bytes_on old) c → KeepsNodes told size (bytes_on new) c
kept-stays told size numbers old new c come nodes = record {
  small = nodes.small;
  right = λ t page. if-some (λ n. NodeBytes (bytes_on old page) n.level n.pairs.items)
      (λ n. NodeBytes (bytes_on new page) n.level n.pairs.items)
      (kept c page) (λ n stands. node-stays numbers old new page n.level n.pairs.items come stands) (nodes.right t page);
}

-- the pages of a list came
pub pages-come : (pages : List FreshPage) (old new : Held) → ((q : ℕ) → IsTrue (is_on_pages q (page_numbers pages)) →
    page_at old q ≡ None) →
    ((q : ℕ) → page_at new q ≡ option_or (fresh_at pages q) (page_at old q)) → Come (page_numbers pages) old new
pages-come pages old new lacked held = record {
  lacked = lacked;
  others = λ q out. held q ∙ ap (λ (o : Option (List ℕ)). option_or o (page_at old q)) (fresh-none pages q out);
}

-- ---- the way that the code finds

pub sound-levels : (path : List PathLevel) → AreSound path → AllByRecursion (AllByRecursion IsSoundNode) (levels_of path)
sound-levels [] sound = tt
sound-levels (level ∷ path) sound = (sound.0, sound-levels path sound.1)

-- the entries of a tree have bytes
pub tree-have : (size : ℕ) (held : Held) (root : Root) → AllSized true size held →
    IsTree (bytes_on held) (room_of size / 2) root.height root.page root.length →
    HaveBytes (entries_of (bytes_on held) root.height root.page)
tree-have size held root sized tree =
    let at = bytes_on held in
    let n : Numbers = record { page = size; order = 0; spaces = 0; catalog = 0; threshold = 0 } in
    let shape = levels-shape n at root.height root.page root.length (within-size size held sized) tree in
    subst HaveBytes (levels-entries at root.height root.page)
    (entries-some (levels_at at root) (stored-sound at 1 (levels_at at root) shape.1))

-- What the code knows of the tree, where the pages tell.
pub record Found (size : ℕ) (held : Held) (root : Root) (from to place many : ℕ) (fresh : List Pair) (path : List PathLevel) : Type 0 where
  pub large : 256 ≤ size
  pub sized : AllSized true size held
  pub tree : IsTree (bytes_on held) (room_of size / 2) root.height root.page root.length
  pub way : (k count : ℕ) → IsBetween (entries_of (bytes_on held) root.height root.page) from to k count →
      ShowsWay (room_of size) (levels_at (bytes_on held) root) k count fresh path place many
  pub some : HaveBytes fresh
  pub small : root.length + bytes_of fresh < 2 ^ 64

pub found-exchange : (size : ℕ) (held : Held) (root : Root) (from to place many k count : ℕ) (fresh : List Pair) (path : List PathLevel) →
    Found size held root from to place many fresh path → IsBetween (entries_of (bytes_on held) root.height root.page) from to k count →
    Exchange (room_of size) (levels_at (bytes_on held) root) k count fresh × AreStored (bytes_on held) 1 (levels_at (bytes_on held) root)
found-exchange size held root from to place many k count fresh path found between =
    tree-exchange size held root from to k count fresh found.large found.sized found.tree between found.some found.small

-- so it makes the exchange that is meant
pub found-shown : (size : ℕ) (held : Held) (root : Root) (from to place many k count : ℕ) (fresh : List Pair) (path : List PathLevel)
    (pages : List ℕ) →
    Found size held root from to place many fresh path → IsBetween (entries_of (bytes_on held) root.height root.page) from to k count →
    IsShown (room_of size) (levels_at (bytes_on held) root) k count fresh path place many pages
found-shown size held root from to place many k count fresh path pages found between =
    let large = found.large in
    is_shown (room_of size) (levels_at (bytes_on held) root) k count fresh path place many pages (omega (arith, large))
    (found.way k count between)

-- and may make it
pub found-can : (size : ℕ) (held : Held) (root : Root) (from to place many k count : ℕ) (fresh : List Pair) (path : List PathLevel) →
    Found size held root from to place many fresh path → IsBetween (entries_of (bytes_on held) root.height root.page) from to k count →
    CanSplice (room_of size) path place many fresh
found-can size held root from to place many k count fresh path found between =
    let levels = levels_at (bytes_on held) root in
    let exchange = (found-exchange size held root from to place many k count fresh path found between).0 in
    record {
      counted = λ pages.
          let shown = found-shown size held root from to place many k count fresh path pages found between in
          narrowed-counted shown.cuts (splice_path (room_of size) path place many fresh pages)
          (subst AreAllCounted shown.after (can-splice (room_of size) levels k count fresh pages exchange).0);
      low = λ pages.
          let shown = found-shown size held root from to place many k count fresh path pages found between in
          let long = ap length shown.after ∙ widened-long shown.cuts (splice_path (room_of size) path place many fresh pages) in
          let low = (can-splice (room_of size) levels k count fresh pages exchange).1 in
          omega (arith, long, low);
    }

-- the number of nodes that it asks for is that of the exchange
pub found-want : (size : ℕ) (held : Held) (root : Root) (from to place many k count want : ℕ) (fresh : List Pair) (path : List PathLevel) →
    Found size held root from to place many fresh path → IsBetween (entries_of (bytes_on held) root.height root.page) from to k count →
    want ≡ count_made (splice_path (room_of size) path place many fresh []) →
    want ≡ count_made (spliced (room_of size) (levels_at (bytes_on held) root) k count fresh [])
found-want size held root from to place many k count want fresh path found between counted =
    let shown = found-shown size held root from to place many k count fresh path [] found between in
    counted ∙ (sym (widened-count shown.cuts (splice_path (room_of size) path place many fresh [])) ∙ sym (ap count_made shown.after))

-- ---- the new tree

made-remade : (new : List NewLevel) → made_of (map remade new) ≡ nodes_made new
made-remade [] = refl
made-remade (level ∷ new) =
    flat_map-cons (λ (l : Remade). l.made) (remade level) (map remade new)
    ∙ (ap (λ (ns : List PageNode). level.made ++ ns) (made-remade new) ∙ sym (flat_map-cons (λ (l : NewLevel). l.made) level new))

pub stand-new : (f : ℕ) (path : List PathLevel) (place many want : ℕ) (fresh : List Pair) (pages : List FreshPage)
    (made : List Remade) (old new : Held) →
    made ≡ map remade (splice_path f path place many fresh (page_numbers pages)) → length pages ≡ want →
    want ≡ count_made (splice_path f path place many fresh []) → ArePagesApart pages →
    ((q : ℕ) → page_at new q ≡ option_or (fresh_at pages q) (page_at old q)) → AreAllWritten 1 made pages → MadeStand (bytes_on new) 1 made
stand-new f path place many want fresh pages made old new are long counted apart held written =
    let numbers = page_numbers pages in
    let after = splice_path f path place many fresh numbers in
    let alike = path-alike f path place many fresh numbers [] in
    let numbered = length-map pages (λ (p : FreshPage). p.page) in
    let each : count_made after ≡ length numbers = omega (arith, counted, alike, numbered, long) in
    let rows : row_pages (made_of made) ≡ numbers =
    ap (λ (ls : List Remade). row_pages (made_of ls)) are ∙ (ap row_pages (made-remade after) ∙ path-on f path place many fresh numbers
    each) in
    made-stand (bytes_on new) 1 made pages rows (on-pages pages old new apart held) written

pub told-spliced : (size : ℕ) (old new : Held) (root root' : Root) (from to place many k count want : ℕ) (fresh : List Pair)
    (path : List PathLevel)
    (pages : List FreshPage) (levels : List Remade) (made left : List PageRun) (bytes : ℕ) →
    Found size old root from to place many fresh path → IsBetween (entries_of (bytes_on old) root.height root.page) from to k count → from ≤
    to →
    levels ≡ map remade (splice_path (room_of size) path place many fresh (page_numbers pages)) →
    length pages ≡ want → want ≡ count_made (splice_path (room_of size) path place many fresh []) →
    AreAllWritten 1 levels pages → ArePagesApart pages → ((q : ℕ) → IsTrue (is_on_pages q (page_numbers pages)) → page_at old q ≡ None) →
    ((q : ℕ) → page_at new q ≡ option_or (fresh_at pages q) (page_at old q)) →
    made ≡ map single_run (page_numbers pages) →
    left ≡ map single_run (row_pages (nodes_left (levels_of path) (splice_path (room_of size) path place many fresh
    (page_numbers pages)))) →
    bytes ≡ root.length - (to - from) + bytes_of fresh → root' ≡ root_with path levels bytes →
    IsSpliced (room_of size) (bytes_on old) (bytes_on new) root root' k count fresh made left
told-spliced size old new root root' from to place many k count want fresh path pages levels made left bytes
    found between order levels_are long counted written apart lacked held made_is left_is bytes_are rooted =
    let f = room_of size in
    let olds = levels_at (bytes_on old) root in
    let numbers = page_numbers pages in
    let after = spliced f olds k count fresh numbers in
    let own = splice_path f path place many fresh numbers in
    let exchange = found-exchange size old root from to place many k count fresh path found between in
    let shown = found-shown size old root from to place many k count fresh path numbers found between in
    let alike = path-alike f path place many fresh numbers [] in
    let numbered = length-map pages (λ (p : FreshPage). p.page) in
    let each : count_made own ≡ length numbers = omega (arith, counted, alike, numbered, long) in
    let all : count_made after ≡ length numbers = ap count_made shown.after ∙ (widened-count shown.cuts own ∙ each) in
    let stand = stand-new f path place many want fresh pages levels old new levels_are long counted apart held written in
    let come = pages-come pages old new lacked held in
    let stands : MadeStand (bytes_on new) 1 (map remade after) =
    subst (λ (ls : List NewLevel). MadeStand (bytes_on new) 1 (map remade ls)) (sym shown.after)
    (widened-stand (bytes_on new) 1 shown.cuts own (subst (MadeStand (bytes_on new) 1) levels_are stand)) in
    let sum : bytes ≡ bytes_of (entries_of_levels (nodes_of_levels after)) =
    bytes_are ∙ new-length size old root from to k count fresh numbers found.tree exchange.0 between order in
    new-tree f (bytes_on old) (bytes_on new) root root' k count fresh numbers made left exchange.0
    (stored-stays numbers old new 1 olds come exchange.1) stands all made_is
    (left_is ∙ ap (λ (ns : List PageNode). map single_run (row_pages ns)) (sym (shown.left exchange.0.shape)))
    (rooted ∙ (ap (λ (ls : List Remade). root_with path ls bytes) levels_are ∙ root-new path own after bytes shown.ends sum))

-- ---- what is held in the same spans

pub page-spans : (a b : Held) (q : ℕ) → a.spans ≡ b.spans → page_at a q ≡ page_at b q
page-spans a b q same = ap (λ (spans : List HeldSpan). page_in spans q) same

pub begins-spans : (a b : Held) (q : ℕ) → a.spans ≡ b.spans → begins a q ≡ begins b q
begins-spans a b q same = ap (λ (spans : List HeldSpan). begins_in spans q) same

pub sized-spans : (told : Bool) (size : ℕ) (a b : Held) → a.spans ≡ b.spans → AllSized told size b → AllSized told size a
sized-spans told size a b same sized = λ t q.
    subst (λ (o : Option (List ℕ)). IfSome o (λ page. length page ≡ size)) (sym (page-spans a b q same)) (sized t q)

pub kept-spans : (told : Bool) (size : ℕ) (a b : Held) (c : KeptNodes) → a.spans ≡ b.spans → KeepsNodes told size (bytes_on b) c →
    KeepsNodes told size (bytes_on a) c
kept-spans told size a b c same nodes = subst (λ (spans : List HeldSpan). KeepsNodes told size (bytes_in spans) c) (sym same) nodes

pub made-room : (f g : ℕ) (levels : List Remade) → f ≤ g → AreAllMade f levels → AreAllMade g levels
made-room f g levels more made =
    all-map (λ (l : Remade). AllByRecursion (IsMade f) l.made) (λ (l : Remade). AllByRecursion (IsMade g) l.made)
    (λ l nodes. all-map (IsMade f) (IsMade g) (λ node is. let most = is.most in record
    { pairs = is.pairs; most = omega (arith, most, more) }) l.made nodes)
    levels made

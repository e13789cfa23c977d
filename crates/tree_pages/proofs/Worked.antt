-- A worked tree of height 3 on pages of 64 bytes, four pairs to a node: seven nodes on pages 3 to 9, the root first,
-- and eight segments on pages 10 to 17. Page 18 is nobody's.
use Rattle.std.proofs.Common.{◌≡◌, ℕ, zero, suc, ◌+◌, ◌-◌, ◌<◌, ◌≤◌, Bool, true, false, Some, List, [], ◌∷◌, ◌++◌}
use Rattle.std.proofs.Common.{length, replicate, refl, sym, ap, subst, arith, nat_eq, inl, inr}
use Rattle.std.specs.Prelude.{slice_index_or, if◌then◌else◌}
use Rattle.std.proofs.lemmas.Bool.{cases_Bool, eqb-true}
use Rattle.geometry_model.specs.Numbers.{Numbers}
use Rattle.tree_model.specs.declared.entry.Pair.{Pair}
use Rattle.tree_model.specs.declared.tree.Root.{Root}
use Rattle.tree_model.specs.Node.{node_bytes, pair_bytes, head_bytes, pair_in, node_in}
use Rattle.tree_model.specs.Tree.{Pages, nodes_of}
use Rattle.layout_model.specs.Levels.{PageNode}
use Rattle.moment_model.specs.Version.{AreLevels, IsFilled, version_uses}
use Rattle.tree_pages.specs.Entry.{Present}
use Rattle.tree_pages.specs.Levels.{levels_at, version_at, plain_at}
use Rattle.tree_pages.specs.Stored.{StaysOn, root_of}
use Rattle.tree_pages.proofs.TreeLemmas.{version-stays, plain-stays}
use Rattle.std.specs.List.{AllByRecursion}
use Rattle.std.specs.Prelude.{◌^◌, ◌*◌, ◌/◌}
use Rattle.geometry_model.specs.Pages.{place, is_data_page}
use Rattle.tree_model.specs.Node.{IsPair, IsNode, NodeBytes}
use Rattle.tree_model.specs.Tree.{IsSegment, HasNode, IsTree, IsTreeOf, bytes_of}
use Rattle.layout_model.specs.Levels.{entries_of_levels}
use Rattle.tree_pages.specs.Stored.{AreWithin, HasLevels}
use Rattle.tree_pages.proofs.TreeLemmas.{tree-levels, tree-counts, stored-levels, stored-tree_of}

abbrev numbers : Numbers
numbers = record { page = 64; order = 4; spaces = 1; catalog = 1; threshold = 1 }

abbrev pair : ℕ → ℕ → Pair
pair bytes page = record { bytes = bytes; page = page }

abbrev two : Pair → Pair → List Pair
two left right = left ∷ right ∷ []

abbrev segments : ℕ → List Pair
segments page = two (pair 64 page) (pair 40 (page + 1))

abbrev store : List (List ℕ)
store =
    node_bytes 64 3 (two (pair 208 4) (pair 208 5)) ∷ node_bytes 64 2 (two (pair 104 6) (pair 104 7))
    ∷ node_bytes 64 2 (two (pair 104 8) (pair 104 9))
    ∷ node_bytes 64 1 (segments 10) ∷ node_bytes 64 1 (segments 12) ∷ node_bytes 64 1 (segments 14) ∷ node_bytes 64 1 (segments 16)
    ∷ replicate 64 10 ∷ replicate 64 11 ∷ replicate 64 12 ∷ replicate 64 13 ∷ replicate 64 14 ∷ replicate 64 15
    ∷ replicate 64 16 ∷ replicate 64 17 ∷ []

abbrev at : Pages
at q = slice_index_or store (q - 3) []

abbrev root : Root
root = record { height = 3; page = 3; length = 416 }

abbrev node : ℕ → List Pair → PageNode
node page pairs = record { page = page; pairs = pairs }

abbrev levels : List (List PageNode)
levels =
    (node 6 (segments 10) ∷ node 7 (segments 12) ∷ node 8 (segments 14) ∷ node 9 (segments 16) ∷ [])
    ∷ (node 4 (two (pair 104 6) (pair 104 7)) ∷ node 5 (two (pair 104 8) (pair 104 9)) ∷ [])
    ∷ (node 3 (two (pair 208 4) (pair 208 5)) ∷ []) ∷ []

-- the levels that are read, and their root
levels-read : levels_at at root ≡ levels
unfolding pair_bytes head_bytes pair_in node_in
levels-read = refl

root-back : root_of levels ≡ root
root-back = refl

its-nodes : nodes_of at 3 3 ≡ 3 ∷ 4 ∷ 6 ∷ 7 ∷ 5 ∷ 8 ∷ 9 ∷ []
unfolding pair_bytes head_bytes pair_in node_in
its-nodes = refl

-- they have the shape of a tree, four pairs to a node
filled : (page : ℕ) (left right : Pair) → IsFilled 4 2 (node page (two left right))
filled page left right = let low : 2 ≤ 2 = omega arith in let high : 2 ≤ 4 = omega arith in record { low = low; high = high }

shape : AreLevels 4 levels
shape =
    let four : 2 ≤ 4 = omega arith in
    let both : 2 ≤ 2 = omega arith in (
      (filled 6 _ _, (filled 7 _ _, (filled 8 _ _, (filled 9 _ _, tt)))),
      (four, refl, (filled 4 _ _, (filled 5 _ _, tt)), (both, refl, (filled 3 _ _, tt), refl)),
    )

-- a version that has this tree, and pages on which only page 18 is another
abbrev present : Present
present = record { root = root; threshold = 1 }

abbrev now : Pages
now q = if nat_eq q 18 then replicate 64 1 else at q

unused : version_uses numbers 18 (version_at at (Some present)) ≡ 0
unfolding pair_bytes head_bytes pair_in node_in
unused = refl

stays : StaysOn numbers (version_at at (Some present)) at now
stays q some =
    elim (cases_Bool (nat_eq q 18)) [
      | inl same ↦
          let used = subst (λ (p : ℕ). 0 < version_uses numbers p (version_at at (Some present))) (eqb-true q 18 same) some in
          absurd (omega (arith, used, unused))
      | inr other ↦ ap (λ (b : Bool). if b then replicate 64 1 else at q) other
    ]

version-there : version_at now (Some present) ≡ version_at at (Some present)
version-there = version-stays numbers at now (Some present) stays

bytes-there : plain_at now 64 (Some present) ≡ plain_at at 64 (Some present)
bytes-there = plain-stays numbers at now (Some present) stays

-- ---- it is a tree of the store, and the laws on trees and levels apply to it

abbrev entries : List Pair
entries = pair 64 10 ∷ pair 40 11 ∷ pair 64 12 ∷ pair 40 13 ∷ pair 64 14 ∷ pair 40 15 ∷ pair 64 16 ∷ pair 40 17 ∷ []

-- no page has more bytes than the store's
within-list : (size i : ℕ) (pages : List (List ℕ)) → AllByRecursion (λ x. length x ≤ size) pages →
    length (slice_index_or pages i []) ≤ size
within-list size i [] all = omega arith
within-list size zero (x ∷ pages) all = all.0
within-list size (suc i) (x ∷ pages) all = within-list size i pages all.1

store-within : AllByRecursion (λ x. length x ≤ 64) store
unfolding pair_bytes head_bytes
store-within =
    let full : 64 ≤ 64 = omega arith in
    (full, (full, (full, (full, (full, (full, (full, (full, (full, (full, (full, (full, (full, (full, (full, tt)))))))))))))))

within : AreWithin 64 at
within q = within-list 64 (q - 3) store store-within

-- a page that spells a node of two pairs holds it
has-two : (q level : ℕ) (left right : Pair) → 1 ≤ level → level < 256 → IsPair left → IsPair right →
    length (at q) ≡ 64 → (node_in (at q)).level ≡ level → (node_in (at q)).pairs ≡ two left right →
    at q ≡ node_bytes 64 level (two left right) → HasNode at q level 2 (bytes_of (two left right))
has-two q level left right low high left_fits right_fits size level_is pairs_are spelled = record {
  held =
      subst (λ (k : ℕ). NodeBytes (at q) k (node_in (at q)).pairs) (sym level_is)
      (subst (λ (pairs : List Pair). NodeBytes (at q) level pairs) (sym pairs_are)
      (record {
        sound = subst (λ (k : ℕ). IsNode k level (two left right)) (sym size) node_sound;
        bytes = subst (λ (k : ℕ). at q ≡ node_bytes k level (two left right)) (sym size) spelled;
      }));
  is_level = level_is;
  filled = subst (λ (pairs : List Pair). 2 ≤ length pairs) (sym pairs_are) (let both : 2 ≤ 2 = omega arith in both);
  counted = ap bytes_of pairs_are;
} where
  node_sound : IsNode 64 level (two left right)
  node_sound =
      let some : 1 ≤ 2 = omega arith in
      let room : 8 + 12 * 2 ≤ 64 = omega arith in
      let count : 2 < 2 ^ 16 = omega arith in
      record { low = low; high = high; some = some; room = room; count_fits = count; each = (left_fits, (right_fits, tt)) }

fits : (bytes page : ℕ) → 1 ≤ bytes → bytes < 1000 → page < 1000 → IsPair (pair bytes page)
fits bytes page some few low = record { some = some; count_fits = omega (arith, few); page_fits = omega (arith, low) }

-- the four nodes of the lowest level, the two above them, and the root
lowest : (q page : ℕ) → page < 100 → length (at q) ≡ 64 → (node_in (at q)).level ≡ 1 → (node_in (at q)).pairs ≡ segments page →
    at q ≡ node_bytes 64 1 (segments page) → HasNode at q 1 2 104
lowest q page low = has-two q 1 (pair 64 page) (pair 40 (page + 1)) (omega arith) (omega arith)
    (fits 64 page (omega arith) (omega arith) (omega (arith, low))) (fits 40 (page + 1) (omega arith) (omega arith) (omega (arith, low)))

middle : (q left right : ℕ) → left < 100 → right < 100 → length (at q) ≡ 64 → (node_in (at q)).level ≡ 2 →
    (node_in (at q)).pairs ≡ two (pair 104 left) (pair 104 right) →
    at q ≡ node_bytes 64 2 (two (pair 104 left) (pair 104 right)) → HasNode at q 2 2 208
middle q left right low_left low_right = has-two q 2 (pair 104 left) (pair 104 right) (omega arith) (omega arith)
    (fits 104 left (omega arith) (omega arith) (omega (arith, low_left)))
    (fits 104 right (omega arith) (omega arith) (omega (arith, low_right)))

node-6 : HasNode at 6 1 2 104
unfolding pair_bytes head_bytes pair_in node_in
node-6 = lowest 6 10 (omega arith) refl refl refl refl

node-7 : HasNode at 7 1 2 104
unfolding pair_bytes head_bytes pair_in node_in
node-7 = lowest 7 12 (omega arith) refl refl refl refl

node-8 : HasNode at 8 1 2 104
unfolding pair_bytes head_bytes pair_in node_in
node-8 = lowest 8 14 (omega arith) refl refl refl refl

node-9 : HasNode at 9 1 2 104
unfolding pair_bytes head_bytes pair_in node_in
node-9 = lowest 9 16 (omega arith) refl refl refl refl

node-4 : HasNode at 4 2 2 208
unfolding pair_bytes head_bytes pair_in node_in
node-4 = middle 4 6 7 (omega arith) (omega arith) refl refl refl refl

node-5 : HasNode at 5 2 2 208
unfolding pair_bytes head_bytes pair_in node_in
node-5 = middle 5 8 9 (omega arith) (omega arith) refl refl refl refl

root-node : HasNode at 3 3 2 416
unfolding pair_bytes head_bytes pair_in node_in
root-node = has-two 3 3 (pair 208 4) (pair 208 5) (omega arith) (omega arith)
    (fits 208 4 (omega arith) (omega arith) (omega arith)) (fits 208 5 (omega arith) (omega arith) (omega arith)) refl refl refl refl

tree-there : IsTree at 2 3 3 416
unfolding pair_bytes head_bytes pair_in node_in
tree-there = (root-node, ((node-4, ((node-6, tt), ((node-7, tt), tt))), ((node-5, ((node-8, tt), ((node-9, tt), tt))), tt)))

-- each entry is a segment of the only space
segment : (bytes page : ℕ) → 1 ≤ bytes → bytes ≤ 64 → 3 ≤ page → page ≤ 18 → IsSegment numbers (pair bytes page)
segment bytes page some most from to = record {
  some = some;
  most = omega (arith, most);
  together = (0, record { in_store = first_space; from = from; to = inside });
} where
  first_space : 0 < 1
  first_space = omega arith

  inside : page + (bytes + (64 - 1)) / 64 ≤ 3 + 2 ^ 4
  inside = omega (arith, some, most, to)

two-segments : (page : ℕ) → 3 ≤ page → page ≤ 17 → AllByRecursion (IsSegment numbers) (segments page)
two-segments page from to = (
  segment 64 page (omega arith) (omega arith) from (omega (arith, to)),
  (segment 40 (page + 1) (omega arith) (omega arith) (omega (arith, from)) (omega (arith, to)), tt),
)

all-segments : AllByRecursion (IsSegment numbers) entries
all-segments =
    let first = two-segments 10 (omega arith) (omega arith) in
    let second = two-segments 12 (omega arith) (omega arith) in
    let third = two-segments 14 (omega arith) (omega arith) in
    let fourth = two-segments 16 (omega arith) (omega arith) in
    (first.0, (first.1.0, (second.0, (second.1.0, (third.0, (third.1.0, (fourth.0, fourth.1)))))))

stored : IsTreeOf numbers at root entries
unfolding place pair_bytes head_bytes pair_in node_in
stored = record {
  shape = tree-there;
  listed = refl;
  nodes = (refl, (refl, (refl, (refl, (refl, (refl, (refl, tt)))))));
  segments = all-segments;
}

-- so it has levels: those that were read
has-levels : HasLevels numbers at root entries
has-levels = tree-levels numbers at root entries within stored

its-bytes : bytes_of entries ≡ 416
its-bytes = tree-counts numbers at root entries stored

-- and the levels are a tree: this one
back-again : IsTreeOf numbers at (root_of (levels_at at root)) (entries_of_levels (levels_at at root))
back-again =
    stored-tree_of numbers at (levels_at at root) has-levels.shape has-levels.stored has-levels.nodes
    (subst (AllByRecursion (IsSegment numbers)) (sym has-levels.listed) all-segments)

read-again : levels_at at (root_of (levels_at at root)) ≡ levels_at at root
read-again = stored-levels 4 at (levels_at at root) has-levels.shape has-levels.stored

-- The checks of an opening in their order: the first one that fails names the refusal. The walk
-- of a tree is depth first: it begins at the root and comes to each node before what stands below
-- it.
use Rattle.std.specs.Prelude.{ℕ, zero, suc, ◌+◌, ◌*◌, ◌/◌, Bool, true, false, ◌&&◌, ◌||◌, not}
use Rattle.std.specs.Prelude.{Option, Some, None, List, [], ◌∷◌, length, nat_eq, nat_le}
use Rattle.std.specs.Prelude.{if◌then◌else◌}
use Rattle.std.specs.List.{range_with_len, list_any, list_all}
use Rattle.std.specs.Str.{bytes_eq}
use Rattle.geometry_model.specs.Numbers.{Numbers, pages, objects, space_pages, fan_out}
use Rattle.geometry_model.specs.Pages.{directory_page, data_page, place, is_data_page}
use Rattle.block_model.specs.Block.{has_page}
use Rattle.tree_model.specs.declared.entry.Pair.{Pair}
use Rattle.tree_model.specs.Node.{node_bytes, node_in, room_of}
use Rattle.tree_model.specs.Tree.{page_count, bytes_of, root_least}
use Rattle.tree_pages.specs.Entry.{Entry}
use Rattle.image_model.specs.Super.{image_page, version_in, numbers_in, has_mark, is_version}
use Rattle.image_model.specs.Super.{has_numbers}
use Rattle.image_model.specs.Directory.{is_directory}
use Rattle.image_model.specs.Catalog.{entry_at, has_entry}
use Rattle.image_model.specs.Image.{free_of_space, object_entry}

-- why bytes are no image
pub data Refusal : Type 0 where
  Short : Refusal
  BadMagic : Refusal
  BadVersion : Refusal
  BadGeometry : Refusal
  BadDirectory : (space : ℕ) → Refusal
  BadCatalog : (object : ℕ) → Refusal
  BadNode : (page : ℕ) → Refusal
  BadTree : (object : ℕ) → Refusal
  PageTwice : (page : ℕ) → Refusal
  PageFree : (page : ℕ) → Refusal
  PageLost : (page : ℕ) → Refusal

-- what the walks of the trees keep: the pages that were met, and the segment before in this object
pub record Walk : Type 0 where
  pub met : List ℕ
  pub before : Option Pair

-- the checks so far: all passed, or the first that failed
pub data Checked : Type 0 where
  Passed : (walk : Walk) → Checked
  Failed : (refusal : Refusal) → Checked

-- further checks where none failed so far
abbrev pub then_check : Checked → (Walk → Checked) → Checked
then_check (Passed walk) next = next walk
then_check (Failed refusal) next = Failed refusal

abbrev pub check : Bool → Refusal → Walk → Checked
check holds refusal walk = if holds then Passed walk else Failed refusal

-- checks of one item after another
abbrev pub each : {A : Type 0} → (A → Walk → Checked) → List A → Walk → Checked
each step [] walk = Passed walk
each step (item ∷ rest) walk = then_check (step item walk) (each step rest)

-- is a data page free in its directory?
abbrev pub is_free_at : Numbers → List ℕ → Option (ℕ × ℕ) → Bool
is_free_at n bytes None = false
is_free_at n bytes (Some spot) = has_page (free_of_space n bytes spot.0) spot.1

abbrev pub is_free_page : Numbers → List ℕ → ℕ → Bool
is_free_page n bytes page = is_free_at n bytes (place n page)

abbrev pub is_met : Walk → ℕ → Bool
is_met walk page = list_any (nat_eq page) walk.met

-- the page wasn't met before, and isn't free; now it is met
abbrev pub meet : Numbers → List ℕ → ℕ → Walk → Checked
meet n bytes page walk =
    then_check (check (not (is_met walk page)) (PageTwice page) walk) (λ same.
    check (not (is_free_page n bytes page)) (PageFree page)
    (record { met = page ∷ walk.met; before = walk.before }))

-- does the pair stand for some bytes?
abbrev pub is_some_bytes : Pair → Bool
is_some_bytes pair = nat_le 1 pair.bytes

-- does the page hold a node?
unfoldable pub holds_node : ℕ → List ℕ → Bool
holds_node size page =
    let node = node_in page in
    nat_le 1 node.level
    && (nat_le 1 (length node.pairs)
    && (nat_le (length node.pairs) (room_of size)
    && (list_all is_some_bytes node.pairs
    && bytes_eq page (node_bytes size node.level node.pairs))))

-- a segment has at most as many pages as a space, and its pages are data pages of one space
abbrev pub is_in_space : Numbers → Option (ℕ × ℕ) → ℕ → Bool
is_in_space n None pages = false
is_in_space n (Some spot) pages = nat_le (spot.1 + pages) (space_pages n)

abbrev pub is_segment : Numbers → Pair → Bool
is_segment n pair =
    nat_le pair.bytes (space_pages n * n.page)
    && is_in_space n (place n pair.page) (page_count n.page pair.bytes)

-- of a segment and the one before it at least one has as many pages as the threshold
abbrev pub fits_after : Numbers → ℕ → Option Pair → Pair → Bool
fits_after n threshold None pair = true
fits_after n threshold (Some before) pair =
    nat_le threshold (page_count n.page before.bytes) || nat_le threshold
    (page_count n.page pair.bytes)

-- the checks of a segment: its size and place, each of its pages, and then its neighbour
abbrev pub check_segment : Numbers → List ℕ → ℕ → ℕ → Pair → Walk → Checked
check_segment n bytes o threshold pair walk =
    then_check (check (is_segment n pair) (BadTree o) walk) (λ sized.
    then_check (each (meet n bytes) (range_with_len pair.page (page_count n.page pair.bytes))
    sized) (λ met.
    check (fits_after n threshold met.before pair) (BadTree o)
    (record { met = met.met; before = Some pair })))

-- the checks of a node of this level, and of what it names: each child is walked and then its sum
-- compared with the pair
abbrev pub check_node : Numbers → List ℕ → ℕ → ℕ → ℕ → ℕ → ℕ → Walk → Checked
check_node n bytes o threshold zero least page walk = Failed (BadTree o)
check_node n bytes o threshold (suc below) least page walk =
    let node = node_in (image_page n.page bytes page) in
    then_check (check (is_data_page n page) (BadTree o) walk) (λ placed.
    then_check (meet n bytes page placed) (λ met.
    then_check (check (holds_node n.page (image_page n.page bytes page)) (BadNode page) met)
    (λ held.
    then_check (check (nat_eq node.level (suc below) && nat_le least (length node.pairs))
    (BadTree o) held) (λ filled.
    elim (nat_eq below 0) [
      | true ↦ each (check_segment n bytes o threshold) node.pairs filled
      | false ↦ each (λ pair walk.
          then_check (check_node n bytes o threshold below (fan_out n / 2) pair.page walk)
          (λ walked.
          check (nat_eq (bytes_of (node_in (image_page n.page bytes pair.page)).pairs) pair.bytes)
          (BadTree o) walked))
          node.pairs filled
    ]))))

-- the checks of an object's tree, and of its length
abbrev pub check_tree : Numbers → List ℕ → ℕ → Entry → Walk → Checked
check_tree n bytes o None walk = Passed walk
check_tree n bytes o (Some present) walk =
    elim (nat_eq present.root.height 0) [
      | true ↦ Passed walk
      | false ↦
          then_check (check_node n bytes o present.threshold present.root.height
          (root_least present.root.height)
          present.root.page (record { met = walk.met; before = None })) (λ walked.
          check (nat_eq (bytes_of (node_in (image_page n.page bytes present.root.page)).pairs)
          present.root.length)
          (BadTree o) walked)
    ]

-- each page of a space that isn't free was met, the lowest first
abbrev pub check_space : Numbers → List ℕ → ℕ → Walk → Checked
check_space n bytes s walk =
    each (λ at walk. check (has_page (free_of_space n bytes s) at || is_met walk (data_page n s at))
    (PageLost (data_page n s at)) walk) (range_with_len 0 (space_pages n)) walk

-- the checks on the store of these numbers
abbrev pub check_store : Numbers → ℕ → List ℕ → Walk → Checked
check_store n version bytes walk =
    then_check (check (nat_le (pages n * n.page) (length bytes)) Short walk) (λ sized.
    then_check (each (λ s walk. check
    (is_directory n s (image_page n.page bytes (directory_page n s))) (BadDirectory s) walk)
    (range_with_len 0 n.spaces) sized) (λ directories.
    then_check (each (λ o walk. check (has_entry n version (entry_at n bytes o))
    (BadCatalog o) walk)
    (range_with_len 0 (objects n)) directories) (λ entries.
    then_check (each (λ o walk. check_tree n bytes o (object_entry n version bytes o) walk)
    (range_with_len 0 (objects n)) entries) (λ trees.
    each (check_space n bytes) (range_with_len 0 n.spaces) trees))))

-- all checks in their order
abbrev pub check_all : List ℕ → Checked
check_all bytes =
    then_check (check (nat_le 256 (length bytes)) Short (record { met = []; before = None }))
    (λ long.
    then_check (check (has_mark bytes) BadMagic long) (λ marked.
    then_check (check (is_version (version_in bytes)) BadVersion marked) (λ known.
    then_check (check (has_numbers bytes) BadGeometry known) (λ ranged.
    check_store (numbers_in bytes) (version_in bytes) bytes ranged))))

abbrev pub refusal_of : Checked → Option Refusal
refusal_of (Passed walk) = None
refusal_of (Failed refusal) = Some refusal

-- why the bytes are no image: the first check that fails; none where they are one
unfoldable pub first_refusal : List ℕ → Option Refusal
first_refusal bytes = refusal_of (check_all bytes)

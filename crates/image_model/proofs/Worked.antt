-- A worked image of a small store: 256 bytes a page, one space of 16 pages from page 3 on, threshold 2. Object 0 has
-- the three bytes `ABC` on page 3, and its node on page 4. Seven damaged images, each with its refusal.
use Rattle.std.proofs.Common.{◌≡◌, ℕ, refl, Some, None, List, [], ◌∷◌, ◌++◌, replicate, take}
use Rattle.geometry_model.specs.Numbers.{Numbers, is_in_range}
use Rattle.geometry_model.specs.Pages.{place}
use Rattle.block_model.specs.Directory.{directory_page as directory_bytes}
use Rattle.eos_ops.specs.declared.plain.Plain.TheVariants.{Absent, Present}
use Rattle.tree_model.specs.Node.{pair_bytes, head_bytes, node_in, pair_in}
use Rattle.image_model.specs.Super.{super_bytes, numbers_in}
use Rattle.image_model.specs.Directory.{free_bits}
use Rattle.image_model.specs.Catalog.{entry_bytes, entry_in}
use Rattle.image_model.specs.Image.{database_in}
use Rattle.image_model.specs.Checks.{first_refusal, holds_node}
use Rattle.image_model.specs.Checks.Refusal.{Short, BadVersion, BadDirectory, BadCatalog, BadNode, PageFree, PageLost}

abbrev small : Numbers
small = record { page = 256; order = 4; spaces = 1; catalog = 1; threshold = 2 }

-- the superblock: EOSBUDDY, version 2, 256 bytes a page, order 4, kind 0, one space, one catalog page, threshold 2
abbrev super : ℕ → List ℕ
super version = 69 ∷ 79 ∷ 83 ∷ 66 ∷ 85 ∷ 68 ∷ 68 ∷ 89 ∷ 0 ∷ 0 ∷ 0 ∷ version ∷ 0 ∷ 0 ∷ 1 ∷ 0 ∷ 4 ∷ 0 ∷ 0 ∷ 1 ∷ 0 ∷ 1
    ∷ 0 ∷ 2 ∷ replicate 232 0

-- the entry of object 0: present, height 1, its threshold, root 4, length 3
abbrev entry : ℕ → List ℕ
entry threshold = 1 ∷ 1 ∷ 0 ∷ threshold ∷ 0 ∷ 0 ∷ 0 ∷ 4 ∷ 0 ∷ 0 ∷ 0 ∷ 0 ∷ 0 ∷ 0 ∷ 0 ∷ 3 ∷ []

-- the directory: DIR1, space 0, 14 free pages, and the bitmap
abbrev directory : ℕ → ℕ → List ℕ
directory count first_byte = 68 ∷ 73 ∷ 82 ∷ 49 ∷ 0 ∷ 0 ∷ 0 ∷ 0 ∷ 0 ∷ 0 ∷ 0 ∷ count ∷ 0 ∷ 0 ∷ 0 ∷ 0 ∷ first_byte ∷ 255 ∷ replicate 238 0

-- the node: level 1, one pair of 3 bytes at page 3
abbrev node : ℕ → List ℕ
node count = 78 ∷ 1 ∷ 0 ∷ count ∷ 0 ∷ 0 ∷ 0 ∷ 0 ∷ 0 ∷ 0 ∷ 0 ∷ 0 ∷ 0 ∷ 0 ∷ 0 ∷ 3 ∷ 0 ∷ 0 ∷ 0 ∷ 3 ∷ replicate 236 0

abbrev store : List ℕ → List ℕ → List ℕ → List ℕ → List ℕ
store first of_object space root =
    first ++ (of_object ++ (replicate 240 0 ++ (space ++ (65 ∷ 66 ∷ 67 ∷ (replicate 253 0 ++ (root ++ replicate 3584 0))))))

abbrev image : List ℕ
image = store (super 2) (entry 2) (directory 14 63) (node 1)

super-bytes : super 2 ≡ super_bytes 2 small
unfolding super_bytes
super-bytes = refl

numbers-read : numbers_in image ≡ small
unfolding numbers_in
numbers-read = refl

directory-bytes : directory 14 63 ≡ directory_bytes 256 0 (free_bits small (directory 14 63))
unfolding free_bits
directory-bytes = refl

entry-bytes : entry 2 ≡ entry_bytes 2 (entry_in small 2 (entry 2))
unfolding entry_bytes entry_in
entry-bytes = refl

image-good : first_refusal image ≡ None
unfolding first_refusal numbers_in is_in_range free_bits entry_bytes entry_in place holds_node node_in pair_in pair_bytes head_bytes
image-good = refl

image-database : database_in small 2 image ≡ Present (65 ∷ 66 ∷ 67 ∷ []) ∷ replicate 15 Absent
unfolding database_in entry_in node_in pair_in
image-database = refl

-- in version 1 there is no threshold in the entry
older-good : first_refusal (store (super 1) (entry 0) (directory 14 63) (node 1)) ≡ None
unfolding first_refusal numbers_in is_in_range free_bits entry_bytes entry_in place holds_node node_in pair_in pair_bytes head_bytes
older-good = refl

-- page 3 is free in its directory
free-page : first_refusal (store (super 2) (entry 2) (directory 15 191) (node 1)) ≡ Some (PageFree 3)
unfolding first_refusal numbers_in is_in_range free_bits entry_bytes entry_in place holds_node node_in pair_in pair_bytes head_bytes
free-page = refl

-- the count isn't that of the bitmap
wrong-count : first_refusal (store (super 2) (entry 2) (directory 14 191) (node 1)) ≡ Some (BadDirectory 0)
unfolding first_refusal numbers_in is_in_range free_bits entry_bytes entry_in place holds_node node_in pair_in pair_bytes head_bytes
wrong-count = refl

-- page 8 is neither free nor used
lost-page : first_refusal (store (super 2) (entry 2) (directory 13 59) (node 1)) ≡ Some (PageLost 8)
unfolding first_refusal numbers_in is_in_range free_bits entry_bytes entry_in place holds_node node_in pair_in pair_bytes head_bytes
lost-page = refl

-- the node says 21 pairs
full-node : first_refusal (store (super 2) (entry 2) (directory 14 63) (node 21)) ≡ Some (BadNode 4)
unfolding first_refusal numbers_in is_in_range free_bits entry_bytes entry_in place holds_node node_in pair_in pair_bytes head_bytes
full-node = refl

-- a byte is missing
cut-short : first_refusal (take 4863 image) ≡ Some Short
unfolding first_refusal numbers_in is_in_range free_bits entry_bytes entry_in place holds_node node_in pair_in pair_bytes head_bytes
cut-short = refl

-- an unknown version, and a threshold that is more than half of a space
newer : first_refusal (store (super 3) (entry 2) (directory 14 63) (node 1)) ≡ Some BadVersion
unfolding first_refusal numbers_in is_in_range free_bits entry_bytes entry_in place holds_node node_in pair_in pair_bytes head_bytes
newer = refl

wide-threshold : first_refusal (store (super 2) (entry 9) (directory 14 63) (node 1)) ≡ Some (BadCatalog 0)
unfolding first_refusal numbers_in is_in_range free_bits entry_bytes entry_in place holds_node node_in pair_in pair_bytes head_bytes
wide-threshold = refl

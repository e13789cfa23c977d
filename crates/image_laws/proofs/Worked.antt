-- A worked image whose tree has height 2: 256 bytes a page, one space of 32 pages from page 3 on, threshold 1. Object 0
-- has 19 segments of one byte on pages 3 to 21, and one of 300 bytes on pages 22 and 23. Its two nodes of level 1 stand
-- on pages 24 and 25, and its root on page 26.
use Rattle.std.proofs.Common.{◌≡◌, ℕ, ◌<◌, Bool, true, false, refl, Some, None, List, [], ◌∷◌, ◌++◌, replicate, map, nat_lt}
use Rattle.std.specs.List.{AllByRecursion, flat_map, range_with_len, list_all}
use Rattle.std.proofs.lemmas.Bool.{and_parts, ltb-true}
use Rattle.geometry_model.specs.Numbers.{Numbers, is_in_range}
use Rattle.geometry_model.specs.Pages.{place}
use Rattle.eos_ops.specs.declared.plain.Plain.TheVariants.{Absent, Present}
use Rattle.tree_model.specs.Node.{pair_bytes, head_bytes, node_in, pair_in}
use Rattle.moment_model.specs.Version.{IsGood}
use Rattle.moment_model.specs.Moment.{IsSound}
use Rattle.image_model.specs.Super.{numbers_in}
use Rattle.image_model.specs.Directory.{free_bits}
use Rattle.image_model.specs.Catalog.{entry_bytes, entry_in}
use Rattle.image_model.specs.Image.{IsImage, moment_in, database_in}
use Rattle.image_model.specs.Checks.{first_refusal, holds_node}
use Rattle.image_model.specs.Checks.Refusal.{BadTree}
use Rattle.image_laws.proofs.PassLemmas.{passes-image}
use Rattle.image_laws.proofs.SoundLemmas.{image-sound}
use Rattle.image_laws.proofs.ByteLists.{each-byte}

abbrev numbers : Numbers
numbers = record { page = 256; order = 5; spaces = 1; catalog = 1; threshold = 1 }

-- EOSBUDDY, version 2, 256 bytes a page, order 5, kind 0, one space, one catalog page, threshold 1
abbrev super : List ℕ
super = 69 ∷ 79 ∷ 83 ∷ 66 ∷ 85 ∷ 68 ∷ 68 ∷ 89 ∷ 0 ∷ 0 ∷ 0 ∷ 2 ∷ 0 ∷ 0 ∷ 1 ∷ 0 ∷ 5 ∷ 0 ∷ 0 ∷ 1 ∷ 0 ∷ 1 ∷ 0 ∷ 1 ∷ replicate 232 0

-- the entry of object 0: present, height 2, threshold 1, root 26, length 319; and 15 absent ones
abbrev catalog : List ℕ
catalog = 1 ∷ 2 ∷ 0 ∷ 1 ∷ 0 ∷ 0 ∷ 0 ∷ 26 ∷ 0 ∷ 0 ∷ 0 ∷ 0 ∷ 0 ∷ 0 ∷ 1 ∷ 63 ∷ replicate 240 0

-- DIR1, space 0, 8 free pages: the last ones
abbrev directory : List ℕ
directory = 68 ∷ 73 ∷ 82 ∷ 49 ∷ 0 ∷ 0 ∷ 0 ∷ 0 ∷ 0 ∷ 0 ∷ 0 ∷ 8 ∷ 0 ∷ 0 ∷ 0 ∷ 0 ∷ 0 ∷ 0 ∷ 0 ∷ 255 ∷ replicate 236 0

-- a pair of at most 65,535 bytes
abbrev pair : ℕ → ℕ → ℕ → List ℕ
pair high low page = 0 ∷ 0 ∷ 0 ∷ 0 ∷ 0 ∷ 0 ∷ high ∷ low ∷ 0 ∷ 0 ∷ 0 ∷ page ∷ []

abbrev head : ℕ → ℕ → List ℕ
head level count = 78 ∷ level ∷ 0 ∷ count ∷ 0 ∷ 0 ∷ 0 ∷ 0 ∷ []

-- ten pages of one byte; nine such, and one of 300
abbrev left_node : List ℕ
left_node = head 1 10 ++ (flat_map (pair 0 1) (range_with_len 3 10) ++ replicate 128 0)

abbrev right_node : List ℕ
right_node = head 1 10 ++ (flat_map (pair 0 1) (range_with_len 13 9) ++ (pair 1 44 22 ++ replicate 128 0))

-- the root: 10 bytes under page 24, and so many under page 25
abbrev root : ℕ → List ℕ
root low = head 2 2 ++ (pair 0 10 24 ++ (pair 1 low 25 ++ replicate 224 0))

abbrev store : ℕ → List ℕ
store low =
    super ++ (catalog ++ (directory ++ (flat_map (λ byte. byte ∷ replicate 255 0) (range_with_len 65 19)
    ++ (replicate 300 90 ++ (replicate 212 0 ++ (left_node ++ (right_node ++ (root low ++ replicate 2048 0))))))))

abbrev image : List ℕ
image = store 53

numbers-read : numbers_in image ≡ numbers
unfolding numbers_in
numbers-read = refl

passes : first_refusal image ≡ None
unfolding first_refusal numbers_in is_in_range free_bits entry_bytes entry_in place holds_node node_in pair_in pair_bytes head_bytes
passes = refl

-- it is an image, and its moment is sound
is-image : IsImage image 2 numbers
unfolding numbers_in
is-image = passes-image image (each-byte image (all-bytes image refl)) passes
  where
    all-bytes : (bytes : List ℕ) → list_all (λ byte. nat_lt byte 256) bytes ≡ true → AllByRecursion (λ byte. byte < 256) bytes
    all-bytes [] all = tt
    all-bytes (b ∷ bs) all =
        let parts = and_parts (nat_lt b 256) (list_all (λ byte. nat_lt byte 256) bs) all in
        (ltb-true b 256 parts.0, all-bytes bs parts.1)

is-sound : IsSound IsGood numbers (λ o. false) (moment_in numbers 2 image)
is-sound = image-sound image 2 numbers is-image

-- what it shows
its-database : database_in numbers 2 image ≡ Present (range_with_len 65 19 ++ replicate 300 90) ∷ replicate 15 Absent
unfolding database_in entry_in node_in pair_in
its-database = refl

-- the root says one byte more than its second node has
wrong-sum : first_refusal (store 54) ≡ Some (BadTree 0)
unfolding first_refusal numbers_in is_in_range free_bits entry_bytes entry_in place holds_node node_in pair_in pair_bytes head_bytes
wrong-sum = refl

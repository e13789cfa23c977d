-- The definitions on small cases worked by hand.
use Rattle.std.proofs.Common.{◌≡◌, ℕ, zero, suc, List, [], ◌∷◌, take, replicate, refl}
use Rattle.tree_model.specs.declared.entry.Pair.{Pair}
use Rattle.tree_model.specs.Node.{node_bytes, node_in, pair_bytes, head_bytes, pair_in}
use Rattle.tree_model.specs.Tree.{entries_of, nodes_of, page_count}
use Rattle.tree_model.specs.Content.{content}
use Rattle.tree_model.specs.Range.{in_range, pairs_of, start_of}

abbrev pair : ℕ → ℕ → Pair
pair bytes page = record { bytes = bytes; page = page }

-- one segment of three bytes on page 3, in a node of level 1
one_pair : take 20 (node_bytes 256 1 (pair 3 3 ∷ []))
    ≡ 0x4e ∷ 1 ∷ 0 ∷ 1 ∷ 0 ∷ 0 ∷ 0 ∷ 0 ∷ 0 ∷ 0 ∷ 0 ∷ 0 ∷ 0 ∷ 0 ∷ 0 ∷ 3 ∷ 0 ∷ 0 ∷ 0 ∷ 3 ∷ []
unfolding pair_bytes head_bytes
one_pair = refl

-- two nodes with segments of 100 bytes, and a root over them
abbrev pages : ℕ → List ℕ
pages zero = node_bytes 64 2 (pair 200 1 ∷ pair 300 2 ∷ [])
pages (suc zero) = node_bytes 64 1 (pair 100 10 ∷ pair 100 11 ∷ [])
pages (suc (suc n)) = node_bytes 64 1 (pair 100 12 ∷ pair 100 13 ∷ pair 100 14 ∷ [])

abbrev entries : List Pair
entries = pair 100 10 ∷ pair 100 11 ∷ pair 100 12 ∷ pair 100 13 ∷ pair 100 14 ∷ []

five_entries : entries_of pages 2 0 ≡ entries
unfolding pair_bytes head_bytes pair_in node_in
five_entries = refl

three_nodes : nodes_of pages 2 0 ≡ 0 ∷ 1 ∷ 2 ∷ []
unfolding pair_bytes head_bytes pair_in node_in
three_nodes = refl

-- a range has the entries of its first and of its last byte, and no byte is in an empty one
over_a_border : pairs_of (in_range 199 201 0 entries) ≡ pair 100 11 ∷ pair 100 12 ∷ []
over_a_border = refl

its_start : start_of (in_range 199 201 0 entries) ≡ 100
its_start = refl

up_to_a_border : pairs_of (in_range 100 200 0 entries) ≡ pair 100 11 ∷ []
up_to_a_border = refl

nothing_between : in_range 150 150 0 entries ≡ []
nothing_between = refl

-- 300 bytes fill two pages of 256, and the content stops after the last byte of each segment
two_pages : page_count 256 300 ≡ 2
two_pages = refl

of_two : content (λ page. replicate 4 page) 4 (pair 6 1 ∷ pair 1 7 ∷ []) ≡ 1 ∷ 1 ∷ 1 ∷ 1 ∷ 2 ∷ 2 ∷ 7 ∷ []
of_two = refl

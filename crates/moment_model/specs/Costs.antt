-- The bounds on the pages that an edit writes and that a read reads.
use Rattle.std.specs.Prelude.{ℕ, ◌+◌, ◌-◌, ◌*◌, ◌/◌}
use Rattle.geometry_model.specs.Numbers.{Numbers, space_pages}
use Rattle.tree_model.specs.Tree.{page_count}

-- how many pieces a payload is cut into
abbrev pub piece_count : Numbers → ℕ → ℕ
piece_count n bytes = page_count (space_pages n * n.page) bytes

-- the most pages that an edit writes, for a payload of so many bytes, the greater height before
-- and after, the threshold before, and the pieces that halving added
abbrev pub cost : Numbers → ℕ → ℕ → ℕ → ℕ → ℕ
cost n bytes height threshold added =
    page_count n.page bytes + 4 * threshold + 4 + 8 * (height + 1) + piece_count n bytes + added

-- the most pieces that halving adds
abbrev pub added_most : Numbers → ℕ → ℕ → ℕ
added_most n bytes threshold = (page_count n.page bytes + 4 * threshold + 4) / threshold

-- the most segments that have one of so many bytes in a row
abbrev pub segments_met : Numbers → ℕ → ℕ → ℕ
segments_met n bytes threshold = 2 * (bytes / ((threshold - 1) * n.page + 1)) + 3

-- the most pages that a read of so many bytes reads
abbrev pub read_cost : Numbers → ℕ → ℕ → ℕ → ℕ
read_cost n bytes height threshold =
    page_count n.page bytes + segments_met n bytes threshold * (height + 2)

-- The bytes that entries hold.
use Rattle.std.specs.Prelude.{ℕ, zero, suc, ◌+◌, List, [], ◌++◌, take}
use Rattle.std.specs.List.{flat_map}
use Rattle.tree_model.specs.declared.entry.Pair.{Pair}
use Rattle.tree_model.specs.Tree.{Pages, page_count}

-- the bytes of a run of pages, one page after the other
abbrev pub run_bytes : Pages → ℕ → ℕ → List ℕ
run_bytes at first zero = []
run_bytes at first (suc count) = at first ++ run_bytes at (first + 1) count

-- the bytes of a segment: the first ones of its pages
abbrev pub segment_bytes : Pages → ℕ → Pair → List ℕ
segment_bytes at size p = take p.bytes (run_bytes at p.page (page_count size p.bytes))

-- the content of a list of entries: the bytes of each segment, joined in order
abbrev pub content : Pages → ℕ → List Pair → List ℕ
content at size entries = flat_map (segment_bytes at size) entries

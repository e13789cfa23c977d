-- The parts of an object when `removed` bytes at place `at` make way for new ones: what is kept
-- of the segments that the two borders lie in, what is made anew, and the segments next to these.
-- What is merged of them is left to Pack.antt.
use Rattle.std.specs.Prelude.{ℕ, suc, ◌+◌, ◌-◌, ◌*◌, ◌/◌, ◌%◌, min, List, [], ◌∷◌, ◌++◌, map}
use Rattle.std.specs.Prelude.{take, drop, replicate, nat_eq, nat_le, nat_lt, if◌then◌else◌}
use Rattle.tree_model.specs.declared.entry.Pair.{Pair}
use Rattle.tree_model.specs.Tree.{page_count}
use Rattle.layout_model.specs.declared.part.Part.{Part}
use Rattle.layout_model.specs.declared.part.Part.TheVariants.{Keep, Make}

-- the bytes of a part
abbrev pub part_bytes : Part → ℕ
part_bytes (Keep pair) = pair.bytes
part_bytes (Make bytes) = bytes

-- how many entries end at byte `at` or before it
abbrev pub count_ended : ℕ → List Pair → ℕ
count_ended at [] = 0
count_ended at (p ∷ ps) = if nat_le p.bytes at then suc (count_ended (at - p.bytes) ps) else 0

-- how many entries begin before byte `at`
abbrev pub count_begun : ℕ → List Pair → ℕ
count_begun at [] = 0
count_begun at (p ∷ ps) = if nat_eq at 0 then 0 else suc (count_begun (at - p.bytes) ps)

-- the last entry that ends at `at` or before it, where there is one
abbrev pub one_before : ℕ → List Pair → List Pair
one_before at entries = drop (count_ended at entries - 1) (take (count_ended at entries) entries)

-- the first entry that begins at `at` or after it, where there is one
abbrev pub one_after : ℕ → List Pair → List Pair
one_after at entries = take 1 (drop (count_begun at entries) entries)

-- the bytes before `at` of the entry that it lies strictly inside, on the same first page
abbrev pub left_of : ℕ → List Pair → List Pair
left_of at [] = []
left_of at (p ∷ ps) =
    if nat_le p.bytes at then left_of (at - p.bytes) ps
    else (if nat_eq at 0 then [] else record { bytes = at; page = p.page } ∷ [])

-- how many bytes lie from `at` on to the next border of a page or the end of the entry that it lies
-- strictly inside, whichever comes first
abbrev pub head_of : ℕ → ℕ → List Pair → ℕ
head_of size at [] = 0
head_of size at (p ∷ ps) =
    if nat_le p.bytes at then head_of size (at - p.bytes) ps
    else min (page_count size at * size) p.bytes - at

-- an entry without its first `pages` pages, where any byte is left
abbrev pub without_pages : ℕ → ℕ → Pair → List Pair
without_pages size pages p =
    if nat_lt (pages * size) p.bytes
    then record { bytes = p.bytes - pages * size; page = p.page + pages } ∷ []
    else []

-- the bytes after the head of the entry that `at` lies strictly inside, on the pages that they have
abbrev pub right_of : ℕ → ℕ → List Pair → List Pair
right_of size at [] = []
right_of size at (p ∷ ps) =
    if nat_le p.bytes at then right_of size (at - p.bytes) ps
    else (if nat_eq at 0 then [] else without_pages size (page_count size at) p)

-- so many bytes in pieces of `most` bytes and a last one
abbrev pub pieces : ℕ → ℕ → List ℕ
pieces most bytes =
    replicate (bytes / most) most ++ (if nat_eq (bytes % most) 0 then [] else bytes % most ∷ [])

-- The parts, where a segment has at most `most` bytes: the entry before the place, what is kept
-- left of it, the new bytes with the head of what follows, what is kept right of it, and the
-- entry after it. Entries that lie wholly in what is removed aren't among them.
abbrev pub parts_of : ℕ → ℕ → List Pair → ℕ → ℕ → ℕ → List Part
parts_of size most entries at removed added =
    map Keep (one_before at entries ++ left_of at entries)
    ++ (map Make (pieces most (added + head_of size (at + removed) entries))
    ++ map Keep (right_of size (at + removed) entries ++ one_after (at + removed) entries))

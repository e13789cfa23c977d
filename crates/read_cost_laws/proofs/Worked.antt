-- A worked read: three bytes, the last of a segment, the only one of the next, and the first of a third.
use Rattle.std.proofs.Common.{◌≡◌, ℕ, ◌+◌, ◌-◌, ◌*◌, refl, List, [], ◌∷◌, length}
use Rattle.geometry_model.specs.Numbers.{Numbers}
use Rattle.tree_model.specs.declared.entry.Pair.{Pair}
use Rattle.tree_model.specs.declared.entry.Placed.{Placed}
use Rattle.tree_model.specs.Range.{in_range, pairs_of, start_of}
use Rattle.moment_model.specs.Costs.{read_cost}
use Rattle.seg_bytes.specs.Segments.{touched}

abbrev small : Numbers
small = record { page = 256; order = 4; spaces = 1; catalog = 1; threshold = 2 }

abbrev pair : ℕ → ℕ → Pair
pair bytes page = record { bytes = bytes; page = page }

abbrev met : List Placed
met = in_range 256 (256 + 3) 0 (pair 257 3 ∷ pair 1 5 ∷ pair 257 6 ∷ [])

met-are : length met ≡ 3
met-are = refl

-- a node for each on each of two levels, and a page of each: nine pages
read-is : 2 * length met + touched 256 (pairs_of met) (256 - start_of met) 3 ≡ 9
read-is = refl

-- of at most thirteen
read-most : read_cost small 3 2 2 ≡ 13
read-most = refl

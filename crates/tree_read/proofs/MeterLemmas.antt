-- The counts of a port after a search.
use Rattle.std.proofs.Common.{◌≡◌, ℕ, Bool, refl, ◌∙◌}
use Rattle.fault_count.specs.Counts.{Meter, Reads}
use Rattle.fault_count.proofs.CountLaws.{IsUsed-none, IsUsed-then}
use Rattle.tree_model.specs.Tree.{Pages}
use Rattle.page_cache.specs.Kept.{KeptNodes}
use Rattle.tree_read.specs.Search.{KeepsNodes, ReadsNodes, Uses}

-- uses, one after the other
pub Uses-none : (m : Meter) → Uses m m
Uses-none m = record { used = IsUsed-none m; written = refl }

pub Uses-then : (most : ℕ) (old mid new : Meter) → Uses old mid → Reads most mid new → Uses old new
Uses-then most old mid new first second =
    record { used = IsUsed-then old mid new first.used second.used; written = second.written ∙ first.written }

-- where nothing is read, what is kept stays right
pub reads-none : (told : Bool) (size : ℕ) (at : Pages) (cache : KeptNodes) (m : Meter) → KeepsNodes told size at cache →
    ReadsNodes told size at cache m m
reads-none told size at cache m nodes = record { nodes = nodes; uses = Uses-none m }

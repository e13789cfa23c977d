-- What a search knows of the pages held and of the nodes kept, and what it does to the port.
use Rattle.std.specs.Prelude.{◌≡◌, ℕ, ◌+◌, ◌^◌, ◌<◌, ◌≤◌, Bool, IsTrue, IfSome, List, [], ◌∷◌}
use Rattle.std.specs.Prelude.{length}
use Rattle.std.specs.List.{AllByRecursion}
use Rattle.geometry_model.specs.Numbers.{is_page_size}
use Rattle.std.specs.Prelude.{nat_lt, if◌then◌else◌}
use Rattle.fault_count.specs.Counts.{IsUsed, Meter, Reads}
use Rattle.tree_model.specs.Node.{NodeBytes, room_of}
use Rattle.tree_model.specs.declared.entry.Placed.{Placed}
use Rattle.tree_model.specs.declared.tree.Root.{Root}
use Rattle.tree_model.specs.Range.{Covers}
use Rattle.tree_model.specs.Tree.{Pages, HasNode}
use Rattle.span_store.specs.Held.{AllSized, Held, bytes_on}
use Rattle.tree_read.specs.Cost.{AreKept, CostsNothing}
use Rattle.page_cache.specs.Kept.{KeptNodes, kept, HaveAtMost}

-- each node that is kept is one that a page can hold, and where the device tells it is the node
-- on its page
pub record KeepsNodes (told : Bool) (size : ℕ) (at : Pages) (c : KeptNodes) : Type 0 where
  pub small : HaveAtMost (room_of size) c
  pub right : IsTrue told → (page : ℕ) →
      IfSome (kept c page) (λ n. NodeBytes (at page) n.level n.pairs.items)

-- as the read of a page asks: a page size that a store can have, and pages of just this size in
-- what is held
pub record ArePages (told : Bool) (size : ℕ) (held : Held) : Type 0 where
  pub size_is : IsTrue (is_page_size size)
  pub sized : AllSized told size held

-- as a search asks: such pages, kept nodes that are right, and where the device tells, what the
-- search begins at: the object's tree, or the nodes that are named
pub record AsksSearch (told : Bool) (size : ℕ) (held : Held) (c : KeptNodes) (start : Type 0)
    : Type 0 where
  pub pages : ArePages told size held
  pub nodes : KeepsNodes told size (bytes_on held) c
  pub stands : IsTrue told → start

-- a port was used, and no page was written
pub record Uses (old new : Meter) : Type 0 where
  pub used : IsUsed old new
  pub written : new.written ≡ old.written

-- the pair ends within what a number of 8 bytes can count
abbrev pub EndsInside : Placed → Type 0
EndsInside s = s.start + s.pair.bytes < 2 ^ 64

-- the byte lies under the pair, which ends within what a number of 8 bytes can count
pub record HasByte (at : ℕ) (s : Placed) : Type 0 where
  pub from : s.start ≤ at
  pub to : at < s.start + s.pair.bytes
  pub fits : EndsInside s

-- the pair names a node of this level with just its bytes
abbrev pub IsNamed : Pages → ℕ → Placed → Type 0
IsNamed at level s = HasNode at s.pair.page level 0 s.pair.bytes

-- the root as one pair at the start, where the range has a byte
abbrev pub top : Root → ℕ → ℕ → List Placed
top root from to = if nat_lt from to
    then record { start = 0; pair = record { bytes = root.length; page = root.page } } ∷ [] else []

-- pairs that have every byte of the range, and end within what a number of 8 bytes can count
pub record Reaches (from to : ℕ) (pairs : List Placed) : Type 0 where
  pub covers : Covers pairs from to
  pub ends : AllByRecursion EndsInside pairs

-- n named nodes were looked at: the kept ones stay right, a node is read once at most, and where
-- all of them are kept already that cost nothing
pub record Visits (told : Bool) (size : ℕ) (at : Pages) (n : ℕ) (all_kept : Type 0)
    (before after : KeptNodes) (old new : Meter) : Type 0 where
  pub nodes : KeepsNodes told size at after
  pub reads : Reads n old new
  pub cached : all_kept → CostsNothing before after old new

-- a search by these nodes: the kept ones stay right and no page is written; and where the device
-- tells, each of the nodes is read once at most, and none where all of them are kept already
pub record Searches (told : Bool) (size : ℕ) (at : Pages) (by : List Placed)
    (before after : KeptNodes) (old new : Meter) : Type 0 where
  pub nodes : KeepsNodes told size at after
  pub uses : Uses old new
  pub few : IsTrue told → new.read ≤ old.read + length by
  pub cached : IsTrue told → AreKept before by → new.read ≡ old.read

-- nodes were read: those that are kept are right, and no page was written
pub record ReadsNodes (told : Bool) (size : ℕ) (at : Pages) (after : KeptNodes) (old new : Meter)
    : Type 0 where
  pub nodes : KeepsNodes told size at after
  pub uses : Uses old new

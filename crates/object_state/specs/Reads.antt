-- What a read of an object's tree knows and does.
use Rattle.std.specs.Prelude.{◌≡◌, ℕ, ◌*◌, ◌<◌, ◌≤◌, Bool, IsTrue, List, length, take, drop}
use Rattle.std.specs.Prelude.{Result, Err, IfOk}
use Rattle.std.specs.List.{AllByRecursion}
use Rattle.fault_count.specs.Counts.{HasCause, IsUsed, Meter}
use Rattle.geometry_model.specs.Numbers.{Numbers, space_pages}
use Rattle.tree_model.specs.declared.entry.Pair.{Pair}
use Rattle.tree_model.specs.declared.tree.Root.{Root}
use Rattle.tree_model.specs.Content.{content}
use Rattle.tree_model.specs.Tree.{IsTreeOf, entries_of, page_count}
use Rattle.layout_model.specs.Pack.{Packed}
use Rattle.moment_model.specs.Costs.{read_cost}
use Rattle.span_store.specs.Held.{Held, HoldsRun, bytes_on}
use Rattle.page_cache.specs.Kept.{KeptNodes}
use Rattle.tree_read.specs.Search.{KeepsNodes}
use Rattle.object_body.specs.declared.fails.LookFail.{LookFail}
use Rattle.object_body.specs.declared.fails.LookFail.TheVariants as look
use Rattle.object_body.specs.Calls.{ReadsWithin}

-- a segment is no longer than a space, and its pages are held
pub record IsHeldSegment (n : Numbers) (held : Held) (p : Pair) : Type 0 where
  pub most : p.bytes ≤ space_pages n * n.page
  pub run : HoldsRun held p.page (page_count n.page p.bytes)

-- the entries of the tree at a root
abbrev pub tree_at : Held → Root → List Pair
tree_at held root = entries_of (bytes_on held) root.height root.page

-- the held pages are told: the tree at the root stands on them, and its segments too
pub record IsToldRead (n : Numbers) (held : Held) (root : Root) : Type 0 where
  pub tree : IsTreeOf n (bytes_on held) root (tree_at held root)
  pub segments : AllByRecursion (IsHeldSegment n held) (tree_at held root)

-- The n bytes from `at` on were read, and the kept nodes are still right. Where the pages are told
-- the bytes are those of the tree's entries, and no more pages were read than a read may cost.
pub record ReadsTree (tells : Bool) (n : Numbers) (held : Held) (root : Root) (at count : ℕ)
    (after : KeptNodes) (used now : Meter) (result : Result (List ℕ) LookFail) : Type 0 where
  pub nodes : KeepsNodes tells n.page (bytes_on held) after
  pub long : IfOk result (λ bytes. length bytes ≡ count)
  pub bytes : IsTrue tells → IfOk result (λ bytes.
      bytes ≡ take count (drop at (content (bytes_on held) n.page (tree_at held root))))
  pub reads : IsTrue tells → (threshold : ℕ) → Packed n.page threshold (tree_at held root) →
      ReadsWithin (λ pages. pages ≤ read_cost n count root.height threshold) used now
  pub port : IsUsed used now
  pub cause : HasCause used.faults now.faults (result ≡ Err look.Fault)
  pub memory : result ≡ Err look.Memory → 0 < count

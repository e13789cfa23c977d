-- What is held once pages were granted, and after a refusal.
use Rattle.std.specs.Prelude.{◌≡◌, ℕ, ◌<◌, ◌≤◌, ◌==◌, ◌||◌, Bool, IsTrue, List, Option, None}
use Rattle.std.specs.List.{AllByRecursion, list_any}
use Rattle.geometry_model.specs.Numbers.{Numbers}
use Rattle.layout_model.specs.declared.extent.Extent.{Extent}
use Rattle.moment_model.specs.Version.{uses, spare_uses}
use Rattle.span_store.specs.Held.{AllSized, Held, begins, bytes_on, has, page_at}
use Rattle.page_cache.specs.Kept.{KeptNodes}
use Rattle.tree_read.specs.Search.{KeepsNodes}
use Rattle.give_back.specs.Giving.{IsOwnRun, is_in_runs}

-- does one of the runs begin at the page?
abbrev pub begins_one : List Extent → ℕ → Bool
begins_one runs q = list_any (λ run. run.page == q) runs

-- What is held besides: the granted pages, each run of them in a span of its own. Nobody had one of
-- them, and none is in two runs. All other pages are as before, but what stands on those of the
-- spare that was used.
pub record HoldsGranted (spare : Option Extent) (granted : List Extent) (old new : Held)
    : Type 0 where
  pub once : (q : ℕ) → uses q granted ≤ 1
  pub lacked : (q : ℕ) → 0 < uses q granted → page_at old q ≡ None
  pub had : (q : ℕ) → has new q ≡ (is_in_runs granted q || has old q)
  pub others : (q : ℕ) → uses q granted ≡ 0 → spare_uses q spare ≡ 0 →
      page_at new q ≡ page_at old q
  pub begun : (q : ℕ) → begins new q ≡ (begins_one granted q || begins old q)
  pub own : AllByRecursion (IsOwnRun new) granted

-- the same pages are held, in the same spans, with the same on each of them but those of the spare
-- that was used
pub record HoldsSame (spare : Option Extent) (old new : Held) : Type 0 where
  pub others : (q : ℕ) → spare_uses q spare ≡ 0 → page_at new q ≡ page_at old q
  pub had : (q : ℕ) → has new q ≡ has old q
  pub begun : (q : ℕ) → IsTrue (has old q) → begins new q ≡ begins old q

-- the pages that are held have the store's size, and the nodes that are kept are right
pub record KeepsRight (tells : Bool) (n : Numbers) (held : Held) (cache : KeptNodes)
    : Type 0 where
  pub sized : AllSized tells n.page held
  pub nodes : KeepsNodes tells n.page (bytes_on held) cache

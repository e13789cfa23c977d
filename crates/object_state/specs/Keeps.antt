-- What an object in a tree of segments keeps to.
use Rattle.std.specs.Prelude.{◌≡◌, ℕ, suc, ◌≤◌, Bool, false, ◌&&◌, IsTrue, nat_eq}
use Rattle.std.specs.Prelude.{nat_lt, Option, Some, None, IfSome}
use Rattle.geometry_model.specs.Numbers.{Numbers}
use Rattle.geometry_model.specs.Pages.{is_data_page}
use Rattle.layout_model.specs.declared.extent.Extent.{Extent}
use Rattle.moment_model.specs.Version.{IsGood}
use Rattle.moment_model.specs.Moment.{ObjectSlot, committed_uses, working_uses, either_uses}
use Rattle.moment_laws.specs.ByObject.{IsSoundSlot}
use Rattle.change_laws.specs.Tail.{IsTail}
use Rattle.page_set.specs.Words.{in_set}
use Rattle.span_store.specs.Held.{Held, AllSized, begins, bytes_on, has}
use Rattle.page_cache.specs.Kept.{is_on_run}
use Rattle.tree_read.specs.Search.{KeepsNodes}
use Rattle.object_body.specs.Moves.{locks}
use Rattle.object_body.specs.Stored.{IsThreshold, StandsOn}
use Rattle.object_state.specs.Tree.{TreeView, tree_slot}

-- is the page one of the spare ones?
abbrev pub in_spare : Option Extent → ℕ → Bool
in_spare None page = false
in_spare (Some run) page = is_on_run run.page run.pages page

-- does the object have the page for this transaction alone: the working version or the spare uses
-- it, and the committed version doesn't?
abbrev pub is_fresh : Numbers → ℕ → ObjectSlot → Bool
is_fresh n page slot = nat_lt 0 (working_uses n page slot) && nat_eq (committed_uses n page slot) 0

-- The marked pages are held, in spans of their own: where a held page is marked and the one before
-- it isn't, or the other way, a span begins.
pub record IsMarked (held : Held) (marked : ℕ → Bool) : Type 0 where
  pub within : (page : ℕ) → IsTrue (marked page) → IsTrue (has held page)
  pub borders : (page : ℕ) → IsTrue (has held (suc page)) →
      (marked (suc page) ≡ marked page → ⊥) → IsTrue (begins held (suc page))

-- each held page is a data page of the store
abbrev pub AreOnData : Numbers → Held → Type 0
AreOnData n held = (page : ℕ) → IsTrue (has held page) → IsTrue (is_data_page n page)

-- The held pages are told: both versions stand on them and are sound, the spare follows the last
-- segment, the held pages are just those that are used, and the fresh and the locked ones are
-- those that one version alone uses.
pub record IsToldTree (n : Numbers) (v : TreeView) : Type 0 where
  pub committed : StandsOn n (bytes_on v.held) v.committed
  pub working : StandsOn n (bytes_on v.held) v.working
  pub sound : IsSoundSlot IsGood n (tree_slot v)
  pub tail : IsTail n (tree_slot v).working v.spare
  pub just : (page : ℕ) → has v.held page ≡ nat_lt 0 (either_uses n page (tree_slot v))
  pub fresh : (page : ℕ) → in_set v.fresh page ≡ is_fresh n page (tree_slot v)
  pub locked : (page : ℕ) → in_set v.locked page ≡ locks n page (tree_slot v)

-- What is kept over every device: data pages of the store's size; nodes of held pages; fresh,
-- locked and spare pages in spans of their own, no page both fresh and locked, and each spare one
-- fresh; thresholds of the store. Where the pages are told, what stands there.
pub record KeepsTreeBody (tells : Bool) (v : TreeView) : Type 0 where
  pub on_data : AreOnData v.numbers v.held
  pub sized : AllSized tells v.numbers.page v.held
  pub nodes : KeepsNodes tells v.numbers.page (bytes_on v.held) v.cache
  pub fresh : IsMarked v.held (in_set v.fresh)
  pub locked : IsMarked v.held (in_set v.locked)
  pub spare : IsMarked v.held (in_spare v.spare)
  pub spare_some : IfSome v.spare (λ run. 1 ≤ run.pages)
  pub spare_there : v.working ≡ None → v.spare ≡ None
  pub spare_fresh : (page : ℕ) → IsTrue (in_spare v.spare page) → IsTrue (in_set v.fresh page)
  pub apart : (page : ℕ) → IsTrue (in_set v.fresh page) → in_set v.locked page ≡ false
  pub committed_threshold : IfSome v.committed
      (λ present. IsThreshold v.numbers present.threshold)
  pub working_threshold : IfSome v.working (λ present. IsThreshold v.numbers present.threshold)
  pub told : IsTrue tells → IsToldTree v.numbers v

-- Soundness of a moment, said object by object and page by page.
use Rattle.std.specs.Prelude.{◌≡◌, ◌≢◌, ℕ, ◌<◌, ◌≤◌, Bool, false}
use Rattle.geometry_model.specs.Numbers.{Numbers}
use Rattle.layout_model.specs.Layout.{Tree}
use Rattle.moment_model.specs.Version.{IsGoodVersion, spare_uses}
use Rattle.moment_model.specs.Moment.{ObjectSlot, Moment, object_slot, committed_uses}
use Rattle.moment_model.specs.Moment.{working_uses, either_uses, IsAtRest}

-- an object alone: good versions that each use a page at most once, and a spare that shares no
-- page with the committed one
pub record IsSoundSlot (good : Numbers → Tree → Type 0) (n : Numbers)
    (slot : ObjectSlot) : Type 0 where
  pub committed : IsGoodVersion good n slot.committed
  pub working : IsGoodVersion good n slot.working
  pub committed_once : (page : ℕ) → committed_uses n page slot ≤ 1
  pub working_once : (page : ℕ) → working_uses n page slot ≤ 1
  pub spare_apart : (page : ℕ) → 0 < spare_uses page slot.spare → committed_uses n page slot ≡ 0

-- each object alone is sound, two objects share no page, and what isn't held is at rest
pub record IsSoundByObject (good : Numbers → Tree → Type 0) (n : Numbers) (held : ℕ → Bool)
    (moment : Moment) : Type 0 where
  pub alone : (o : ℕ) → IsSoundSlot good n (object_slot moment o)
  pub apart : (o other page : ℕ) → o ≢ other → 0 < either_uses n page (object_slot moment o) →
      either_uses n page (object_slot moment other) ≡ 0
  pub rests : (o : ℕ) → held o ≡ false → IsAtRest (object_slot moment o)

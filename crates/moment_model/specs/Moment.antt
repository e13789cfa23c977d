-- A moment of a store: for each object a slot with its two versions and its spare pages.
-- Soundness is said by counting how often a page is used.
use Rattle.std.specs.Prelude.{◌≡◌, ◌≢◌, ℕ, ◌+◌, ◌<◌, ◌≤◌, Bool, true, false, ◌&&◌, Option, None}
use Rattle.std.specs.Prelude.{List, map, sum_by, count_by, nat_eq, nat_lt, slice_index_or}
use Rattle.std.specs.Prelude.{slice_set}
use Rattle.std.specs.List.{range_with_len}
use Rattle.geometry_model.specs.Numbers.{Numbers, space_pages}
use Rattle.geometry_model.specs.Pages.{data_page}
use Rattle.layout_model.specs.declared.extent.Extent.{Extent}
use Rattle.layout_model.specs.Grants.{Spaces}
use Rattle.layout_model.specs.Layout.{Tree}
use Rattle.moment_model.specs.Version.{Version, IsGoodVersion, version_uses, segment_uses}
use Rattle.moment_model.specs.Version.{node_uses, spare_uses}

-- an object of the store: its committed and its working version, and the spare pages behind the
-- last segment of the working one
pub record ObjectSlot : Type 0 where
  pub committed : Version
  pub working : Version
  pub spare : Option Extent

-- an absent object at rest
abbrev pub absent_slot : ObjectSlot
absent_slot = record { committed = None; working = None; spare = None }

-- the slots of a store in the order of the objects' numbers
abbrev pub Moment : Type 0
Moment = List ObjectSlot

abbrev pub object_slot : Moment → ℕ → ObjectSlot
object_slot moment o = slice_index_or moment o absent_slot

abbrev pub with_object_slot : Moment → ℕ → ObjectSlot → Moment
with_object_slot moment o slot = slice_set moment o slot

-- a store of absent objects
abbrev pub IsAllAbsent : Moment → Type 0
IsAllAbsent moment = (o : ℕ) → object_slot moment o ≡ absent_slot

-- how often a slot uses a page: as committed, as working with the spare, and as either
abbrev pub committed_uses : Numbers → ℕ → ObjectSlot → ℕ
committed_uses n page slot = version_uses n page slot.committed

abbrev pub working_uses : Numbers → ℕ → ObjectSlot → ℕ
working_uses n page slot = version_uses n page slot.working + spare_uses page slot.spare

abbrev pub either_uses : Numbers → ℕ → ObjectSlot → ℕ
either_uses n page slot = committed_uses n page slot + working_uses n page slot

-- the same over all objects
abbrev pub all_committed : Numbers → ℕ → Moment → ℕ
all_committed n page moment = sum_by (committed_uses n page) moment

abbrev pub all_working : Numbers → ℕ → Moment → ℕ
all_working n page moment = sum_by (working_uses n page) moment

-- nobody uses the page
abbrev pub is_free : Numbers → ℕ → Moment → Bool
is_free n page moment = nat_eq (all_committed n page moment) 0 && nat_eq
    (all_working n page moment) 0

-- a committed version uses the page, and no working version and no spare does: it is locked until
-- that transaction ends
abbrev pub is_locked : Numbers → ℕ → Moment → Bool
is_locked n page moment = nat_lt 0 (all_committed n page moment) && nat_eq
    (all_working n page moment) 0

-- a test of each page of a space
abbrev pub tests_in : Numbers → ℕ → (ℕ → Bool) → List Bool
tests_in n s test = map (λ at. test (data_page n s at)) (range_with_len 0 (space_pages n))

-- the free and the locked pages of a space
abbrev pub free_in : Numbers → Moment → ℕ → List Bool
free_in n moment s = tests_in n s (λ page. is_free n page moment)

abbrev pub locked_in : Numbers → Moment → ℕ → List Bool
locked_in n moment s = tests_in n s (λ page. is_locked n page moment)

-- the free pages of all spaces
unfoldable pub free_of : Numbers → Moment → Spaces
free_of n moment = map (free_in n moment) (range_with_len 0 n.spaces)

unfoldable pub locked_of : Numbers → Moment → Spaces
locked_of n moment = map (locked_in n moment) (range_with_len 0 n.spaces)

-- how many pages are in these sets
abbrev pub count_pages : Spaces → ℕ
count_pages spaces = sum_by (count_by (λ bit. bit)) spaces

-- both versions of an object are good, by the rule of its kind of body
pub record IsKept (good : Numbers → Tree → Type 0) (n : Numbers) (slot : ObjectSlot) : Type 0 where
  pub committed : IsGoodVersion good n slot.committed
  pub working : IsGoodVersion good n slot.working

-- an object at rest: both versions are one, and no page is set aside
pub record IsAtRest (slot : ObjectSlot) : Type 0 where
  pub same : slot.working ≡ slot.committed
  pub no_spare : slot.spare ≡ None

-- a sound moment, where trees are good by this rule and these objects are held
pub record IsSound (good : Numbers → Tree → Type 0) (n : Numbers) (held : ℕ → Bool)
    (moment : Moment) : Type 0 where
  -- each version is good
  pub kept : (o : ℕ) → IsKept good n (object_slot moment o)
  -- no page stands twice in what is committed, over all objects
  pub committed_once : (page : ℕ) → all_committed n page moment ≤ 1
  -- nor in what is being worked on, spares counted with it
  pub working_once : (page : ℕ) → all_working n page moment ≤ 1
  -- what one object has committed, no other object works on
  pub apart : (o other page : ℕ) → o ≢ other → 0 < committed_uses n page (object_slot moment o) →
      working_uses n page (object_slot moment other) ≡ 0
  -- a spare takes none of the committed pages
  pub spare_apart : (o page : ℕ) → 0 < spare_uses page (object_slot moment o).spare →
      all_committed n page moment ≡ 0
  -- what isn't held is at rest; so only an object that is held has a spare
  pub rests : (o : ℕ) → held o ≡ false → IsAtRest (object_slot moment o)

-- The roles of a page, each counted: free, release-locked, in a segment of a working version or
-- its spare, and a node page of a working version.
pub record Roles : Type 0 where
  pub free : ℕ
  pub locked : ℕ
  pub segments : ℕ
  pub nodes : ℕ

abbrev pub count_true : Bool → ℕ
count_true true = 1
count_true false = 0

abbrev pub roles_of : Numbers → ℕ → Moment → Roles
roles_of n page moment = record {
  free = count_true (is_free n page moment);
  locked = count_true (is_locked n page moment);
  segments = sum_by (λ slot. segment_uses n page slot.working + spare_uses page slot.spare) moment;
  nodes = sum_by (λ slot. node_uses page slot.working) moment;
}

-- a page has just one role
abbrev pub HasOneRole : Numbers → ℕ → Moment → Type 0
HasOneRole n page moment =
    let roles = roles_of n page moment in
    roles.free + roles.locked + roles.segments + roles.nodes ≡ 1

-- An object in a file, and what it is used with.
use Rattle.std.specs.Prelude.{◌≡◌, ℕ, ◌≤◌, IsTrue, [], ◌∷◌, None}
use Rattle.geometry_model.specs.Numbers.{is_page_size}
use Rattle.page_cache.specs.Kept.{KeptNodes, HaveAtMost}
use Rattle.superdirectory.specs.Solo.{SoloView}
use Rattle.tree_model.specs.Node.{room_of}

-- the cache keeps nodes that a page of this size can hold, and there is one space of so many
-- pages, from page 3 on, which isn't entered
pub record CanExchange (cache : KeptNodes) (size pages : ℕ) (latches : SoloView) : Type 0 where
  pub kept : HaveAtMost (room_of size) cache
  pub size_is : IsTrue (is_page_size size)
  pub page : latches.page ≡ size
  pub pages_are : latches.pages ≡ pages
  pub some : 1 ≤ pages
  pub entered : latches.entered ≡ None
  pub firsts : latches.firsts ≡ 3 ∷ []

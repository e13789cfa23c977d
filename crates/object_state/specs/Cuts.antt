-- Spans that are cut at the borders of runs.
use Rattle.std.specs.Prelude.{ℕ, ◌+◌, ◌≤◌, IsTrue, length}
use Rattle.layout_model.specs.declared.extent.Extent.{Extent}
use Rattle.span_store.specs.Held.{Held, begins, has}
use Rattle.span_store.specs.Calls.{KeepsPages}

-- there is room for n more spans
abbrev pub HasRoomFor : ℕ → Held → Type 0
HasRoomFor n held = length held.spans + n ≤ held.room

-- a span begins where the run does, and where it ends, if the pages there are held
pub record HasBorders (held : Held) (run : Extent) : Type 0 where
  pub from : IsTrue (has held run.page) → IsTrue (begins held run.page)
  pub to : IsTrue (has held (run.page + run.pages)) → IsTrue (begins held (run.page + run.pages))

-- at most n spans were cut: the pages are those that they were, and a span begins where one began
pub record IsCutMore (n : ℕ) (old new : Held) : Type 0 where
  pub pages : KeepsPages old new
  pub begun : (q : ℕ) → IsTrue (begins old q) → IsTrue (begins new q)
  pub count : length new.spans ≤ length old.spans + n
  pub room : old.room ≤ new.room

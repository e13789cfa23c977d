-- What a write of bytes leaves: the bytes on their pages, and nothing else changed.
use Rattle.std.specs.Prelude.{◌≡◌, ℕ, ◌-◌, ◌*◌, ◌++◌, Bool, List, length, replicate}
use Rattle.tree_model.specs.Content.{run_bytes, segment_bytes}
use Rattle.tree_model.specs.Tree.{Pages, page_count}
use Rattle.span_store.specs.Held.{AllSized, Held}
use Rattle.span_store.specs.Calls.{IsOverwritten}

-- the bytes stand on the pages from `first` on, with zeros behind them to the end of the last one,
-- and a segment of just so many bytes there has them
pub record StandFrom (at : Pages) (size first : ℕ) (bytes : List ℕ) : Type 0 where
  pub filled : run_bytes at first (page_count size (length bytes))
      ≡ bytes ++ replicate (page_count size (length bytes) * size - length bytes) 0
  pub content : segment_bytes at size (record { bytes = length bytes; page = first }) ≡ bytes

-- nothing else changes: only the n pages from `first` on may hold something else, and each page
-- that is held keeps its size
pub record ChangesAlone (told : Bool) (size first n : ℕ) (old new : Held) : Type 0 where
  pub others : IsOverwritten first n old new
  pub sized : AllSized told size new

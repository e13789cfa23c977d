-- Bytes on runs of pages, and what a write on them leaves.
use Rattle.std.specs.Prelude.{◌≡◌, ℕ, ◌*◌, ◌<◌, ◌≤◌, Bool, List, [], ◌∷◌, length, take, drop}
use Rattle.std.specs.Prelude.{map, sum}
use Rattle.std.specs.List.{AllByRecursion}
use Rattle.tree_model.specs.Tree.{Pages, page_count}
use Rattle.layout_model.specs.declared.extent.Extent.{Extent}
use Rattle.moment_model.specs.Version.{uses}
use Rattle.span_store.specs.Held.{AllSized, Held, HoldsRun, page_at, has, begins}
use Rattle.seg_bytes.specs.Written.{StandFrom}

-- the pages of each run are held, and no page is in two of them
pub record HoldsRuns (held : Held) (runs : List Extent) : Type 0 where
  pub each : AllByRecursion (λ run. HoldsRun held run.page run.pages) runs
  pub once : (q : ℕ) → uses q runs ≤ 1

-- So many bytes can be written on the runs, by room for a page: the runs are held, and have pages
-- enough.
pub record CanWriteOn (told : Bool) (size room bytes : ℕ) (runs : List Extent)
    (now : Held) : Type 0 where
  pub scratch : room ≡ size
  pub some : 0 < size
  pub held : HoldsRuns now runs
  pub enough : page_count size bytes ≤ sum (map (λ run. run.pages) runs)
  pub sized : AllSized told size now

-- the bytes stand on the runs, each full before the next one begins, with zeros behind the last
-- byte to the end of its page
abbrev pub StandOn : Pages → ℕ → List Extent → List ℕ → Type 0
StandOn at size [] bytes = Unit {0}
StandOn at size (run ∷ runs) bytes = StandFrom at size run.page (take (run.pages * size) bytes)
    × StandOn at size runs (drop (run.pages * size) bytes)

-- nothing but the pages of the runs may hold something else; the same pages are held, in the same
-- spans, and each keeps its size
pub record ChangesRuns (told : Bool) (size : ℕ) (runs : List Extent) (old new : Held) : Type 0 where
  pub others : (q : ℕ) → uses q runs ≡ 0 → page_at new q ≡ page_at old q
  pub held : (q : ℕ) → has new q ≡ has old q
  pub begun : (q : ℕ) → begins new q ≡ begins old q
  pub count : length new.spans ≡ length old.spans
  pub room : new.room ≡ old.room
  pub sized : AllSized told size new

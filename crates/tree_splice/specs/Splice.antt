-- What an exchange in a tree on pages gives, and what it leaves.
use Rattle.std.specs.Prelude.{◌≡◌, ℕ, ◌+◌, ◌/◌, ◌<◌, ◌≤◌, ◌||◌, max, false, IsTrue, List, [], ◌∷◌}
use Rattle.std.specs.Prelude.{length, map, take, None, Result, Ok, Err, slice_get, Some}
use Rattle.fault_count.specs.Counts.{Meter, counted}
use Rattle.tree_model.specs.declared.entry.Pair.{Pair}
use Rattle.tree_model.specs.declared.tree.Root.{Root}
use Rattle.tree_model.specs.Tree.{Pages, IsTree, bytes_of}
use Rattle.layout_model.specs.declared.extent.Extent.{Extent}
use Rattle.layout_model.specs.Grants.{Refused, node_pages}
use Rattle.layout_model.specs.Levels.{PageNode, spliced, nodes_of_levels, count_made}
use Rattle.local_laws.specs.Path.{PathLevel, splice_path}
use Rattle.moment_model.specs.Version.{uses, node_run}
use Rattle.page_set.specs.declared.page_run.PageRun.{PageRun}
use Rattle.space_directory.specs.SpaceView.{SpaceView, IsSpace}
use Rattle.span_store.specs.Held.{Held, page_at, begins, has}
use Rattle.std.specs.List.{flat_map}
use Rattle.geometry_model.specs.Numbers.{Numbers}
use Rattle.superdirectory.specs.Grants.{AreTold, IsRunIn, free_sets}
use Rattle.superdirectory.specs.Parts.{IsLaid}
use Rattle.superdirectory.specs.Rest.{Frame, Rest, IsOf}
use Rattle.tree_pages.specs.Levels.{levels_at}
use Rattle.tree_read.specs.declared.failure.TreeFail.{TreeFail}
use Rattle.tree_read.specs.declared.failure.TreeFail.TheVariants as search
use Rattle.tree_splice.specs.declared.failure.SpliceFail.{SpliceFail}
use Rattle.tree_splice.specs.declared.failure.SpliceFail.TheVariants.{NoSpace, Fault, Memory}
use Rattle.tree_splice.specs.declared.new_tree.Spliced.{Spliced}
use Rattle.tree_splice.specs.Fresh.{FreshPage, ArePagesAsked, is_on_pages, page_numbers}
use Rattle.tree_splice.specs.Remade.{AreAllCounted}

-- why a search was given up, as a refusal of the exchange
abbrev pub of_search : TreeFail → SpliceFail
of_search search.Fault = Fault
of_search search.Memory = Memory

-- a page as a run of its own
abbrev pub single_run : ℕ → PageRun
single_run page = record { first = page; pages = 1 }

-- the run as an extent of the layout
abbrev pub extent_of : PageRun → Extent
extent_of run = record { page = run.first; pages = run.pages }

-- the first pages of the runs
abbrev pub firsts_of : List PageRun → List ℕ
firsts_of runs = map (λ run. run.first) runs

-- the `count` entries from number `from` on begin at byte `at` and end before byte `end`
pub record IsBetween (entries : List Pair) (at end from count : ℕ) : Type 0 where
  pub few : from + count ≤ length entries
  pub first : at ≡ bytes_of (take from entries)
  pub last : end ≡ bytes_of (take (from + count) entries)

-- each new node's bytes can be counted by the pair that names it, and a root by its height
pub record CanSplice (f : ℕ) (path : List PathLevel) (from count : ℕ) (fresh : List Pair)
    : Type 0 where
  pub counted : (pages : List ℕ) → AreAllCounted (splice_path f path from count fresh pages)
  pub low : (pages : List ℕ) → length (splice_path f path from count fresh pages) < 256

-- how often the nodes of these levels stand on a page
abbrev pub nodes_on : ℕ → List (List PageNode) → ℕ
nodes_on page levels = uses page (flat_map (map node_run) levels)

-- The new tree, where `count` entries from number `from` on were exchanged for fresh ones.
pub record IsSpliced (f : ℕ) (old new : Pages) (root root' : Root) (from count : ℕ)
    (fresh : List Pair) (made left : List PageRun) : Type 0 where
  -- its levels are those of the exchange, the made nodes on the pages that were granted
  pub levels : levels_at new root'
      ≡ nodes_of_levels (spliced f (levels_at old root) from count fresh (firsts_of made))
  -- each of them was made for one node
  pub each : count_made (spliced f (levels_at old root) from count fresh (firsts_of made))
      ≡ length made
  -- it is a tree: every node but the root is half full at least
  pub tree : IsTree new (f / 2) root'.height root'.page root'.length
  -- the pages left and those of the new tree are those of the old one and those made
  pub uses_of : (page : ℕ) → uses page (map extent_of left) + nodes_on page (levels_at new root')
      ≡ nodes_on page (levels_at old root) + uses page (map extent_of made)

-- What is held besides: a span of one page for each page that was made, which nobody had, and which
-- was made once.
pub record HoldsNew (made : List PageRun) (old new : Held) : Type 0 where
  pub once : (q : ℕ) → uses q (map extent_of made) ≤ 1
  pub others : (q : ℕ) → is_on_pages q (firsts_of made) ≡ false → page_at new q ≡ page_at old q
  pub fresh : (q : ℕ) → IsTrue (is_on_pages q (firsts_of made)) → page_at old q ≡ None
  pub held : (q : ℕ) → IsTrue (is_on_pages q (firsts_of made)) → IsTrue (has new q)
  pub begun : (q : ℕ) → begins new q ≡ (is_on_pages q (firsts_of made) || begins old q)
  pub next : (q : ℕ) → IsTrue (is_on_pages q (firsts_of made)) → IsTrue (has new (q + 1)) →
      IsTrue (begins new (q + 1))

-- each of the pages lies in one of the spaces
abbrev pub ArePagesIn : Frame → List ℕ → Type 0
ArePagesIn frame [] = Unit {0}
ArePagesIn frame (page ∷ pages) = ((space : ℕ) × IsRunIn frame space page 1) × ArePagesIn frame pages

-- the answer without what it brings
abbrev pub unit_result : {A : Type 0} → Result A SpliceFail → Result Unit SpliceFail
unit_result (Ok value) = Ok tt
unit_result (Err fail) = Err fail

-- a space without what its free pages hold
abbrev pub told_without_bytes : SpaceView → SpaceView
told_without_bytes v = record v { held = [] }

-- each of the told spaces is one, on its run
abbrev pub AreToldSpaces : Frame → List SpaceView → Type 0
AreToldSpaces frame views = (s : ℕ) (v : SpaceView) → slice_get views s ≡ Some v →
    IsSpace v × IsOf frame s v

-- the told spaces have the pages that they had, free and locked; what free pages hold may differ
pub record KeepsSpaces (frame : Frame) (views : List SpaceView) (rest : Rest) : Type 0 where
  pub after : List SpaceView
  pub told : AreTold rest after
  pub same : map told_without_bytes after ≡ map told_without_bytes views
  pub spaces : AreToldSpaces frame views → AreToldSpaces frame after

-- What came of the told spaces where so many pages were asked for: they are without the pages that
-- were made, granted as single pages are; or they are as before, the very same where one of the
-- pages was refused, and else but for what their free pages hold.
abbrev pub HaveAnswered : {A : Type 0} → (A → List ℕ) → List SpaceView → ℕ → ℕ → Frame →
    Result A SpliceFail → Rest → Type 0
HaveAnswered made views start want frame (Ok value) rest =
    (granted : List FreshPage) × (page_numbers granted ≡ made value)
    × ArePagesAsked views start want frame granted (Ok tt) rest
HaveAnswered made views start want frame (Err NoSpace) rest =
    AreTold rest views × ((numbers : Numbers) →
    IsLaid numbers frame.firsts → node_pages numbers start want (free_sets views) ≡ Refused 1)
HaveAnswered made views start want frame (Err Fault) rest = KeepsSpaces frame views rest
HaveAnswered made views start want frame (Err Memory) rest = KeepsSpaces frame views rest

-- how many pages are asked for: as many as were made, or where there was no space as many as the
-- exchange wants
abbrev pub AsksFor : (ℕ → Type 0) → ℕ → Result Spliced SpliceFail → Type 0
AsksFor wants want (Ok s) = length s.made ≡ want
AsksFor wants want (Err NoSpace) = wants want
AsksFor wants want (Err Fault) = Unit {0}
AsksFor wants want (Err Memory) = Unit {0}

-- and so it is with such a number of pages
abbrev pub HaveGiven : (ℕ → Type 0) → List SpaceView → ℕ → Frame → Result Spliced SpliceFail →
    Rest → Type 0
HaveGiven wants views start frame result rest =
    (want : ℕ) × (AsksFor wants want result)
    × HaveAnswered (λ s. firsts_of s.made) views start want frame result rest

-- no more pages were written than nodes are made
abbrev pub WritesAtMost : ℕ → Meter → Meter → Type 0
WritesAtMost most old new = new.written ≤ max old.written (counted old.written most)

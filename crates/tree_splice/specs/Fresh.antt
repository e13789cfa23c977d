-- Pages that are asked for one by one, for new nodes, then written, and held or given back.
use Rattle.std.specs.Prelude.{◌≡◌, ℕ, suc, ◌==◌, Bool, IsTrue, List, [], ◌∷◌, ◌++◌, length, map}
use Rattle.std.specs.Prelude.{drop, if◌then◌else◌}
use Rattle.std.specs.Prelude.{Option, Some, None, Result, Ok, Err, slice_index_or, slice_set}
use Rattle.std.specs.List.{AllByRecursion, list_any}
use Rattle.geometry_model.specs.Numbers.{Numbers}
use Rattle.tree_model.specs.Node.{NodeBytes}
use Rattle.layout_model.specs.Levels.{PageNode}
use Rattle.layout_model.specs.Grants.{Spaces, Got, Refused, node_pages}
use Rattle.space_directory.specs.SpaceView.{SpaceView}
use Rattle.superdirectory.specs.Grants.{AreTold, AreRunsIn, IsGivenAll, free_sets}
use Rattle.superdirectory.specs.Parts.{IsLaid, IsTakenAll}
use Rattle.superdirectory.specs.Rest.{Frame, Rest, count}
use Rattle.tree_splice.specs.declared.remade.Remade.{Remade}
use Rattle.tree_splice.specs.declared.failure.SpliceFail.{SpliceFail}
use Rattle.tree_splice.specs.declared.failure.SpliceFail.TheVariants.{NoSpace, Fault, Memory}

-- a page that was granted: the space that it is of, its number, and what it holds
pub record FreshPage : Type 0 where
  pub space : ℕ
  pub page : ℕ
  pub bytes : List ℕ

-- pages that were granted, and for how many there is room
pub record FreshList : Type 0 where
  pub pages : List FreshPage
  pub room : ℕ

-- no page
abbrev pub no_fresh_page : FreshPage
no_fresh_page = record { space = 0; page = 0; bytes = [] }

-- what a segment of one page is
abbrev pub fresh_page : {X : Type 0} → (X → ℕ) → (X → ℕ) → (X → List (List ℕ)) → X → FreshPage
fresh_page space start contents segment = record {
  space = space segment;
  page = start segment;
  bytes = slice_index_or (contents segment) 0 [];
}

-- the numbers of the pages
abbrev pub page_numbers : List FreshPage → List ℕ
page_numbers pages = map (λ p. p.page) pages

-- is the page one of these?
abbrev pub is_on_pages : ℕ → List ℕ → Bool
is_on_pages page pages = list_any (λ q. q == page) pages

-- what one of these pages holds, and none where it isn't one
abbrev pub fresh_at : List FreshPage → ℕ → Option (List ℕ)
fresh_at [] page = None
fresh_at (p ∷ pages) page = if p.page == page then Some p.bytes else fresh_at pages page

-- no page is there twice
abbrev pub ArePagesApart : List FreshPage → Type 0
ArePagesApart [] = Unit {0}
ArePagesApart (p ∷ pages) = (fresh_at pages p.page ≡ None) × ArePagesApart pages

-- each of the pages lies in its space, and has the page's size
abbrev pub AreHomely : Bool → Frame → List FreshPage → Type 0
AreHomely tells frame pages =
    AreRunsIn (λ p. p.space) (λ p. p.page) (λ p. p.bytes ∷ []) tells frame pages

-- the told spaces without these pages, each of which was free when it was granted
abbrev pub AreTaken : List SpaceView → List FreshPage → List SpaceView → Type 0
AreTaken before pages after =
    IsTakenAll (λ p. p.space) (λ p. p.page) (λ p. p.bytes ∷ []) before pages after

-- the told spaces once these pages were given back to them
abbrev pub AreGiven : List SpaceView → List FreshPage → List SpaceView → Type 0
AreGiven before pages after =
    IsGivenAll (λ p. p.space) (λ p. p.page) (λ p. p.bytes ∷ []) before pages after

-- these pages were given back
abbrev pub GivesBack : List FreshPage → Rest → Rest → Type 0
GivesBack pages old new = (views : List SpaceView) → AreTold old views → length views ≡ count old →
    ((after : List SpaceView) × AreTold new after × AreGiven views pages after)

-- what asking for so many single pages comes to: these pages, a refusal, or neither
abbrev pub IsPagesAnswer : Numbers → ℕ → ℕ → Spaces → List FreshPage → Spaces →
    Result Unit SpliceFail → Type 0
IsPagesAnswer numbers start want spaces pages left (Ok done) =
    node_pages numbers start want spaces ≡ Got (page_numbers pages) left
IsPagesAnswer numbers start want spaces pages left (Err NoSpace) =
    node_pages numbers start want spaces ≡ Refused 1
IsPagesAnswer numbers start want spaces pages left (Err Fault) = Unit {0}
IsPagesAnswer numbers start want spaces pages left (Err Memory) = Unit {0}

-- So many pages were asked for, and these were granted; the told spaces are without them.
pub record ArePagesAsked (views : List SpaceView) (start want : ℕ) (frame : Frame)
    (pages : List FreshPage) (result : Result Unit SpliceFail) (rest : Rest) : Type 0 where
  pub after : List SpaceView
  pub taken : AreTaken views pages after
  pub told : AreTold rest after
  pub answer : (numbers : Numbers) → IsLaid numbers frame.firsts →
      IsPagesAnswer numbers start want (free_sets views) pages (free_sets after) result

-- one of the pages holds something else, and what that is
pub record IsPageWritten (index : ℕ) (old new : List FreshPage) : Type 0 where
  pub bytes : List ℕ
  pub now : new
      ≡ slice_set old index (record (slice_index_or old index no_fresh_page) { bytes = bytes })

-- one page more, that nobody had
pub record IsOneMore (held : ℕ → Option (List ℕ)) (old new : List FreshPage) : Type 0 where
  pub page : FreshPage
  pub now : new ≡ old ++ page ∷ []
  pub lacked : held page.page ≡ None
  pub apart : fresh_at old page.page ≡ None

-- where they are told, each of these pages has `size` bytes
abbrev pub AreAllOf : Bool → ℕ → List FreshPage → Type 0
AreAllOf tells size pages = IsTrue tells → AllByRecursion (λ p. length p.bytes ≡ size) pages

-- a page without what it holds
abbrev pub emptied : FreshPage → FreshPage
emptied p = record p { bytes = [] }

-- the pages are the same ones, of the same spaces
abbrev pub AreSamePages : List FreshPage → List FreshPage → Type 0
AreSamePages old new = map emptied new ≡ map emptied old

-- these nodes of level k stand on the first of the pages
abbrev pub AreNodesWritten : ℕ → List PageNode → List FreshPage → Type 0
AreNodesWritten k [] pages = Unit {0}
AreNodesWritten k (node ∷ nodes) [] = ⊥
AreNodesWritten k (node ∷ nodes) (p ∷ pages) =
    NodeBytes p.bytes k node.pairs × AreNodesWritten k nodes pages

-- and so do the made nodes of these levels, of which the lowest is k, one after the other
abbrev pub AreAllWritten : ℕ → List Remade → List FreshPage → Type 0
AreAllWritten k [] pages = Unit {0}
AreAllWritten k (level ∷ levels) pages =
    AreNodesWritten k level.made pages
    × AreAllWritten (suc k) levels (drop (length level.made) pages)

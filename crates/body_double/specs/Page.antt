-- What an object of no byte is to the store whose versions own one page each.
use Rattle.std.specs.Prelude.{◌≡◌, ℕ, ◌-◌, Bool, true, false, ◌&&◌, not, List, [], ◌∷◌}
use Rattle.std.specs.Prelude.{length, Option, Some, None, is_some, is_none, IfSome, option_map}
use Rattle.std.specs.Prelude.{if◌then◌else◌}
use Rattle.eos_ops.specs.declared.edit.Edit.{Edit}
use Rattle.eos_ops.specs.declared.edit.Edit.TheVariants.{Create, Destroy, Append}
use Rattle.eos_ops.specs.declared.plain.Plain.{Plain}
use Rattle.eos_ops.specs.declared.plain.Plain.TheVariants.{Absent, Present}
use Rattle.geometry_model.specs.Numbers.{Numbers}
use Rattle.geometry_model.specs.Pages.{IsInSpace}
use Rattle.block_model.specs.Place.{least_order}
use Rattle.layout_model.specs.Grants.{Spaces, Answer, Got, and_then, run_of, spot_in, around}
use Rattle.layout_model.specs.Layout.{Tree}
use Rattle.moment_model.specs.Version.{Version}
use Rattle.moment_model.specs.Moment.{ObjectSlot}
use Rattle.moment_model.specs.Edit.{with_working}
use Rattle.page_port.specs.Pages.{IsSized}
use Rattle.space_directory.specs.SpaceView.{SpaceView, after_give, after_lock, after_unlock}
use Rattle.superdirectory.specs.Grants.{AreTold, KeepsFrame, IsSegmentIn, IsExact, UsesSpace}
use Rattle.superdirectory.specs.Grants.{free_sets}
use Rattle.superdirectory.specs.Rest.{Rest, count}
use Rattle.superdirectory.specs.Trace.{SpaceEvent, Part, IsSearched}
use Rattle.object_body.specs.declared.fails.EditFail.{EditFail}
use Rattle.object_body.specs.declared.fails.EditFail.TheVariants.{NoSpace, Fault, Memory}
use Rattle.object_body.specs.Form.{Form, Contents}
use Rattle.object_body.specs.Lengths.{length_of}
use Rattle.object_body.specs.Moves.{IsUntouched}
use Rattle.object_body.specs.Places.{IsStore, AreHome}

-- a page that is owned: its space, its number, and what it holds
pub record OwnPage : Type 0 where
  pub space : ℕ
  pub first : ℕ
  pub pages : List (List ℕ)

-- The page of the committed version, none where it is absent; the page that this transaction was
-- granted for the working version; and whether an edit has dropped the committed one.
pub record PageView : Type 0 where
  pub numbers : Numbers
  pub committed : Option OwnPage
  pub fresh : Option OwnPage
  pub dropped : Bool

-- the page of the working version: the fresh one, or else the committed one until an edit drops it
abbrev pub working_page : Option OwnPage → Option OwnPage → Bool → Option OwnPage
working_page committed (Some own) dropped = Some own
working_page committed None dropped = if dropped then None else committed

-- a version of no byte that stands on one page, as its only node
abbrev pub page_tree : ℕ → Tree
page_tree page = record { levels = (record { page = page; pairs = [] } ∷ []) ∷ []; threshold = 1 }

abbrev pub page_version : Option OwnPage → Version
page_version own = option_map (λ own. page_tree own.first) own

-- an object that is there has no byte
abbrev pub plain_if : Bool → Plain
plain_if there = if there then Present [] else Absent

-- what an object of these versions shows
abbrev pub pages_form : Numbers → Option OwnPage → Option OwnPage → Bool → Form
pages_form n committed working rests = record {
  numbers = n;
  committed = length_of (plain_if (is_some committed));
  working = length_of (plain_if (is_some working));
  is_resting = rests;
}

abbrev pub pages_contents : Option OwnPage → Option OwnPage → Contents
pages_contents committed working = record {
  slot = record {
    committed = page_version committed;
    working = page_version working;
    spare =
        None;
  };
  committed = plain_if (is_some committed);
  working = plain_if (is_some working);
}

abbrev pub page_form : PageView → Form
page_form v = pages_form v.numbers v.committed (working_page v.committed v.fresh v.dropped)
    (is_none v.fresh && not v.dropped)

abbrev pub page_contents : PageView → Contents
page_contents v = pages_contents v.committed (working_page v.committed v.fresh v.dropped)

-- the working version on a page that is asked for
abbrev pub page_placed : Numbers → ℕ → Spaces → ObjectSlot → Answer ObjectSlot
page_placed n start free slot = and_then (run_of n start 1 free)
    (λ run left. Got (with_working slot (Some (page_tree run.page)) None) left)

-- a new object is placed so; one whose committed version is there gets it back
abbrev pub page_made : Numbers → ℕ → Spaces → ObjectSlot → Version → Answer ObjectSlot
page_made n start free slot None = page_placed n start free slot
page_made n start free slot (Some tree) = Got (with_working slot (Some tree) None) free

abbrev pub page_created : Numbers → ℕ → Spaces → ObjectSlot → Version → Answer ObjectSlot
page_created n start free slot None = page_made n start free slot slot.committed
page_created n start free slot (Some tree) = Got slot free

abbrev pub page_moved : Numbers → ℕ → Spaces → ObjectSlot → Version → Answer ObjectSlot
page_moved n start free slot None = Got slot free
page_moved n start free slot (Some tree) = page_placed n start free slot

abbrev pub page_dropped : Spaces → ObjectSlot → Version → Answer ObjectSlot
page_dropped free slot None = Got slot free
page_dropped free slot (Some tree) = Got (with_working slot None None) free

-- A `create` of an absent object asks for one page, or makes a committed version the working one
-- again. An `append` to an object that is there asks for another page, to which it moves. A
-- `destroy` leaves no working version. No other edit is made.
abbrev pub lays_page : Numbers → ℕ → Spaces → ObjectSlot → Edit → Answer ObjectSlot
lays_page n start free slot (Create t) = page_created n start free slot slot.working
lays_page n start free slot (Append bytes) = page_moved n start free slot slot.working
lays_page n start free slot Destroy = page_dropped free slot slot.working
lays_page n start free slot edit = Got slot free

-- a tree on one page, with no entry
abbrev pub IsPageTree : Numbers → Tree → Type 0
IsPageTree n tree = (page : ℕ) × (tree ≡ page_tree page)

-- these edits ask for a page, where none is there to come back to: a `create`, and an `append` of
-- no byte
abbrev pub Places : Edit → Type 0
Places (Create t) = Unit {0}
Places (Append bytes) = bytes ≡ []
Places edit = ⊥

-- does the edit make the object anew?
abbrev pub is_create : Edit → Bool
is_create (Create t) = true
is_create edit = false

-- two pages that are owned are two
abbrev pub BeginApart : Option OwnPage → Option OwnPage → Type 0
BeginApart (Some own) (Some other) = own.first ≡ other.first → ⊥
BeginApart own other = Unit {0}

-- an owned page is a data page of the store
pub record IsOwn (tells : Bool) (n : Numbers) (own : OwnPage) : Type 0 where
  pub place : IsInSpace n own.space own.first 1
  pub one : length own.pages ≡ 1
  pub sized : IsSized tells n.page own.pages

-- The owned pages are data pages of the store, and two. A fresh one is there only once the
-- committed one is dropped.
pub record IsHolding (tells : Bool) (v : PageView) : Type 0 where
  pub committed : IfSome v.committed (IsOwn tells v.numbers)
  pub fresh : IfSome v.fresh (IsOwn tells v.numbers)
  pub apart : BeginApart v.committed v.fresh
  pub dropped : v.dropped ≡ false → v.fresh ≡ None

-- nothing was called where there is no page, and else its space was entered, and is what the
-- change makes of it
abbrev pub UsesPage : (OwnPage → SpaceView → SpaceView) → Option OwnPage → Rest → Rest →
    Option (List SpaceEvent) → Option (List SpaceEvent) → Type 0
UsesPage change None old new before after = (new ≡ old) × (after ≡ before)
UsesPage change (Some own) old new before after =
    UsesSpace own.space (change own) old new before after

-- the page is given, locked, or unlocked
abbrev pub giving : OwnPage → SpaceView → SpaceView
giving own v = after_give v (own.first - v.first) own.pages

abbrev pub locking : OwnPage → SpaceView → SpaceView
locking own v = after_lock v (own.first - v.first) (length own.pages)

abbrev pub unlocking : OwnPage → SpaceView → SpaceView
unlocking own v = after_unlock v (own.first - v.first) (length own.pages)

-- the working page went: a fresh one was given, and else the committed one locked, where it
-- wasn't dropped before
abbrev pub UsesDropped : Option OwnPage → Option OwnPage → Bool → Rest → Rest →
    Option (List SpaceEvent) → Option (List SpaceEvent) → Type 0
UsesDropped (Some own) committed dropped old new before after =
    UsesPage giving (Some own) old new before after
UsesDropped None committed dropped old new before after =
    UsesPage locking (if dropped then None else committed) old new before after

-- a page was granted, as the rule of grants names it
pub record IsGrantedPage (tells : Bool) (start : ℕ) (own : OwnPage) (old new : Rest)
    (before after : Option (List SpaceEvent)) : Type 0 where
  pub rest : KeepsFrame old new
  pub searched : Part (IsSearched (least_order 1) 0 (count old) false) before after
  pub segment : IsSegmentIn old.frame 1 own.space own.first own.pages tells
  pub exact : (views : List SpaceView) → AreTold old views → length views ≡ count old →
      IsExact views 1 (spot_in (free_sets views) 1 (around start (count old))) old.frame
      (Some (own.space, (own.first, own.pages))) new

-- no space had a page
pub record IsNoPage (start pages : ℕ) (old new : Rest)
    (before after : Option (List SpaceEvent)) : Type 0 where
  pub one : pages ≡ 1
  pub rest : KeepsFrame old new
  pub searched : Part (IsSearched (least_order 1) 0 (count old) true) before after
  pub exact : (views : List SpaceView) → AreTold old views → length views ≡ count old →
      IsExact views 1 (spot_in (free_sets views) 1 (around start (count old))) old.frame None new

-- a page that was granted went back again
pub record IsBackAgain (old new : Rest) (before after : Option (List SpaceEvent)) : Type 0 where
  pub rest : KeepsFrame old new
  pub trace : Part (λ part. Unit {0}) before after
  pub untouched : (n : Numbers) (views : List SpaceView) → IsStore n old.frame →
      AreTold old views → AreHome old.frame views →
      IsUntouched n old.frame views new

-- why no page was had: no space had one, or the one that was granted is owned already
abbrev pub IsNotAsked : ℕ → EditFail → Rest → Rest → Option (List SpaceEvent) →
    Option (List SpaceEvent) → Type 0
IsNotAsked start (NoSpace pages) old new before after = IsNoPage start pages old new before after
IsNotAsked start Fault old new before after = ⊥
IsNotAsked start Memory old new before after = IsBackAgain old new before after

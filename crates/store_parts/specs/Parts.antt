-- The parts of an open store: its numbers, the pages of no object, its spaces and its objects. What
-- is true of them over every device, and what they stand for over one that tells.
use Rattle.std.specs.Prelude.{◌≡◌, ℕ, Bool, true, false, List, length, map, slice_get}
use Rattle.std.specs.Prelude.{Some, None}
use Rattle.std.specs.List.{range_with_len}
use Rattle.geometry_model.specs.Numbers.{Numbers, IsInRange, objects, space_pages}
use Rattle.geometry_model.specs.Pages.{first_page, IsPlace}
use Rattle.eos_ops.specs.declared.plain.Plain.{Plain}
use Rattle.moment_model.specs.Version.{IsGood}
use Rattle.moment_model.specs.Moment.{Moment, IsSound, free_in}
use Rattle.tree_pages.specs.Entry.{Entry}
use Rattle.span_store.specs.Held.{Held}
use Rattle.space_directory.specs.SpaceView.{SpaceView}
use Rattle.superdirectory.specs.Rest.{Frame}
use Rattle.object_body.specs.Form.{Form, Contents}
use Rattle.object_body.specs.Places.{AreHome, is_locked_place}
use Rattle.object_body.specs.Stored.{IsKeeping}
use Rattle.object_body.specs.declared.object.Object.{Object}
use Rattle.store_parts.specs.declared.fixed.Fixed.{Fixed}
use Rattle.store_parts.specs.Fixed.{FixedView, IsFixed, fixed_view}

-- an object: what it shows, what is kept of it beside its pages, and the pages that it holds
pub record StoredView : Type 0 where
  pub form : Form
  pub told : Contents
  pub entry : Entry
  pub pages : Held

abbrev pub stored_view : {B H : Type 0} → (B → Form) → (B → Contents) → (B → Entry) → (B → Held) →
    Object B H → StoredView
stored_view form told entry pages x = record {
  form = form x.body;
  told = told x.body;
  entry = entry x.body;
  pages = pages x.body;
}

-- all parts of a store, and the page size of its port
pub record PartsView : Type 0 where
  pub numbers : Numbers
  pub fixed : FixedView
  pub spaces : List SpaceView
  pub objects : List StoredView
  pub page : ℕ

-- these parts as contracts see them: of spans and bodies, by what these show
abbrev pub parts_view : {X B H : Type 0} → (X → ℕ) → (X → List (List ℕ)) → (B → Form) →
    (B → Contents) → (B → Entry) → (B → Held) → Numbers → Fixed X → List SpaceView →
    List (Object B H) → ℕ → PartsView
parts_view start contents form told entry pages numbers fixed spaces objects page = record {
  numbers = numbers;
  fixed = fixed_view start contents fixed;
  spaces = spaces;
  objects = map (stored_view form told entry pages) objects;
  page = page;
}

-- the frame of a store's spaces, which are reached without a table: each lies on its data pages
abbrev pub store_frame : Numbers → Frame
store_frame n = record {
  table = None;
  page = n.page;
  pages = space_pages n;
  firsts = map (first_page n) (range_with_len 0 n.spaces);
}

-- an object of this store at rest, with pages of the store
pub record IsAtHand (tells : Bool) (n : Numbers) (x : StoredView) : Type 0 where
  pub numbers : x.form.numbers ≡ n
  pub rests : x.form.is_resting ≡ true
  pub keeps : IsKeeping tells x.form x.told x.entry x.pages

-- The parts of one store, over every device: the pages of no object, the spaces and the objects, as
-- many as the numbers say and in the order of their numbers, all at rest.
pub record AreParts (tells : Bool) (parts : PartsView) : Type 0 where
  pub in_range : IsInRange parts.numbers
  pub fixed : IsFixed tells parts.numbers parts.fixed
  pub spaces : AreHome (store_frame parts.numbers) parts.spaces
  pub number : length parts.objects ≡ objects parts.numbers
  pub objects : (o : ℕ) (x : StoredView) → slice_get parts.objects o ≡ Some x →
      IsAtHand tells parts.numbers x
  pub port : parts.page ≡ parts.numbers.page

-- no page of these spaces is locked
abbrev pub AreUnlocked : Numbers → List SpaceView → Type 0
AreUnlocked n spaces = (page s at : ℕ) → IsPlace n page s at → is_locked_place spaces s at ≡ false

-- Where the device tells, the parts stand for a database and a moment in which nothing is held: each
-- object has its slot and its bytes in both versions, and the spaces have just the moment's free
-- pages and none that is locked.
pub record StandFor (database : List Plain) (moment : Moment) (parts : PartsView) : Type 0 where
  pub sound : IsSound IsGood parts.numbers (λ o. false) moment
  pub slots : map (λ x. x.told.slot) parts.objects ≡ moment
  pub committed : map (λ x. x.told.committed) parts.objects ≡ database
  pub working : map (λ x. x.told.working) parts.objects ≡ database
  pub free : (s : ℕ) (v : SpaceView) → slice_get parts.spaces s ≡ Some v →
      v.free ≡ free_in parts.numbers moment s
  pub unlocked : AreUnlocked parts.numbers parts.spaces

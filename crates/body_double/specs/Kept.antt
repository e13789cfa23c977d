-- What an object is to the store that is made of the pages of a tree and keeps its bytes.
use Rattle.std.specs.Prelude.{◌≡◌, ℕ, Bool, true, not, IsTrue, nat_lt, Option, Some, None}
use Rattle.std.specs.Prelude.{if◌then◌else◌}
use Rattle.eos_ops.specs.declared.edit.Edit.{Edit}
use Rattle.eos_ops.specs.declared.edit.Edit.TheVariants.{Create}
use Rattle.geometry_model.specs.Numbers.{Numbers}
use Rattle.geometry_model.specs.Pages.{is_data_page}
use Rattle.tree_model.specs.declared.entry.Pair.{Pair}
use Rattle.layout_model.specs.Grants.{Spaces, Answer, Got}
use Rattle.moment_model.specs.Version.{Version, version_bytes, version_uses}
use Rattle.moment_model.specs.Moment.{ObjectSlot}
use Rattle.moment_model.specs.Edit.{with_working, empty_tree}
use Rattle.span_store.specs.Held.{Held, AllSized, bytes_on, has}
use Rattle.tree_pages.specs.Entry.{Entry}
use Rattle.tree_pages.specs.Levels.{version_at, plain_at}
use Rattle.object_body.specs.Form.{Form, Contents}
use Rattle.object_body.specs.Lengths.{length_of}
use Rattle.object_body.specs.Stored.{StandsOn, entry_length}

-- The entry of its committed version and the pages that it holds, which are that version's; and
-- whether an edit has created the object, which was absent.
pub record KeptView : Type 0 where
  pub numbers : Numbers
  pub entry : Entry
  pub created : Bool
  pub held : Held

-- the entry of an object that was just created, which has no byte
abbrev pub new_entry : Entry
new_entry = Some (record { root = record { height = 0; page = 0; length = 0 }; threshold = 1 })

-- the entry of the working version
abbrev pub working_entry : Entry → Bool → Entry
working_entry entry created = if created then new_entry else entry

abbrev pub kept_form : KeptView → Form
kept_form v = record {
  numbers = v.numbers;
  committed = entry_length v.entry;
  working = entry_length (working_entry v.entry v.created);
  is_resting = not v.created;
}

-- the versions that stand on the pages
abbrev pub kept_contents : KeptView → Contents
kept_contents v = record {
  slot = record {
    committed = version_at (bytes_on v.held) v.entry;
    working = version_at (bytes_on v.held) (working_entry v.entry v.created);
    spare = None;
  };
  committed = plain_at (bytes_on v.held) v.numbers.page v.entry;
  working = plain_at (bytes_on v.held) v.numbers.page (working_entry v.entry v.created);
}

-- a `create` makes an object of no byte, which uses no page, and no other edit is made
abbrev pub kept_created : Spaces → ObjectSlot → Version → Answer ObjectSlot
kept_created free slot None = Got (with_working slot (Some (empty_tree 1)) None) free
kept_created free slot (Some tree) = Got slot free

abbrev pub lays_kept : Numbers → ℕ → Spaces → ObjectSlot → Edit → Answer ObjectSlot
lays_kept n start free slot (Create t) = kept_created free slot slot.working
lays_kept n start free slot edit = Got slot free

-- any segments make an object of this kind
abbrev pub fits_all : Numbers → ℕ → ℕ → Option Pair → Pair → Bool
fits_all n threshold index before pair = true

-- The held pages are told: the tree stands on them and has the bytes that its root counts, and they
-- are just the tree's.
pub record IsShown (n : Numbers) (entry : Entry) (held : Held) : Type 0 where
  pub tree : StandsOn n (bytes_on held) entry
  pub bytes : entry_length entry ≡ length_of (plain_at (bytes_on held) n.page entry)
  pub version : version_bytes (version_at (bytes_on held) entry)
      ≡ length_of (plain_at (bytes_on held) n.page entry)
  pub just : (page : ℕ) → has held page
      ≡ nat_lt 0 (version_uses n page (version_at (bytes_on held) entry))

-- The object keeps the pages of its tree: data pages of the store, of its size. Only an absent one
-- is created.
pub record KeepsTree (tells : Bool) (v : KeptView) : Type 0 where
  pub on_data : (page : ℕ) → IsTrue (has v.held page) → IsTrue (is_data_page v.numbers page)
  pub sized : AllSized tells v.numbers.page v.held
  pub shown : IsTrue tells → IsShown v.numbers v.entry v.held
  pub absent : v.created ≡ true → v.entry ≡ None

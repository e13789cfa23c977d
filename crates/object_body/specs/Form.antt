-- What a stored object shows: of itself over every device, and of its bytes and pages over one
-- that tells.
use Rattle.std.specs.Prelude.{◌≡◌, ℕ, ◌≤◌, Bool, true, List, [], ◌∷◌, Option, IfSome}
use Rattle.eos_ops.specs.declared.edit.Edit.{Edit}
use Rattle.eos_ops.specs.declared.edit.Edit.TheVariants.{Create}
use Rattle.eos_ops.specs.declared.plain.Plain.{Plain}
use Rattle.geometry_model.specs.Numbers.{Numbers}
use Rattle.layout_model.specs.Layout.{Tree}
use Rattle.moment_model.specs.Moment.{ObjectSlot, IsAtRest}
use Rattle.moment_model.specs.Edit.{settled, undone}
use Rattle.moment_model.specs.Version.{version_bytes}
use Rattle.object_body.specs.Lengths.{length_of}

-- The numbers of the store that the object is made for, the lengths of its two versions, none of
-- an absent one, and whether it is at rest: its versions are the same one, and it owns no page
-- besides.
pub record Form : Type 0 where
  pub numbers : Numbers
  pub committed : Option ℕ
  pub working : Option ℕ
  pub is_resting : Bool

-- the slot of the moment that the object stands for, and the bytes of its two versions
pub record Contents : Type 0 where
  pub slot : ObjectSlot
  pub committed : Plain
  pub working : Plain

-- The lengths are those of the bytes; what is at rest is so in its slot and its bytes; and the
-- slot and the bytes suit each other, as the kind of object says.
pub record AreTied (suits : Contents → Type 0) (form : Form) (told : Contents) : Type 0 where
  pub committed : form.committed ≡ length_of told.committed
  pub working : form.working ≡ length_of told.working
  pub rests : form.is_resting ≡ true → IsAtRest told.slot × (told.working ≡ told.committed)
  pub kind : suits told

-- both versions of the slot have the lengths of the bytes
pub record HaveLengths (told : Contents) : Type 0 where
  pub committed : version_bytes told.slot.committed ≡ length_of told.committed
  pub working : version_bytes told.slot.working ≡ length_of told.working

-- a slot and bytes that suit each other have the same lengths
abbrev pub HaveLengthsBy : (Contents → Type 0) → Type 0
HaveLengthsBy suits = (told : Contents) → suits told → HaveLengths told

-- the working version became the committed one, or was given up for it
abbrev pub settled_form : Form → Form
settled_form form = record form { committed = form.working; is_resting = true }

abbrev pub undone_form : Form → Form
undone_form form = record form { working = form.committed; is_resting = true }

abbrev pub settled_contents : Contents → Contents
settled_contents told = record {
  slot = settled told.slot;
  committed = told.working;
  working =
      told.working;
}

abbrev pub undone_contents : Contents → Contents
undone_contents told = record {
  slot = undone told.slot;
  committed = told.committed;
  working =
      told.committed;
}

-- the numbers of a store as a list
abbrev pub listed : Numbers → List ℕ
listed n = n.page ∷ n.order ∷ n.spaces ∷ n.catalog ∷ n.threshold ∷ []

-- where an edit names a threshold, it is one that a command may name
abbrev pub NamesThreshold : Edit → Type 0
NamesThreshold (Create threshold) = IfSome threshold (λ t. (1 ≤ t) × (t ≤ 8192))
NamesThreshold edit = Unit {0}

-- the rule of a kind of object by which every tree is a good one
abbrev pub any_tree : Numbers → Tree → Type 0
any_tree n tree = Unit {0}

-- What an edit makes of an object: the change of its bytes, and the versions and the spare after
-- it. This is stated once, over the free pages of the spaces, for a body, a transaction and the
-- whole store alike.
use Rattle.std.specs.Prelude.{ℕ, ◌+◌, ◌-◌, ◌/◌, min, Bool, true, false, Option, Some, None, []}
use Rattle.std.specs.Prelude.{length, nat_eq, nat_le, if◌then◌else◌}
use Rattle.geometry_model.specs.Numbers.{Numbers, space_pages}
use Rattle.eos_ops.specs.declared.edit.Edit.{Edit}
use Rattle.eos_ops.specs.declared.edit.Edit.TheVariants.{Create, Destroy, Append, Insert, Delete}
use Rattle.eos_ops.specs.declared.edit.Edit.TheVariants.{Replace}
use Rattle.layout_model.specs.declared.extent.Extent.{Extent}
use Rattle.layout_model.specs.declared.change.Change.{Change}
use Rattle.layout_model.specs.Grants.{Spaces, Answer}
use Rattle.layout_model.specs.Grants.Answer.{Got, Refused}
use Rattle.layout_model.specs.Layout.{Tree, Grants, granted, laid}
use Rattle.moment_model.specs.Version.{Version, tree_bytes}
use Rattle.moment_model.specs.Moment.{ObjectSlot}

-- the threshold of an object that is made: the store's, or the one that is asked for, but at most
-- half of a space
abbrev pub given_threshold : Numbers → Option ℕ → ℕ
given_threshold n None = n.threshold
given_threshold n (Some threshold) = min threshold (space_pages n / 2)

-- an object of no byte
abbrev pub empty_tree : ℕ → Tree
empty_tree threshold = record { levels = []; threshold = threshold }

-- what an edit is to a version: a refusal, or a change of nothing; a version in place of the old
-- one; or a change of its bytes
pub data Effect : Type 0 where
  Refuses : Effect
  Stays : Effect
  Becomes : Version → Effect
  Changes : Tree → Change → Effect

-- a change within so many bytes; one that removes nothing and brings nothing changes nothing
abbrev pub change_within : Tree → Change → Effect
change_within tree change =
    if nat_le (change.at + change.removed) (tree_bytes tree)
    then (if nat_eq (change.removed + change.added) 0 then Stays else Changes tree change)
    else Refuses

abbrev pub change_at : ℕ → ℕ → ℕ → Bool → Change
change_at at removed added appends =
    record { at = at; removed = removed; added = added; appends = appends }

-- the effect of an edit on a version
abbrev pub effect_on : Numbers → Edit → Version → Effect
effect_on n (Create threshold) None = Becomes (Some (empty_tree (given_threshold n threshold)))
effect_on n (Create threshold) (Some tree) = Refuses
effect_on n Destroy None = Refuses
effect_on n Destroy (Some tree) = Becomes None
effect_on n (Append bytes) None = Refuses
effect_on n (Append bytes) (Some tree) =
    change_within tree (change_at (tree_bytes tree) 0 (length bytes) true)
effect_on n (Insert at bytes) None = Refuses
effect_on n (Insert at bytes) (Some tree) = change_within tree (change_at at 0 (length bytes) false)
effect_on n (Delete at count) None = Refuses
effect_on n (Delete at count) (Some tree) = change_within tree (change_at at count 0 false)
effect_on n (Replace at bytes) None = Refuses
effect_on n (Replace at bytes) (Some tree) =
    change_within tree (change_at at (length bytes) (length bytes) false)

-- the slot with another working version and spare
abbrev pub with_working : ObjectSlot → Version → Option Extent → ObjectSlot
with_working slot version spare = record {
  committed = slot.committed;
  working = version;
  spare =
      spare;
}

abbrev pub on_grants : Numbers → ObjectSlot → Tree → Change → Answer Grants → Answer ObjectSlot
on_grants n slot tree change (Refused pages) = Refused pages
on_grants n slot tree change (Got grants left) =
    let after = laid n tree slot.spare change grants in
    Got (with_working slot (Some after.tree) after.spare) left

-- The slot after an edit, out of these free pages, or the pages that no space had a place for. A
-- change is laid out on what is granted; one of nothing, a refused one, a `create` and a
-- `destroy` ask for no page.
abbrev pub after_effect : Numbers → ℕ → Spaces → ObjectSlot → Effect → Answer ObjectSlot
after_effect n start free slot Refuses = Got slot free
after_effect n start free slot Stays = Got slot free
after_effect n start free slot (Becomes version) = Got (with_working slot version None) free
after_effect n start free slot (Changes tree change) =
    on_grants n slot tree change (granted n start tree slot.spare change free)

unfoldable pub edited_slot : Numbers → ℕ → Spaces → ObjectSlot → Edit → Answer ObjectSlot
edited_slot n start free slot edit = after_effect n start free slot (effect_on n edit slot.working)

-- Does an object of so many bytes take the edit? An absent object takes a `create` alone, and
-- none that is there does; a place has to lie within the bytes, and what is removed too.
abbrev pub accepts : Option ℕ → Edit → Bool
accepts None (Create threshold) = true
accepts None Destroy = false
accepts None (Append bytes) = false
accepts None (Insert at bytes) = false
accepts None (Delete at count) = false
accepts None (Replace at bytes) = false
accepts (Some size) (Create threshold) = false
accepts (Some size) Destroy = true
accepts (Some size) (Append bytes) = true
accepts (Some size) (Insert at bytes) = nat_le at size
accepts (Some size) (Delete at count) = nat_le (at + count) size
accepts (Some size) (Replace at bytes) = nat_le (at + length bytes) size

-- the length of an object after an edit, and as before where it doesn't take it; none where it is
-- absent
abbrev pub edited_length : Edit → Option ℕ → Option ℕ
edited_length (Create threshold) None = Some 0
edited_length Destroy None = None
edited_length (Append bytes) None = None
edited_length (Insert at bytes) None = None
edited_length (Delete at count) None = None
edited_length (Replace at bytes) None = None
edited_length (Create threshold) (Some size) = Some size
edited_length Destroy (Some size) = None
edited_length (Append bytes) (Some size) = Some (size + length bytes)
edited_length (Insert at bytes) (Some size) =
    Some (if nat_le at size then size + length bytes else size)
edited_length (Delete at count) (Some size) =
    Some (if nat_le (at + count) size then size - count else size)
edited_length (Replace at bytes) (Some size) = Some size

-- is the effect no refusal?
abbrev pub is_effective : Effect → Bool
is_effective Refuses = false
is_effective Stays = true
is_effective (Becomes version) = true
is_effective (Changes tree change) = true

-- the slot after its transaction is committed, or aborted
abbrev pub settled : ObjectSlot → ObjectSlot
settled slot = record { committed = slot.working; working = slot.working; spare = None }

abbrev pub undone : ObjectSlot → ObjectSlot
undone slot = record { committed = slot.committed; working = slot.committed; spare = None }

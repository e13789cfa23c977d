-- What a kind of body has to keep, whatever it lays out and whichever trees are good ones of it.
use Rattle.change_laws.specs.Tail.{HaveTails}
use Rattle.eos_ops.specs.declared.edit.Edit.TheVariants.{Create, Destroy, Append, Insert, Delete}
use Rattle.eos_ops.specs.declared.edit.Edit.TheVariants.{Replace}
use Rattle.eos_ops.specs.declared.edit.Edit.{Edit}
use Rattle.geometry_model.specs.Numbers.{Numbers, IsInRange}
use Rattle.layout_model.specs.Grants.Answer.{Got}
use Rattle.layout_model.specs.Grants.{Spaces, Answer}
use Rattle.layout_model.specs.Layout.{Tree}
use Rattle.moment_model.specs.Moment.{IsSound, ObjectSlot, Moment, object_slot, with_object_slot}
use Rattle.moment_model.specs.Moment.{free_of}
use Rattle.moment_model.specs.Run.{Lays}
use Rattle.std.specs.Prelude.{Some, None, ◌≡◌, ℕ, Bool, true, ◌≤◌}

-- a threshold that is asked for is at least 1
abbrev pub AsksThreshold : Edit → Type 0
AsksThreshold (Create None) = Unit {0}
AsksThreshold (Create (Some threshold)) = 1 ≤ threshold
AsksThreshold Destroy = Unit {0}
AsksThreshold (Append bytes) = Unit {0}
AsksThreshold (Insert at bytes) = Unit {0}
AsksThreshold (Delete at count) = Unit {0}
AsksThreshold (Replace at bytes) = Unit {0}

-- the slot after an edit that was granted what it asks for, with the pages that are free after it
abbrev pub got_slot : ObjectSlot → Spaces → Answer ObjectSlot
got_slot slot left = Got slot left

-- an edit of a held object that was granted what it asks for leaves a sound moment sound, and
-- each spare behind its object's last segment
abbrev pub KeepsSoundness : Lays → (Numbers → Tree → Type 0) → Type 0
KeepsSoundness laid good =
    (n : Numbers) (held : ℕ → Bool) (start : ℕ) (moment : Moment) (o : ℕ) (edit : Edit)
    (after : ObjectSlot) (left : Spaces) →
    IsInRange n → IsSound good n held moment → HaveTails n moment → held o ≡ true →
    AsksThreshold edit →
    laid n start (free_of n moment) (object_slot moment o) edit ≡ got_slot after left →
    IsSound good n held (with_object_slot moment o after)
    × HaveTails n (with_object_slot moment o after)

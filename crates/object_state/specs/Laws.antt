-- The laws of a body, for objects in trees of segments.
use Rattle.std.proofs.Common.{◌≡◌, ℕ, true, IsTrue, Some, refl, sym, ◌∙◌}
use Rattle.effect_laws.proofs.EffectLemmas.{effect-accepted}
use Rattle.geometry_model.specs.Numbers.{Numbers}
use Rattle.layout_model.specs.Grants.{Spaces}
use Rattle.moment_model.specs.Edit.{Effect, Refuses, Stays, Becomes, Changes, after_effect}
use Rattle.moment_model.specs.Edit.{effect_on, edited_slot, is_effective}
use Rattle.moment_model.specs.Moment.{ObjectSlot}
use Rattle.moment_model.specs.Version.{IsGood}
use Rattle.object_body.specs.Calls.{RefusesTaken, pages_in}
use Rattle.object_body.specs.Form.{HaveLengths, HaveLengthsBy}
use Rattle.soundness_laws.proofs.EditLemmas.{edited-sound}
use Rattle.soundness_laws.specs.Keeping.{KeepsSoundness}

-- the slot has the lengths of the bytes: that is all that an object in a tree says of the two
pub lengths-told : IsTrue true → HaveLengthsBy HaveLengths
lengths-told on told suits = suits

-- a granted edit leaves a sound moment sound
pub keeps-trees : KeepsSoundness edited_slot IsGood
keeps-trees = edited-sound

-- pages are refused to a change of bytes alone, which the object takes
refused-effect : (n : Numbers) (start : ℕ) (free : Spaces) (slot : ObjectSlot) (effect : Effect)
    (pages : ℕ) → pages_in (after_effect n start free slot effect) ≡ Some pages →
    is_effective effect ≡ true
refused-effect n start free slot Refuses pages refused = absurd cc
refused-effect n start free slot Stays pages refused = refl
refused-effect n start free slot (Becomes version) pages refused = refl
refused-effect n start free slot (Changes tree change) pages refused = refl

pub refuses-trees : RefusesTaken edited_slot
unfolding edited_slot
refuses-trees n start free slot edit pages refused =
    sym (effect-accepted n edit slot.working)
    ∙ refused-effect n start free slot (effect_on n edit slot.working) pages refused

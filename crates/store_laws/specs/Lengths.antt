-- The length of an object, in the machine and in the moment.
use Rattle.std.specs.Prelude.{◌≡◌, ℕ, length}
use Rattle.machine.specs.Machine.{Machine, slot_at}
use Rattle.moment_model.specs.Moment.{Moment, object_slot}
use Rattle.moment_model.specs.Version.{version_bytes}
use Rattle.effect_laws.specs.Lengths.{plain_length}

-- each object has its lengths in the moment, or is absent there too; and the moment has a slot
-- for each object
pub record HasLengths (m : Machine) (w : Moment) : Type 0 where
  pub size : length w ≡ length m.slots
  pub committed : (o : ℕ) → version_bytes (object_slot w o).committed
      ≡ plain_length (slot_at m o).committed
  pub working : (o : ℕ) → version_bytes (object_slot w o).working
      ≡ plain_length (slot_at m o).working

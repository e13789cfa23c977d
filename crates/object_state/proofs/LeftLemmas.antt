-- Pages that are left are still data pages.
use Rattle.std.proofs.Common.{ℕ, Bool}
use Rattle.geometry_model.specs.Numbers.{Numbers}
use Rattle.span_store.specs.Held.{Held}
use Rattle.give_back.specs.Giving.{IsLeft}
use Rattle.give_back.proofs.LeftLemmas.{left-held}
use Rattle.object_state.specs.Keeps.{AreOnData}

pub left-on_data : (n : Numbers) (gone : ℕ → Bool) (old new : Held) → IsLeft gone old new → AreOnData n old → AreOnData n new
left-on_data n gone old new left on_data = λ q there. on_data q (left-held gone old new q left there).0

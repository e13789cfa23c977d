use Rattle.store_laws.proofs.SoundLemmas.{in_order}
use Rattle.store_laws.proofs.sound.a_run_is_in_order.Goals as goal

pub returns : goal.returns
returns c = in_order

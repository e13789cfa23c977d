use Rattle.history.proofs.EventLaws.{holds_is_open}
use Rattle.history.proofs.laws.open_transactions_hold.Goals as goal

pub returns : goal.returns
returns c = λ s o past held. holds_is_open s o past held

use Rattle.written_laws.proofs.runs.granted_parts_can_be_written.Goals as goal
use Rattle.written_laws.proofs.RoomLemmas.{granted-can}

pub returns : goal.returns
returns c = granted-can

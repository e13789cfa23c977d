use Rattle.written_laws.proofs.runs.a_part_on_the_spare_can_be_written.Goals as goal
use Rattle.written_laws.proofs.RoomLemmas.{spare-can}

pub returns : goal.returns
returns c = spare-can

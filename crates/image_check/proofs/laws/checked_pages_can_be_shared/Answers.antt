use Rattle.image_check.proofs.GivenLemmas.{can-share}
use Rattle.image_check.proofs.laws.checked_pages_can_be_shared.Goals as goal

pub returns : goal.returns
returns c = can-share

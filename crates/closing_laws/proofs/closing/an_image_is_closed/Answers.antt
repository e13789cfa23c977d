use Rattle.closing_laws.proofs.ShownLemmas.{image-closed}
use Rattle.closing_laws.proofs.closing.an_image_is_closed.Goals as goal

pub returns : goal.returns
returns c = image-closed

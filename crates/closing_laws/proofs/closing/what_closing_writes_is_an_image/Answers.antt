use Rattle.closing_laws.proofs.ClosedLemmas.{closed-image, closed-version, closed-opens}
use Rattle.closing_laws.proofs.closing.what_closing_writes_is_an_image.Goals as goal

pub returns : goal.returns
returns c = record { image = closed-image; version = closed-version; opens = closed-opens }

use Rattle.image_laws.proofs.ByteLists.{each-byte}
use Rattle.image_laws.proofs.PassLemmas.{passes-image}
use Rattle.image_laws.proofs.checks.what_passes_is_an_image.Goals as goal

pub returns : goal.returns
returns c = λ bytes all none. passes-image bytes (each-byte bytes all) none

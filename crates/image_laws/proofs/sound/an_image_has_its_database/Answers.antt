use Rattle.image_laws.proofs.SoundLemmas.{image-database}
use Rattle.image_laws.proofs.sound.an_image_has_its_database.Goals as goal

pub returns : goal.returns
returns c = image-database

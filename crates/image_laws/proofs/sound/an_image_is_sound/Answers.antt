use Rattle.image_laws.proofs.SoundLemmas.{image-sound, image-slots, image-tails, image-free, image-locked}
use Rattle.image_laws.proofs.sound.an_image_is_sound.Goals as goal

pub returns : goal.returns
returns c = record { sound = image-sound; slots = image-slots; tails = image-tails; free = image-free; locked = image-locked }

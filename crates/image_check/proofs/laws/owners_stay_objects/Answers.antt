use Rattle.image_check.proofs.GivenLemmas.{below-claimed, below-free, below-more, below-used}
use Rattle.image_check.proofs.laws.owners_stay_objects.Goals as goal

pub returns : goal.returns
returns c = record {
  free = below-free;
  used = below-used;
  claimed = below-claimed;
  more = below-more;
}

use Rattle.part_store.proofs.PartLemmas.{need_alone}
use Rattle.part_store.proofs.law.a_need_alone_is_halved.Goals as goal

pub returns : goal.returns
returns c = λ numbers start threshold need spaces some. need_alone numbers start threshold need spaces some

use Rattle.tree_pages.proofs.FrameLemmas.{content-stays}
use Rattle.tree_pages.proofs.frame.content_stays.Goals as goal

pub returns : goal.returns
returns c = content-stays

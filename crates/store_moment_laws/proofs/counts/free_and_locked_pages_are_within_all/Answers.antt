use Rattle.store_moment_laws.proofs.CountLemmas.{pages-within}
use Rattle.store_moment_laws.proofs.counts.free_and_locked_pages_are_within_all.Goals as goal

pub returns : goal.returns
returns c = pages-within

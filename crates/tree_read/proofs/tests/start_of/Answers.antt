-- The device of the tests tells nothing, so a search asks for sizes alone.
use Rattle.std.proofs.Common.{refl}
use Rattle.std.proofs.lemmas.Bool.{false≢true}
use Rattle.tree_read.proofs.tests.start_of.Goals as goal

pub find-requires-clause-asks : goal.find-requires-clause-asks
find-requires-clause-asks g c = record {
  pages = record { size_is = refl; sized = λ t. absurd (false≢true t) };
  nodes = record { small = c.cache_of-cache.ensures; right = λ t. absurd (false≢true t) };
  stands = λ t. absurd (false≢true t);
}

-- The device of the tests tells nothing, so a search asks for sizes alone.
use Rattle.std.proofs.Common.{refl}
use Rattle.std.proofs.lemmas.Bool.{false≢true}
use Rattle.tree_read.proofs.tests.range_of.Goals as goal

pub entries-requires-clause-asks : goal.entries-requires-clause-asks
entries-requires-clause-asks g c = record {
  pages = record { size_is = refl; sized = λ t. absurd (false≢true t) };
  nodes = record { small = c.requires; right = λ t. absurd (false≢true t) };
  stands = λ t. absurd (false≢true t);
}

pub returns : goal.returns
returns g c = c.entries.ensures.searches.nodes.small

-- The device of the tests tells nothing, so a search asks for sizes alone.
use Rattle.std.proofs.Common.{refl}
use Rattle.std.proofs.lemmas.Bool.{false≢true}
use Rattle.splice_rows.proofs.store.pages_of.Goals as goal

pub entries-requires-clause-asks : goal.entries-requires-clause-asks
entries-requires-clause-asks g c = record {
  pages = record { size_is = refl; sized = λ t. absurd (false≢true t) };
  nodes = c.requires.kept;
  stands = λ t. absurd (false≢true t);
}

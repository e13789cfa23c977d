-- The device of the tests tells nothing, so an exchange asks for sizes alone.
use Rattle.std.proofs.Common.{refl}
use Rattle.std.proofs.lemmas.Bool.{false≢true}
use Rattle.splice_rows.proofs.store.exchange.Goals as goal

pub splice-requires-clause-asks : goal.splice-requires-clause-asks
splice-requires-clause-asks g c = record {
  pages = record { size_is = refl; sized = λ t. absurd (false≢true t) };
  nodes = c.requires.kept;
  stands = λ t. absurd (false≢true t);
}

pub splice-requires-clause-borders : goal.splice-requires-clause-borders
splice-requires-clause-borders g c = λ t. absurd (false≢true t)

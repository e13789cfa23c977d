-- The file tells nothing of its pages, so an exchange asks for sizes alone.
use Rattle.std.proofs.lemmas.Bool.{false≢true}
use Rattle.bench_splice.proofs.rounds.exchange.Goals as goal

pub splice-done-requires-clause-asks : goal.splice-done-requires-clause-asks
splice-done-requires-clause-asks c = record {
  pages = record { size_is = c.requires.ready.size_is; sized = λ t. absurd (false≢true t) };
  nodes = record { small = c.requires.ready.kept; right = λ t. absurd (false≢true t) };
  stands = λ t. absurd (false≢true t);
}

pub splice-done-requires-clause-borders : goal.splice-done-requires-clause-borders
splice-done-requires-clause-borders c = λ t. absurd (false≢true t)

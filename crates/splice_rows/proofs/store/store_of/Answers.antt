-- Its cache keeps no node.
use Rattle.span_store.specs.Held.{bytes_on}
use Rattle.splice_rows.proofs.store.store_of.Goals as goal

pub returns-clause-kept : goal.returns-clause-kept
returns-clause-kept g c = c.empty_cache.ensures (bytes_on c.new.result)

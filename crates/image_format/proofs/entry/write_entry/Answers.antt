-- The bytes that were written say the entry.
use Rattle.std.proofs.Common.{ap, ◌∙◌}
use Rattle.image_model.specs.Catalog.{entry_in}
use Rattle.image_format.specs.Entries.{model_entry}
use Rattle.image_format.proofs.EntryLemmas.{entry_in-entry_bytes}
use Rattle.image_format.proofs.entry.write_entry.Goals as goal

pub returns-clause-back : goal.returns-clause-back
returns-clause-back c = λ n.
    ap (entry_in n 2) c.bytes_of.ensures.bytes ∙ entry_in-entry_bytes n (model_entry c.args.entry.now) c.bytes_of.ensures.fits

use Rattle.closing_laws.proofs.CatalogLemmas.{page-entry}
use Rattle.closing_laws.proofs.closing.a_catalog_page_has_its_entries.Goals as goal

pub returns : goal.returns
returns c = page-entry

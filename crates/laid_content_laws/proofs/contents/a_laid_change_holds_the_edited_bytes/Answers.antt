use Rattle.laid_content_laws.proofs.contents.a_laid_change_holds_the_edited_bytes.Goals as goal
use Rattle.laid_content_laws.proofs.LaidContentLemmas.{laid-edited}

pub returns : goal.returns
returns c = laid-edited

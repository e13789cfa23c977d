use Rattle.laid_content_laws.proofs.contents.a_laid_change_writes_no_used_page.Goals as goal
use Rattle.laid_content_laws.proofs.StayLemmas.{committed-stays, working-stays, committed-holds}

pub returns : goal.returns
returns c = record { committed = committed-stays; working = working-stays; bytes = committed-holds }

use Rattle.plain_moment.proofs.Storing.{new_tied}
use Rattle.plain_moment.proofs.plain_store.PlainStore.new.Goals as goal

pub returns-clause-tied : goal.returns-clause-tied
returns-clause-tied c = new_tied _ c.in_ok-as_page.field-0 c.in_ok-objects.objects c.in-Ok.ensures.sessions
    c.in-Ok.ensures.first c.in_ok-unheld.ensures c.in_ok-as_page.ensures

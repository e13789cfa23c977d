-- A run came back.
use Rattle.std.proofs.Common.{ap}
use Rattle.page_port.specs.Device.{Device}
use Rattle.span_store.specs.Held.{span_of}
use Rattle.store_parts.proofs.ReturningLemmas.{span-returned}
use Rattle.store_parts.proofs.returning.give_span.Goals as goal

pub restore-requires : goal.restore-requires
restore-requires g c = λ tell. record { range = (c.requires.on tell).range; sized = c.requires.sized tell }

pub returns-clause-back : goal.returns-clause-back
returns-clause-back g c = λ tell at shows.
    span-returned at (span_of g.Y.S.Span.start g.Y.S.Span.contents c.args.span) (g.Y.Bay.device c.args.bay.now)
    (g.Y.Bay.device c.restore.new.self) (c.requires.out tell) (c.requires.on tell) (c.requires.sized tell) (c.restore.ensures.pages tell)
    (ap (λ (d : Device). d.mounted) c.restore.ensures.others) (c.restore.ensures.away tell) shows

pub returns-clause-faults : goal.returns-clause-faults
returns-clause-faults g c = ap (λ (d : Device). d.faults) c.restore.ensures.others

-- The span is held, and its pages are marked.
use Rattle.span_store.specs.Held.{span_of}
use Rattle.image_check.proofs.GivenLemmas.{data-added}
use Rattle.image_check.proofs.used.add_used.Goals as goal

pub returns-clause-data : goal.returns-clause-data
returns-clause-data g c = λ n before inside.
    data-added n (span_of g.S.Span.start g.S.Span.contents c.args.span) c.args.held.now c.add.new.self c.add.ensures.added inside before

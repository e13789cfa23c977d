-- The pieces of the holdings are read.
use Rattle.std.proofs.Common.{◌≡◌, ◌/◌, List, length, sym, subst}
use Rattle.std.specs.Prelude.{IsTrue, OnOk}
use Rattle.tree_model.specs.Content.{run_bytes}
use Rattle.span_store.specs.Held.{AllSized, Held, HeldSpan, bytes_in, bytes_on}
use Rattle.span_store.specs.Order.{EachSized}
use Rattle.span_store.specs.Pieces.{spans_in}
use Rattle.span_store.proofs.Holds.{each_sized}
use Rattle.span_store.proofs.holdings.Holdings.read_run.Goals as goal

pub read_spans-requires-clause-sized : goal.read_spans-requires-clause-sized
read_spans-requires-clause-sized g c =
    let size = (g.P.Port.meter c.args.port.now).page in
    let all = subst (λ (h : Held). AllSized g.S.Span.tells size h) (sym c.self.view_is) c.requires.sized in
    let each = each_sized g.S.Span.tells size (spans_in c.self.inside.pieces.items) c.self.invariant.order all in
    subst (λ (ps : List (List HeldSpan)). EachSized g.S.Span.tells size (spans_in ps)) (sym c.as_slice.ensures.value) each

pub returns-clause-bytes : goal.returns-clause-bytes
returns-clause-bytes g c =
    let n = length c.args.out.now / (g.P.Port.meter c.args.port.now).page in
    subst
    (λ (h : Held). OnOk c.read_spans.result (IsTrue g.S.Span.tells → c.read_spans.new.out ≡ run_bytes (bytes_on h) c.args.first n))
    c.self.view_is
    (subst (λ (ps : List (List HeldSpan)). OnOk c.read_spans.result (IsTrue g.S.Span.tells →
    c.read_spans.new.out ≡ run_bytes (bytes_in (spans_in ps)) c.args.first n)) c.as_slice.ensures.value c.read_spans.ensures.bytes)

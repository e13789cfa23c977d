-- The pieces of the holdings are written.
use Rattle.std.proofs.Common.{◌≡◌, ℕ, ◌+◌, ◌/◌, length, sym, subst, arith}
use Rattle.std.specs.Prelude.{vec_capacity}
use Rattle.span_store.specs.Held.{AllSized, Held}
use Rattle.span_store.specs.Calls.{IsOverwritten}
use Rattle.span_store.specs.Pieces.{spans_in}
use Rattle.span_store.proofs.Overwrites.{length-shape}
use Rattle.span_store.proofs.Holds.{all_sized, each_sized, write_made}
use Rattle.span_store.proofs.Kept.{written_kept}
use Rattle.span_store.proofs.holdings.Holdings.write_run.Goals as goal

pub write_spans-requires-clause-sized : goal.write_spans-requires-clause-sized
write_spans-requires-clause-sized g c =
    let size = (g.P.Port.meter c.args.port.now).page in
    let all = subst (λ (h : Held). AllSized g.S.Span.tells size h) (sym c.self.view_is) c.requires.sized in
    each_sized g.S.Span.tells size (spans_in c.self.inside.pieces.items) c.self.invariant.order all

pub invariant_of-self : goal.invariant_of-self
invariant_of-self g c =
    written_kept c.self.inside.pieces.items c.self.inside.spare.items c.write_spans.new.pieces.items
    (vec_capacity c.self.inside.pieces) (vec_capacity c.self.inside.spare) (vec_capacity c.write_spans.new.pieces) c.self.inside.free
    c.args.first (length c.args.bytes.now / (g.P.Port.meter c.args.port.now).page) c.self.invariant c.write_spans.ensures.others
    c.write_spans.ensures.row (omega (arith, c.write_spans.ensures.room))

pub returns-clause-others : goal.returns-clause-others
returns-clause-others g c =
    let n = length c.args.bytes.now / (g.P.Port.meter c.args.port.now).page in
    let old = spans_in c.self.inside.pieces.items in
    let now = spans_in c.write_spans.new.pieces.items in
    let over = c.write_spans.ensures.others in
    let same : length old + c.self.inside.free ≡ length now + c.self.inside.free =
    let e = length-shape old now over.shape in omega (arith, e) in
    subst (λ (m : ℕ). IsOverwritten c.args.first n c.args.self.now (record { spans = now; room = m })) same
    (write_made c.args.first n (length old + c.self.inside.free) old now c.args.self.now c.self.view_is over)

pub returns-clause-sized : goal.returns-clause-sized
returns-clause-sized g c =
    all_sized g.S.Span.tells (g.P.Port.meter c.args.port.now).page (spans_in c.write_spans.new.pieces.items) c.write_spans.ensures.sized

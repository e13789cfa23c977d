-- A span more is taken.
use Rattle.std.proofs.Common.{◌≡◌, ◌∙◌, ◌++◌, [], ◌∷◌, List, ap, sym, subst, arith}
use Rattle.std.proofs.lemmas.List.{map-append}
use Rattle.span_store.specs.Held.{Held, HeldSpan, span_of, spans_of}
use Rattle.image_check.proofs.ShareLemmas.{IsTaking, taken-all, taking-more}
use Rattle.image_check.proofs.share.take_all.Goals as goal

pub loop-span-preserved : goal.loop-span-preserved
loop-span-preserved g c =
    let before = c.loop-span.invariant in
    let start = g.S.Span.start in
    let contents = g.S.Span.contents in
    let items : spans_of start contents c.push_reserved.new.self.items
    ≡ spans_of start contents c.loop-span.stack.items ++ (span_of start contents c.in-Some.span ∷ []) =
    ap (spans_of start contents) c.push_reserved.ensures.items
    ∙ map-append (span_of start contents) c.loop-span.stack.items (c.in-Some.span ∷ []) in
    let count = c.in-Some.ensures.removed.count in
    let len = c.push_reserved.ensures.len in
    let room = before.room in
    record {
      taking = subst (λ (spans : List HeldSpan). IsTaking c.args.held.now c.take_any.new.self spans) (sym items)
          (taking-more c.args.held.now c.loop-span.held c.take_any.new.self (spans_of start contents c.loop-span.stack.items)
          (span_of start contents c.in-Some.span) before.taking c.in-Some.ensures.removed);
      room = omega (arith, count, len, room, c.push_reserved.ensures.capacity);
      capacity = c.push_reserved.ensures.capacity ∙ before.capacity;
    }

pub returns-clause-taken : goal.returns-clause-taken
returns-clause-taken g c =
    let empty = ap (λ (held : Held). held.spans) c.in_default.ensures.unchanged ∙ c.in_default.ensures.nothing in
    taken-all c.args.held.now c.take_any.new.self (spans_of g.S.Span.start g.S.Span.contents c.loop-span.stack.items)
    (subst (λ (held : Held). IsTaking c.args.held.now held (spans_of g.S.Span.start g.S.Span.contents c.loop-span.stack.items))
    (sym c.in_default.ensures.unchanged) c.loop-span.invariant.taking) empty

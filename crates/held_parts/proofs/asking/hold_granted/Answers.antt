-- The runs that were granted: held, or given back at once for want of memory.
use Rattle.held_parts.proofs.AskLemmas.{all-go, parts-back, parts-spans}
use Rattle.held_parts.proofs.HeldLemmas.{same-spans}
use Rattle.held_parts.proofs.NodeLemmas.{spans-nodes, spans-sized}
use Rattle.std.proofs.Common.{None}
use Rattle.held_parts.proofs.asking.hold_granted.Goals as goal

pub returns-in_default : goal.returns-in_default
returns-in_default g c =
    let n = c.args.geometry.now in
    let old = g.L.Hints.rest c.args.latches.now in
    let same = c.runs_and_room.ensures.spans in
    record {
      holds = parts-back g.S.Span.tells n c.args.granted.counts.items _ c.args.held.now c.runs_and_room.new.held c.args.cache.now old
          (g.L.Hints.rest c.give_all.new.latches) (g.L.Hints.trace c.args.latches.now) (g.L.Hints.trace c.give_all.new.latches)
          (same-spans None c.args.held.now c.runs_and_room.new.held same)
          (record {
            sized = spans-sized g.S.Span.tells n.page c.args.held.now c.runs_and_room.new.held same c.requires.right.sized;
            nodes = spans-nodes g.S.Span.tells n.page c.args.held.now c.runs_and_room.new.held c.args.cache.now same c.requires.right.nodes;
          })
          (all-go n (λ s. s.space) (λ s. g.S.Span.start s.span) (λ s. g.S.Span.contents s.span) g.S.Span.tells
          c.args.granted.segments.items old (g.L.Hints.rest c.give_all.new.latches) (g.L.Hints.trace c.args.latches.now)
          (g.L.Hints.trace c.give_all.new.latches) c.requires.ready.store c.requires.inside c.give_all.ensures.rest
          c.give_all.ensures.trace c.give_all.ensures.told);
    }

pub returns : goal.returns
returns g c = record {
  holds = parts-spans g.S.Span.tells c.args.geometry.now c.args.granted.counts.items _ c.hold_or_give.result c.args.held.now
      c.runs_and_room.new.held c.hold_or_give.new.held c.hold_or_give.new.cache (g.L.Hints.rest c.args.latches.now)
      (g.L.Hints.rest c.hold_or_give.new.latches) (g.L.Hints.trace c.args.latches.now) (g.L.Hints.trace c.hold_or_give.new.latches)
      c.runs_and_room.ensures.spans c.hold_or_give.ensures.holds;
}

use Rattle.std.proofs.Common.{sym, ap}
use Rattle.std.specs.Prelude.{option_map}
use Rattle.body_double.specs.Page.{PageView}
use Rattle.body_double.proofs.page_body.PageBodyBody.undo.Goals as goal
use Rattle.body_double.proofs.PageLemmas.{undone-by, still-undone}

pub returns-then-self : goal.returns-then-self
returns-then-self g c =
    let inside : PageView = record {
      numbers = c.self.inside.geometry;
      committed = option_map (λ s. record {
        space = s.space;
        first = g.P.S.Span.start s.span;
        pages =
            g.P.S.Span.contents s.span;
      }) c.self.inside.committed;
      fresh = option_map (λ s. record {
        space = s.space;
        first = g.P.S.Span.start s.span;
        pages =
            g.P.S.Span.contents s.span;
      }) c.self.inside.fresh;
      dropped = c.self.inside.dropped;
    } in
    record {
      end = undone-by g.P.S.Span.tells c.args.self.now inside
          (option_map (λ s. record {
            space = s.space;
            first = g.P.S.Span.start s.span;
            pages =
                g.P.S.Span.contents s.span;
          }) c.take-fresh.result)
          (option_map (λ s. record {
            space = s.space;
            first = g.P.S.Span.start s.span;
            pages =
                g.P.S.Span.contents s.span;
          }) c.take-fresh.new.self)
          (g.L.Hints.rest c.args.latches.now) (g.L.Hints.rest c.give_back.new.latches) (g.L.Hints.rest c.unlock.new.latches)
          (g.L.Hints.trace c.args.latches.now) (g.L.Hints.trace c.give_back.new.latches) (g.L.Hints.trace c.unlock.new.latches)
          (sym c.self.view_is) c.if-self.true (ap
          (option_map (λ s. record {
            space = s.space;
            first = g.P.S.Span.start s.span;
            pages =
                g.P.S.Span.contents s.span;
          })) c.take-fresh.ensures.value)
          (ap (option_map (λ s. record {
            space = s.space;
            first = g.P.S.Span.start s.span;
            pages =
                g.P.S.Span.contents s.span;
          })) c.take-fresh.ensures.after) c.self.invariant
          c.give_back.ensures c.unlock.ensures c.requires.ready;
    }

pub returns : goal.returns
returns g c =
    let inside : PageView = record {
      numbers = c.self.inside.geometry;
      committed = option_map (λ s. record {
        space = s.space;
        first = g.P.S.Span.start s.span;
        pages =
            g.P.S.Span.contents s.span;
      }) c.self.inside.committed;
      fresh = option_map (λ s. record {
        space = s.space;
        first = g.P.S.Span.start s.span;
        pages =
            g.P.S.Span.contents s.span;
      }) c.self.inside.fresh;
      dropped = c.self.inside.dropped;
    } in
    record {
      end = still-undone g.P.S.Span.tells c.args.self.now inside (g.L.Hints.rest c.args.latches.now) (g.L.Hints.trace c.args.latches.now)
          (sym c.self.view_is) c.if-self.false c.self.invariant c.requires.ready;
    }

use Rattle.std.proofs.Common.{sym, ap}
use Rattle.std.specs.Prelude.{option_map}
use Rattle.body_double.specs.Page.{PageView}
use Rattle.body_double.proofs.page_body.PageBodyBody.settle.Goals as goal
use Rattle.body_double.proofs.PageLemmas.{settled-by, still-settled}

pub returns-then-self : goal.returns-then-self
returns-then-self g c =
    let inside : PageView = record {
      numbers = c.self.inside.geometry;
      committed = option_map (λ s. record {
        space = s.space;
        first = g.P.S.Span.start s.span;
        pages =
            g.P.S.Span.contents s.span;
      }) c.self.inside.committed;
      fresh = option_map (λ s. record {
        space = s.space;
        first = g.P.S.Span.start s.span;
        pages =
            g.P.S.Span.contents s.span;
      }) c.self.inside.fresh;
      dropped = c.self.inside.dropped;
    } in
    record {
      end = settled-by g.P.S.Span.tells c.args.self.now inside
          (option_map (λ s. record {
            space = s.space;
            first = g.P.S.Span.start s.span;
            pages =
                g.P.S.Span.contents s.span;
          }) c.take-old.result)
          (option_map (λ s. record { space = s.space; first = g.P.S.Span.start s.span; pages = g.P.S.Span.contents s.span }) c.take.result)
          (option_map (λ s. record {
            space = s.space;
            first = g.P.S.Span.start s.span;
            pages =
                g.P.S.Span.contents s.span;
          }) c.take.new.self)
          (g.L.Hints.rest c.args.latches.now) (g.L.Hints.rest c.give_back.new.latches)
          (g.L.Hints.trace c.args.latches.now) (g.L.Hints.trace c.give_back.new.latches)
          (sym c.self.view_is) c.if-self.true (ap
          (option_map (λ s. record {
            space = s.space;
            first = g.P.S.Span.start s.span;
            pages =
                g.P.S.Span.contents s.span;
          })) c.take-old.ensures.value)
          (ap (option_map (λ s. record {
            space = s.space;
            first = g.P.S.Span.start s.span;
            pages =
                g.P.S.Span.contents s.span;
          })) c.take.ensures.value)
          (ap (option_map (λ s. record {
            space = s.space;
            first = g.P.S.Span.start s.span;
            pages =
                g.P.S.Span.contents s.span;
          })) c.take.ensures.after) c.self.invariant
          c.give_back.ensures c.requires.ready;
    }

pub returns : goal.returns
returns g c =
    let inside : PageView = record {
      numbers = c.self.inside.geometry;
      committed = option_map (λ s. record {
        space = s.space;
        first = g.P.S.Span.start s.span;
        pages =
            g.P.S.Span.contents s.span;
      }) c.self.inside.committed;
      fresh = option_map (λ s. record {
        space = s.space;
        first = g.P.S.Span.start s.span;
        pages =
            g.P.S.Span.contents s.span;
      }) c.self.inside.fresh;
      dropped = c.self.inside.dropped;
    } in
    record {
      end = still-settled g.P.S.Span.tells c.args.self.now inside (g.L.Hints.rest c.args.latches.now) (g.L.Hints.trace c.args.latches.now)
          (sym c.self.view_is) c.if-self.false c.self.invariant c.requires.ready;
    }

use Rattle.std.proofs.Common.{rules, ◌≡◌, true, false, IsTrue, Err, sym, ap, ◌∙◌, ◌&&◌}
use Rattle.std.specs.Prelude.{option_map, is_some}
use Rattle.eos_ops.specs.declared.outcome.Outcome.TheVariants.{Done}
use Rattle.eos_ops.specs.Edits.{outcome_in}
use Rattle.body_double.specs.Page.{OwnPage, PageView, is_create, plain_if}
use Rattle.body_double.proofs.page_body.PageBodyBody.edit.Goals as goal
use Rattle.body_double.proofs.PageLemmas.{unmade-by, destroyed-by, memory-by, refused-by, placed-by, came-back-by}
use Rattle.body_double.proofs.PageLemmas.{mapped-some, mapped-none, back-holds}

pub returns-then-ne : goal.returns-then-ne
returns-then-ne g c =
    let inside : PageView = record {
      numbers = c.self.inside.geometry;
      committed = option_map (λ s. record {
        space = s.space;
        first = g.P.S.Span.start s.span;
        pages =
            g.P.S.Span.contents s.span;
      }) c.self.inside.committed;
      fresh = option_map (λ s. record {
        space = s.space;
        first = g.P.S.Span.start s.span;
        pages =
            g.P.S.Span.contents s.span;
      }) c.self.inside.fresh;
      dropped = c.self.inside.dropped;
    } in
    let other : c.outcome-outcome.result ≡ Done → ⊥ = search rules in
    record {
      edit = unmade-by g.P.S.Span.tells c.args.start c.args.edit.now c.outcome-outcome.result c.args.self.now inside
          (g.L.Hints.rest c.args.latches.now) (g.L.Hints.trace c.args.latches.now) (g.P.Port.meter c.args._port.now)
          (sym c.self.view_is) (c.outcome-outcome.ensures
          ∙ ap (outcome_in c.args.edit.now) (c.plain.ensures
          ∙ ap plain_if c.is_there-there.ensures)) other c.requires.ready;
    }

pub returns-in-Destroy : goal.returns-in-Destroy
returns-in-Destroy g c =
    let inside : PageView = record {
      numbers = c.self.inside.geometry;
      committed = option_map (λ s. record {
        space = s.space;
        first = g.P.S.Span.start s.span;
        pages =
            g.P.S.Span.contents s.span;
      }) c.self.inside.committed;
      fresh = option_map (λ s. record {
        space = s.space;
        first = g.P.S.Span.start s.span;
        pages =
            g.P.S.Span.contents s.span;
      }) c.self.inside.fresh;
      dropped = c.self.inside.dropped;
    } in
    let outcome_done : c.outcome-outcome.result ≡ Done = search rules in
    let done = sym outcome_done ∙ (c.outcome-outcome.ensures
    ∙ ap (outcome_in c.args.edit.now) (c.plain.ensures ∙ ap plain_if c.is_there-there.ensures)) in
    record {
      edit = destroyed-by g.P.S.Span.tells c.args.start c.args.edit.now c.args.self.now inside
          (option_map (λ s. record {
            space = s.space;
            first = g.P.S.Span.start s.span;
            pages =
                g.P.S.Span.contents s.span;
          }) c.drop_page.new.fresh)
          (g.L.Hints.rest c.args.latches.now) (g.L.Hints.rest c.drop_page.new.latches)
          (g.L.Hints.trace c.args.latches.now) (g.L.Hints.trace c.drop_page.new.latches)
          (g.P.Port.meter c.args._port.now)
          (sym c.self.view_is) c.in-Destroy.is done c.self.invariant
          (ap (option_map (λ s. record {
            space = s.space;
            first = g.P.S.Span.start s.span;
            pages =
                g.P.S.Span.contents s.span;
          })) c.drop_page.ensures.taken)
          c.drop_page.ensures.used c.requires.ready;
    }

pub returns-then-not-asks : goal.returns-then-not-asks
returns-then-not-asks g c =
    let inside : PageView = record {
      numbers = c.self.inside.geometry;
      committed = option_map (λ s. record {
        space = s.space;
        first = g.P.S.Span.start s.span;
        pages =
            g.P.S.Span.contents s.span;
      }) c.self.inside.committed;
      fresh = option_map (λ s. record {
        space = s.space;
        first = g.P.S.Span.start s.span;
        pages =
            g.P.S.Span.contents s.span;
      }) c.self.inside.fresh;
      dropped = c.self.inside.dropped;
    } in
    let quiet : c.asks.result ≡ false = search rules in
    record {
      edit = memory-by g.P.S.Span.tells c.args.start c.args.edit.now c.args.self.now inside
          (g.L.Hints.rest c.args.latches.now) (g.L.Hints.trace c.args.latches.now) (g.P.Port.meter c.args._port.now)
          (sym c.self.view_is) c.requires.ready (c.asks.ensures.memory quiet);
    }

pub returns-in-Err : goal.returns-in-Err
returns-in-Err g c =
    let inside : PageView = record {
      numbers = c.self.inside.geometry;
      committed = option_map (λ s. record {
        space = s.space;
        first = g.P.S.Span.start s.span;
        pages =
            g.P.S.Span.contents s.span;
      }) c.self.inside.committed;
      fresh = option_map (λ s. record {
        space = s.space;
        first = g.P.S.Span.start s.span;
        pages =
            g.P.S.Span.contents s.span;
      }) c.self.inside.fresh;
      dropped = c.self.inside.dropped;
    } in
    let outcome_done : c.outcome-outcome.result ≡ Done = search rules in
    let done = sym outcome_done ∙ (c.outcome-outcome.ensures
    ∙ ap (outcome_in c.args.edit.now) (c.plain.ensures ∙ ap plain_if c.is_there-there.ensures)) in
    let asked : IsTrue c.asks.result = search rules in
    let anew : (is_create c.args.edit.now && is_some inside.committed) ≡ false =
    ap (λ b. is_create c.args.edit.now && b) (mapped-some c.self.inside.committed
    (λ s. record { space = s.space; first = g.P.S.Span.start s.span; pages = g.P.S.Span.contents s.span }))
    ∙ (sym c.comes_back.ensures ∙ c.if-comes_back.false) in
    record {
      edit = refused-by g.P.S.Span.tells c.args.start c.args.edit.now c.in-Err.fail c.args.self.now inside
          (g.L.Hints.rest c.args.latches.now) (g.L.Hints.rest c.ask.new.latches)
          (g.L.Hints.trace c.args.latches.now) (g.L.Hints.trace c.ask.new.latches)
          (g.P.Port.meter c.args._port.now)
          (sym c.self.view_is) (c.asks.ensures.asks asked) anew
          (λ none gone is. c.in-Err.ensures.owned (mapped-none c.self.inside.committed
          (λ s. record { space = s.space; first = g.P.S.Span.start s.span; pages = g.P.S.Span.contents s.span }) none)
          (mapped-none c.self.inside.fresh
          (λ s. record { space = s.space; first = g.P.S.Span.start s.span; pages = g.P.S.Span.contents s.span }) gone)
          (ap Err is)) done c.in-Err.ensures.refused c.requires.ready;
    }

pub returns : goal.returns
returns g c =
    let inside : PageView = record {
      numbers = c.self.inside.geometry;
      committed = option_map (λ s. record {
        space = s.space;
        first = g.P.S.Span.start s.span;
        pages =
            g.P.S.Span.contents s.span;
      }) c.self.inside.committed;
      fresh = option_map (λ s. record {
        space = s.space;
        first = g.P.S.Span.start s.span;
        pages =
            g.P.S.Span.contents s.span;
      }) c.self.inside.fresh;
      dropped = c.self.inside.dropped;
    } in
    let own : OwnPage = record {
      space = c.in-Ok.page.space;
      first = g.P.S.Span.start c.in-Ok.page.span;
      pages = g.P.S.Span.contents c.in-Ok.page.span;
    } in
    let outcome_done : c.outcome-outcome.result ≡ Done = search rules in
    let done = sym outcome_done ∙ (c.outcome-outcome.ensures
    ∙ ap (outcome_in c.args.edit.now) (c.plain.ensures ∙ ap plain_if c.is_there-there.ensures)) in
    let asked : IsTrue c.asks.result = search rules in
    let anew : (is_create c.args.edit.now && is_some inside.committed) ≡ false =
    ap (λ b. is_create c.args.edit.now && b) (mapped-some c.self.inside.committed
    (λ s. record { space = s.space; first = g.P.S.Span.start s.span; pages = g.P.S.Span.contents s.span }))
    ∙ (sym c.comes_back.ensures ∙ c.if-comes_back.false) in
    record {
      edit = placed-by g.P.S.Span.tells c.args.start c.args.edit.now c.args.self.now inside own
          (g.L.Hints.rest c.args.latches.now) (g.L.Hints.rest c.ask.new.latches) (g.L.Hints.rest c.drop_page-2.new.latches)
          (g.L.Hints.trace c.args.latches.now) (g.L.Hints.trace c.ask.new.latches)
          (g.L.Hints.trace c.drop_page-2.new.latches) (g.P.Port.meter c.args._port.now)
          (sym c.self.view_is) (c.asks.ensures.asks asked) anew done c.self.invariant c.in-Ok.ensures.granted
          c.drop_page-2.ensures.used c.requires.ready;
    }

pub returns-then-comes_back : goal.returns-then-comes_back
returns-then-comes_back g c =
    let inside : PageView = record {
      numbers = c.self.inside.geometry;
      committed = option_map (λ s. record {
        space = s.space;
        first = g.P.S.Span.start s.span;
        pages =
            g.P.S.Span.contents s.span;
      }) c.self.inside.committed;
      fresh = option_map (λ s. record {
        space = s.space;
        first = g.P.S.Span.start s.span;
        pages =
            g.P.S.Span.contents s.span;
      }) c.self.inside.fresh;
      dropped = c.self.inside.dropped;
    } in
    let outcome_done : c.outcome-outcome.result ≡ Done = search rules in
    let done = sym outcome_done ∙ (c.outcome-outcome.ensures
    ∙ ap (outcome_in c.args.edit.now) (c.plain.ensures ∙ ap plain_if c.is_there-there.ensures)) in
    let back : (is_create c.args.edit.now && is_some inside.committed) ≡ true =
    ap (λ b. is_create c.args.edit.now && b) (mapped-some c.self.inside.committed
    (λ s. record { space = s.space; first = g.P.S.Span.start s.span; pages = g.P.S.Span.contents s.span }))
    ∙ (sym c.comes_back.ensures ∙ c.if-comes_back.true) in
    record {
      edit = came-back-by g.P.S.Span.tells c.args.start c.args.edit.now c.args.self.now inside
          (g.L.Hints.rest c.args.latches.now) (g.L.Hints.rest c.unlock.new.latches)
          (g.L.Hints.trace c.args.latches.now) (g.L.Hints.trace c.unlock.new.latches) (g.P.Port.meter c.args._port.now)
          (sym c.self.view_is) back done c.self.invariant c.unlock.ensures c.requires.ready;
    }

pub invariant_of-self-then-comes_back : goal.invariant_of-self-then-comes_back
invariant_of-self-then-comes_back g c =
    let inside : PageView = record {
      numbers = c.self.inside.geometry;
      committed = option_map (λ s. record {
        space = s.space;
        first = g.P.S.Span.start s.span;
        pages =
            g.P.S.Span.contents s.span;
      }) c.self.inside.committed;
      fresh = option_map (λ s. record {
        space = s.space;
        first = g.P.S.Span.start s.span;
        pages =
            g.P.S.Span.contents s.span;
      }) c.self.inside.fresh;
      dropped = c.self.inside.dropped;
    } in
    let outcome_done : c.outcome-outcome.result ≡ Done = search rules in
    let done = sym outcome_done ∙ (c.outcome-outcome.ensures
    ∙ ap (outcome_in c.args.edit.now) (c.plain.ensures ∙ ap plain_if c.is_there-there.ensures)) in
    let back : (is_create c.args.edit.now && is_some inside.committed) ≡ true =
    ap (λ b. is_create c.args.edit.now && b) (mapped-some c.self.inside.committed
    (λ s. record { space = s.space; first = g.P.S.Span.start s.span; pages = g.P.S.Span.contents s.span }))
    ∙ (sym c.comes_back.ensures ∙ c.if-comes_back.true) in
    back-holds g.P.S.Span.tells c.args.edit.now inside c.self.invariant back done

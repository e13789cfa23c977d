-- The span at `at` comes out and goes back.
use Rattle.std.proofs.Common.{ℕ, ◌+◌, sym, ap, subst, ◌∙◌}
use Rattle.page_port.specs.Pages.{IsSized}
use Rattle.span_store.specs.Held.{span_of}
use Rattle.superdirectory.specs.Rest.{Frame}
use Rattle.give_back.proofs.GiveLemmas.{IsGiving, giving-init, giving-run, giving-more}
use Rattle.give_back.proofs.giving.give_spans.Goals as goal

pub loop-at-init : goal.loop-at-init
loop-at-init g c =
    giving-init g.S.Span.tells c.args.geometry.now c.args.first c.args.pages c.args.held.now (g.L.Hints.rest c.args.latches.now)
    (g.L.Hints.trace c.args.latches.now) c.requires.ready.none c.requires.whole c.requires.sized

pub release-requires-clause-run : goal.release-requires-clause-run
release-requires-clause-run g c =
    giving-run g.S.Span.tells c.args.geometry.now c.args.first c.args.pages c.loop-at.at c.space_of-space.result
    c.space_of-space.ensures.0 c.args.held.now c.loop-at.held c.remove-span.new.self (g.L.Hints.rest c.args.latches.now)
    (g.L.Hints.rest c.loop-at.latches) (g.L.Hints.trace c.args.latches.now) (g.L.Hints.trace c.loop-at.latches)
    (span_of g.S.Span.start g.S.Span.contents c.remove-span.result) c.requires.ready.store c.requires.on_data c.requires.whole
    c.space_of-space.ensures.1 c.loop-at.invariant c.loop-at-test.true c.remove-span.ensures.first c.remove-span.ensures.removed

pub release-requires-clause-sized : goal.release-requires-clause-sized
release-requires-clause-sized g c =
    let page = ap (λ (f : Frame). f.page) c.loop-at.invariant.given.rest.frame ∙ c.requires.ready.store.page in
    subst (λ (k : ℕ). IsSized g.S.Span.tells k (g.S.Span.contents c.remove-span.result)) (sym page)
    (c.remove-span.ensures.sized c.args.geometry.now.page c.loop-at.invariant.sized).0

pub loop-at-preserved : goal.loop-at-preserved
loop-at-preserved g c =
    subst (λ (k : ℕ). IsGiving g.S.Span.tells c.args.geometry.now c.args.first c.args.pages (c.loop-at.at + k) c.args.held.now
    c.remove-span.new.self (g.L.Hints.rest c.args.latches.now) (g.L.Hints.rest c.release.new.latches)
    (g.L.Hints.trace c.args.latches.now) (g.L.Hints.trace c.release.new.latches)) (sym c.pages-at.ensures.count)
    (giving-more g.S.Span.tells c.args.geometry.now c.args.first c.args.pages c.loop-at.at c.space_of-space.result
    c.space_of-space.ensures.0 c.args.held.now c.loop-at.held c.remove-span.new.self (g.L.Hints.rest c.args.latches.now)
    (g.L.Hints.rest c.loop-at.latches) (g.L.Hints.rest c.release.new.latches) (g.L.Hints.trace c.args.latches.now)
    (g.L.Hints.trace c.loop-at.latches) (g.L.Hints.trace c.release.new.latches)
    (span_of g.S.Span.start g.S.Span.contents c.remove-span.result) c.requires.ready.store c.requires.on_data c.requires.whole
    c.space_of-space.ensures.1 c.loop-at.invariant c.loop-at-test.true c.remove-span.ensures.first c.remove-span.ensures.removed
    (c.remove-span.ensures.sized c.args.geometry.now.page c.loop-at.invariant.sized).1 c.release.ensures)
